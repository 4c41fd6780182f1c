-- What is written of the numbers shown, by the order in which an iterator gives them. Assumes nothing.
use Rattle.std.proofs.Common.{◌≡◌, ℕ, min, ◌-◌, List, ◌++◌, reverse, length, take, drop, None, Option, ap, ◌∙◌}
use Rattle.std.proofs.lemmas.Iterator.{YieldsList-from_slice}
use Rattle.std.proofs.lemmas.Iterator.Adapters.{YieldsList-from_rev_slice}
use Rattle.std.specs.Iterator.Adapters.{rev_source, rev_steps}
use Rattle.std.specs.Slice.Iter.{iter_rest, iter_steps, iter_steps_back}
use Rattle.std.specs.declared.slice.Iter.{Iter}
use Rattle.std.specs.declared.iter.Rev.{Rev}
use Rattle.std.specs.Option.{option_or}
use Rattle.picker.specs.Greedy.{overlaid, share}
use Rattle.picker.specs.Orders.{WrittenFrom, behind, highest, in_turn, last_pick, lowest, round_from}
use Rattle.picker.proofs.Ages.{highest_is, in_turn_is}
use Rattle.picker.proofs.Writing.{last_pick_or}

pub lowest_written : (numbers : Iter ℕ) (shown list list' : List ℕ) (q room : ℕ) (last : Option ℕ) → WrittenFrom iter_steps numbers q list list' last → iter_rest numbers ≡ shown → min (min q (length list)) (length shown) ≡ min room (length shown) → list' ≡ overlaid (lowest room shown) list
lowest_written numbers shown list list' q room last written is as_many =
    (written.gives shown (YieldsList-from_slice shown is).runs).written ∙ ap (λ (n : ℕ). overlaid (take n shown) list) as_many

pub highest_written : (numbers : Rev (Iter ℕ)) (shown list list' : List ℕ) (q room : ℕ) (last : Option ℕ) → WrittenFrom (rev_steps iter_steps_back) numbers q list list' last → iter_rest (rev_source numbers) ≡ shown → min (min q (length list)) (length shown) ≡ min room (length shown) → list' ≡ overlaid (highest room shown) list
highest_written numbers shown list list' q room last written is as_many =
    (written.gives _ (YieldsList-from_rev_slice shown is).runs).written ∙ ap (λ (picks : List ℕ). overlaid picks list) (highest_is _ shown) ∙ ap (λ (n : ℕ). overlaid (reverse (drop (length shown - n) shown)) list) as_many

in_turn_of : (before : Option ℕ) (q room : ℕ) (ahead passed shown : List ℕ) → ahead ≡ drop (behind before shown) shown → passed ≡ take (behind before shown) shown → min q (length shown) ≡ min room (length shown) → take (share q (ahead ++ passed)) (ahead ++ passed) ≡ in_turn before room shown
in_turn_of before q room ahead passed shown first second as_many =
    rw (first, second) (in_turn_is before q shown) ∙ ap (λ (n : ℕ). take n (round_from before shown)) as_many

pub in_turn_written : (before : Option ℕ) (q room : ℕ) (ahead passed shown list list' : List ℕ) → list' ≡ overlaid (take (share q (ahead ++ passed)) (ahead ++ passed)) list → ahead ≡ drop (behind before shown) shown → passed ≡ take (behind before shown) shown → min q (length shown) ≡ min room (length shown) → list' ≡ overlaid (in_turn before room shown) list
in_turn_written before q room ahead passed shown list list' written first second as_many =
    written ∙ ap (λ (picks : List ℕ). overlaid picks list) (in_turn_of before q room ahead passed shown first second as_many)

pub in_turn_told : (before : Option ℕ) (q room : ℕ) (ahead passed shown : List ℕ) (last : Option ℕ) → last ≡ last_pick None (take (share q (ahead ++ passed)) (ahead ++ passed)) → ahead ≡ drop (behind before shown) shown → passed ≡ take (behind before shown) shown → min q (length shown) ≡ min room (length shown) → option_or last before ≡ last_pick before (in_turn before room shown)
in_turn_told before q room ahead passed shown last told first second as_many =
    ap (λ (last : Option ℕ). option_or last before) (told ∙ ap (last_pick None) (in_turn_of before q room ahead passed shown first second as_many)) ∙ last_pick_or before (in_turn before room shown)
