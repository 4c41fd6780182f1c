-- The first numbers of two lists, written one after the other at the head of a third. Assumes nothing.
use Rattle.std.proofs.Common.{◌≡◌, ℕ, ◌+◌, ◌-◌, ◌<◌, ◌≤◌, min, List, [], ◌∷◌, ◌++◌, length, take, drop, Option, Some, None, sym, ap, ap₂, ◌∙◌, ⊎_elim, arith}
use lib.Seq.{take-append-add}
use borrow.Rule.Slice.PartMut.{put_mid}
use Rattle.std.proofs.lemmas.List.{append_assoc, append-nil, drop_all, drop_at, drop-drop, length-append, length-drop, length-take-le, take_all, take-append-le, take_at, take_min}
use Rattle.std.proofs.lemmas.Bool.{cases_lt}
use Rattle.std.specs.Option.{option_or}
use Rattle.picker.specs.Greedy.{overlaid, share}
use Rattle.picker.specs.Orders.{FirstWritten, last_pick}
use Rattle.picker.proofs.Writing.{last_pick_or}

take_both : (count a b : ℕ) (first second : List ℕ) → a ≡ min count (length first) → b ≡ min (count - a) (length second) → take count (first ++ second) ≡ take a first ++ take b second
take_both count a b first second ha hb = ⊎_elim past within (cases_lt (length first) count)
  where
    past : length first < count → take count (first ++ second) ≡ take a first ++ take b second
    past over =
        let whole : take a first ≡ first = take_all a first (omega arith) in
        let fewer : b ≡ min (count - length first) (length second) = omega arith in
        let rest : take b second ≡ take (count - length first) second = ap (λ (n : ℕ). take n second) fewer ∙ take_min (count - length first) second in
        let split : count ≡ length first + (count - length first) = omega arith in
        ap (λ (n : ℕ). take n (first ++ second)) split ∙ take-append-add first second (count - length first) ∙ sym (ap₂ ◌++◌ whole rest)

    within : count ≤ length first → take count (first ++ second) ≡ take a first ++ take b second
    within under =
        let whole : a ≡ count = omega arith in
        let none : b ≡ 0 = omega arith in
        take-append-le count first second under ∙ sym (rw (whole, none) (append-nil (take count first)))

last_pick_append : (before : Option ℕ) (first second : List ℕ) → last_pick before (first ++ second) ≡ option_or (last_pick None second) (last_pick before first)
last_pick_append before [] second = sym (last_pick_or before second)
last_pick_append before (pick ∷ first) second = last_pick_append (Some pick) first second

-- one write after another
two_writes : (list first second : List ℕ) (a : ℕ) → length first ≡ a → first ++ overlaid second (drop a (overlaid first list)) ≡ overlaid (first ++ second) list
two_writes list first second a count =
    let n : a + length second ≡ length (first ++ second) = omega (arith, length-append first second, count) in
    rw (drop_at first (drop (length first) list) a count, count, drop-drop (length second) a list) (sym (append_assoc first second (drop (a + length second) list)) ∙ ap (λ (n : ℕ). (first ++ second) ++ drop n list) n)

-- the first of two orders, and behind them, where there is room, the first of the other
pub both_written : (first second list now rest : List ℕ) (q a : ℕ) (last last' : Option ℕ) → a ≡ min (min q (length list)) (length first) → FirstWritten first q list now last → FirstWritten second (q - a) (drop a now) rest last' → FirstWritten (first ++ second) q list (take a now ++ rest) (option_or last' last)
both_written first second list now rest q a last last' of_first one two =
    let count = min q (length list) in
    let xs = take a first in
    let b = share (min (q - a) (length (drop a now))) second in
    let ys = take b second in
    let size : length xs ≡ a = length-take-le a first (omega arith) in
    let head : take (share count first) first ≡ xs = ap (λ (n : ℕ). take n first) (sym of_first) in
    let now_is : now ≡ overlaid xs list = one.written ∙ ap (λ (numbers : List ℕ). overlaid numbers list) head in
    let left : length (drop a now) ≡ length list - a = length-drop a now ∙ omega (arith, ap length now_is, length-append xs (drop (length xs) list), length-drop (length xs) list, size, of_first) in
    let order : xs ++ ys ≡ take (share count (first ++ second)) (first ++ second) = sym (take_min count (first ++ second) ∙ take_both count a b first second of_first (omega (arith, left))) in
    let before : take a now ≡ xs = ap (take a) now_is ∙ take_at xs (drop (length xs) list) a size in
    let behind : rest ≡ overlaid ys (drop a (overlaid xs list)) = two.written ∙ ap (λ (numbers : List ℕ). overlaid ys (drop a numbers)) now_is in
    record {
      written = ap₂ ◌++◌ before behind ∙ two_writes list xs ys a size ∙ ap (λ (numbers : List ℕ). overlaid numbers list) order;
      told = ap₂ option_or two.told (one.told ∙ ap (last_pick None) head) ∙ sym (last_pick_append None xs ys) ∙ ap (last_pick None) order;
    }

-- the same, where the other is written in the part of the list that begins at a
pub both_parts_written : (first second list now rest : List ℕ) (q a : ℕ) (last last' : Option ℕ) → a ≡ min (min q (length list)) (length first) → FirstWritten first q list now last → FirstWritten second (q - a) (take (length now - a) (drop a now)) rest last' → FirstWritten (first ++ second) q list (put_mid a (length now - a) now rest) (option_or last' last)
both_parts_written first second list now rest q a last last' of_first one two =
    let part : take (length now - a) (drop a now) ≡ drop a now = take_all (length now - a) (drop a now) (omega (arith, length-drop a now)) in
    let none : drop (length now - a) (drop a now) ≡ [] = drop_all (length now - a) (drop a now) (omega (arith, length-drop a now)) in
    let whole : put_mid a (length now - a) now rest ≡ take a now ++ rest = ap (λ (behind : List ℕ). take a now ++ (rest ++ behind)) none ∙ ap (λ (numbers : List ℕ). take a now ++ numbers) (append-nil rest) in
    rw whole (both_written first second list now rest q a last last' of_first one (rw (sym part) two))
