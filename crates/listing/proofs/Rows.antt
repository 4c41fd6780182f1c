-- One row more. Assumes nothing.
use Rattle.std.proofs.Common.{◌≡◌, ℕ, ◌+◌, ◌<◌, ltb, List, ◌++◌, length, get_or, is_some, IfSome, Some, None, Option, sym, ap, ◌∙◌, add-one, Bor}
use Rattle.std.proofs.lemmas.List.{get_or_read}
use Rattle.std.proofs.lemmas.Bool.{ltb-true}
use Rattle.std.specs.Option.{option_map}
use Rattle.formula.specs.Binders.{binders}
use Rattle.formula.specs.Words.{shape_at}
use Rattle.listing.specs.Report.{count_at, row_text, rows_text}

-- what a look into the written counts finds is the place's count
pub found_count : (words counts : List ℕ) (place : ℕ) (o : Option (Bor ℕ)) → ((k : ℕ) → k < length counts → get_or counts k 0 ≡ binders words k) → is_some o ≡ ltb place (length counts) → IfSome o (λ x. x.now ≡ get_or counts place x.now) → option_map (λ x. x.now) o ≡ count_at words (length counts) place
found_count words counts place None right some is = rw (sym some)
found_count words counts place (Some x) right some is =
    let within = ltb-true place (length counts) (sym some) in
    rw (sym some) (ap Some (get_or_read counts place x.now within is 0 ∙ right place within))

pub rows_more : (words : List ℕ) (counted place : ℕ) (count : Option ℕ) → count ≡ count_at words counted place → rows_text words counted place ++ row_text place (get_or words place 0) (shape_at words place) count ≡ rows_text words counted (place + 1)
rows_more words counted place count e =
    ap (λ o. rows_text words counted place ++ row_text place (get_or words place 0) (shape_at words place) o) e ∙ ap (rows_text words counted) (sym (add-one place))
