-- What one turn of `read_table` keeps.
use Rattle.std.proofs.Common.{◌≡◌, ℕ, ◌+◌, ◌<◌, ◌≤◌, List, [], length, get_or, Ok, Err, sym, ◌∙◌, arith}
use Rattle.std.proofs.lemmas.List.{get_or_default}
use Rattle.std.proofs.lemmas.Grind.{common_steps}
use Rattle.hexline.specs.Lines.{Head, LineInto, Stopped}
use Rattle.hexline.specs.declared.table.BadLine.{BadLine}

module _ (lines : List (List ℕ)) (before after line : List ℕ) (n : ℕ) (room : n ≤ length before) (same : length after ≡ length before) (head : Head lines before after n) (here : (n < length lines) × (line ≡ get_or lines n line)) (table : List ℕ) where
  first : get_or lines n [] ≡ line
  first = get_or_default lines n [] line here.0 ∙ sym here.1

  pub one_more : LineInto line n after table (Ok tt) → Head lines before table (n + 1)
  one_more told = record { words = λ k l. grind (arith, common_steps, head.words k, first); others = λ k l. grind (arith, common_steps, head.others k) }

  pub stop : (e : BadLine) → LineInto line n after table (Err e) → Stopped lines before table e.number
  stop e told = record {
    counted = omega (arith, told.0);
    within = omega (arith, told.0, here.0);
    room = omega (arith, told.0);
    head = grind (arith, common_steps);
    bad = grind (arith, common_steps, first);
  }
