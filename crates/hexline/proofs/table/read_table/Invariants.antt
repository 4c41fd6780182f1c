-- Each turn reads one line of the text.
use Rattle.std.proofs.Common.{◌≡◌, ◌≤◌, length}
use Rattle.hexline.specs.Lines.{Head, lines_of}
use Rattle.hexline.proofs.table.read_table.Given as goal

abbrev pub invariant-loop-line : goal.invariant-loop-line
invariant-loop-line l = record {
  count : l.count ≡ length l.yielded;
  room : l.count ≤ length l.initial.table;
  head : Head (lines_of l.text) l.initial.table l.table l.count;
}
