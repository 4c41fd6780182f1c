use Rattle.std.proofs.Common.{◌≡◌, None}
use Rattle.picker.specs.Orders.{last_pick}
use Rattle.picker.proofs.Writing.{WrittenSoFar, read}
use Rattle.picker.proofs.write.write_first.Given as goal

abbrev pub invariant-loop-place : goal.invariant-loop-place
invariant-loop-place g l = record {
  can : (goal.iterator-loop-place g).can_next l.place-iterator;
  so_far : WrittenSoFar l.yielded l.place-iterator l.initial.list l.list;
  last : l.last ≡ last_pick None (read l.yielded);
}
