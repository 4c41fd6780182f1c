use Rattle.picker.proofs.Writing.{WrittenSoFar}
use Rattle.alternate.proofs.second.write_alternate.Given as goal

abbrev pub invariant-loop-place : goal.invariant-loop-place
invariant-loop-place l = WrittenSoFar l.yielded l.place-iterator l.initial.list l.list
