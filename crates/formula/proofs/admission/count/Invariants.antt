use Rattle.formula.specs.Admission.{Counted, GoodBefore}
use Rattle.formula.proofs.admission.count.Given as goal

abbrev pub invariant-loop-place : goal.invariant-loop-place
invariant-loop-place l = GoodBefore l.inputs l.words l.place × Counted l.words l.place l.initial.work l.work
