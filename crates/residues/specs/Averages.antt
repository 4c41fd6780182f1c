-- The middle of two figures of any kind, by the kind's meaning. Assumes nothing.
use Rattle.std.specs.Prelude.{ℤ, pos, Ok, Err, Result}
use Rattle.formula.specs.declared.Operation.{Operation}
use Rattle.formula.specs.declared.Operation.TheVariants.{Add, Div}
use Rattle.figure.specs.declared.FigureFault.{FigureFault}

-- the next step on a figure; a fault stays as it is
abbrev pub and_then : {F : Type 0} → Result F FigureFault → (F → Result F FigureFault) → Result F FigureFault
and_then (Ok x) next = next x
and_then (Err fault) next = Err fault

-- (a + b) div 2
abbrev pub average_of : {F : Type 0} → (ℤ → F) → (Operation → F → F → Result F FigureFault) → F → F → Result F FigureFault
average_of number outcome a b = and_then (outcome Add a b) (λ sum. outcome Div sum (number (pos 2)))
