-- Ticks that count operations: the figure of a number, and the outcome of an operation. Assumes nothing.
use Rattle.std.specs.Prelude.{ℕ, ◌+◌, ◌-◌, ◌^◌, min, List, ◌++◌, codes, decimal, ℤ, Ok, Err, Result}
use Rattle.std.specs.Fmt.{signed_decimal}
use Rattle.formula.specs.declared.Operation.{Operation}
use Rattle.formula.specs.declared.Operation.TheVariants.{Mul}
use Rattle.figure.specs.declared.FigureFault.{FigureFault}
use Rattle.figure.specs.declared.Ticks.{Ticks}
use Rattle.figure.specs.Ticks.{tick as tick_of, tick_outcome}
use Rattle.counted.specs.declared.Counted.{Counted}

-- the two counts and one more, or the greatest 32-bit number where that would pass it
abbrev pub count_after : ℕ → ℕ → ℕ
count_after m n = min (m + n + 1) (2 ^ 32 - 1)

-- a tick's outcome, with a count
abbrev pub with_count : ℕ → Result Ticks FigureFault → Result Counted FigureFault
with_count n (Ok t) = Ok (record { tick = t; count = n })
with_count n (Err e) = Err e

abbrev pub counted_number : ℤ → Counted
counted_number n = record { tick = tick_of n; count = 0 }

abbrev pub counted_outcome : Operation → Counted → Counted → Result Counted FigureFault
counted_outcome o l r = with_count (count_after l.count r.count) (tick_outcome o l.tick r.tick)

-- in words
abbrev pub counted_text : Counted → List ℕ
counted_text c = signed_decimal c.tick.0 ++ (codes " by " ++ decimal c.count)

-- an outcome by itself; a fault stays as it is
abbrev pub squared : Result Counted FigureFault → Result Counted FigureFault
squared (Ok s) = counted_outcome Mul s s
squared (Err e) = Err e
