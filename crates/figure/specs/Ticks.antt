-- What ticks mean. Assumes nothing.
use Rattle.std.specs.Prelude.{Bool, if◌then◌else◌, ◌&&◌, ℤ, pos, Ok, Err, Result}
use Rattle.formula.specs.declared.Operation.{Operation}
use Rattle.figure.specs.declared.fault.FigureFault.{FigureFault}
use Rattle.figure.specs.declared.fault.FigureFault.TheVariants.{OutOfRange, ZeroDivisor}
use Rattle.figure.specs.declared.tick.Ticks.{Ticks}
use Rattle.figure.specs.Exact.{divides, exact, in_range, within}

abbrev pub tick : ℤ → Ticks
tick n = record { 0 = n }

-- a whole number as a tick, where it is in range
abbrev pub ranged : ℤ → Result Ticks FigureFault
ranged z = if in_range z then Ok (tick z) else Err OutOfRange

abbrev pub is_zero : Ticks → Bool
is_zero a = within a.0 a.0 (pos 0)

abbrev pub tick_outcome : Operation → Ticks → Ticks → Result Ticks FigureFault
tick_outcome op a b = if divides op && is_zero b then Err ZeroDivisor else ranged (exact op a.0 b.0)
