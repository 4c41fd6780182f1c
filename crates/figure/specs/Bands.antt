-- What bands mean. Assumes nothing.
use Rattle.std.specs.Prelude.{ℕ, Bool, if◌then◌else◌, ◌&&◌, ◌||◌, List, ◌++◌, codes, ℤ, pos, ◌≤ℤ◌, Ok, Err, Result}
use Rattle.std.proofs.Common.{arith}
use Rattle.std.proofs.lemmas.Int.{clamps, ints}
use Rattle.std.specs.Fmt.{signed_decimal}
use Rattle.std.specs.Int.{int_max, int_min}
use Rattle.formula.specs.declared.Operation.{Operation}
use Rattle.formula.specs.declared.Operation.TheVariants.{Add, Sub, Mul, Div, Min, Max}
use Rattle.figure.specs.declared.band.Bands.{Bands}
use Rattle.figure.specs.declared.ends.Ends.{Ends}
use Rattle.figure.specs.declared.fault.FigureFault.{FigureFault}
use Rattle.figure.specs.declared.fault.FigureFault.TheVariants.{OutOfRange, ZeroDivisor}
use Rattle.figure.specs.Exact.{divides, exact, in_range, within}
use Rattle.figure.specs.Ticks.{is_zero, tick}

abbrev pub low_end : Bands → ℤ
low_end x = x.low.0

abbrev pub high_end : Bands → ℤ
high_end x = x.high.0

pub in_order : (a b : ℤ) → int_min a b ≤ℤ int_max a b
in_order a b = omega (arith, ints, clamps)

-- the band of two numbers, the smaller as its low end
abbrev pub band : ℤ → ℤ → Bands
band a b = record { low = tick (int_min a b); high = tick (int_max a b); ordered = in_order a b }

-- the band of one number
abbrev pub point : ℤ → Bands
point n = band n n

abbrev pub ends : ℤ → ℤ → Ends
ends a b = record { low = a; high = b }

-- at the two low ends, and at the two high ends
abbrev pub end_by_end : Operation → Bands → Bands → Ends
end_by_end op x y = ends (exact op (low_end x) (low_end y)) (exact op (high_end x) (high_end y))

-- at each end of the first with the other end of the second
abbrev pub crossed : Operation → Bands → Bands → Ends
crossed op x y = ends (exact op (low_end x) (high_end y)) (exact op (high_end x) (low_end y))

-- two results in order
abbrev pub around : ℤ → ℤ → Ends
around a b = ends (int_min a b) (int_max a b)

-- the lower of the low ends and the higher of the high ends
abbrev pub joined : Ends → Ends → Ends
joined p q = ends (int_min p.low q.low) (int_max p.high q.high)

-- the least and the greatest of the four results at the ends
abbrev pub corners : Operation → Bands → Bands → Ends
corners op x y =
    joined (around (exact op (low_end x) (low_end y)) (exact op (low_end x) (high_end y)))
    (around (exact op (high_end x) (low_end y)) (exact op (high_end x) (high_end y)))

-- the ends of the result, before the test of the range
abbrev pub ends_of : Operation → Bands → Bands → Ends
ends_of Add x y = end_by_end Add x y
ends_of Sub x y = crossed Sub x y
ends_of Mul x y = corners Mul x y
ends_of Div x y = corners Div x y
ends_of Min x y = end_by_end Min x y
ends_of Max x y = end_by_end Max x y

-- two ends as a band, where both are in range
abbrev pub ranged_ends : Ends → Result Bands FigureFault
ranged_ends e = if in_range e.low && in_range e.high then Ok (band e.low e.high) else Err OutOfRange

abbrev pub holds_zero : Bands → Bool
holds_zero x = within (low_end x) (high_end x) (pos 0)

abbrev pub band_outcome : Operation → Bands → Bands → Result Bands FigureFault
band_outcome op x y = if divides op && holds_zero y then Err ZeroDivisor else ranged_ends (ends_of op x y)

-- a band that cannot be divided by at its ends
abbrev pub zero_end : Bands → Bool
zero_end x = is_zero x.low || is_zero x.high

-- a band in words
abbrev pub band_text : Bands → List ℕ
band_text x = signed_decimal (low_end x) ++ (codes " to " ++ signed_decimal (high_end x))
