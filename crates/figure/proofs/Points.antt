-- Operations on bands of one number.
use Rattle.std.proofs.Common.{◌≡◌, Bool, true, false, cond, ◌&&◌, ℤ, Ok, Err, refl, arith}
use Rattle.std.proofs.lemmas.Int.{clamps, ints}
use Rattle.std.specs.Int.{int_min}
use Rattle.formula.specs.declared.Operation.{Operation}
use Rattle.formula.specs.declared.Operation.TheVariants.{Add, Sub, Mul, Div, Min, Max}
use Rattle.figure.specs.declared.fault.FigureFault.TheVariants.{OutOfRange, ZeroDivisor}
use Rattle.figure.specs.Bands.{band_outcome, ends, ends_of, holds_zero, point, ranged_ends}
use Rattle.figure.specs.Exact.{divides, exact, in_range}
use Rattle.figure.specs.Laws.{doubled}
use Rattle.figure.specs.Ticks.{is_zero, ranged, tick, tick_outcome}

min_same : (a : ℤ) → int_min a a ≡ a
min_same a = omega (arith, ints, clamps)

ends_at : (op : Operation) (a b : ℤ) → ends_of op (point a) (point b) ≡ ends (exact op a b) (exact op a b)
ends_at Add a b = simp min_same
ends_at Sub a b = simp min_same
ends_at Mul a b = simp min_same
ends_at Div a b = simp min_same
ends_at Min a b = simp min_same
ends_at Max a b = simp min_same

zero_at : (b : ℤ) → holds_zero (point b) ≡ is_zero (tick b)
zero_at b = simp min_same

ranged_at : (zero : Bool) (e : ℤ) → cond zero (Err ZeroDivisor) (ranged_ends (ends e e)) ≡ doubled (cond zero (Err ZeroDivisor) (ranged e))
ranged_at true e = refl
ranged_at false e = in_or_out (in_range e)
  where
    in_or_out : (b : Bool) → cond (b && b) (Ok (point e)) (Err OutOfRange) ≡ doubled (cond b (Ok (tick e)) (Err OutOfRange))
    in_or_out true = refl
    in_or_out false = refl

pub at_points : (op : Operation) (a b : ℤ) → band_outcome op (point a) (point b) ≡ doubled (tick_outcome op (tick a) (tick b))
at_points op a b = rw (zero_at b, ends_at op a b) (ranged_at (divides op && is_zero (tick b)) (exact op a b))
