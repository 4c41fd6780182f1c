-- The order of the ends that an operation gives.
use Rattle.std.proofs.Common.{◌≡◌, ◌≤ℤ◌, arith}
use Rattle.std.proofs.lemmas.Int.{clamps, ints}
use Rattle.formula.specs.declared.Operation.{Operation}
use Rattle.formula.specs.declared.Operation.TheVariants.{Add, Sub, Mul, Div, Min, Max}
use Rattle.figure.specs.declared.band.Bands.{Bands}
use Rattle.figure.specs.declared.ends.Ends.{Ends}
use Rattle.figure.specs.Bands.{ends_of}

pub ends_in_order : (op : Operation) (x y : Bands) → (ends_of op x y).low ≤ℤ (ends_of op x y).high
ends_in_order Add x y = omega (arith, ints)
ends_in_order Sub x y = omega (arith, ints)
ends_in_order Mul x y = omega (arith, ints, clamps)
ends_in_order Div x y = omega (arith, ints, clamps)
ends_in_order Min x y = omega (arith, ints, clamps)
ends_in_order Max x y = omega (arith, ints, clamps)

pub in_order_as : (op : Operation) (x y : Bands) (e : Ends) → e ≡ ends_of op x y → e.low ≤ℤ e.high
in_order_as op x y e h = rw h (ends_in_order op x y)
