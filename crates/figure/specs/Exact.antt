-- Whole numbers: the range of a tick, the rounding of a division, and the exact result of each operation. Assumes nothing.
use Rattle.std.specs.Prelude.{◌-◌, ◌^◌, Bool, true, false, ◌&&◌, ℤ, pos, ◌+ℤ◌, ◌-ℤ◌, ◌*ℤ◌, neg_ℤ, int_div, int_le}
use Rattle.std.specs.Int.{int_max, int_min}
use Rattle.formula.specs.declared.Operation.{Operation}
use Rattle.formula.specs.declared.Operation.TheVariants.{Add, Sub, Mul, Div, Min, Max}

abbrev pub within : ℤ → ℤ → ℤ → Bool
within low high z = int_le low z && int_le z high

-- 32 bits, signed
abbrev pub in_range : ℤ → Bool
in_range z = within (neg_ℤ (pos (2 ^ 31))) (pos (2 ^ 31 - 1)) z

-- rounded towards zero
abbrev pub quotient : ℤ → ℤ → ℤ
quotient a b = int_div a b

abbrev pub exact : Operation → ℤ → ℤ → ℤ
exact Add a b = a +ℤ b
exact Sub a b = a -ℤ b
exact Mul a b = a *ℤ b
exact Div a b = quotient a b
exact Min a b = int_min a b
exact Max a b = int_max a b

abbrev pub divides : Operation → Bool
divides Div = true
divides Add = false
divides Sub = false
divides Mul = false
divides Min = false
divides Max = false
