-- Numbers modulo 7: the residue of a number, and each operation. Assumes nothing.
use Rattle.std.specs.Prelude.{ℕ, ◌+◌, ◌-◌, ◌*◌, ◌%◌, min, max, if◌then◌else◌, [], ◌∷◌, ℤ, pos, Ok, Err, Result, ◌==◌, slice_index, unsigned_abs}
use Rattle.std.proofs.Common.{mod-lt, lit<}
use Rattle.std.specs.Int.{int_rem_euclid}
use Rattle.formula.specs.declared.Operation.{Operation}
use Rattle.formula.specs.declared.Operation.TheVariants.{Add, Sub, Mul, Div, Min, Max}
use Rattle.figure.specs.declared.FigureFault.{FigureFault}
use Rattle.figure.specs.declared.FigureFault.TheVariants.{ZeroDivisor}
use Rattle.residues.specs.declared.residue.Residues.{Residues}

-- the residue of a natural number, with the proof that it is below 7
abbrev pub residue : ℕ → Residues
residue n = record { value = n % 7; below = mod-lt n (lit< tt) }

-- the residue of a whole number: its remainder that is not negative
abbrev pub residue_number : ℤ → Residues
residue_number n = residue (unsigned_abs (int_rem_euclid n (pos 7)))

-- the number below 7 whose product with b has the remainder 1, for b from 1 to 6
abbrev pub inverse_of : ℕ → ℕ
inverse_of b = slice_index (0 ∷ 1 ∷ 4 ∷ 5 ∷ 2 ∷ 3 ∷ 6 ∷ []) b

-- each operation modulo 7; sub adds what the second lacks to 7, and div is mul with the inverse
abbrev pub residue_outcome : Operation → Residues → Residues → Result Residues FigureFault
residue_outcome Add a b = Ok (residue (a.value + b.value))
residue_outcome Sub a b = Ok (residue (a.value + (7 - b.value)))
residue_outcome Mul a b = Ok (residue (a.value * b.value))
residue_outcome Div a b = if b.value == 0 then Err ZeroDivisor else Ok (residue (a.value * inverse_of b.value))
residue_outcome Min a b = Ok (residue (min a.value b.value))
residue_outcome Max a b = Ok (residue (max a.value b.value))
