-- A 32-bit word as a line of exactly eight lowercase hexadecimal digits. Assumes nothing.
use Rattle.std.specs.Prelude.{ℕ, ◌+◌, ◌-◌, ◌*◌, ◌/◌, ◌%◌, ◌^◌, if◌then◌else◌, ◌&&◌, List, [], ◌∷◌, length, Some, None, Option, option_and_then, ◌==◌, nat_le, nat_lt}

-- the number that a byte stands for: '0' to '9' are 48 to 57, 'a' to 'f' are 97 to 102
abbrev pub digit_value : ℕ → Option ℕ
digit_value b =
    if nat_le 48 b && nat_le b 57 then Some (b - 48) else
    if nat_le 97 b && nat_le b 102 then Some (b - 87) else None

-- the number that digits spell, most significant first, after digits that spell n
abbrev pub spelled : ℕ → List ℕ → Option ℕ
spelled n [] = Some n
spelled n (b ∷ bs) = option_and_then (λ d. spelled (16 * n + d) bs) (digit_value b)

-- the word of a line: eight digits give their number, and nothing else gives one
abbrev pub word_of : List ℕ → Option ℕ
word_of line = if length line == 8 then spelled 0 line else None

-- the digit for a number below 16
abbrev pub digit_of : ℕ → ℕ
digit_of n = if nat_lt n 10 then 48 + n else 87 + n

-- the digit of the four bits of a word that stand above its lowest k bits
abbrev pub digit_at : ℕ → ℕ → ℕ
digit_at word k = digit_of (word / 2 ^ k % 16)

-- the line of a word
abbrev pub line_of : ℕ → List ℕ
line_of w =
    digit_at w 28 ∷ digit_at w 24 ∷ digit_at w 20 ∷ digit_at w 16 ∷ digit_at w 12 ∷ digit_at w 8 ∷ digit_at w 4 ∷ digit_at w 0 ∷ []
