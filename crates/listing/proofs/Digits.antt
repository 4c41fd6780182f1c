-- A line of hexadecimal digits is text, and is what `{:08x}` writes of a word. Assumes nothing.
use Rattle.std.proofs.Common.{◌≡◌, ℕ, zero, suc, ◌+◌, ◌-◌, ◌/◌, ◌%◌, ◌^◌, ◌<◌, ◌≤◌, false, List, [], ◌∷◌, ◌++◌, length, map, replicate, IsUtf8, IsAscii, sym, refl, ap, ap₂, ◌∙◌, ⊎_elim, arith}
use Rattle.std.proofs.lemmas.Bool.{cases_lt}
use Rattle.std.proofs.lemmas.Bool.Decides.{nat_tests}
use Rattle.std.proofs.lemmas.List.{append-nil}
use Rattle.std.proofs.lemmas.Nat.{mod_below}
use Rattle.std.proofs.lemmas.Str.{IsUtf8-from_ascii}
use Rattle.std.proofs.lemmas.Str.Ascii.{IsAscii-cons, IsAscii-nil}
use Rattle.std.specs.Fmt.{char_count, digits, digits_onto, format_spec, padded_integral}
use Rattle.hexline.specs.Hex.{digit_at, digit_of, line_of}

digit_ascii : (n : ℕ) → n < 16 → digit_of n < 128
digit_ascii n h = grind (arith, nat_tests)

digits_ascii : (w : ℕ) (ks : List ℕ) → IsAscii (map (digit_at w) ks)
digits_ascii w [] = IsAscii-nil
digits_ascii w (k ∷ ks) =
    IsAscii-cons (digit_at w k) (map (digit_at w) ks) (digit_ascii (w / 2 ^ k % 16) (mod_below (w / 2 ^ k) 16 (omega arith))) (digits_ascii w ks)

pub line_is_text : (w : ℕ) → IsUtf8 (line_of w)
line_is_text w = IsUtf8-from_ascii (line_of w) (digits_ascii w (28 ∷ 24 ∷ 20 ∷ 16 ∷ 12 ∷ 8 ∷ 4 ∷ 0 ∷ []))

-- the last k digits of n in base 16, and then acc
abbrev last_digits : ℕ → ℕ → List ℕ → List ℕ
last_digits zero n acc = acc
last_digits (suc k) n acc = last_digits k (n / 16) (digit_of (n % 16) ∷ acc)

replicate_more : (k : ℕ) (acc : List ℕ) → replicate k 48 ++ (48 ∷ acc) ≡ 48 ∷ (replicate k 48 ++ acc)
replicate_more zero acc = refl
replicate_more (suc k) acc = ap (λ xs. 48 ∷ xs) (replicate_more k acc)

zeros : (k : ℕ) (acc : List ℕ) → last_digits k 0 acc ≡ replicate k 48 ++ acc
zeros zero acc = refl
zeros (suc k) acc = zeros k (48 ∷ acc) ∙ replicate_more k acc

-- n has k digits at most
abbrev Fits : ℕ → ℕ → Type 0
Fits zero n = n ≡ 0
Fits (suc k) n = Fits k (n / 16)

last_one : (j n : ℕ) (acc : List ℕ) → n < 16 → digits_onto (suc j) 16 false n acc ≡ digit_of (n % 16) ∷ acc
last_one j n acc h = grind (arith, nat_tests)

one_more : (j n : ℕ) (acc : List ℕ) → 16 ≤ n → digits_onto (suc j) 16 false n acc ≡ digits_onto j 16 false (n / 16) (digit_of (n % 16) ∷ acc)
one_more j n acc h = grind (arith, nat_tests)

abbrev FilledUp : ℕ → ℕ → ℕ → List ℕ → Type 0
FilledUp j k n acc = replicate (k + length acc - length (digits_onto j 16 false n acc)) 48 ++ digits_onto j 16 false n acc ≡ last_digits k n acc

at_last : (j k n : ℕ) (acc : List ℕ) → n < 16 → FilledUp (suc j) (suc k) n acc
at_last j k n acc small =
    let none : n / 16 ≡ 0 = omega arith in
    let digit = digit_of (n % 16) in
    let count : suc k + length acc - length (digit ∷ acc) ≡ k = omega arith in
    rw (last_one j n acc small, count, none) (sym (zeros k (digit ∷ acc)))

filled_up : (j k n : ℕ) (acc : List ℕ) → Fits (suc k) n → k < j → FilledUp j (suc k) n acc
filled_up zero k n acc fits room = absurd (omega arith)
filled_up (suc j) zero n acc fits room = at_last j 0 n acc (omega (arith, fits))
filled_up (suc j) (suc k) n acc fits room = ⊎_elim
    (λ (small : n < 16). at_last j (suc k) n acc small)
    (λ (large : 16 ≤ n).
    let digit = digit_of (n % 16) in
    let count : suc (suc k) + length acc ≡ suc k + length (digit ∷ acc) = omega arith in
    rw (one_more j n acc large, count) (filled_up j k (n / 16) (digit ∷ acc) fits (omega arith)))
    (cases_lt n 16)

eight_digits : (w : ℕ) → last_digits 8 w [] ≡ line_of w
eight_digits w =
    let a : w ≡ w / 2 ^ 0 = omega arith in
    let b : w / 16 ≡ w / 2 ^ 4 = omega arith in
    let c : w / 16 / 16 ≡ w / 2 ^ 8 = omega arith in
    let d : w / 16 / 16 / 16 ≡ w / 2 ^ 12 = omega arith in
    let e : w / 16 / 16 / 16 / 16 ≡ w / 2 ^ 16 = omega arith in
    let f : w / 16 / 16 / 16 / 16 / 16 ≡ w / 2 ^ 20 = omega arith in
    let g : w / 16 / 16 / 16 / 16 / 16 / 16 ≡ w / 2 ^ 24 = omega arith in
    let h : w / 16 / 16 / 16 / 16 / 16 / 16 / 16 ≡ w / 2 ^ 28 = omega arith in
    cc

padded_is : (ds : List ℕ) → padded_integral (format_spec 32 0 4 8 (2 ^ 64 - 1)) false [] ds ≡ replicate (8 - length ds) 48 ++ ds
unfolding padded_integral char_count
padded_is ds =
    let less : 8 - length ds - 0 - 0 ≡ 8 - length ds = omega arith in
    ap₂ (λ n xs. replicate n 48 ++ xs) less (append-nil ds)

filled : (j w : ℕ) (ds : List ℕ) → 7 < j → w < 2 ^ 32 → ds ≡ digits_onto j 16 false w [] → padded_integral (format_spec 32 0 4 8 (2 ^ 64 - 1)) false [] ds ≡ line_of w
filled j w ds room small is =
    let fits : w / 16 / 16 / 16 / 16 / 16 / 16 / 16 / 16 ≡ 0 = omega arith in
    padded_is ds ∙ ap (λ xs. replicate (8 - length xs) 48 ++ xs) is ∙ filled_up j 7 w [] fits room ∙ eight_digits w

pub hex_line : (w : ℕ) → w < 2 ^ 32 → padded_integral (format_spec 32 0 4 8 (2 ^ 64 - 1)) false [] (digits 16 false w) ≡ line_of w
unfolding digits
hex_line w small = filled 64 w (digits 16 false w) (omega arith) small refl
