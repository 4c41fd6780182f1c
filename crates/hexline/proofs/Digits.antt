-- What a digit, and a line of eight, give back.
use Rattle.std.proofs.Common.{◌≡◌, ℕ, ◌+◌, ◌*◌, ◌/◌, ◌%◌, ◌^◌, ◌<◌, ◌≤◌, List, ◌∷◌, drop, Some, ap, ◌∙◌, arith}
use native.Mathlib.Nat.{pow-le-pow_right}
use Rattle.std.proofs.lemmas.Bool.Decides.{nat_tests}
use Rattle.hexline.specs.Hex.{spelled, word_of, digit_at, line_of}

-- a digit of w carries its upper bits on to w's bits from k
next : (n w k : ℕ) (bs : List ℕ) → 16 * n + w / 2 ^ k % 16 ≡ w / 2 ^ k → spelled n (digit_at w k ∷ bs) ≡ spelled (w / 2 ^ k) bs
next n w k bs e = grind (arith, nat_tests)

pub word_back : (w : ℕ) → w < 2 ^ 32 → word_of (line_of w) ≡ Some w
word_back w h =
    let whole : w / 2 ^ 0 ≡ w = omega arith in
    let rest : ℕ → List ℕ = λ i. drop i (line_of w) in
    next 0 w 28 (rest 1) (omega arith)
    ∙ next (w / 2 ^ 28) w 24 (rest 2) (omega arith)
    ∙ next (w / 2 ^ 24) w 20 (rest 3) (omega arith)
    ∙ next (w / 2 ^ 20) w 16 (rest 4) (omega arith)
    ∙ next (w / 2 ^ 16) w 12 (rest 5) (omega arith)
    ∙ next (w / 2 ^ 12) w 8 (rest 6) (omega arith)
    ∙ next (w / 2 ^ 8) w 4 (rest 7) (omega arith)
    ∙ next (w / 2 ^ 4) w 0 (rest 8) (omega arith)
    ∙ ap Some whole

-- what comes before the eighth digit has room for it
pub room : (i : ℕ) → i < 8 → 16 ^ i ≤ 2 ^ 28
room i lt = pow-le-pow_right {n = 16} (omega arith) {i = i} {j = 7} (omega arith)
