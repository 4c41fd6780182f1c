-- Why div undoes mul: it does so at each pair of numbers below 7. Assumes nothing.
use Rattle.std.proofs.Common.{◌≡◌, ℕ, zero, suc, ◌*◌, ◌%◌, ◌<◌, Bool, true, ◌&&◌, ◌||◌, eqb, ◌≢◌, Ok, refl, ap, ◌∙◌, subst}
use native.Mathlib.Bridge.{le_prop}
use Rattle.std.proofs.lemmas.Bool.{cond-false, eqb-true, ne_eqb}
use Rattle.std.proofs.lemmas.Bool.Decides.{Decides-below_and}
use Rattle.formula.specs.declared.Operation.TheVariants.{Div}
use Rattle.residues.specs.Residues.{inverse_of, residue, residue_outcome}
use Rattle.residues.specs.declared.residue.Residues.{Residues}

-- the test passes at each number below n
abbrev every : (ℕ → Bool) → ℕ → Bool
every p zero = true
every p (suc n) = p n && every p n

at : (p : ℕ → Bool) (n : ℕ) → every p n ≡ true → (k : ℕ) → k < n → p k ≡ true
at p n = (Decides-below_and p (λ k. p k ≡ true) (every p) (λ k. (λ e. e, λ e. e)) refl (λ _. refl) n).0

-- a times b, times the inverse of b, is a again
abbrev again : ℕ → ℕ → Bool
again a b = eqb b 0 || eqb (a * b % 7 * inverse_of b % 7) a

again_below : (a b : ℕ) → a < 7 → b < 7 → b ≢ 0 → a * b % 7 * inverse_of b % 7 ≡ a
again_below a b ha hb ne =
    let t : again a b ≡ true = at (again a) 7 (at (λ n. every (again n) 7) 7 refl a ha) b hb in
    eqb-true (a * b % 7 * inverse_of b % 7) a (rw (ne_eqb b 0 ne) at t)

abbrev make : (n : ℕ) → n < 7 → Residues
make n h = record { value = n; below = h }

-- residues are equal where their numbers are
same : (m n : ℕ) (p : m < 7) (q : n < 7) → m ≡ n → make m p ≡ make n q
same m n p q e =
    subst (λ (k : ℕ). (h : k < 7) → make m p ≡ make k h) e (λ h. ap (make m) (le_prop p h)) q

pub div_undoes_mul : (a b : Residues) → b.value ≢ 0 → residue_outcome Div (residue (a.value * b.value)) b ≡ Ok a
div_undoes_mul a b ne =
    cond-false (eqb b.value 0) _ _ (ne_eqb b.value 0 ne)
    ∙ ap Ok (same _ _ _ a.below (again_below a.value b.value a.below b.below ne))
