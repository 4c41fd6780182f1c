-- The parts of a text, each with its newline, are its lines.
use Rattle.std.proofs.Common.{◌≡◌, ℕ, suc, ◌+◌, ◌-◌, ◌<◌, ◌⊎◌, min, Bool, List, [], ◌∷◌, ◌++◌, length, get_or, eqb, Option, MatchOption, Bor, ap, subst, ◌∙◌, arith}
use Rattle.std.proofs.lemmas.Bool.Decides.{nat_tests}
use Rattle.std.proofs.lemmas.List.{length-append, nil_from_length, get_or_append_left}
use Rattle.std.proofs.lemmas.Iterator.{YieldsList}
use Rattle.std.proofs.lemmas.Iterator.Splits.{YieldsList-from_shown_while}
use Rattle.std.specs.Fn.{ComputesKey}
use Rattle.std.specs.List.{IsFirstMatchOrLen}
use Rattle.std.specs.Slice.Iter.{split_inclusive_rest, split_inclusive_callee}
use Rattle.std.specs.declared.slice.SplitInclusive.{SplitInclusive}
use denote.Param.Members.{Mut}
use Rattle.hexline.specs.Lines.{lines_of, without_newline}

longer : (b c : ℕ) (bs : List ℕ) → without_newline (b ∷ c ∷ bs) ≡ b ∷ without_newline (c ∷ bs)
longer b c bs =
    let inner : length (b ∷ c ∷ bs) - 1 ≡ suc (length (c ∷ bs) - 1) = omega arith in
    rw inner (grind (arith, nat_tests))

first_line : (part rest : List ℕ) → 0 < length part → ((k : ℕ) → k + 1 < length part → get_or part k 0 ≡ 10 → ⊥) → (get_or part (length part - 1) 0 ≡ 10) ⊎ (rest ≡ []) → lines_of (part ++ rest) ≡ without_newline part ∷ lines_of rest
first_line (b ∷ c ∷ bs) rest lt free end =
    let inner : length (b ∷ c ∷ bs) - 1 ≡ suc (length (c ∷ bs) - 1) = omega arith in
    grind (arith, nat_tests, free 0, longer b c bs, first_line (c ∷ bs) rest (omega arith) (λ k h. free (suc k) (omega arith)) (rw inner at end))
first_line part rest lt free end = grind (arith, nat_tests)

-- what one call of `next` gives of the bytes bs
cut : (bs part rest : List ℕ) (i : ℕ) → bs ≡ part ++ rest → length part ≡ min (i + 1) (length bs) → IsFirstMatchOrLen (λ b. eqb b 10) bs i → 0 < length bs → lines_of bs ≡ without_newline part ∷ lines_of rest
cut bs part rest i e long first lt =
    let read : (k : ℕ) → k < length part → get_or bs k 0 ≡ get_or part k 0 = λ k h. ap (λ l. get_or l k 0) e ∙ get_or_append_left part rest 0 k h in
    let size : length bs ≡ length part + length rest = ap length e ∙ length-append part rest in
    ap lines_of e
    ∙ first_line part rest (omega arith) (λ k h at. grind (arith, nat_tests, read k, first.0 k 0)) (grind (arith, nat_tests, read i, first.1, nil_from_length rest))

module _ {F : Type 0} (g : Mut F (Bor ℕ × Unit {0}) Bool) where
  abbrev steps : SplitInclusive ℕ F → Option (Bor (List ℕ)) → SplitInclusive ℕ F → Type 0
  steps s r t = MatchOption r ((length (split_inclusive_rest s) ≡ 0) × (t ≡ s)) (λ x. (split_inclusive_rest s ≡ x.now ++ split_inclusive_rest t) × ((i : ℕ) × (length x.now ≡ min (i + 1) (length (split_inclusive_rest s))) × ((p : ℕ → Bool) → ComputesKey g p (split_inclusive_callee s) → ComputesKey g p (split_inclusive_callee t) × IsFirstMatchOrLen p (split_inclusive_rest s) i)) × (0 < length (split_inclusive_rest s)))

  pub YieldsList-from_split_inclusive : (s : SplitInclusive ℕ F) (text : List ℕ) → split_inclusive_rest s ≡ text → ComputesKey g (λ b. eqb b 10) (split_inclusive_callee s) → YieldsList steps (λ x. without_newline x.now) s (lines_of text)
  YieldsList-from_split_inclusive s text e computes =
      subst (λ t. YieldsList steps (λ x. without_newline x.now) s (lines_of t)) e
      (YieldsList-from_shown_while steps (λ x. without_newline x.now) (λ t. lines_of (split_inclusive_rest t)) (λ t. ComputesKey g (λ b. eqb b 10) (split_inclusive_callee t))
      (λ s t h k. ap (λ l. length (lines_of l)) (nil_from_length (split_inclusive_rest s) k.0))
      (λ s x t h k. let m = k.1.2 (λ b. eqb b 10) h in (m.0, cut (split_inclusive_rest s) x.now (split_inclusive_rest t) k.1.0 k.0 k.1.1 m.1 k.2))
      s computes)
