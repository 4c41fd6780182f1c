-- The binder counts of places whose words pass their checks. Assumes nothing.
use Rattle.std.proofs.Common.{◌≡◌, ℕ, zero, suc, ◌+◌, ◌-◌, ◌<◌, true, ◌≢◌, List, length, get_or, set, Some, None, Option, sym, refl, ap, ◌∙◌, arith, get_or-set_other, get_or-set_same, below_more}
use Rattle.std.proofs.lemmas.Bool.Decides.{nat_tests}
use Rattle.formula.specs.Admission.{Counted, GoodBefore, all_below, shape_refusal}
use Rattle.formula.specs.Binders.{binders, binders_of, binders_within, named_places, shape_binders}
use Rattle.formula.specs.Words.{shape_at}
use Rattle.formula.specs.declared.word.Word.{Word}
use Rattle.formula.specs.declared.word.Word.TheVariants.{Number, Variable, Operation as Op, Input, Abstraction, Application}
use Rattle.formula.proofs.Checks.{names_below}

-- counts that agree below a place give the same count to a word that names places below it
pub same_count : (word : Word) (place : ℕ) (f g : ℕ → ℕ) → all_below place (named_places word) ≡ true → ((p : ℕ) → p < place → f p ≡ g p) → binders_of word f ≡ binders_of word g
same_count (Number n) place f g below same = refl
same_count (Variable i) place f g below same = refl
same_count (Op op) place f g below same = refl
same_count (Input i) place f g below same = refl
same_count (Abstraction body) place f g below same = ap (λ n. n - 1) (same body (grind (arith, nat_tests)))
same_count (Application function argument) place f g below same =
    let l = same function (grind (arith, nat_tests)) in
    let r = same argument (grind (arith, nat_tests)) in
    cc

-- the same of a shape that passes its checks
shape_count : (inputs : ℕ) (shape : Option Word) (place : ℕ) (f g : ℕ → ℕ) → shape_refusal inputs shape place ≡ None → ((p : ℕ) → p < place → f p ≡ g p) → shape_binders shape f ≡ shape_binders shape g
shape_count inputs None place f g good same = refl
shape_count inputs (Some word) place f g good same = same_count word place f g (names_below inputs word place good) same

-- past the place's number, more turns do not change its count
more_turns : (inputs : ℕ) (words : List ℕ) (m n place : ℕ) → place < m → place < n → GoodBefore inputs words (suc place) → binders_within words m place ≡ binders_within words n place
more_turns inputs words zero n place h k good = absurd (omega arith)
more_turns inputs words (suc m) zero place h k good = absurd (omega arith)
more_turns inputs words (suc m) (suc n) place h k good =
    shape_count inputs (shape_at words place) place (binders_within words m) (binders_within words n) (good place (omega arith))
    (λ p below. more_turns inputs words m n p (omega arith) (omega arith) (λ q under. good q (omega arith)))

-- the count of a place whose words pass their checks, from the counts of the places that it names
pub count_by_named : (inputs : ℕ) (words : List ℕ) (place : ℕ) → GoodBefore inputs words (suc place) → binders words place ≡ shape_binders (shape_at words place) (binders words)
count_by_named inputs words place good =
    shape_count inputs (shape_at words place) place (binders_within words place) (binders words) (good place (omega arith))
    (λ p below. more_turns inputs words place (suc p) p below (omega arith) (λ q under. good q (omega arith)))

-- a loop's step: one word more passes its checks
pub good_more : (inputs : ℕ) (words : List ℕ) (place : ℕ) → GoodBefore inputs words place → shape_refusal inputs (shape_at words place) place ≡ None → GoodBefore inputs words (place + 1)
good_more inputs words place good here = below_more (λ p. shape_refusal inputs (shape_at words p) p ≡ None) place good here

-- counts that are written as the definition has them follow from the counts of named places
by_named : (inputs : ℕ) (words table : List ℕ) (many : ℕ) → GoodBefore inputs words many → ((p : ℕ) → p < many → get_or table p 0 ≡ binders words p) → (place : ℕ) → place < many → get_or table place 0 ≡ shape_binders (shape_at words place) (λ p. get_or table p 0)
by_named inputs words table many good written place under =
    written place under
    ∙ count_by_named inputs words place (λ q below. good q (omega arith))
    ∙ shape_count inputs (shape_at words place) place (binders words) (λ p. get_or table p 0) (good place under)
    (λ p below. sym (written p (omega arith)))

-- and its count is written
pub counted_more : (inputs : ℕ) (words before work : List ℕ) (place : ℕ) → GoodBefore inputs words (place + 1) → place < length work → Counted words place before work → Counted words (place + 1) before (set work place (shape_binders (shape_at words place) (λ p. get_or work p 0)))
counted_more inputs words before work place good within old = record {
  written = all;
  named = by_named inputs words (set work place count) (place + 1) good all;
  rest = λ p above. let apart : p ≢ place = omega arith in rw get_or-set_other (old.rest p (omega arith));
}
  where
    count : ℕ
    count = shape_binders (shape_at words place) (λ p. get_or work p 0)

    upto : GoodBefore inputs words (suc place)
    upto = λ p below. good p (omega arith)

    here : count ≡ binders words place
    here =
        shape_count inputs (shape_at words place) place (λ p. get_or work p 0) (binders words) (upto place (omega arith)) old.written
        ∙ sym (count_by_named inputs words place upto)

    all : (p : ℕ) → p < place + 1 → get_or (set work place count) p 0 ≡ binders words p
    all = below_more (λ p. get_or (set work place count) p 0 ≡ binders words p) place
        (λ p below. let apart : p ≢ place = omega arith in rw get_or-set_other (old.written p below))
        (rw get_or-set_same here)
