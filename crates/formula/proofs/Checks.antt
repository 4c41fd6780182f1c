-- What a word's checks say of the places that it names, and of the refusal that they give. Assumes nothing.
use Rattle.std.proofs.Common.{◌≡◌, ℕ, ◌≤◌, Bool, true, false, if◌then◌else◌, List, length, Some, None, Err, Option, refl, subst, arith}
use Rattle.formula.specs.Admission.{FirstBad, Refused, Sized, all_below, counted_by, input_known, shape_refusal, word_refusal}
use Rattle.formula.specs.Binders.{named_places}
use Rattle.formula.specs.Words.{shape_at}
use Rattle.formula.specs.declared.refusal.Refusal.{Refusal}
use Rattle.formula.specs.declared.refusal.Refusal.TheVariants.{BadLeaf, PlaceNotBelow, NoSuchInput}
use Rattle.formula.specs.declared.word.Word.{Word}

-- the refusals that a word's own checks give
data OfWord (place : ℕ) : Refusal → Type 0 where
  leaf : OfWord place (BadLeaf place)
  below : OfWord place (PlaceNotBelow place)
  input : OfWord place (NoSuchInput place)

-- the checks of a word in their order, each by its outcome
abbrev checked : ℕ → Bool → Bool → Option Refusal
checked place b i = if b then (if i then None else Some (NoSuchInput place)) else Some (PlaceNotBelow place)

some_check : (place : ℕ) (b i : Bool) (why : Refusal) → checked place b i ≡ Some why → OfWord place why
some_check place true true why h = let z : ◌≡◌ {A = ℕ} 0 1 = cc in absurd (omega arith)
some_check place true false why h = let e : NoSuchInput place ≡ why = cc in subst (OfWord place) e input
some_check place false i why h = let e : PlaceNotBelow place ≡ why = cc in subst (OfWord place) e below

of_shape : (inputs : ℕ) (shape : Option Word) (place : ℕ) (why : Refusal) → shape_refusal inputs shape place ≡ Some why → OfWord place why
of_shape inputs None place why h = let e : BadLeaf place ≡ why = cc in subst (OfWord place) e leaf
of_shape inputs (Some word) place why h = some_check place (all_below place (named_places word)) (input_known inputs word) why h

checked_below : (place : ℕ) (b i : Bool) → checked place b i ≡ None → b ≡ true
checked_below place true i h = refl
checked_below place false i h = cc

-- a word that passes its checks names places below its own
pub names_below : (inputs : ℕ) (word : Word) (place : ℕ) → word_refusal inputs word place ≡ None → all_below place (named_places word) ≡ true
names_below inputs word place = checked_below place (all_below place (named_places word)) (input_known inputs word)

-- the first bad word is refused by the check that it fails, with the counts before it written
pub first_bad : (inputs : ℕ) (words : List ℕ) (room place : ℕ) (why : Refusal) → Sized words → length words ≤ room → FirstBad inputs words place why → Refused inputs words room why × (counted_by {A = Unit {0}} words (Err why) ≡ place)
first_bad inputs words room place why sized fits bad = at why (of_shape inputs (shape_at words place) place why bad.here) bad
  where
    at : (e : Refusal) → OfWord place e → FirstBad inputs words place e → Refused inputs words room e × (counted_by {A = Unit {0}} words (Err e) ≡ place)
    at e leaf first = ((sized, fits, first), refl)
    at e below first = ((sized, fits, first), refl)
    at e input first = ((sized, fits, first), refl)
