-- Which tables of words are formulas, and what admission answers and writes. Assumes nothing.
use Rattle.std.specs.Prelude.{◌≡◌, ℕ, ◌<◌, ◌≤◌, Bool, true, if◌then◌else◌, ◌&&◌, List, [], ◌∷◌, length, Some, None, Ok, Err, Option, Result, nat_lt, slice_index}
use Rattle.formula.specs.declared.refusal.Refusal.{Refusal}
use Rattle.formula.specs.declared.refusal.Refusal.TheVariants.{WordCount, ShortTable, BadLeaf, PlaceNotBelow, NoSuchInput, NotClosed}
use Rattle.formula.specs.declared.word.Word.{Word}
use Rattle.formula.specs.declared.word.Word.TheVariants.{Number, Variable, Operation as Op, Input, Abstraction, Application}
use Rattle.formula.specs.Binders.{Closed, binders, named_places, root, shape_binders}
use Rattle.formula.specs.Words.{shape_at}

abbrev pub all_below : ℕ → List ℕ → Bool
all_below place [] = true
all_below place (p ∷ ps) = nat_lt p place && all_below place ps

abbrev pub input_known : ℕ → Word → Bool
input_known inputs (Input i) = nat_lt i inputs
input_known inputs (Number n) = true
input_known inputs (Variable i) = true
input_known inputs (Op op) = true
input_known inputs (Abstraction body) = true
input_known inputs (Application function argument) = true

-- the first check that a word at a place fails, if any
abbrev pub word_refusal : ℕ → Word → ℕ → Option Refusal
word_refusal inputs word place =
    if all_below place (named_places word) then (if input_known inputs word then None else Some (NoSuchInput place)) else Some (PlaceNotBelow place)

-- a word that has no shape fails before any of these
abbrev pub shape_refusal : ℕ → Option Word → ℕ → Option Refusal
shape_refusal inputs None place = Some (BadLeaf place)
shape_refusal inputs (Some word) place = word_refusal inputs word place

abbrev pub Sized : List ℕ → Type 0
Sized words = (0 < length words) × (length words ≤ 32768)

-- the words before a place pass their checks
abbrev pub GoodBefore : ℕ → List ℕ → ℕ → Type 0
GoodBefore inputs words end = (place : ℕ) → place < end → shape_refusal inputs (shape_at words place) place ≡ None

-- the words are a formula of so many inputs
pub record Admitted (inputs : ℕ) (words : List ℕ) : Type 0 where
  pub sized : Sized words
  pub good : GoodBefore inputs words (length words)
  pub closed : Closed words

-- the word at a place is the first that fails a check
pub record FirstBad (inputs : ℕ) (words : List ℕ) (place : ℕ) (why : Refusal) : Type 0 where
  pub within : place < length words
  pub before : GoodBefore inputs words place
  pub here : shape_refusal inputs (shape_at words place) place ≡ Some why

-- when each refusal comes, for so many inputs and a work table of so many places
abbrev pub Refused : ℕ → List ℕ → ℕ → Refusal → Type 0
Refused inputs words room WordCount = Sized words → ⊥
Refused inputs words room ShortTable = Sized words × (room < length words)
Refused inputs words room (BadLeaf place) = Sized words × (length words ≤ room) × FirstBad inputs words place (BadLeaf place)
Refused inputs words room (PlaceNotBelow place) = Sized words × (length words ≤ room) × FirstBad inputs words place (PlaceNotBelow place)
Refused inputs words room (NoSuchInput place) = Sized words × (length words ≤ room) × FirstBad inputs words place (NoSuchInput place)
Refused inputs words room (NotClosed place) =
    Sized words × (length words ≤ room) × GoodBefore inputs words (length words) × (Closed words → ⊥) × (place ≡ root words)

-- what admission answers
abbrev pub Answers : {A : Type 0} → ℕ → List ℕ → ℕ → Result A Refusal → Type 0
Answers inputs words room (Ok x) = Admitted inputs words × (length words ≤ room)
Answers inputs words room (Err why) = Refused inputs words room why

-- how many binder counts an answer leaves written
abbrev pub counted_by : {A : Type 0} → List ℕ → Result A Refusal → ℕ
counted_by words (Ok x) = length words
counted_by words (Err WordCount) = 0
counted_by words (Err ShortTable) = 0
counted_by words (Err (BadLeaf place)) = place
counted_by words (Err (PlaceNotBelow place)) = place
counted_by words (Err (NoSuchInput place)) = place
counted_by words (Err (NotClosed place)) = length words

-- The counts of the first so many words are written, each as its word's from those of the places that it names, and nothing else.
pub record Counted (words : List ℕ) (many : ℕ) (before after : List ℕ) : Type 0 where
  pub written : (place : ℕ) → place < many → slice_index after place ≡ binders words place
  pub named : (place : ℕ) → place < many → slice_index after place ≡ shape_binders (shape_at words place) (λ p. slice_index after p)
  pub rest : (place : ℕ) → many ≤ place → slice_index after place ≡ slice_index before place
