-- The places that words name, and how many binders each word needs around it. Assumes nothing.
use Rattle.std.specs.Prelude.{◌≡◌, ℕ, zero, suc, ◌+◌, ◌-◌, max, List, [], ◌∷◌, length, Some, None, Option}
use Rattle.formula.specs.declared.word.Word.{Word}
use Rattle.formula.specs.declared.word.Word.TheVariants.{Number, Variable, Operation as Op, Input, Abstraction, Application}
use Rattle.formula.specs.Words.{shape_at}

-- the places that a word names
abbrev pub named_places : Word → List ℕ
named_places (Abstraction body) = body ∷ []
named_places (Application function argument) = function ∷ argument ∷ []
named_places (Number n) = []
named_places (Variable i) = []
named_places (Op op) = []
named_places (Input i) = []

-- the binder count of a word, from the counts of the places that it names
abbrev pub binders_of : Word → (ℕ → ℕ) → ℕ
binders_of (Variable i) count = i + 1
binders_of (Abstraction body) count = count body - 1
binders_of (Application function argument) count = max (count function) (count argument)
binders_of (Number n) count = 0
binders_of (Op op) count = 0
binders_of (Input i) count = 0

-- a word that has no shape needs no binder
abbrev pub shape_binders : Option Word → (ℕ → ℕ) → ℕ
shape_binders (Some word) count = binders_of word count
shape_binders None count = 0

-- The binder count of a place. Named places are below their own, so one more turn than the place's number suffices.
abbrev pub binders_within : List ℕ → ℕ → ℕ → ℕ
binders_within words zero place = 0
binders_within words (suc turns) place = shape_binders (shape_at words place) (binders_within words turns)

abbrev pub binders : List ℕ → ℕ → ℕ
binders words place = binders_within words (suc place) place

abbrev pub root : List ℕ → ℕ
root words = length words - 1

abbrev pub Closed : List ℕ → Type 0
Closed words = binders words (root words) ≡ 0
