-- What a formula holds, and what admission leaves in the host's formula. Assumes nothing.
use Rattle.std.specs.Prelude.{◌≡◌, ℕ, ◌<◌, ◌≤◌, List, length, Some, None, Ok, Err, Option, Result}
use Rattle.formula.specs.declared.admitted.Formula.{Formula}
use Rattle.formula.specs.declared.refusal.Refusal.{Refusal}
use Rattle.formula.specs.declared.word.Word.{Word}
use Rattle.formula.specs.Admission.{word_refusal}
use Rattle.formula.specs.Words.{shape_at}

abbrev pub words_of : Formula → List ℕ
words_of formula = formula.words.now

abbrev pub inputs_of : Formula → ℕ
inputs_of formula = formula.inputs

-- the formula holds exactly these words and this input count
abbrev pub Holds : List ℕ → ℕ → Formula → Type 0
Holds words inputs formula = (words_of formula ≡ words) × (inputs_of formula ≡ inputs)

-- the word at a place, which has passed its checks; none past the root
abbrev pub WordAt : Formula → ℕ → Option Word → Type 0
WordAt formula place None = length (words_of formula) ≤ place
WordAt formula place (Some word) =
    (place < length (words_of formula)) × (shape_at (words_of formula) place ≡ Some word) × (word_refusal (inputs_of formula) word place ≡ None)

-- admission fills the formula, and a refusal leaves it as it was
abbrev pub Filled : List ℕ → ℕ → Formula → Formula → Result (Unit {0}) Refusal → Type 0
Filled words inputs before after (Ok x) = Holds words inputs after
Filled words inputs before after (Err why) = after ≡ before
