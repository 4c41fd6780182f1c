-- How a word is printed. Assumes nothing.
use Rattle.std.specs.Prelude.{ℕ, List, ◌++◌, codes, decimal}
use Rattle.std.specs.Fmt.{signed_decimal}
use Rattle.formula.specs.declared.word.Word.{Word}
use Rattle.formula.specs.declared.word.Word.TheVariants.{Number, Variable, Operation as Op, Input, Abstraction, Application}
use Rattle.formula.specs.Operations.{name_of}

abbrev pub in_words : Word → List ℕ
in_words (Number n) = codes "number " ++ signed_decimal n
in_words (Variable i) = codes "variable " ++ decimal i
in_words (Op op) = codes "operation " ++ name_of op
in_words (Input i) = codes "input " ++ decimal i
in_words (Abstraction body) = codes "abstraction of " ++ decimal body
in_words (Application function argument) = codes "application of " ++ (decimal function ++ (codes " to " ++ decimal argument))

abbrev pub not_allowed_text : List ℕ
not_allowed_text = codes "not allowed"
