-- The refusals of admission, their numbers and their places, and how they are told. Assumes nothing.
use Rattle.std.specs.Prelude.{ℕ, List, ◌++◌, codes, decimal}
use Rattle.formula.specs.declared.refusal.Refusal.{Refusal}
use Rattle.formula.specs.declared.refusal.Refusal.TheVariants.{WordCount, ShortTable, BadLeaf, PlaceNotBelow, NoSuchInput, NotClosed}

abbrev pub number_of : Refusal → ℕ
number_of WordCount = 1
number_of ShortTable = 2
number_of (BadLeaf place) = 3
number_of (PlaceNotBelow place) = 4
number_of (NoSuchInput place) = 5
number_of (NotClosed place) = 6

-- the sizes have no place of their own, and give 0
abbrev pub place_of : Refusal → ℕ
place_of WordCount = 0
place_of ShortTable = 0
place_of (BadLeaf place) = place
place_of (PlaceNotBelow place) = place
place_of (NoSuchInput place) = place
place_of (NotClosed place) = place

abbrev pub refusal_text : Refusal → List ℕ
refusal_text why = codes "refused " ++ (decimal (number_of why) ++ (codes " " ++ decimal (place_of why)))
