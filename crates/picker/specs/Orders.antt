-- What the three pickers choose of numbers that rise: in words of an order, and as lists. Assumes nothing.
use Rattle.std.specs.Prelude.{◌≡◌, ℕ, min, ◌-◌, ◌<◌, ◌≤◌, Bool, ◌⊎◌, List, ◌++◌, reverse, length, take, drop, Some, None, Option, nat_le, slice_index}
use Rattle.std.specs.List.{Contains, last_or, prefix_len}
use Rattle.std.specs.Iterator.{AlwaysYields}
use Rattle.std.specs.Borrow.{Bor}
use Rattle.picker.specs.Greedy.{overlaid, share}

-- the first in an order: they stand in it, and each comes before every active thread that is passed over
pub record FirstBy (Before : ℕ → ℕ → Type 0) (active picks : List ℕ) : Type 0 where
  pub ordered : (i j : ℕ) → i < j → j < length picks → Before (slice_index picks i) (slice_index picks j)
  pub first : (pick other : ℕ) → Contains picks pick → Contains active other → (Contains picks other → ⊥) → Before pick other

abbrev pub Older : ℕ → ℕ → Type 0
Older x y = x < y

abbrev pub Younger : ℕ → ℕ → Type 0
Younger x y = y < x

-- x comes sooner than y: x is above the last pick and y is not, or x is lower and both are, or both are not
abbrev pub Sooner : Option ℕ → ℕ → ℕ → Type 0
Sooner None x y = x < y
Sooner (Some last) x y = ((last < x) × (y ≤ last)) ⊎ ((x < y) × ((last < x) ⊎ (y ≤ last)))

-- the lowest numbers, rising
abbrev pub lowest : ℕ → List ℕ → List ℕ
lowest q shown = take (share q shown) shown

-- the highest numbers, falling
abbrev pub highest : ℕ → List ℕ → List ℕ
highest q shown = reverse (drop (length shown - share q shown) shown)

-- a number that is not above the last pick
abbrev pub had_turn : ℕ → ℕ → Bool
had_turn last number = nat_le number last

-- how many of these stand at the head, none where nothing was picked yet
abbrev pub behind : Option ℕ → List ℕ → ℕ
behind None shown = 0
behind (Some last) shown = prefix_len (had_turn last) shown

-- the numbers above the last pick, and then round to the lowest
abbrev pub round_from : Option ℕ → List ℕ → List ℕ
round_from last shown = drop (behind last shown) shown ++ take (behind last shown) shown

abbrev pub in_turn : Option ℕ → ℕ → List ℕ → List ℕ
in_turn last q shown = take (share q shown) (round_from last shown)

-- the last of the picks, or the one before them where there are none
abbrev pub last_pick : Option ℕ → List ℕ → Option ℕ
last_pick before picks = last_or before picks

-- the first numbers of an order, as many as there are slots and places for, stand at the head of a list that is otherwise as it was, and the last of them is known
pub record FirstWritten (order : List ℕ) (q : ℕ) (list list' : List ℕ) (last : Option ℕ) : Type 0 where
  pub written : list' ≡ overlaid (take (share (min q (length list)) order) order) list
  pub told : last ≡ last_pick None (take (share (min q (length list)) order) order)

-- the same of an iterator, whichever numbers it gives
pub record WrittenFrom {S : Type 0} (steps : S → Option (Bor ℕ) → S → Type 0) (numbers : S) (q : ℕ) (list list' : List ℕ) (last : Option ℕ) : Type 0 where
  pub gives : (order : List ℕ) → AlwaysYields steps (λ number. number.now) numbers order → FirstWritten order q list list' last
