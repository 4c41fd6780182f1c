-- What the picker `Alternate` chooses. Assumes nothing.
use Rattle.std.specs.Prelude.{ℕ, ◌+◌, ◌-◌, ◌*◌, ◌/◌, if◌then◌else◌, List, [], ◌∷◌, ◌++◌, take, drop, nat_lt}
use Rattle.picker.specs.Greedy.{share}

-- the numbers at the places 0, 2, 4, ..
abbrev pub evens : List ℕ → List ℕ
evens [] = []
evens (x ∷ []) = x ∷ []
evens (x ∷ (y ∷ xs)) = x ∷ evens xs

-- the numbers at the places 1, 3, 5, ..
abbrev pub odds : List ℕ → List ℕ
odds xs = evens (drop 1 xs)

-- every second number first, then those that were passed over
abbrev pub order : List ℕ → List ℕ
order shown = evens shown ++ odds shown

-- as many of them as the rule says
abbrev pub alternate : ℕ → List ℕ → List ℕ
alternate q shown = take (share q shown) (order shown)

-- the place, among n shown numbers, of the pick at k: n - n / 2 places are even
abbrev pub place_of : ℕ → ℕ → ℕ
place_of n k = if nat_lt k (n - n / 2) then 2 * k else 2 * (k - (n - n / 2)) + 1
