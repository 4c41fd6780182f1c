-- The choices of the three pickers come first in their orders. Assumes nothing.
use Rattle.std.proofs.Common.{◌≡◌, ℕ, ◌+◌, ◌-◌, ◌<◌, ◌≤◌, ◌⊎◌, List, min, reverse, length, get_or, take, drop, Some, None, Option, sym, ap, ◌∙◌, subst, subst₂, inl, inr, ⊎_elim, arith}
use Rattle.std.proofs.lemmas.List.Elements.{Contains-append_cases, Contains-append_left, Contains-append_right}
use Rattle.std.proofs.lemmas.List.Sums.{prefix_len_passes, prefix_len_stops}
use Rattle.std.proofs.lemmas.List.{append-nil, get_or_default, get_or-reverse, get_or-take, length-reverse, length-take, reverse-append, take-append-drop, take_at}
use Rattle.std.proofs.lemmas.Bool.{cases_lt, leb-false, leb-true}
use Rattle.std.specs.List.Sorted.{IsStrictlyIncreasing}
use Rattle.std.specs.List.{Contains}
use Rattle.picker.specs.Greedy.{share}
use Rattle.picker.specs.Orders.{FirstBy, Older, Sooner, Younger, behind, had_turn, highest, in_turn, lowest, round_from}
use Rattle.picker.specs.GreedyChoices.{behind_within, cases_place, length-highest, length-turned, slice_index-turned, turned}
use Rattle.picker.specs.Places.{rising_above}

-- a number of a list stands at its place
stands : (xs : List ℕ) (x : ℕ) (h : Contains xs x) → get_or xs h.0 0 ≡ x
stands xs x h = get_or_default xs h.0 0 x h.1 ∙ h.2

-- a list in an order, from which the first so many are taken
module _ (Before : ℕ → ℕ → Type 0) (active order : List ℕ)
    (ordered : (i j : ℕ) → i < j → j < length order → Before (get_or order i 0) (get_or order j 0))
    (complete : (x : ℕ) → Contains active x → Contains order x) where
  first_taken : (count : ℕ) → FirstBy Before active (take count order)
  first_taken count = record { ordered = inside; first = outside }
    where
      size : length (take count order) ≤ count
      size = omega (arith, length-take count order)

      whole : length (take count order) ≤ length order
      whole = omega (arith, length-take count order)

      at : (k : ℕ) → k < length (take count order) → get_or (take count order) k 0 ≡ get_or order k 0
      at k h = get_or-take count order k 0 (omega (arith, size))

      inside : (i j : ℕ) → i < j → j < length (take count order) → Before (get_or (take count order) i 0) (get_or (take count order) j 0)
      inside i j lt h = subst₂ Before (sym (at i (omega arith))) (sym (at j h)) (ordered i j lt (omega (arith, whole)))

      outside : (pick other : ℕ) → Contains (take count order) pick → Contains active other → (Contains (take count order) other → ⊥) → Before pick other
      outside pick other p o passed =
          let q = complete other o in
          ⊎_elim
          (λ (lt : q.0 < count). absurd (passed (q.0, omega (arith, length-take count order, q.1), get_or-take count order q.0 other lt ∙ q.2)))
          (λ (ge : count ≤ q.0). subst₂ Before (sym (at p.0 p.1) ∙ stands (take count order) pick p) (stands order other q) (ordered p.0 q.0 (omega (arith, size, p.1)) q.1))
          (cases_lt q.0 count)

-- the highest numbers, falling, are the first of all numbers in reverse
pub highest_is : (q : ℕ) (shown : List ℕ) → take (share q (reverse shown)) (reverse shown) ≡ highest q shown
highest_is q shown =
    let from = length shown - share q shown in
    let parts = ap reverse (sym (take-append-drop from shown)) ∙ reverse-append (take from shown) (drop from shown) in
    ap (take (share q (reverse shown))) parts ∙ take_at (reverse (drop from shown)) _ _ (length-highest q shown ∙ ap (min q) (sym (length-reverse shown)))

-- and those in turn are the first of all numbers from the last pick round
pub in_turn_is : (last : Option ℕ) (q : ℕ) (shown : List ℕ) → take (share q (round_from last shown)) (round_from last shown) ≡ in_turn last q shown
in_turn_is last q shown =
    ap (λ (n : ℕ). take (min q n) (round_from last shown)) (length-turned shown (behind last shown) (behind_within last shown))

module _ (shown : List ℕ) (up : IsStrictlyIncreasing shown) where
  pub lowest_first : (q : ℕ) → FirstBy Older shown (lowest q shown)
  lowest_first q = first_taken Older shown shown (rising_above shown up) (λ x h. h) (share q shown)

  falling : (i j : ℕ) → i < j → j < length (reverse shown) → Younger (get_or (reverse shown) i 0) (get_or (reverse shown) j 0)
  falling i j lt h =
      let n = length-reverse shown in
      subst₂ Younger (sym (get_or-reverse shown i 0 (omega arith))) (sym (get_or-reverse shown j 0 (omega arith)))
      (rising_above shown up (length shown - 1 - j) (length shown - 1 - i) (omega arith) (omega arith))

  Contains-reverse : (x : ℕ) → Contains shown x → Contains (reverse shown) x
  Contains-reverse x h =
      let place = length shown - 1 - h.0 in
      let back : length shown - 1 - (length shown - 1 - h.0) ≡ h.0 = omega (arith, h.1) in
      (place, omega (arith, length-reverse shown, h.1), get_or-reverse shown place x (omega (arith, h.1)) ∙ ap (λ (k : ℕ). get_or shown k x) back ∙ h.2)

  pub highest_first : (q : ℕ) → FirstBy Younger shown (highest q shown)
  highest_first q = subst (FirstBy Younger shown) (highest_is q shown) (first_taken Younger shown (reverse shown) falling Contains-reverse (share q (reverse shown)))

Contains-turned : (xs : List ℕ) (start : ℕ) (within : start ≤ length xs) (x : ℕ) → Contains xs x → Contains (turned xs start within) x
Contains-turned xs start within x h =
    let passed = take start xs in
    let ahead = drop start xs in
    ⊎_elim (Contains-append_right ahead passed x) (Contains-append_left ahead passed x)
    (Contains-append_cases passed ahead x (subst (λ (ys : List ℕ). Contains ys x) (sym (take-append-drop start xs)) h))

-- of two places, in a list that is turned at a start: the first comes sooner
abbrev Turned : ℕ → ℕ → ℕ → Type 0
Turned start i j = ((start ≤ i) × (j < start)) ⊎ ((i < j) × ((start ≤ i) ⊎ (j < start)))

turned_places : (n start i j i' j' : ℕ) → start ≤ n → i < j → j < n → ((i < n - start) × (i' ≡ start + i)) ⊎ ((n - start ≤ i) × (i' ≡ i - (n - start))) → ((j < n - start) × (j' ≡ start + j)) ⊎ ((n - start ≤ j) × (j' ≡ j - (n - start))) → Turned start i' j'
turned_places n start i j i' j' few lt h a b = grind arith

module _ (last : ℕ) (shown : List ℕ) (up : IsStrictlyIncreasing shown) where
  passed_by : (k : ℕ) → k < behind (Some last) shown → get_or shown k 0 ≤ last
  passed_by k h = leb-true _ _ (prefix_len_passes (had_turn last) shown k 0 h)

  ahead : (k : ℕ) → behind (Some last) shown ≤ k → k < length shown → last < get_or shown k 0
  ahead k ge h =
      let begins = leb-false _ _ (prefix_len_stops (had_turn last) shown 0 (omega arith)) in
      ⊎_elim (λ (lt : behind (Some last) shown < k). omega (arith, begins, rising_above shown up (behind (Some last) shown) k lt h))
      (λ (le : k ≤ behind (Some last) shown). let same : behind (Some last) shown ≡ k = omega arith in subst (λ (k : ℕ). last < get_or shown k 0) same begins)
      (cases_lt (behind (Some last) shown) k)

  by_places : (i j : ℕ) → i < length shown → j < length shown → Turned (behind (Some last) shown) i j → Sooner (Some last) (get_or shown i 0) (get_or shown j 0)
  by_places i j hi hj (inl (a, b)) = inl (ahead i a hi, passed_by j b)
  by_places i j hi hj (inr (lt, inl a)) = inr (rising_above shown up i j lt hj, inl (ahead i a hi))
  by_places i j hi hj (inr (lt, inr b)) = inr (rising_above shown up i j lt hj, inr (passed_by j b))

  rounded : (i j : ℕ) → i < j → j < length (round_from (Some last) shown) → Sooner (Some last) (get_or (round_from (Some last) shown) i 0) (get_or (round_from (Some last) shown) j 0)
  rounded i j lt h =
      let from = behind (Some last) shown in
      let few = behind_within (Some last) shown in
      let n = length-turned shown from few in
      let cases = cases_place shown from few in
      let hi : i < length shown = omega arith in
      let hj : j < length shown = omega arith in
      subst₂ (Sooner (Some last)) (sym (slice_index-turned shown from few i hi)) (sym (slice_index-turned shown from few j hj))
      (by_places _ _ (omega (arith, cases i)) (omega (arith, cases j)) (turned_places (length shown) from i j _ _ few lt hj (cases i) (cases j)))

pub in_turn_first : (last : Option ℕ) (q : ℕ) (shown : List ℕ) → IsStrictlyIncreasing shown → FirstBy (Sooner last) shown (in_turn last q shown)
in_turn_first None q shown up =
    subst (λ (order : List ℕ). FirstBy Older shown (take (share q shown) order)) (sym (append-nil shown)) (lowest_first shown up q)
in_turn_first (Some last) q shown up =
    first_taken (Sooner (Some last)) shown (round_from (Some last) shown) (rounded last shown up) (Contains-turned shown _ (behind_within (Some last) shown)) (share q shown)
