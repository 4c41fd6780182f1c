-- The choices of the three pickers keep the greedy rule. Assumes nothing.
use Rattle.std.specs.Prelude.{◌≡◌, ℕ, ◌+◌, ◌-◌, ◌<◌, ◌≤◌, if◌then◌else◌, ◌⊎◌, List, ◌++◌, length, take, drop, Some, None, Option, nat_lt, slice_index}
use Rattle.std.proofs.Common.{ap, sym, ◌∙◌, inl, inr, ⊎_elim, arith}
use Rattle.std.proofs.lemmas.List.{get_or_append_left, get_or-append_right, get_or-drop, get_or-reverse, get_or-take, length-append, length-drop, length-reverse, length-take-le}
use Rattle.std.proofs.lemmas.List.Sums.{prefix_len-le-length}
use Rattle.std.proofs.lemmas.Bool.{cases_lt, cond-false, cond-true, le-ltb, lt-ltb}
use Rattle.std.specs.List.Sorted.{IsStrictlyIncreasing}
use Rattle.picker.specs.Greedy.{Greedy, share}
use Rattle.picker.specs.Orders.{behind, had_turn, highest, in_turn, lowest, round_from}
use Rattle.picker.specs.Places.{greedy_by_places}

pub length-lowest : (q : ℕ) (shown : List ℕ) → length (lowest q shown) ≡ share q shown
length-lowest q shown = length-take-le (share q shown) shown (omega arith)

pub lowest_greedy : (q : ℕ) (shown picks : List ℕ) → IsStrictlyIncreasing shown → picks ≡ lowest q shown → Greedy q shown picks
lowest_greedy q shown picks up is =
    let n = length-lowest q shown in
    let at = greedy_by_places q shown (lowest q shown) (λ k. k) up n record {
      within = λ k h. omega arith;
      stands = λ k h. get_or-take (share q shown) shown k 0 (omega arith);
      apart = λ i j lt h. omega arith;
    } in
    rw is at

pub length-highest : (q : ℕ) (shown : List ℕ) → length (highest q shown) ≡ share q shown
length-highest q shown =
    length-reverse (drop (length shown - share q shown) shown) ∙ length-drop (length shown - share q shown) shown ∙ omega arith

pub highest_greedy : (q : ℕ) (shown picks : List ℕ) → IsStrictlyIncreasing shown → picks ≡ highest q shown → Greedy q shown picks
highest_greedy q shown picks up is =
    let n = length-highest q shown in
    let from = length shown - share q shown in
    let size = length-drop from shown in
    let at = greedy_by_places q shown (highest q shown) (λ k. length shown - (k + 1)) up n record {
      within = λ k h. omega arith;
      stands = λ k h. get_or-reverse (drop from shown) k 0 (omega arith) ∙ get_or-drop from shown _ 0 ∙ ap (λ (place : ℕ). slice_index shown place) (omega arith);
      apart = λ i j lt h. omega arith;
    } in
    rw is at

-- a list from one place to its end and then from its start to that place: which number stands at k
module _ (xs : List ℕ) (start : ℕ) (within : start ≤ length xs) where
  abbrev pub turned : List ℕ
  turned = drop start xs ++ take start xs

  abbrev pub place : ℕ → ℕ
  place k = if nat_lt k (length xs - start) then start + k else k - (length xs - start)

  pub cases_place : (k : ℕ) → ((k < length xs - start) × (place k ≡ start + k)) ⊎ ((length xs - start ≤ k) × (place k ≡ k - (length xs - start)))
  cases_place k =
      ⊎_elim (λ (lt : k < length xs - start). inl (lt, cond-true _ _ _ (lt-ltb _ _ lt)))
      (λ (ge : length xs - start ≤ k). inr (ge, cond-false _ _ _ (le-ltb _ _ ge)))
      (cases_lt k (length xs - start))

  pub length-turned : length turned ≡ length xs
  length-turned =
      length-append (drop start xs) (take start xs) ∙ omega (arith, length-drop start xs, length-take-le start xs within)

  pub slice_index-turned : (k : ℕ) → k < length xs → slice_index turned k ≡ slice_index xs (place k)
  slice_index-turned k h = ⊎_elim
      (λ (at : (k < length xs - start) × (place k ≡ start + k)).
      get_or_append_left (drop start xs) _ 0 k (omega (arith, length-drop start xs, at.0)) ∙ get_or-drop start xs k 0 ∙ sym (ap (λ (k : ℕ). slice_index xs k) at.1))
      (λ (at : (length xs - start ≤ k) × (place k ≡ k - (length xs - start))).
      get_or-append_right (drop start xs) _ _ k 0 (length-drop start xs) at.0 ∙ get_or-take start xs _ 0 (omega (arith, at.0)) ∙ sym (ap (λ (k : ℕ). slice_index xs k) at.1))
      (cases_place k)

pub behind_within : (last : Option ℕ) (shown : List ℕ) → behind last shown ≤ length shown
behind_within None shown = omega arith
behind_within (Some last) shown = prefix_len-le-length (had_turn last) shown

pub length-in_turn : (last : Option ℕ) (q : ℕ) (shown : List ℕ) → length (in_turn last q shown) ≡ share q shown
length-in_turn last q shown =
    length-take-le (share q shown) (round_from last shown) (omega (arith, length-turned shown (behind last shown) (behind_within last shown)))

pub in_turn_greedy : (last : Option ℕ) (q : ℕ) (shown picks : List ℕ) → IsStrictlyIncreasing shown → picks ≡ in_turn last q shown → Greedy q shown picks
in_turn_greedy last q shown picks up is =
    let n = length-in_turn last q shown in
    let start = behind last shown in
    let few : start ≤ length shown = behind_within last shown in
    let cases = cases_place shown start few in
    let at = greedy_by_places q shown (in_turn last q shown) (place shown start few) up n record {
      within = λ k h. omega (arith, cases k);
      stands = λ k h. get_or-take (share q shown) (round_from last shown) k 0 (omega arith) ∙ slice_index-turned shown start few k (omega arith);
      apart = λ i j lt h. omega (arith, cases i, cases j);
    } in
    rw is at
