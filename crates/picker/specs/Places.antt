-- A choice that is given by places of the shown numbers keeps the greedy rule. Assumes nothing.
use Rattle.std.specs.Prelude.{◌≡◌, ℕ, ◌<◌, ◌≤◌, ◌≢◌, List, length, slice_index}
use Rattle.std.proofs.Common.{sym, subst, ◌∙◌, ⊎_elim, arith}
use Rattle.std.proofs.lemmas.List.Elements.{All-from_get_or, Contains-get_or}
use Rattle.std.proofs.lemmas.Map.Keys.{below_from_sorted, sorted_from_strictly_increasing}
use Rattle.std.proofs.lemmas.Bool.{cases_lt}
use Rattle.std.specs.List.Sorted.{IsStrictlyIncreasing}
use Rattle.std.specs.List.{Contains}
use Rattle.picker.specs.Greedy.{Greedy, share}

-- of numbers that rise, the one at a later place is above
pub rising_above : (xs : List ℕ) → IsStrictlyIncreasing xs → (i j : ℕ) → i < j → j < length xs → slice_index xs i < slice_index xs j
rising_above xs up i j lt h = below_from_sorted xs i j 0 (sorted_from_strictly_increasing xs up) lt h

-- numbers that rise differ at different places
pub rising_apart : (xs : List ℕ) → IsStrictlyIncreasing xs → (i j : ℕ) → i < length xs → j < length xs → i ≢ j → slice_index xs i ≢ slice_index xs j
rising_apart xs up i j hi hj ne same =
    ⊎_elim (λ (lt : i < j). omega (arith, rising_above xs up i j lt hj, same))
    (λ (ge : j ≤ i). omega (arith, rising_above xs up j i (omega arith) hi, same))
    (cases_lt i j)

-- the pick at k stands at a place of its own among the shown numbers
pub record Places (shown picks : List ℕ) (place : ℕ → ℕ) : Type 0 where
  pub within : (k : ℕ) → k < length picks → place k < length shown
  pub stands : (k : ℕ) → k < length picks → slice_index picks k ≡ slice_index shown (place k)
  pub apart : (i j : ℕ) → i < j → j < length picks → place i ≢ place j

pub greedy_by_places : (q : ℕ) (shown picks : List ℕ) (place : ℕ → ℕ) → IsStrictlyIncreasing shown → length picks ≡ share q shown → Places shown picks place → Greedy q shown picks
greedy_by_places q shown picks place up count at = record {
  count = count;
  members = All-from_get_or (Contains shown) picks 0 (λ k h. subst (Contains shown) (sym (at.stands k h)) (Contains-get_or shown (place k) 0 (at.within k h)));
  distinct = λ i j lt h same.
      let hi : i < length picks = omega arith in
      rising_apart shown up (place i) (place j) (at.within i hi) (at.within j h) (at.apart i j lt h) (sym (at.stands i hi) ∙ same ∙ at.stands j h);
}
