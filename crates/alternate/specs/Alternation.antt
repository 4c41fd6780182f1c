-- Every second number first, and then those that were passed over: where each pick stands, and that the choice is greedy. Assumes nothing.
use Rattle.std.specs.Prelude.{◌≡◌, ℕ, zero, suc, ◌+◌, ◌-◌, ◌*◌, ◌/◌, ◌<◌, ◌≤◌, ◌⊎◌, List, [], ◌∷◌, length, drop, slice_index, refl}
use Rattle.std.proofs.Common.{inl, inr, ⊎_elim, sym, ap, ◌∙◌, arith}
use Rattle.std.proofs.lemmas.List.{get_or_append_left, get_or-append_right, get_or-drop, get_or-take, length-append, length-drop, length-take}
use Rattle.std.proofs.lemmas.Bool.{cases_lt, cond-false, cond-true, le-ltb, lt-ltb}
use Rattle.std.specs.List.Sorted.{IsStrictlyIncreasing}
use Rattle.picker.specs.Greedy.{Greedy, share}
use Rattle.picker.specs.Places.{greedy_by_places}
use Rattle.alternate.specs.Meaning.{alternate, evens, odds, order, place_of}

length-evens : (xs : List ℕ) → length (evens xs) ≡ length xs - length xs / 2
length-evens [] = refl
length-evens (x ∷ []) = refl
length-evens (x ∷ (y ∷ xs)) = omega (arith, length-evens xs)

slice_index-evens : (xs : List ℕ) (k : ℕ) → slice_index (evens xs) k ≡ slice_index xs (2 * k)
slice_index-evens [] k = refl
slice_index-evens (x ∷ []) zero = refl
slice_index-evens (x ∷ []) (suc k) = let e : 2 * suc k ≡ suc (suc (2 * k)) = omega arith in rw e
slice_index-evens (x ∷ (y ∷ xs)) zero = refl
slice_index-evens (x ∷ (y ∷ xs)) (suc k) = let e : 2 * suc k ≡ suc (suc (2 * k)) = omega arith in rw e (slice_index-evens xs k)

-- the pick at k stands at an even place, or at an odd one
abbrev Even : ℕ → ℕ → Type 0
Even n k = (k < n - n / 2) × (place_of n k ≡ 2 * k)

abbrev Odd : ℕ → ℕ → Type 0
Odd n k = (n - n / 2 ≤ k) × (place_of n k ≡ 2 * (k - (n - n / 2)) + 1)

cases_place : (n k : ℕ) → Even n k ⊎ Odd n k
cases_place n k =
    ⊎_elim (λ (lt : k < n - n / 2). inl (lt, cond-true _ _ _ (lt-ltb _ _ lt)))
    (λ (ge : n - n / 2 ≤ k). inr (ge, cond-false _ _ _ (le-ltb _ _ ge)))
    (cases_lt k (n - n / 2))

pub length-order : (xs : List ℕ) → length (order xs) ≡ length xs
length-order xs = omega (arith, length-append (evens xs) (odds xs), length-evens xs, length-evens (drop 1 xs), length-drop 1 xs)

pub slice_index-order : (xs : List ℕ) (k : ℕ) → slice_index (order xs) k ≡ slice_index xs (place_of (length xs) k)
slice_index-order xs k = ⊎_elim even odd (cases_place (length xs) k)
  where
    even : Even (length xs) k → slice_index (order xs) k ≡ slice_index xs (place_of (length xs) k)
    even at =
        get_or_append_left (evens xs) (odds xs) 0 k (omega (arith, length-evens xs, at.0)) ∙ slice_index-evens xs k ∙ ap (λ (place : ℕ). slice_index xs place) (sym at.1)

    odd : Odd (length xs) k → slice_index (order xs) k ≡ slice_index xs (place_of (length xs) k)
    odd at =
        get_or-append_right (evens xs) (odds xs) _ k 0 (length-evens xs) at.0 ∙ slice_index-evens (drop 1 xs) _ ∙ get_or-drop 1 xs _ 0 ∙ ap (λ (place : ℕ). slice_index xs place) (omega (arith, at.1))

pub length-alternate : (q : ℕ) (shown : List ℕ) → length (alternate q shown) ≡ share q shown
length-alternate q shown = length-take (share q shown) (order shown) ∙ omega (arith, length-order shown)

pub alternate_greedy : (q : ℕ) (shown picks : List ℕ) → IsStrictlyIncreasing shown → picks ≡ alternate q shown → Greedy q shown picks
alternate_greedy q shown picks rising is =
    let n = length-alternate q shown in
    let cases = cases_place (length shown) in
    let at = greedy_by_places q shown (alternate q shown) (place_of (length shown)) rising n record {
      within = λ k h. omega (arith, cases k);
      stands = λ k h. get_or-take (share q shown) (order shown) k 0 (omega arith) ∙ slice_index-order shown k;
      apart = λ i j lt h. omega (arith, cases i, cases j);
    } in
    rw is at
