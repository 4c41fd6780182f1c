-- How many can be picked: where there are slots for all, every active thread is picked. Assumes nothing.
use Rattle.std.proofs.Common.{◌≡◌, ℕ, zero, suc, ◌<◌, ◌≤◌, ◌≢◌, ◌⊎◌, List, [], ◌∷◌, ◌++◌, length, get_or, take, drop, sym, ◌∙◌, subst, inl, inr, ⊎_elim, suc-le-suc, zero-le, le_of_suc-le-suc, true, false, nat_eq, arith}
use Rattle.std.proofs.lemmas.List.Edits.{length-remove}
use Rattle.std.proofs.lemmas.List.Elements.{All-cons, All-from_get_or, All-get_or, All-head, All-tail, Contains-append_cases, Contains-append_left, Contains-append_right}
use Rattle.std.proofs.lemmas.List.{get_or_default, take-append-drop}
use Rattle.std.proofs.Math.Seq.{drop-cons}
use Rattle.std.proofs.lemmas.Map.Views.{Contains-from_any, list_any-from_Contains}
use Rattle.std.proofs.lemmas.Bool.{both_ways, cases_Bool, eqb-true}
use Rattle.std.proofs.lemmas.Grind.{common_steps}
use Rattle.std.specs.Cmp.{nat_eq_equiv}
use Rattle.std.specs.List.{All, Contains, list_any, remove}
use Rattle.picker.specs.Greedy.{AllPicked, DuplicateFree, Greedy}

contains_or_not : (xs : List ℕ) (x : ℕ) → Contains xs x ⊎ (Contains xs x → ⊥)
contains_or_not xs x =
    ⊎_elim (λ (yes' : list_any (nat_eq x) xs ≡ true). inl (Contains-from_any eqb-true x xs yes'))
    (λ (no' : list_any (nat_eq x) xs ≡ false). inr (λ h. both_ways _ no' (list_any-from_Contains nat_eq_equiv x xs h)))
    (cases_Bool (list_any (nat_eq x) xs))

sole : (y x : ℕ) → Contains (y ∷ []) x → y ≡ x
sole y x h = grind (arith, common_steps)

-- a list without the number at one place still has every other number
contains_removed : (xs : List ℕ) (k x : ℕ) → k < length xs → get_or xs k 0 ≢ x → Contains xs x → Contains (remove xs k) x
contains_removed xs k x within other h = ⊎_elim below from (Contains-append_cases before (drop k xs) x split)
  where
    before : List ℕ
    before = take k xs

    after : List ℕ
    after = drop (suc k) xs

    split : Contains (before ++ drop k xs) x
    split = subst (λ (ys : List ℕ). Contains ys x) (sym (take-append-drop k xs)) h

    below : Contains before x → Contains (remove xs k) x
    below at = Contains-append_left before after x at

    from : Contains (drop k xs) x → Contains (remove xs k) x
    from at = ⊎_elim (λ (here : Contains (get_or xs k 0 ∷ []) x). absurd (other (sole (get_or xs k 0) x here)))
        (λ (later : Contains after x). Contains-append_right before after x later)
        (Contains-append_cases (get_or xs k 0 ∷ []) after x (subst (λ (ys : List ℕ). Contains ys x) (drop-cons xs k 0 within) at))

pub DuplicateFree_tail : (x : ℕ) (xs : List ℕ) → DuplicateFree (x ∷ xs) → DuplicateFree xs
DuplicateFree_tail x xs free i j lt h = free (suc i) (suc j) (suc-le-suc lt) (suc-le-suc h)

pub DuplicateFree-cons : (x : ℕ) (xs : List ℕ) → (Contains xs x → ⊥) → DuplicateFree xs → DuplicateFree (x ∷ xs)
DuplicateFree-cons x xs new free zero zero lt h same = omega arith
DuplicateFree-cons x xs new free zero (suc j) lt h same =
    new (j, le_of_suc-le-suc h, get_or_default xs j x 0 (le_of_suc-le-suc h) ∙ sym same)
DuplicateFree-cons x xs new free (suc i) zero lt h same = omega arith
DuplicateFree-cons x xs new free (suc i) (suc j) lt h same = free i j (le_of_suc-le-suc lt) (le_of_suc-le-suc h) same

-- no more distinct numbers can be chosen from a list than it has places
pub no_more_than : (picks active : List ℕ) → DuplicateFree picks → All (Contains active) picks → length picks ≤ length active
no_more_than [] active free members = zero-le
no_more_than (pick ∷ picks) active free members =
    omega (arith, length-remove active place within, no_more_than picks (remove active place) (DuplicateFree_tail pick picks free) others)
  where
    chosen : Contains active pick
    chosen = All-head (Contains active) pick picks members

    place : ℕ
    place = chosen.0

    within : place < length active
    within = chosen.1

    stands : get_or active place 0 ≡ pick
    stands = get_or_default active place 0 pick within ∙ chosen.2

    others : All (Contains (remove active place)) picks
    others = All-from_get_or (Contains (remove active place)) picks 0 (λ i h.
        contains_removed active place (get_or picks i 0) within (λ same. free 0 (suc i) (omega arith) (suc-le-suc h) (sym stands ∙ same)) (All-get_or (Contains active) picks i 0 h (All-tail (Contains active) pick picks members)))

-- where there are slots for all, every active thread is picked
pub everyone_picked : (q : ℕ) (active picks : List ℕ) → Greedy q active picks → length active ≤ q → AllPicked active picks
everyone_picked q active picks greedy enough thread h =
    ⊎_elim (λ (picked : Contains picks thread). picked)
    (λ (not : Contains picks thread → ⊥). absurd (omega (arith, greedy.count, no_more_than (thread ∷ picks) active (DuplicateFree-cons thread picks not greedy.distinct) (All-cons (Contains active) thread picks h greedy.members))))
    (contains_or_not picks thread)
