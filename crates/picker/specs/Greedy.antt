-- The greedy rule: what a picker is asked, which choices keep the rule, and what its list holds afterwards. Assumes nothing.
use Rattle.std.specs.Prelude.{◌≡◌, ℕ, ◌<◌, ◌≤◌, min, ◌≢◌, List, ◌++◌, length, take, drop, slice_index}
use Rattle.std.specs.List.Sorted.{IsStrictlyIncreasing}
use Rattle.std.specs.List.{All, Contains}

-- what a picker is asked: active threads, at least one, by their numbers in rising order, and 1 to 64 slots
pub record Asked (q : ℕ) (shown : List ℕ) : Type 0 where
  pub rising : IsStrictlyIncreasing shown
  pub some : 1 ≤ length shown
  pub least : 1 ≤ q
  pub most : q ≤ 64

-- as many threads as there are slots for
abbrev pub share : ℕ → List ℕ → ℕ
share q active = min q (length active)

-- no number stands at two places
abbrev pub DuplicateFree : List ℕ → Type 0
DuplicateFree xs = (i j : ℕ) → i < j → j < length xs → slice_index xs i ≢ slice_index xs j

-- a duplicate-free choice of as many active threads as there are slots for
pub record Greedy (q : ℕ) (active picks : List ℕ) : Type 0 where
  pub count : length picks ≡ share q active
  pub members : All (Contains active) picks
  pub distinct : DuplicateFree picks

-- every active thread is picked
abbrev pub AllPicked : List ℕ → List ℕ → Type 0
AllPicked active picks = (thread : ℕ) → Contains active thread → Contains picks thread

-- numbers at the head of a list, and the rest of it as it was
abbrev pub overlaid : List ℕ → List ℕ → List ℕ
overlaid numbers list = numbers ++ drop (length numbers) list

-- what a picker's choice is: its state before, the numbers shown, the slots, the picks in their order, its state after
abbrev pub Choice : Type 0 → Type 1
Choice S = S → List ℕ → ℕ → List ℕ → S → Type 0

module _ {S : Type 0} (chooses : Choice S) (before after : S) (shown : List ℕ) (q : ℕ) (list list' : List ℕ) where
  -- a picker wrote its choice at the head of the list and left the rest
  pub record Picked : Type 0 where
    pub chosen : chooses before shown q (take (share q shown) list') after
    pub rest : drop (share q shown) list' ≡ drop (share q shown) list

  -- and the choice is greedy, so that all are picked where there are slots for all
  pub record PickedGreedily : Type 0 where
    pub picked : Picked
    pub greedy : Greedy q shown (take (share q shown) list')
    pub everyone : length shown ≤ q → AllPicked shown (take (share q shown) list')

  -- what a picker does where it is asked as the rule has it, with room for q picks; asked otherwise, the list is free
  abbrev pub Picks : Type 0
  Picks = Asked q shown → q ≤ length list → Picked

  -- what its caller knows then
  abbrev pub PicksGreedily : Type 0
  PicksGreedily = Asked q shown → q ≤ length list → PickedGreedily
