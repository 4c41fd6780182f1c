-- From what a picker wrote to what the rule says of its list. Assumes nothing.
use Rattle.std.proofs.Common.{◌≡◌, ℕ, ◌+◌, ◌-◌, ◌<◌, ◌≤◌, min, List, [], ◌∷◌, ◌++◌, length, get_or, take, drop, set, map, Option, Some, None, Bor, refl, sym, ap, ap₂, ◌∙◌, subst, arith}
use Rattle.std.proofs.lemmas.List.{append_assoc, drop_at, drop_more, ext_get_or, get_or-drop, length-append, length-drop, length-take-le, map-append, set_at, take_at, take_min, take_more}
use Rattle.std.proofs.lemmas.Grind.{common_steps}
use Rattle.std.proofs.lemmas.Iterator.{YieldsList, YieldsList-from_take}
use Rattle.std.proofs.lemmas.Iterator.Consumers.{YieldsList-end, YieldsList-from_enumerate}
use Rattle.std.specs.Iterator.{Yields}
use Rattle.std.specs.Iterator.Adapters.{enumerate_count, enumerate_source, enumerate_steps, take_count, take_source, take_steps}
use Rattle.std.specs.declared.iter.Enumerate.{Enumerate}
use Rattle.std.specs.declared.iter.Take.{Take}
use Rattle.std.specs.List.{enumerate_from}
use Rattle.std.specs.Option.{option_or}
use Rattle.picker.specs.Greedy.{Asked, Choice, Picks, Picked, overlaid, share}
use Rattle.picker.specs.Orders.{last_pick}

module _ {S : Type 0} (chooses : Choice S) (before after : S) (shown : List ℕ) (q : ℕ) (list list' : List ℕ) where
  pub picked_from_overlaid : (picks : List ℕ) → list' ≡ overlaid picks list → length picks ≡ share q shown → chooses before shown q picks after → Picked chooses before after shown q list list'
  picked_from_overlaid picks is count chosen = record {
    chosen = subst (λ (xs : List ℕ). chooses before shown q xs after) (sym head) chosen;
    rest = ap (drop (share q shown)) is ∙ drop_at picks _ _ count ∙ ap (λ (n : ℕ). drop n list) count;
  }
    where
      head : take (share q shown) list' ≡ picks
      head = ap (take (share q shown)) is ∙ take_at picks _ _ count

  -- the same by places of the list
  pub picked_by_places : chooses before shown q (take (share q shown) list') after → length list' ≡ length list → ((k : ℕ) → share q shown ≤ k → get_or list' k 0 ≡ get_or list k 0) → Picked chooses before after shown q list list'
  picked_by_places chosen same left =
      let count = share q shown in
      record {
        chosen = chosen;
        rest = ext_get_or 0 (drop count list') (drop count list) (length-drop count list' ∙ ap (λ (n : ℕ). n - count) same ∙ sym (length-drop count list))
            (λ k h. get_or-drop count list' k 0 ∙ left (count + k) (omega arith) ∙ sym (get_or-drop count list k 0));
      }

  -- a picker that fills what room there is
  pub picks_from_overlaid : (pick : ℕ → List ℕ) → list' ≡ overlaid (pick (min q (length list))) list → length (pick q) ≡ share q shown → (Asked q shown → min q (length list) ≡ q → chooses before shown q (pick q) after) → Picks chooses before after shown q list list'
  picks_from_overlaid pick is count chosen asked room = grind (arith, common_steps)

-- one number more, as a loop writes it
pub overlaid_push : (numbers list : List ℕ) (k x : ℕ) → k ≡ length numbers → length numbers < length list → set (overlaid numbers list) k x ≡ overlaid (numbers ++ (x ∷ [])) list
overlaid_push numbers list k x at room =
    let n : length (numbers ++ (x ∷ [])) ≡ length numbers + 1 = length-append numbers (x ∷ []) ∙ omega arith in
    rw (n, drop_more list (length numbers) 0 room) (set_at numbers _ _ x k (sym at) ∙ sym (append_assoc numbers (x ∷ []) (drop (length numbers + 1) list)))

-- one pick more of a list of picks
pub overlaid_more : (picks list : List ℕ) (k pick : ℕ) → k < length picks → k < length list → pick ≡ get_or picks k 0 → set (overlaid (take k picks) list) k pick ≡ overlaid (take (k + 1) picks) list
overlaid_more picks list k pick within room is =
    let n : length (take k picks) ≡ k = length-take-le k picks (omega arith) in
    let more : take k picks ++ (pick ∷ []) ≡ take (k + 1) picks = ap (λ (x : ℕ). take k picks ++ (x ∷ [])) is ∙ sym (take_more picks k 0 within) in
    overlaid_push (take k picks) list k pick (sym n) (omega arith) ∙ ap (λ (xs : List ℕ). overlaid xs list) more

pub last_pick_or : (before : Option ℕ) (picks : List ℕ) → option_or (last_pick None picks) before ≡ last_pick before picks
last_pick_or before [] = refl
last_pick_or before (pick ∷ picks) = last_pick_since pick picks
  where
    last_pick_since : (pick : ℕ) (picks : List ℕ) → option_or (last_pick (Some pick) picks) before ≡ last_pick (Some pick) picks
    last_pick_since pick [] = refl
    last_pick_since pick (next ∷ picks) = last_pick_since next picks

-- what a loop over enumerated numbers has read
abbrev pub read : List (ℕ × Bor ℕ) → List ℕ
read turns = map (λ turn. turn.1.now) turns

pub length-read : (turns : List (ℕ × Bor ℕ)) (place : ℕ) (number : Bor ℕ) → length (read (turns ++ ((place, number) ∷ []))) ≡ length (read turns) + 1
length-read turns place number = grind (arith, common_steps)

-- after so many turns of a loop over `numbers.take(n).enumerate()`, which writes each number at its place of the list
pub record WrittenSoFar {S : Type 0} (turns : List (ℕ × Bor ℕ)) (iterator : Enumerate (Take S)) (list now : List ℕ) : Type 0 where
  pub place : enumerate_count iterator ≡ length (read turns)
  pub room : length (read turns) + take_count (enumerate_source iterator) ≤ length list
  pub written : now ≡ overlaid (read turns) list

-- one turn more; the last three facts are those of the clause `steps` of `next`
pub written_more : {S : Type 0} (turns : List (ℕ × Bor ℕ)) (s t : Enumerate (Take S)) (list now : List ℕ) (place : ℕ) (number : Bor ℕ) → WrittenSoFar turns s list now → take_count (enumerate_source t) + 1 ≡ take_count (enumerate_source s) → place ≡ enumerate_count s → enumerate_count t ≡ enumerate_count s + 1 → WrittenSoFar (turns ++ ((place, number) ∷ [])) t list (set now place number.now)
written_more turns s t list now place number so_far left at on =
    let longer = length-read turns place number in
    record {
      place = omega (arith, on, so_far.place, longer);
      room = omega (arith, left, so_far.room, longer);
      written = ap (λ (xs : List ℕ). set xs place number.now) so_far.written ∙ overlaid_push (read turns) list place number.now (at ∙ so_far.place) (omega (arith, left, so_far.room)) ∙ ap (λ (xs : List ℕ). overlaid xs list) (sym (map-append (λ turn. turn.1.now) turns ((place, number) ∷ [])));
    }

last_pick_push : (before : Option ℕ) (picks : List ℕ) (pick : ℕ) → last_pick before (picks ++ (pick ∷ [])) ≡ Some pick
last_pick_push before [] pick = refl
last_pick_push before (first ∷ picks) pick = last_pick_push (Some first) picks pick

pub last_read : (turns : List (ℕ × Bor ℕ)) (place : ℕ) (number : Bor ℕ) → last_pick None (read (turns ++ ((place, number) ∷ []))) ≡ Some number.now
last_read turns place number =
    ap (last_pick None) (map-append (λ turn. turn.1.now) turns ((place, number) ∷ [])) ∙ last_pick_push None (read turns) number.now

read_enumerated : (turns : List (ℕ × Bor ℕ)) (n : ℕ) (numbers : List ℕ) → map (λ turn. (turn.0, turn.1.now)) turns ≡ enumerate_from n numbers → read turns ≡ numbers
read_enumerated [] n [] is = refl
read_enumerated [] n (number ∷ numbers) is = cc
read_enumerated (turn ∷ turns) n [] is = cc
read_enumerated (turn ∷ turns) n (number ∷ numbers) is =
    let rest : map (λ turn. (turn.0, turn.1.now)) turns ≡ enumerate_from (n + 1) numbers = cc in
    let first : (turn.0, turn.1.now) ≡ (n, number) = cc in
    ap₂ ◌∷◌ (ap (λ (pair : ℕ × ℕ). pair.1) first) (read_enumerated turns (n + 1) numbers rest)

-- at the end of such a loop, where the numbers are those of an order, the first of these have come
module _ {S : Type 0} {steps : S → Option (Bor ℕ) → S → Type 0} (n : ℕ) (order : List ℕ) (s : Enumerate (Take S)) (road : YieldsList steps (λ number. number.now) (take_source (enumerate_source s)) order) (taken : take_count (enumerate_source s) ≡ n) (fresh : enumerate_count s ≡ 0) where
  pub read_all : (turns : List (ℕ × Bor ℕ)) (t : Enumerate (Take S)) → Yields (enumerate_steps (take_steps steps)) s turns t → (next : Option (ℕ × Bor ℕ)) (u : Enumerate (Take S)) → next ≡ None → enumerate_steps (take_steps steps) t next u → read turns ≡ take (share n order) order
  read_all turns t yielded next u ended step =
      let road' = YieldsList-from_enumerate {s = s} (YieldsList-from_take n road taken) fresh in
      read_enumerated turns 0 (take n order) (YieldsList-end road' turns t yielded next u ended step).0 ∙ sym (take_min n order)
