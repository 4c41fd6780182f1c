use Rattle.std.proofs.Common.{ℕ, zero, suc, ◌+◌, ◌<◌, List, [], ◌∷◌, get_or, subst, arith, lit<, lit≤}
use Rattle.std.proofs.lemmas.List.{take_all}
use Rattle.picker.specs.Greedy.{AllPicked, Asked}
use Rattle.picker_cases.proofs.examples.three_of_three.Goals as goal

abbrev three : List ℕ
three = 2 ∷ 5 ∷ 7 ∷ []

rising : (k : ℕ) → k + 1 < 3 → get_or three k 0 < get_or three (k + 1) 0
rising zero h = lit< tt
rising (suc zero) h = lit< tt
rising (suc (suc k)) h = absurd (omega arith)

asked : Asked 3 three
asked = record { rising = rising; some = lit≤ tt; least = lit≤ tt; most = lit≤ tt }

pub returns : goal.returns
returns g c =
    let list = c.pick_greedily.new.list in
    let known = c.pick_greedily.ensures.picks asked (lit≤ tt) in
    subst (AllPicked three) (take_all 3 list (omega arith)) (known.everyone (lit≤ tt))
