use Rattle.picker.proofs.Shares.{everyone_picked}
use Rattle.picker.proofs.greedy.ask.Goals as goal

pub returns : goal.returns
returns g c asked room =
    let picked = c.pick.ensures asked room in
    let greedy = g.met.P.Picker.greedy _ _ _ _ _ asked picked.chosen in
    record { picked = picked; greedy = greedy; everyone = everyone_picked _ _ _ greedy }
