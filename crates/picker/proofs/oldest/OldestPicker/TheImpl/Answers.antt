use Rattle.std.proofs.Common.{ℕ, refl}
use Rattle.picker.specs.Orders.{lowest}
use Rattle.picker.proofs.Ages.{lowest_first}
use Rattle.picker.specs.GreedyChoices.{length-lowest}
use Rattle.picker.proofs.Writing.{picks_from_overlaid}
use Rattle.picker.proofs.oldest.OldestPicker.TheImpl.Goals as goal

pub pick-tells : goal.pick-tells
pick-tells c =
    let shown = c.args.shown.now in
    picks_from_overlaid _ _ _ shown _ _ _ (λ (q : ℕ). lowest q shown) c.ensures (length-lowest _ shown) (λ asked _. (refl, lowest_first shown asked.rising _))
