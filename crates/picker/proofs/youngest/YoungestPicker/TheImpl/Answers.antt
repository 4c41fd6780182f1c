use Rattle.std.proofs.Common.{ℕ, refl}
use Rattle.picker.specs.Orders.{highest}
use Rattle.picker.proofs.Ages.{highest_first}
use Rattle.picker.specs.GreedyChoices.{length-highest}
use Rattle.picker.proofs.Writing.{picks_from_overlaid}
use Rattle.picker.proofs.youngest.YoungestPicker.TheImpl.Goals as goal

pub pick-tells : goal.pick-tells
pick-tells c =
    let shown = c.args.shown.now in
    picks_from_overlaid _ _ _ shown _ _ _ (λ (q : ℕ). highest q shown) c.ensures (length-highest _ shown) (λ asked _. (refl, highest_first shown asked.rising _))
