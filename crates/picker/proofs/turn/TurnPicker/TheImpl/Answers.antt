use Rattle.std.proofs.Common.{ℕ, refl, ap, ◌∙◌}
use Rattle.picker.specs.Orders.{in_turn, last_pick}
use Rattle.picker.proofs.Ages.{in_turn_first}
use Rattle.picker.specs.GreedyChoices.{length-in_turn}
use Rattle.picker.proofs.Writing.{picks_from_overlaid}
use Rattle.picker.proofs.turn.TurnPicker.TheImpl.Goals as goal

pub pick-tells : goal.pick-tells
pick-tells c =
    let last = c.args.self.now.last in
    let shown = c.args.shown.now in
    picks_from_overlaid _ _ _ shown _ _ _ (λ (q : ℕ). in_turn last q shown) c.ensures.written (length-in_turn last _ shown)
    (λ asked all. (refl, in_turn_first last _ shown asked.rising, c.ensures.left ∙ ap (λ (q : ℕ). last_pick last (in_turn last q shown)) all))
