-- The contract of `pick` implies the trait's.
use Rattle.std.proofs.Common.{ℕ, refl}
use Rattle.picker.proofs.Writing.{picks_from_overlaid}
use Rattle.alternate.specs.Meaning.{alternate}
use Rattle.alternate.specs.Alternation.{length-alternate}
use Rattle.alternate.proofs.second.AlternatePicker.TheImpl.Goals as goal

pub pick-tells : goal.pick-tells
pick-tells c =
    let shown = c.args.shown.now in
    picks_from_overlaid _ _ _ shown _ _ _ (λ (q : ℕ). alternate q shown) c.ensures (length-alternate _ shown) (λ _ _. refl)
