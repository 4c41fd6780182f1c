-- Ends that are in range make a band of just these ends.
use Rattle.std.proofs.Common.{◌≡◌, Bool, true, false, cond, ◌&&◌, ℤ, Ok, Err, Result, refl, ap, ◌∙◌, ap₂, arith}
use Rattle.std.proofs.lemmas.Int.{clamps, ints}
use Rattle.formula.specs.declared.Operation.{Operation}
use Rattle.figure.specs.declared.band.Bands.{Bands}
use Rattle.figure.specs.declared.ends.Ends.{Ends}
use Rattle.figure.specs.declared.fault.FigureFault.{FigureFault}
use Rattle.figure.specs.declared.fault.FigureFault.TheVariants.{OutOfRange, ZeroDivisor}
use Rattle.figure.specs.Bands.{band, band_outcome, ends_of, holds_zero, ranged_ends}
use Rattle.figure.specs.Exact.{divides, in_range}
use Rattle.figure.specs.declared.tick.Ticks.{Ticks}
use Rattle.figure.specs.Laws.{HasEnds}
use Rattle.figure.specs.Ticks.{ranged, tick}
use Rattle.figure.proofs.Orders.{ends_in_order}

-- each way that an outcome can go: a zero divisor, both ends in range, or neither
kept : (zero both : Bool) (o : Operation) (x y : Bands)
    → HasEnds (ends_of o x y) (cond zero (Err ZeroDivisor) (cond both (Ok (band (ends_of o x y).low (ends_of o x y).high)) (Err OutOfRange)))
kept true both o x y = tt
kept false true o x y = (omega (arith, ints, clamps, ends_in_order o x y), omega (arith, ints, clamps, ends_in_order o x y))
kept false false o x y = tt

pub ends_kept : (op : Operation) (x y : Bands) → HasEnds (ends_of op x y) (band_outcome op x y)
ends_kept op x y = kept (divides op && holds_zero y) (in_range (ends_of op x y).low && in_range (ends_of op x y).high) op x y

chosen : (b : Bool) (s t : Ticks) → ◌≡◌ {A = Result Ticks FigureFault} (Ok t) (cond b (Ok s) (Err OutOfRange)) → (b ≡ true) × (t ≡ s)
chosen true s t h = (refl, cc)
chosen false s t h = absurd (cc)

from_ranged : (t : Ticks) (z : ℤ) → ◌≡◌ {A = Result Ticks FigureFault} (Ok t) (ranged z) → (in_range z ≡ true) × (t ≡ tick z)
from_ranged t z h = chosen (in_range z) (tick z) t h

pub both_ranged : (e : Ends) (l h : Ticks) (x : Bands) → x ≡ band l.0 h.0
    → ◌≡◌ {A = Result Ticks FigureFault} (Ok l) (ranged e.low) → ◌≡◌ {A = Result Ticks FigureFault} (Ok h) (ranged e.high)
    → ◌≡◌ {A = Result Bands FigureFault} (Ok x) (ranged_ends e)
both_ranged e l h x b p q =
    let at_low = from_ranged l e.low p in
    let at_high = from_ranged h e.high q in
    rw (at_low.0, at_high.0) (ap Ok (b ∙ ap₂ (λ s t. band s.0 t.0) at_low.1 at_high.1))
