-- What the laws of figures say. Assumes nothing.
use Rattle.std.specs.Prelude.{◌≡◌, Ok, Err, Result}
use Rattle.figure.specs.declared.band.Bands.{Bands}
use Rattle.figure.specs.declared.ends.Ends.{Ends}
use Rattle.figure.specs.declared.fault.FigureFault.{FigureFault}
use Rattle.figure.specs.declared.tick.Ticks.{Ticks}
use Rattle.figure.specs.Bands.{high_end, low_end, point}

-- a result that is a band has just these ends, with nothing put in order
abbrev pub HasEnds : Ends → Result Bands FigureFault → Type 0
HasEnds e (Ok x) = (low_end x ≡ e.low) × (high_end x ≡ e.high)
HasEnds e (Err why) = Unit {0}

-- a tick's outcome as a band's
abbrev pub doubled : Result Ticks FigureFault → Result Bands FigureFault
doubled (Ok a) = Ok (point a.0)
doubled (Err why) = Err why
