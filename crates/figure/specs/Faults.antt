-- The faults that a kind of figure can give, and their numbers. Assumes nothing.
use Rattle.std.specs.Prelude.{ℕ, List, ◌++◌, codes, decimal}
use Rattle.figure.specs.declared.fault.FigureFault.{FigureFault}
use Rattle.figure.specs.declared.fault.FigureFault.TheVariants.{OutOfRange, ZeroDivisor}

abbrev pub fault_number : FigureFault → ℕ
fault_number OutOfRange = 3
fault_number ZeroDivisor = 4

-- a fault in words
abbrev pub fault_text : FigureFault → List ℕ
fault_text fault = codes "fault " ++ decimal (fault_number fault)
