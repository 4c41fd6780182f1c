-- What the bytes so far spell, and that it has at most four bits for each.
use Rattle.std.proofs.Common.{◌≡◌, ◌^◌, ◌<◌, drop}
use Rattle.hexline.specs.Hex.{spelled}
use Rattle.hexline.proofs.line.read.Given as goal

abbrev pub invariant-loop-byte : goal.invariant-loop-byte
invariant-loop-byte l =
    (l.word < 16 ^ l.byte-index) × (spelled l.word (drop l.byte-index l.line) ≡ spelled 0 l.line)
