use Rattle.std.proofs.Common.{◌≡◌, take, flat_map}
use Rattle.ccr_lines.specs.Graphs.{label_byte}
use Rattle.ccr_lines.proofs.label.label_of.Given as goal

abbrev pub invariant-loop-byte : goal.invariant-loop-byte
invariant-loop-byte l = l.text.items ≡ flat_map label_byte (take l.byte-index l.byte-items)
