use Rattle.std.proofs.Common.{◌≡◌, drop}
use Rattle.ccr_overview.specs.Shorts.{is_hex}
use Rattle.std.specs.List.{list_all}
use Rattle.ccr_overview.proofs.short.are_hex.Given as goal

abbrev pub invariant-loop-byte : goal.invariant-loop-byte
invariant-loop-byte l =
    list_all is_hex (drop l.byte-index l.bytes) ≡ list_all is_hex l.bytes
