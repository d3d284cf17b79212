use Rattle.std.proofs.Common.{◌≡◌, ◌++◌, take, flat_map}
use Rattle.ccr_page.specs.Texts.{way_byte}
use Rattle.ccr_page.proofs.escape.push_way_bytes.Given as goal

abbrev pub invariant-loop-byte : goal.invariant-loop-byte
invariant-loop-byte l = l.out.items ≡ l.fn.out.items ++ flat_map way_byte (take l.byte-index l.text)
