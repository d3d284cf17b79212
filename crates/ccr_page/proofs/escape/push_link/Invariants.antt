use Rattle.std.proofs.Common.{◌≡◌, ◌++◌, take, flat_map}
use Rattle.ccr_page.specs.Texts.{link_byte}
use Rattle.ccr_page.proofs.escape.push_link.Given as goal

abbrev pub invariant-loop-byte : goal.invariant-loop-byte
invariant-loop-byte l = l.out.items ≡ l.fn.out.items ++ flat_map link_byte (take l.byte-index l.text)
