use Rattle.std.proofs.Common.{◌≡◌, length}
use Rattle.ccr_history.specs.TextMap.{TextMap}
use Rattle.ccr_history.specs.Members.{has_members, IsLeft}
use Rattle.ccr_history.proofs.key_text.has_members.Given as goal

abbrev pub invariant-loop-member : goal.invariant-loop-member
invariant-loop-member l = (fields wanted : TextMap) → IsLeft fields l.text → IsLeft wanted l.fn.wanted → (left : TextMap) × IsLeft left l.rest × (has_members fields left ≡ has_members fields wanted)

abbrev pub decreases-loop-member : goal.decreases-loop-member
decreases-loop-member l = length l.rest
