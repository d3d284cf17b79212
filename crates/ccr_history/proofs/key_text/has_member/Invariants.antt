use Rattle.std.proofs.Common.{◌≡◌, length}
use Rattle.ccr_history.specs.TextMap.{TextMap}
use Rattle.ccr_history.specs.Members.{has_member, IsLeft}
use Rattle.ccr_history.proofs.key_text.has_member.Given as goal

abbrev pub invariant-loop-found : goal.invariant-loop-found
invariant-loop-found l = (fields : TextMap) → IsLeft fields l.text → (left : TextMap) × IsLeft left l.rest × (has_member left l.member ≡ has_member fields l.member)

abbrev pub decreases-loop-found : goal.decreases-loop-found
decreases-loop-found l = length l.rest
