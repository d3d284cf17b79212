use Rattle.std.proofs.Common.{◌≡◌}
use Rattle.serde_json.specs.View.{items_view}
use Rattle.ccr_protocol.specs.Replies.{versions_reading}
use Rattle.ccr_protocol.proofs.Lists.{left, after}
use Rattle.ccr_protocol.proofs.reply.versions.Given as goal

abbrev pub invariant-loop-member : goal.invariant-loop-member
invariant-loop-member l = versions_reading (items_view l.member-items) ≡ after l.versions.items (versions_reading (left l.member-index l.member-items))
