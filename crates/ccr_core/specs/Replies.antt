-- What the core replies.
use Rattle.std.specs.Prelude.{Result}
use Rattle.ccr_core.specs.declared.fault.CoreFault.{CoreFault}
use Rattle.ccr_core.specs.declared.reply.Reply.{Reply}

-- a reply, or the fault with which an event is refused
abbrev pub Replied : Type 0
Replied = Result Reply CoreFault
