use Rattle.ccr_look.specs.Noted.{noted}
use Rattle.ccr_look.specs.Parts.{Adds}
use Rattle.ccr_look.specs.Reads.{AreVain, place_named}
use Rattle.ccr_look.proofs.copied.copy_with.Given as goal

abbrev pub invariant-loop : goal.invariant-loop
invariant-loop g l = Adds (noted l.fn.reader) (noted l.reader) (AreVain (place_named l.names) l.counter)
