use Rattle.std.proofs.Common.{◌≡◌, take}
use Rattle.ccr_history.specs.Names.{texts_of}
use Rattle.ccr_history.proofs.names.copy_texts.Given as goal

abbrev pub invariant-loop-text : goal.invariant-loop-text
invariant-loop-text l = l.names ≡ texts_of (take l.text-index l.texts)
