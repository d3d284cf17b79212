-- What a run leaves.
use Rattle.std.specs.Prelude.{Option, None, Some}
use Rattle.ccr_history.specs.Text.{Text}
use Rattle.ccr_core.specs.Cores.{core_data}
use Rattle.ccr_core.specs.declared.parts.Parts.{Parts}
use Rattle.ccr_run.specs.declared.left.Left.{Left}
use Rattle.ccr_run.specs.declared.left.Left.TheVariants.{Served, Unbegun, Unfound, Unopened}

-- the text of the pipeline of the server that is left, if one is and it has a pipeline
abbrev pub text_left : {R F T C : Type 0} → Left R F T C → Option Text
text_left (Served server) = (core_data server.core).history.text
text_left (Unbegun tools storage) = None
text_left (Unfound tools conn) = None
text_left (Unopened tools) = None

-- the core of the server that is left, if one is
abbrev pub core_left : {R F T C : Type 0} → Left R F T C → Option Parts
core_left (Served server) = Some server.core
core_left (Unbegun tools storage) = None
core_left (Unfound tools conn) = None
core_left (Unopened tools) = None
