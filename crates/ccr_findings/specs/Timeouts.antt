-- What a timeout does.
use Rattle.std.specs.Prelude.{codes, if◌then◌else◌}
use Rattle.serde_json.specs.Data.{Data}
use Rattle.ccr_pipeline.specs.Kinds.{is_text}
use Rattle.ccr_pipeline.specs.Tree.{Text}

-- what to do about the timeout of a get, put or task step: a text is handed to a launcher, and any other value to nobody
abbrev pub timeout_remedy : Data → Text
timeout_remedy d =
    if is_text d then
    codes "only a launcher (--launcher) ends it then; without one, wrap the program in one that has a time limit" else
    codes "as a text it has an effect, with a launcher alone"
