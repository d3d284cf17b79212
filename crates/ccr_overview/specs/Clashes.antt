-- What `explain` says of demands that exclude each other.
use Rattle.std.specs.Prelude.{List, drop, Option, Some, None, if◌then◌else◌, codes}
use Rattle.ccr_history.specs.Text.{Text}
use Rattle.ccr_overview.specs.Shorts.{begins}

-- THE DEMANDS that words name as excluding each other, if they name some
abbrev pub behind_clash : Text → Option Text
behind_clash words = if begins (codes "clash: ") words then Some (drop 7 words) else None
