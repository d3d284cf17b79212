-- Which launches are named on standard error.
use Rattle.std.specs.Prelude.{List, [], ◌∷◌, ◌++◌, Bool, true, false, not, ◌&&◌, ◌||◌, Option, None, Some, codes, slice_get, if◌then◌else◌}
use Rattle.std.specs.Str.{bytes_eq}
use Rattle.ccr_process.specs.Ends.{EndData, not_started}
use Rattle.ccr_process.specs.Launches.{LaunchData, Text}
use Rattle.ccr_run.specs.Kept.{KeptData, KeepsIf, has_text}

-- the first argument is that of a check, or there is none
abbrev pub is_first_of_check : Option Text → Bool
is_first_of_check None = true
is_first_of_check (Some word) = bytes_eq word (codes "check")

-- a check is started: of all whose output is kept, its program alone has no argument, and a launcher of it has the first word `check`
abbrev pub is_check : LaunchData → Bool
is_check launch = launch.keep && is_first_of_check (slice_get launch.args 0)

-- the program did not start
abbrev pub is_unstarted : EndData → Bool
is_unstarted not_started = true
is_unstarted end = false

-- the program was named before; or memory for one that was ran out, and none is named any more
abbrev pub is_known : LaunchData → KeptData → Bool
is_known launch named = named.is_lost || has_text launch.program named.texts

-- a launch that ended so is named, after these were: it is a check's that did not start, and its program isn't known
abbrev pub is_named : LaunchData → EndData → KeptData → Bool
is_named launch end named = (is_check launch && is_unstarted end) && not (is_known launch named)

-- the line about a program that did not start
abbrev pub hint_line : Text → Text
hint_line program = codes "hint: " ++ (program ++ codes " didn't start; is it there, and executable, and is the program of its first line (#!) there?")

-- THE HINT about a launch that ended so: the line that names its program, where it is named, and else none
abbrev pub hint_about : LaunchData → EndData → KeptData → List Text
hint_about launch end named = if is_named launch end named then hint_line launch.program ∷ [] else []

-- a program that is named is kept, and no other
abbrev pub Remembers : LaunchData → EndData → KeptData → KeptData → Type 0
Remembers launch end old new = KeepsIf (is_named launch end old) launch.program old new
