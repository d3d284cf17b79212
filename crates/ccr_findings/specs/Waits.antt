-- How jobs that wait for each other are looked for.
use Rattle.std.specs.Prelude.{ℕ, ◌+◌, List, [], ◌∷◌, Bool, false, ◌||◌, Option, Some, None, is_some, if◌then◌else◌}
use Rattle.std.specs.Option.{option_or}
use Rattle.std.specs.Str.{bytes_eq}
use Rattle.ccr_pipeline.specs.Names.{has_name}
use Rattle.ccr_pipeline.specs.Tree.{Text}
use Rattle.ccr_findings.specs.Cycles.{WaitData, IsCycle}

-- a job of these has the name
abbrev pub is_named : List WaitData → Text → Bool
is_named [] name = false
is_named (w ∷ ws) name = bytes_eq w.name name || is_named ws name

-- the first job that one waits for that waits for these names
abbrev pub waited : List WaitData → List Text → Option Text
waited [] names = None
waited (w ∷ ws) names = if has_name names w.name then Some w.name else waited ws names

-- the first job of all that the job of this name waits for, among these
abbrev pub next_in : List WaitData → List WaitData → Text → Option Text
next_in all [] name = None
next_in all (w ∷ ws) name =
    if bytes_eq w.name name then option_or (waited all w.waits) (next_in all ws name) else next_in all ws name

-- where the first one is that waits for none of all, from position i on
abbrev pub idle_from : List WaitData → ℕ → List WaitData → Option ℕ
idle_from all i [] = None
idle_from all i (w ∷ ws) = if is_some (waited all w.waits) then idle_from all (i + 1) ws else Some i

-- the first that waits for none of all
abbrev pub idle_in : List WaitData → Option ℕ
idle_in ws = idle_from ws 0 ws

-- where a name is among names, from position i on
abbrev pub place_from : ℕ → Text → List Text → Option ℕ
place_from i name [] = None
place_from i name (n ∷ ns) = if bytes_eq n name then Some i else place_from (i + 1) name ns

-- the same jobs wait for each other among both
abbrev pub HaveSameCycles : List WaitData → List WaitData → Type 0
HaveSameCycles vs ws = (names : List Text) → (IsCycle vs names → IsCycle ws names) × (IsCycle ws names → IsCycle vs names)
