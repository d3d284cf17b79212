-- The pairs that a runner keeps, and what a call adds to them.
use Rattle.std.specs.Prelude.{◌≡◌, ◌⊎◌, List, [], ◌∷◌, ◌++◌, map, drop, Bool, if◌then◌else◌}
use Rattle.ccr_process.specs.Launches.{LaunchData, launch_data}
use Rattle.ccr_process.specs.Ends.{EndData, end_data, not_started, no_memory}
use Rattle.ccr_process.specs.declared.launch.Launch.{Launch}
use Rattle.ccr_process.specs.declared.ended.Ended.{Ended}
use Rattle.ccr_process.specs.declared.scripted.Scripted.{Scripted}
use Rattle.ccr_process.specs.declared.machine.Machine.{Machine}
use Rattle.ccr_process.specs.declared.starter.Starter.{Starter}

-- a launch, and how it ended
abbrev pub Pair : Type 0
Pair = LaunchData × EndData

-- the pairs, each without where it lies in memory
abbrev pub pairs_of : List (Launch × Ended) → List Pair
pairs_of pairs = map (λ p. (launch_data p.0, end_data p.1)) pairs

-- one more pair, that of the launch and its end; or none, where memory is wanted
abbrev pub AddsPair : List Pair → LaunchData → EndData → List Pair → Type 0
AddsPair old launch end new = (new ≡ old ++ (launch, end) ∷ []) ⊎ ((end ≡ no_memory) × (new ≡ old))

-- the end that a script gives next: its first, and no start where it has none
abbrev pub next_end : List EndData → EndData
next_end [] = not_started
next_end (end ∷ ends) = end

-- a script's next end with its pair, and the ends after it; or, where memory is wanted, nothing is changed
abbrev pub Plays : List EndData → List Pair → LaunchData → EndData → List EndData → List Pair → Type 0
Plays old_ends old launch end new_ends new =
    ((end ≡ next_end old_ends) × (new_ends ≡ drop 1 old_ends) × (new ≡ old ++ (launch, end) ∷ []))
    ⊎ ((end ≡ no_memory) × (new_ends ≡ old_ends) × (new ≡ old))

-- the pairs that a script has added
abbrev pub script_pairs : Scripted → List Pair
script_pairs s = pairs_of s.done.items

-- the ends that a script has left
abbrev pub ends_left : Scripted → List EndData
ends_left s = map end_data s.ends.items

-- the launches of which the system was told
abbrev pub starter_launches : {R P I O E : Type 0} → Starter R P I O E → List LaunchData
starter_launches s = map (λ launch. launch_data launch.value) s.launches.items

-- the launches of which a machine has told the system
abbrev pub machine_launches : {R P I O E : Type 0} → Machine R P I O E → List LaunchData
machine_launches m = starter_launches m.starter

-- A MACHINE RUNS a launch, which can be told to the system or not: there is one more pair, that of the launch and its end, and
-- the system was told of it once, or not at all where it can't be; or, out of memory, there is none, and the system was
-- told nothing
abbrev pub RunsOnce : Bool → List Pair → List LaunchData → LaunchData → EndData → List Pair → List LaunchData → Type 0
RunsOnce can old told launch end new now =
    ((new ≡ old ++ (launch, end) ∷ []) × (now ≡ (if can then told ++ launch ∷ [] else told)))
    ⊎ ((end ≡ no_memory) × (new ≡ old) × (now ≡ told))

-- the pairs that a machine has added
abbrev pub machine_pairs : {R P I O E : Type 0} → Machine R P I O E → List Pair
machine_pairs m = map (λ p. (launch_data p.0.value, end_data p.1.value)) m.done.items
