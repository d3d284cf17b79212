-- The inputs of a build, by name.
use Rattle.std.specs.Prelude.{◌≡◌, List, map, string_bytes, IsTrue, ⊤}
use Rattle.ccr_history.specs.TextMap.{TextMap}
use Rattle.ccr_pipeline.specs.Limits.{input_names}
use Rattle.ccr_pipeline.specs.Names.{has_name}
use Rattle.ccr_pipeline.specs.Tree.{Text, Tree, get}
use Rattle.ccr_steps.specs.declared.inputs.ChosenInput.{ChosenInput}
use Rattle.ccr_steps.specs.declared.inputs.Inputs.{Inputs}
use Rattle.ccr_steps.specs.Asks.{Chosen}

-- an input's name and its version, without where they lie in memory
abbrev pub chosen_data : ChosenInput → Text × TextMap
chosen_data i = (string_bytes i.name, i.version)

-- the names and the versions of a build's inputs, in order
abbrev pub inputs_data : Inputs → Chosen
inputs_data is = map chosen_data is.chosen.items

-- the names of the inputs that have a version
abbrev pub chosen_names : Chosen → List Text
chosen_names c = map (λ i. i.0) c

-- each input of a plan has a version, in order
abbrev pub HasEach : Chosen → Tree → Type 0
HasEach c t = chosen_names c ≡ input_names t

-- if the step is a get, a version was chosen for it
abbrev pub HasVersion : Chosen → Tree → Type 0
HasVersion c (get d) = IsTrue (has_name (chosen_names c) d.name)
HasVersion c t = ⊤
