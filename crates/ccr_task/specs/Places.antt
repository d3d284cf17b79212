-- Where programs lie and builds work.
use Rattle.std.specs.Prelude.{ℕ, ◌∷◌, ◌++◌, Option, option_map, string_bytes, decimal, codes}
use Rattle.ccr_pipeline.specs.Tree.{Text}
use Rattle.ccr_task.specs.declared.places.Places.{Places}

-- the folders of the resource types' programs and of the builds, and the launcher, if there is one
pub record PlacesData : Type 0 where
  pub types : Text
  pub work : Text
  pub launcher : Option Text

-- the folders and the launcher as their paths
abbrev pub places_data : Places → PlacesData
places_data p = record {
  types = string_bytes p.types;
  work = string_bytes p.work;
  launcher = option_map string_bytes p.launcher;
}

-- what lies in a folder under a name: the folder, a slash, the name
abbrev pub below : Text → Text → Text
below folder name = folder ++ 47 ∷ name

-- a resource type's programs lie in the type's folder
abbrev pub program_path : PlacesData → Text → Text → Text
program_path places kind name = below (below places.types kind) name

-- a build works in the folder of its number in its job's folder
abbrev pub build_folder : PlacesData → Text → ℕ → Text
build_folder places job number = below (below places.work job) (decimal number)

-- all artifacts of a build lie beside each other in its folder, under their own names
abbrev pub in_build : PlacesData → Text → ℕ → Text → Text
in_build places job number name = below (build_folder places job number) name

-- a build is asked to be aborted by a folder beside its own, whose name says so with the build's number
abbrev pub abort_folder : PlacesData → Text → ℕ → Text
abort_folder places job number = below (below places.work job) (codes "abort-" ++ decimal number)
