-- What is noted of jobs while they are read, and told once all of them are.
use Rattle.std.specs.Prelude.{◌≡◌, List, [], ◌++◌, Option, None, option_map, Result, Ok, Err, String, string_bytes, codes}
use Rattle.std.specs.Option.{option_or}
use Rattle.std.specs.List.{flat_map}
use Rattle.std.specs.declared.alloc.Global.{Global}
use Rattle.serde_json.specs.Data.{Data}
use Rattle.ccr_pipeline.specs.declared.fault.Rule.{Rule}
use Rattle.ccr_pipeline.specs.declared.fault.ReadFault.{ReadFault}
use Rattle.ccr_pipeline.specs.declared.notes.Notes.{Notes}
use Rattle.ccr_pipeline.specs.declared.schema.Schema.TheVariants as schema
use Rattle.ccr_pipeline.specs.declared.schema.TheConstants.{NESTED}
use Rattle.ccr_pipeline.specs.Faults.{Path, first, IsFirst}
use Rattle.ccr_pipeline.specs.JobRules.{list_names}
use Rattle.ccr_pipeline.specs.Names.{names_of, with_names}
use Rattle.ccr_pipeline.specs.Places.{Spot, gets_at}
use Rattle.ccr_pipeline.specs.Schema.{schema_of}
use Rattle.ccr_pipeline.specs.StepRules.{visits}
use Rattle.ccr_pipeline.specs.Tree.{Text}
use Rattle.ccr_pipeline.specs.Unknown.{unknown_names, unknown_spots}
use Rattle.ccr_pipeline.specs.Unused.{unused_spot, unused_object}

-- a fault, with its path by the path's bytes
abbrev pub told : Option (Rule × String Global) → Option (Rule × Path)
told o = option_map (λ f. (f.0, string_bytes f.1)) o

-- what is known of a pipeline, the names of its resources and jobs, and what is noted: the first name that isn't
-- there, and the unused keys
pub record NotesData : Type 0 where
  pub resources : List Text
  pub jobs : List Text
  pub unknown : Option (Rule × Path)
  pub unused : List Path

-- what is noted, without where it lies in memory
abbrev pub notes_data : Notes → NotesData
notes_data n = record {
  resources = n.resources;
  jobs = n.jobs;
  unknown = told n.unknown;
  unused = names_of n.unused.items;
}

-- the notes after one more step
unfoldable pub with_step : NotesData → Path → Data → NotesData
with_step n p d = record {
  resources = n.resources;
  jobs = n.jobs;
  unknown = option_or n.unknown (first (unknown_names n.resources n.jobs p d));
  unused = n.unused ++ unused_object NESTED (schema_of d) p d;
}

-- the notes after more visits of steps
unfoldable pub with_visits : NotesData → List Spot → NotesData
with_visits n xs = record {
  resources = n.resources;
  jobs = n.jobs;
  unknown = option_or n.unknown (first (unknown_spots n.resources n.jobs xs));
  unused = n.unused ++ flat_map unused_spot xs;
}

-- visits of a job's steps, after gets of these names and with these notes, that break no rule: the names and the notes
-- after them
abbrev pub Walked : List Text → NotesData → List Spot → List Text → NotesData → Type 0
Walked gets n xs more m = (visits gets xs ≡ []) × (more ≡ gets ++ flat_map gets_at xs) × (m ≡ with_visits n xs)

-- visits of a job's steps: the first rule that they break is told, if they break one
abbrev pub WalksAs :
    {T : Type 0} → List Text → NotesData → List Spot → Result T ReadFault → List Text → NotesData → Type 0
WalksAs gets n xs (Ok t) more m = Walked gets n xs more m
WalksAs gets n xs (Err e) more m = IsFirst (visits gets xs) e

-- the same of notes where they lie in memory
abbrev pub Walks : {T : Type 0} → Notes → List Spot → Result T ReadFault → Notes → Type 0
Walks old xs r new = WalksAs old.gets (notes_data old) xs r new.gets (notes_data new)

-- what is known and noted of a pipeline before its jobs are read: the names of its resources, those of its jobs, each
-- once, and the unused keys of all but the steps
pub record IsBefore (d : Data) (n : NotesData) : Type 0 where
  pub resources : n.resources ≡ list_names (codes "resources") d
  pub jobs : n.jobs ≡ with_names [] (list_names (codes "jobs") d)
  pub unknown : n.unknown ≡ None
  pub unused : n.unused ≡ unused_object NESTED schema.Pipeline [] d
