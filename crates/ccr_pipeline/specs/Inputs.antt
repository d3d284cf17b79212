-- The inputs of a job: its gets in the order of the plan.
use Rattle.std.specs.Prelude.{Bool, List, [], ◌∷◌, ◌++◌, length, ◌&&◌, nat_le, map, string_bytes}
use Rattle.ccr_pipeline.specs.declared.read_job.TheConstants.{MOST_INPUTS}
use Rattle.ccr_pipeline.specs.declared.input.Input.{Input}
use Rattle.ccr_pipeline.specs.declared.step.When.TheVariants.{OnError, OnAbort}
use Rattle.ccr_pipeline.specs.Names.{with_names}
use Rattle.ccr_pipeline.specs.Tree.{Text, WantedData, wanted_data, GetData, Tree, Trees, get, put, task, in_order, in_parallel, tried, attempts, hook, no_trees, tree}

-- what an input holds
pub record InputData : Type 0 where
  pub name : Text
  pub resource : Text
  pub passed : List Text
  pub trigger : Bool
  pub wanted : WantedData

-- what an input holds, without where it lies in memory
abbrev pub input_data : Input → InputData
input_data i = record {
  name = string_bytes i.name;
  resource = string_bytes i.resource;
  passed = map string_bytes i.passed.items;
  trigger = i.trigger;
  wanted = wanted_data i.wanted;
}

-- the input that a get makes
abbrev pub input_from : GetData → InputData
input_from g = record {
  name = g.name;
  resource = g.resource;
  passed = g.passed;
  trigger = g.trigger;
  wanted = g.wanted;
}

-- the inputs of a step: those of its own steps in list order, then those of its hooks; those of on_error come before
-- those of on_abort, though on_abort is further in
abbrev mutual
  pub inputs : Tree → List InputData
  inputs (get g) = input_from g ∷ []
  inputs (put p) = []
  inputs (task t) = []
  inputs (in_order ts) = inputs_in ts
  inputs (in_parallel ts fast) = inputs_in ts
  inputs (tried t) = inputs t
  inputs (attempts n t) = inputs t
  inputs (hook OnError (hook OnAbort t aborted) errored) = inputs t ++ (inputs errored ++ inputs aborted)
  inputs (hook w t h) = inputs t ++ inputs h

  -- the inputs of a list's steps, in its order
  pub inputs_in : Trees → List InputData
  inputs_in no_trees = []
  inputs_in (tree t ts) = inputs t ++ inputs_in ts

-- the names, and the jobs that the inputs name in passed, each once
abbrev pub named_jobs : List Text → List InputData → List Text
named_jobs names [] = names
named_jobs names (i ∷ is) = named_jobs (with_names names i.passed) is

-- at most 32 inputs, which name at most 32 jobs
abbrev pub are_few : List InputData → Bool
are_few is = nat_le (length is) MOST_INPUTS && nat_le (length (named_jobs [] is)) MOST_INPUTS
