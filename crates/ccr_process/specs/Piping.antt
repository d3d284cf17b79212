-- The calls that a program's two pipes have had.
use Rattle.std.specs.Prelude.{List}
use Rattle.ccr_process.specs.Pipes.{CallData}
use Rattle.ccr_process.specs.declared.pipe.Input.{Input}
use Rattle.ccr_process.specs.declared.pipe.Output.{Output}

-- the writes of an input so far
abbrev pub writes : {W : Type 0} → Input W → List CallData
writes input = input.calls.list

-- the reads of an output so far
abbrev pub reads : {R : Type 0} → Output R → List CallData
reads output = output.calls.list
