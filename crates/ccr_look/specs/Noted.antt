-- The calls that a reader has noted.
use Rattle.std.specs.Prelude.{List}
use Rattle.ccr_look.specs.Calls.{CallData}
use Rattle.ccr_look.specs.declared.noted.Reader.{Reader}

-- all calls on files that a reader has made, each with its answer, in their order
abbrev pub noted : {R : Type 0} → Reader R → List CallData
noted reader = reader.calls.list
