-- The calls on files, each with its answer.
use Rattle.std.specs.Prelude.{ℕ, List, take, Bool, Result, Ok, Err}
use Rattle.ccr_look.specs.declared.calls.Trouble.{Trouble}
use Rattle.ccr_look.specs.declared.calls.Found.{Found}
use Rattle.ccr_look.specs.declared.calls.Call.{Call}
use Rattle.ccr_look.specs.declared.calls.Call.TheVariants.{Look, Open, Read}

-- a call on files: it was looked what is at a path; what is there was opened, if anything is; or what was opened there was read, and
-- gave these bytes
pub data CallData : Type 0 where
  looked : List ℕ → Found → CallData
  opened : List ℕ → Result Bool Trouble → CallData
  gave : List ℕ → Result (List ℕ) Trouble → CallData

-- the read of what was opened at a path that moves bytes to the front of these, and answers so
abbrev pub read_of : List ℕ → List ℕ → Result ℕ Trouble → CallData
read_of path bytes (Ok count) = gave path (Ok (take count bytes))
read_of path bytes (Err trouble) = gave path (Err trouble)

-- a call, without where it lies in memory
abbrev pub call_data : Call → CallData
call_data (Look path found) = looked path.now found
call_data (Open path answer) = opened path.now answer
call_data (Read path bytes answer) = read_of path.now bytes.now answer
