-- How a program ended.
use Rattle.std.specs.Prelude.{◌≡◌, ◌≤◌, ℕ, List, [], Bool, false, length, ⊤}
use Rattle.ccr_process.specs.declared.pipes.TheConstants.{MOST_OUTPUT}
use Rattle.ccr_process.specs.declared.ended.Ended.{Ended}
use Rattle.ccr_process.specs.declared.ended.Ended.TheVariants.{Exit, Killed, NotStarted, InputFault, ReadFault, OutputTooLong, NoMemory}

-- an end without where it lies in memory
pub data EndData : Type 0 where
  exited : ℕ → List ℕ → EndData
  killed : ℕ → EndData
  not_started : EndData
  input_fault : EndData
  read_fault : EndData
  output_too_long : EndData
  no_memory : EndData

-- what an end holds
abbrev pub end_data : Ended → EndData
end_data (Exit status output) = exited status output.items
end_data (Killed signal) = killed signal
end_data NotStarted = not_started
end_data InputFault = input_fault
end_data ReadFault = read_fault
end_data OutputTooLong = output_too_long
end_data NoMemory = no_memory

-- an output has at most as many bytes as are kept, and none where it isn't kept
abbrev pub IsOutput : Bool → List ℕ → Type 0
IsOutput keep output = (length output ≤ MOST_OUTPUT) × (keep ≡ false → output ≡ [])

-- an end holds such an output
abbrev pub HasOutput : Bool → EndData → Type 0
HasOutput keep (exited status output) = IsOutput keep output
HasOutput keep (killed signal) = ⊤
HasOutput keep not_started = ⊤
HasOutput keep input_fault = ⊤
HasOutput keep read_fault = ⊤
HasOutput keep output_too_long = ⊤
HasOutput keep no_memory = ⊤
