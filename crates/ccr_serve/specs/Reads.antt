-- Pipelines that are read from a file.
use Rattle.std.specs.Prelude.{◌+◌, ℕ, List, length, sum_by, Result, Err}
use Rattle.ccr_pipeline.specs.Pipelines.{PipelineData}
use Rattle.ccr_history.specs.Text.{Text}
use Rattle.ccr_task.specs.Calls.{CallData}
use Rattle.ccr_task.specs.declared.fault.ShelfFault.{ShelfFault}
use Rattle.ccr_task.specs.declared.fault.ShelfFault.TheVariants.{Failed}
use Rattle.ccr_serve.specs.declared.fault.ServeFault.{ServeFault}
use Rattle.ccr_serve.specs.declared.fault.ServeFault.TheVariants.{Read, File, NoMemory}
use Rattle.ccr_serve.specs.Commanding.{IsRead, IsReadFault}

-- the file at this path gives no pipeline for this fault, with the shelf's calls before and after: it was read, and its text
-- is refused, the shelf failed, or it was out of memory
abbrev pub KeepsFromReading : Text → ServeFault → List CallData → List CallData → Type 0
KeepsFromReading path (Read f) before after = IsReadFault path f before after
KeepsFromReading path File before after = IsRead path (Err Failed) before after
KeepsFromReading path NoMemory before after =
    (file : Result (List ℕ) ShelfFault) × IsRead path file before after
KeepsFromReading path f before after = ⊥

-- for how many bytes a pipeline's lines need room
abbrev pub lines_room : PipelineData → ℕ
lines_room p = sum_by (λ path. length path + 8) p.unused + 80
