-- Texts that a pipeline can be read from.
use Rattle.std.specs.Prelude.{◌≡◌, []}
use Rattle.serde_json.specs.Data.{Data}
use Rattle.ccr_history.specs.Text.{Text}
use Rattle.ccr_pipeline.specs.Reading.{IsTextOf, pipeline_faults}

-- a pipeline can be read from the text
abbrev pub IsReadable : Text → Type 0
IsReadable t = (d : Data) × IsTextOf t d × (pipeline_faults d ≡ [])
