-- What is told of a pin that no version meets.
use Rattle.std.specs.Prelude.{List, [], ◌∷◌, ◌++◌, codes, Bool, false, not, Option, Some, unwrap_or, if◌then◌else◌}
use Rattle.std.specs.List.{list_any}
use Rattle.ccr_history.specs.Changes.{pin_of}
use Rattle.ccr_history.specs.History.{HistoryData}
use Rattle.ccr_history.specs.Tables.{versions_of}
use Rattle.ccr_history.specs.Text.{Text}
use Rattle.ccr_history.specs.TextMap.{TextMap, meets}
use Rattle.ccr_pipeline.specs.JobData.{ResourceData, scope_of}
use Rattle.ccr_pipeline.specs.Named.{resource_of}
use Rattle.ccr_core.specs.Commands.{CommandData, pin_resource}
use Rattle.ccr_core.specs.Holding.{CoreData}
use Rattle.ccr_core.specs.State.{no_pipeline}

-- one of these versions meets the pin
abbrev pub is_met : TextMap → List TextMap → Bool
is_met pin versions = list_any (λ version. meets version pin) versions

-- a resource is there and pinned, and no version in the history of its scope meets the pin
abbrev pub is_unmet : Option ResourceData → Option TextMap → HistoryData → Bool
is_unmet (Some r) (Some pin) h = not (is_met pin (versions_of (scope_of r) h.tables))
is_unmet r pin h = false

-- the resource of this name, if the pipeline has one
abbrev pub resource_in : Text → CoreData → Option ResourceData
resource_in name core = resource_of name (unwrap_or core.pipeline no_pipeline).resources

-- the pin by command of the resource of this name is such a pin
abbrev pub has_unmet : Text → CoreData → Bool
has_unmet name core = is_unmet (resource_in name core) (pin_of name core.history.pins) core.history

-- the line about it
abbrev pub unmet_line : Text → Text
unmet_line name =
    codes "hint: " ++ (name ++ (codes ": no version of it has this yet: resource-versions "
    ++ (name ++ (codes " shows those that are there; unpin-resource " ++ (name ++ codes " takes it back")))))

-- its lines: one, if that pin is such a pin
abbrev pub pin_lines : Text → CoreData → List Text
pin_lines name core = if has_unmet name core then unmet_line name ∷ [] else []

-- WHAT IS TOLD OF A PIN that a command has set, by what the core holds behind it: one line, if no version meets it yet.
-- Nothing is told of another command
abbrev pub unmet_lines : CommandData → CoreData → List Text
unmet_lines (pin_resource name pin) core = pin_lines name core
unmet_lines command core = []
