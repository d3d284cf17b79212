-- How the resources of a pipeline stand, as JSON.
use Rattle.std.specs.Prelude.{List, length, map, codes}
use Rattle.serde_json.specs.Data.{Data, number, unsigned, string, object, no_members, member}
use Rattle.ccr_history.specs.Text.{Text}
use Rattle.ccr_history.specs.Tables.{versions_of}
use Rattle.ccr_history.specs.Changes.{pin_of}
use Rattle.ccr_history.specs.History.{HistoryData}
use Rattle.ccr_pipeline.specs.JobData.{ResourceData}
use Rattle.ccr_problem.specs.ProblemOf.{scope_of}
use Rattle.ccr_core.specs.declared.form.Form.{Form}
use Rattle.ccr_core.specs.declared.form.Form.TheVariants as form
use Rattle.ccr_lines.specs.Json.{list, fields_json, json_line}
use Rattle.ccr_lines.specs.Standing.{resources_lines}

-- a resource with its type, how many versions its scope has, and the pins that hold all its inputs: that of the pipeline,
-- and that by command
abbrev pub resource_json : HistoryData → ResourceData → Data
resource_json h r =
    object (member (codes "name") (string r.name)
    (member (codes "pinned_by_pipeline") (fields_json r.version)
    (member (codes "pinned_version") (fields_json (pin_of r.name h.pins))
    (member (codes "type") (string r.kind)
    (member (codes "version_count") (number (unsigned (length (versions_of (scope_of r) h.tables)))) no_members)))))

-- THE RESOURCES, in their order
abbrev pub resources_json : HistoryData → List ResourceData → Data
resources_json h rs = list (map (λ r. resource_json h r) rs)

-- the same in one of the forms
abbrev pub resources_shown : Form → HistoryData → List ResourceData → Text
resources_shown form.Lines h rs = resources_lines h rs
resources_shown form.Json h rs = json_line (resources_json h rs)
