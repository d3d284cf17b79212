-- Where a version went, as JSON.
use Rattle.std.specs.Prelude.{List, map, ◌&&◌, codes, decimal}
use Rattle.serde_json.specs.Data.{Data, boolean, string, object, no_members, member}
use Rattle.ccr_history.specs.Text.{Text}
use Rattle.ccr_history.specs.Builds.{is_succeeded}
use Rattle.ccr_core.specs.declared.form.Form.{Form}
use Rattle.ccr_core.specs.declared.form.Form.TheVariants as form
use Rattle.ccr_lines.specs.declared.trace.Went.{Went}
use Rattle.ccr_lines.specs.Json.{list, json_line}
use Rattle.ccr_lines.specs.Lines.{status_word}
use Rattle.ccr_lines.specs.Traces.{trace_lines}

-- a build with what became of a version there: it was taken; it was moved; it passed the job, which is that it was moved by
-- a build that succeeded
abbrev pub went_json : Went → Data
went_json w =
    object (member (codes "job_name") (string w.build.job)
    (member (codes "moved") (boolean w.moved)
    (member (codes "name") (string (decimal w.build.number))
    (member (codes "passed") (boolean (w.moved && is_succeeded w.build.status))
    (member (codes "status") (string (status_word w.build.status))
    (member (codes "took") (boolean w.took) no_members))))))

-- these builds, as a list
abbrev pub trace_json : List Went → Data
trace_json ws = list (map went_json ws)

-- the same in one of the forms
abbrev pub trace_shown : Form → List Went → Text
trace_shown form.Lines ws = trace_lines ws
trace_shown form.Json ws = json_line (trace_json ws)
