-- What is live: the newest build of a job that succeeded, with what it took.
use Rattle.std.specs.Prelude.{◌≡◌, ℕ, List, [], ◌∷◌, ◌++◌, flat_map, map, Option, Some, None, codes, decimal}
use Rattle.serde_json.specs.Data.{Data, null, string, object, no_members, member}
use Rattle.ccr_history.specs.Text.{Text}
use Rattle.ccr_history.specs.Tables.{TableData}
use Rattle.ccr_history.specs.Builds.{UsedData, BuildData, is_succeeded}
use Rattle.ccr_history.specs.History.{HistoryData}
use Rattle.ccr_core.specs.declared.form.Form.{Form}
use Rattle.ccr_core.specs.declared.form.Form.TheVariants as form
use Rattle.ccr_lines.specs.Json.{list, json_line}
use Rattle.ccr_lines.specs.Lines.{line}
use Rattle.ccr_lines.specs.Newest.{newest_of}
use Rattle.ccr_lines.specs.ReleaseJson.{took_json}
use Rattle.ccr_lines.specs.Releases.{key_at}

-- THE LIVE BUILD of a job: the newest that succeeded
abbrev pub live_of : Text → HistoryData → Option BuildData
live_of job h = newest_of (λ b. is_succeeded b.status) job h

-- ---- as a line
-- what a build took for one of its inputs, behind a comma
abbrev pub live_words : List TableData → UsedData → Text
live_words tables u = codes ", " ++ (u.input ++ (codes " " ++ key_at tables u.scope u.place))

-- a build with what it took, names ascending; or that there is none
abbrev pub live_line : List TableData → Text → Option BuildData → Text
live_line tables job (Some b) =
    line (b.job ∷ codes " " ∷ decimal b.number ∷ flat_map (live_words tables) b.used ∷ [])
live_line tables job None = line (codes "no build of " ∷ job ∷ codes " has succeeded" ∷ [])

-- ---- as JSON
-- a build, with these values of what it took
abbrev pub live_object : BuildData → List Data → Data
live_object b took =
    object (member (codes "inputs") (list took)
    (member (codes "job_name") (string b.job)
    (member (codes "name") (string (decimal b.number)) no_members)))

-- a build with what it took; null where there is none
abbrev pub live_json : List TableData → Option BuildData → Data
live_json tables (Some b) = live_object b (map (λ u. took_json tables u) b.used)
live_json tables None = null

-- ---- in either form
-- the same in one of the forms
abbrev pub live_text : Form → List TableData → Text → Option BuildData → Text
live_text form.Lines tables job found = live_line tables job found
live_text form.Json tables job found = json_line (live_json tables found)

-- 0 if there is one, else 1
abbrev pub live_status : Option BuildData → ℕ
live_status (Some b) = 0
live_status None = 1

-- WHAT IS SHOWN of what is live of a job; the status tells whether there is such a build
abbrev pub IsLiveShown : Form → HistoryData → Text → ℕ → Text → Type 0
IsLiveShown form h job status lines =
    (status ≡ live_status (live_of job h)) × (lines ≡ live_text form h.tables job (live_of job h))
