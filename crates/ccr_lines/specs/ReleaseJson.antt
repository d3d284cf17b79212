-- What a build took and moved, and the earlier builds through which that went together, as JSON.
use Rattle.std.specs.Prelude.{ℕ, List, map, Option, codes, decimal}
use Rattle.std.specs.Option.{option_map_or}
use Rattle.serde_json.specs.Data.{Data, null, number, unsigned, string, object, no_members, member}
use Rattle.ccr_history.specs.Text.{Text}
use Rattle.ccr_history.specs.Tables.{TableData, at_place, versions_at}
use Rattle.ccr_history.specs.Builds.{UsedData, BuildData}
use Rattle.ccr_core.specs.declared.form.Form.{Form}
use Rattle.ccr_core.specs.declared.form.Form.TheVariants as form
use Rattle.ccr_lines.specs.Json.{list, fields_json, json_line}
use Rattle.ccr_lines.specs.Lines.{status_word}
use Rattle.ccr_lines.specs.Releases.{TogetherData, resource_at, release_lines}

-- ---- versions
-- the version at a place of the scope of this number
abbrev pub version_json : List TableData → ℕ → ℕ → Data
version_json tables scope place = fields_json (at_place place (versions_at scope tables))

-- what a build took for one of its inputs
abbrev pub took_json : List TableData → UsedData → Data
took_json tables u =
    object (member (codes "name") (string u.input)
    (member (codes "place") (number (unsigned u.place))
    (member (codes "resource") (string (resource_at tables u.scope))
    (member (codes "version") (version_json tables u.scope u.place) no_members))))

-- what a build moved
abbrev pub moved_json : List TableData → ℕ × ℕ → Data
moved_json tables q =
    object (member (codes "place") (number (unsigned q.1))
    (member (codes "resource") (string (resource_at tables q.0))
    (member (codes "version") (version_json tables q.0 q.1) no_members)))

-- ---- what went together
-- the number of a build, as it is named; null where there is none
abbrev pub number_json : Option ℕ → Data
number_json found = option_map_or (λ n. string (decimal n)) found null

-- the build of a job that shows that pairs passed it together; null in place of its number where there is none
abbrev pub witness_json : Text → Option ℕ → Data
witness_json job found =
    object (member (codes "job_name") (string job) (member (codes "name") (number_json found) no_members))

-- ---- a build
-- a build, with these values of what it took, of what it moved, and of the builds through which that had gone together
abbrev pub release_object : BuildData → List Data → List Data → List Data → Data
release_object b took moved together =
    object (member (codes "inputs") (list took)
    (member (codes "job_name") (string b.job)
    (member (codes "moved") (list moved)
    (member (codes "name") (string (decimal b.number))
    (member (codes "status") (string (status_word b.status))
    (member (codes "together") (list together) no_members))))))

-- how it stands, what it took, through which builds that had gone together, and what it moved
abbrev pub release_json : List TableData → BuildData → List TogetherData → Data
release_json tables b ts =
    release_object b (map (λ u. took_json tables u) b.used) (map (λ q. moved_json tables q) b.moved)
    (map (λ t. witness_json t.job t.number) ts)

-- the same in one of the forms
abbrev pub release_shown : Form → List TableData → BuildData → List TogetherData → Text
release_shown form.Lines tables b ts = release_lines tables b ts
release_shown form.Json tables b ts = json_line (release_json tables b ts)
