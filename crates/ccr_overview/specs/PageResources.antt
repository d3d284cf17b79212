-- The resources of a page.
use Rattle.std.specs.Prelude.{ℕ, ◌-◌, List, [], ◌∷◌, ◌++◌, length, map, filter, take, drop, slice_get, Bool, Option, Some, None, option_map, if◌then◌else◌, ◌==◌, codes, decimal}
use Rattle.std.specs.Option.{option_map_or, option_or}
use Rattle.ccr_history.specs.Text.{Text}
use Rattle.ccr_history.specs.TextMap.{TextMap}
use Rattle.ccr_history.specs.Tables.{versions_of}
use Rattle.ccr_history.specs.Changes.{pin_of}
use Rattle.ccr_history.specs.History.{HistoryData}
use Rattle.ccr_pipeline.specs.JobData.{ResourceData}
use Rattle.ccr_problem.specs.ProblemOf.{scope_of}
use Rattle.ccr_lines.specs.Listed.{ListedData, versions_listed}
use Rattle.ccr_overview.specs.Sayings.{joined, separated}
use Rattle.ccr_overview.specs.PageData.{WordData, Plain, Versioned, PageResourceData}
use Rattle.ccr_overview.specs.Each.{each_from}
use Rattle.ccr_overview.specs.Shorts.{short, version_of}

-- ---- what holds it
-- these words and the pin, where there is one
abbrev pub pin_words : Text → Option TextMap → List WordData
pin_words words None = []
pin_words words (Some pin) = Plain words ∷ Versioned (version_of pin) ∷ []

-- the versions that are disabled
abbrev pub disabled_of : List ListedData → List ListedData
disabled_of ls = filter (λ l. l.is_disabled) ls

-- a version with its place
abbrev pub listed_words : ℕ → ListedData → List WordData
listed_words k l =
    separated (codes ", ") k ++ (Plain (decimal l.place ++ codes " ") ∷ Versioned (version_of l.version) ∷ [])

-- that there are more, if there are
abbrev pub further_words : ℕ → List WordData
further_words more = if more == 0 then [] else Plain (codes " and " ++ (decimal more ++ codes " more")) ∷ []

-- the newest five of these versions, and how many there are beside
abbrev pub disabled_words : List ListedData → List WordData
disabled_words [] = []
disabled_words (l ∷ ls) =
    Plain (codes "disabled: ")
    ∷ (each_from listed_words 0 (drop (length (l ∷ ls) - 5) (l ∷ ls)) ++ further_words (length (l ∷ ls) - 5))

-- WHAT HOLDS A RESOURCE: the pin of the pipeline, the one by command, and the versions that are disabled
abbrev pub held_words : HistoryData → ResourceData → List WordData
held_words h r =
    joined (joined (pin_words (codes "pinned by the pipeline to ") r.version) (pin_words (codes "pinned to ") (pin_of r.name h.pins)))
    (disabled_words (disabled_of (versions_listed (scope_of r) h)))

-- ---- the resource
-- the last of these versions
abbrev pub last_of : List TextMap → Option TextMap
last_of vs = slice_get vs (length vs - 1)

-- A RESOURCE: its newest version, how many its scope has, and what holds it
abbrev pub resource_shown : HistoryData → ResourceData → PageResourceData
resource_shown h r = record {
  name = r.name;
  kind = r.kind;
  newest = option_map version_of (last_of (versions_of (scope_of r) h.tables));
  version_count = length (versions_of (scope_of r) h.tables);
  pin = option_map short (option_or (pin_of r.name h.pins) r.version);
  held = held_words h r;
}
