-- The lists of jobs that stand still, and of those that go on by themselves.
use Rattle.std.specs.Prelude.{ℕ, ◌+◌, List, [], ◌∷◌, ◌++◌, length, take, drop, flat_map, slice_get, Bool, false, ◌==◌, if◌then◌else◌, Option, Some, None, codes, string_bytes}
use Rattle.std.specs.Option.{option_map_or}
use Rattle.ccr_page.specs.Statuses.{is_as_urgent}
use Rattle.ccr_page.specs.Pieces.{PieceData, Markup, Cut, Number, Kind}
use Rattle.ccr_page.specs.Sentences.{anchor, sentence}
use Rattle.ccr_page.specs.declared.data.Urgency.{Urgency}
use Rattle.ccr_page.specs.declared.data.Urgency.TheVariants.{Stopped, Held, Going}
use Rattle.ccr_page.specs.declared.data.Why.{Why}
use Rattle.ccr_page.specs.declared.data.Job.{Job}
use Rattle.ccr_page.specs.declared.template.TheConstants.{STILL, GOING}

-- What stands still is so urgent.
abbrev pub is_urgent : Urgency → Option Why → Bool
is_urgent u None = false
is_urgent u (Some why) = is_as_urgent u why.urgency

-- The positions of jobs that are so urgent, from this one on.
abbrev pub positions : Urgency → ℕ → List Job → List ℕ
positions u n [] = []
positions u n (j ∷ js) = if is_urgent u j.why then n ∷ positions u (n + 1) js else positions u (n + 1) js

-- A job and why it stands still.
abbrev pub why_pieces : ℕ → Job → Why → List PieceData
why_pieces i j why =
    (Markup (codes "<li class=") ∷ Kind why.urgency ∷ Markup (codes "><b>") ∷ [])
    ++ anchor (codes "<a href=#j") i (codes ">") (string_bytes j.name) ++ (Markup (codes "</b> ") ∷ []) ++ sentence why.words.items
    ++ (Markup (codes ".</li>") ∷ [])

-- The same, if there is such a job, and a reason.
abbrev pub still_pieces : List Job → ℕ → List PieceData
still_pieces jobs i = option_map_or (λ j. option_map_or (λ why. why_pieces i j why) j.why []) (slice_get jobs i) []

-- Jobs at these positions.
abbrev pub items_pieces : List Job → List ℕ → List PieceData
items_pieces jobs is = flat_map (still_pieces jobs) is

-- Those that are folded away, with their number.
abbrev pub folded_pieces : List Job → List ℕ → List PieceData
folded_pieces jobs is =
    (Markup (codes "<details><summary>") ∷ Number (length is) ∷ Markup (codes " more</summary><ul class=why>") ∷ [])
    ++ items_pieces jobs is ++ (Markup (codes "</ul></details>") ∷ [])

-- The same, if there are any.
abbrev pub more_pieces : List Job → List ℕ → List PieceData
more_pieces jobs is = if length is == 0 then [] else folded_pieces jobs is

-- A LIST: the first twelve, and the others folded away.
abbrev pub list_pieces : List Job → List ℕ → List PieceData
list_pieces jobs is =
    (Markup (codes "<ul class=why>") ∷ []) ++ items_pieces jobs (take 12 is) ++ (Markup (codes "</ul>") ∷ [])
    ++ more_pieces jobs (drop 12 is)

-- The jobs that stand still: first those that something stopped, then those that a pin or the like holds.
abbrev pub still_positions : List Job → List ℕ
still_positions jobs = positions Stopped 0 jobs ++ positions Held 0 jobs

-- That no job stands still, where there are jobs.
abbrev pub nothing_still : List Job → List PieceData
nothing_still jobs = if length jobs == 0 then [] else Markup (codes "<p class=ok>Nothing stands still.</p>\n") ∷ []

-- The list of those that stand still.
abbrev pub still_list : List Job → List ℕ → List PieceData
still_list jobs is = (Markup STILL.now ∷ []) ++ list_pieces jobs is ++ (Markup (codes "</section>\n") ∷ [])

-- WHAT STANDS STILL.
abbrev pub still_section : List Job → List ℕ → List PieceData
still_section jobs is = if length is == 0 then nothing_still jobs else still_list jobs is

-- The list of those that go on by themselves.
abbrev pub going_list : List Job → List ℕ → List PieceData
going_list jobs is = (Markup GOING.now ∷ []) ++ list_pieces jobs is ++ (Markup (codes "</section>\n") ∷ [])

-- WHAT GOES ON BY ITSELF.
abbrev pub going_section : List Job → List ℕ → List PieceData
going_section jobs is = if length is == 0 then [] else going_list jobs is
