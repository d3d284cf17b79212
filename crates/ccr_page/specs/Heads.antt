-- The beginning of a page: its head, the counts of its jobs, what runs right now, and when it was made.
use Rattle.std.specs.Prelude.{ℕ, ◌+◌, List, [], ◌∷◌, ◌++◌, length, flat_map, count_by, Bool, false, ◌&&◌, ◌==◌, not, if◌then◌else◌, Option, Some, None, String, codes, string_bytes}
use Rattle.std.specs.List.{list_any}
use Rattle.std.specs.declared.alloc.Global.{Global}
use Rattle.ccr_page.specs.Texts.{Text}
use Rattle.ccr_page.specs.Statuses.{is_same, is_as_urgent}
use Rattle.ccr_page.specs.Pieces.{PieceData, Markup, Shown, Number, Class, Standing, Colour}
use Rattle.ccr_page.specs.declared.status.Status.{Status}
use Rattle.ccr_page.specs.declared.status.Status.TheVariants.{Failed, Errored, Aborted, Running, Succeeded, Missing}
use Rattle.ccr_page.specs.declared.data.Urgency.TheVariants.{Going}
use Rattle.ccr_page.specs.declared.data.Job.{Job}
use Rattle.ccr_page.specs.declared.data.Why.{Why}
use Rattle.ccr_page.specs.declared.data.Page.{Page}
use Rattle.ccr_page.specs.declared.template.TheConstants.{HEAD, TITLE, ICON, STYLE, CSS, BODY, SKIP}

-- ---- counts
-- How many jobs' newest builds stand so.
abbrev pub count_of : Status → List Job → ℕ
count_of s jobs = count_by (λ j. is_same s j.status) jobs

-- A job stands still, and needs somebody.
abbrev pub is_still : Option Why → Bool
is_still None = false
is_still (Some why) = not (is_as_urgent Going why.urgency)

-- How many jobs stand still.
abbrev pub still_count : List Job → ℕ
still_count jobs = count_by (λ j. is_still j.why) jobs

-- ---- the tab's words and dot
-- Some job's newest build stands so.
abbrev pub is_there : List Job → Status → Bool
is_there jobs s = list_any (λ j. is_same s j.status) jobs

-- Some job's newest build stands in one of these ways.
abbrev pub is_any : List Status → List Job → Bool
is_any ss jobs = list_any (λ s. is_there jobs s) ss

-- How many jobs stand so, unless none does; behind a comma where some stand in one of the ways before.
abbrev pub state_piece : List Status → Status → List Job → List PieceData
state_piece before s jobs =
    if count_of s jobs == 0 then []
    else (if is_any before jobs then Markup (codes ", ") ∷ Number (count_of s jobs) ∷ Markup (codes " ") ∷ Standing s ∷ []
    else Number (count_of s jobs) ∷ Markup (codes " ") ∷ Standing s ∷ [])

-- What needs somebody, or goes on.
abbrev pub noted_pieces : List Job → List PieceData
noted_pieces jobs =
    state_piece [] Failed jobs ++ state_piece (Failed ∷ []) Errored jobs ++ state_piece (Failed ∷ Errored ∷ []) Aborted jobs
    ++ state_piece (Failed ∷ Errored ∷ Aborted ∷ []) Running jobs

-- All statuses, the worst first.
abbrev pub all_statuses : List Status
all_statuses = Failed ∷ Errored ∷ Aborted ∷ Running ∷ Succeeded ∷ Missing ∷ []

-- How the jobs stand, in words: what isn't good, or that all is.
abbrev pub state_pieces : List Job → List PieceData
state_pieces jobs =
    if is_any (Failed ∷ Errored ∷ Aborted ∷ Running ∷ []) jobs then noted_pieces jobs
    else (if length jobs == 0 then Markup (codes "no jobs") ∷ [] else Markup (codes "all succeeded") ∷ [])

-- The worst of the ways in which jobs stand.
abbrev pub worst : List Job → Status
worst jobs =
    if is_there jobs Failed then Failed
    else (if is_there jobs Errored then Errored
    else (if is_there jobs Aborted then Aborted
    else (if is_there jobs Running then Running else (if is_there jobs Succeeded then Succeeded else Missing))))

-- ---- the head
-- After how many seconds the page is to be read again.
abbrev pub refresh_pieces : Option ℕ → List PieceData
refresh_pieces None = []
refresh_pieces (Some n) = Markup (codes "<meta http-equiv=\"refresh\" content=\"") ∷ Number n ∷ Markup (codes "\">\n") ∷ []

-- The title, and what follows it: the tab's dot and the style.
abbrev pub title_end : Text → Status → List PieceData
title_end title s =
    Markup (codes ": ") ∷ Shown title ∷ Markup ICON.now ∷ Colour s ∷ Markup STYLE.now ∷ Markup CSS.now ∷ Markup BODY.now ∷ []

-- THE HEAD.
abbrev pub head_pieces : Page → List PieceData
head_pieces p =
    (Markup HEAD.now ∷ []) ++ refresh_pieces p.refresh ++ (Markup TITLE.now ∷ []) ++ state_pieces p.jobs.items
    ++ title_end (string_bytes p.title) (worst p.jobs.items)

-- ---- the header
-- A page has a picture, which can be skipped.
abbrev pub has_picture : Page → Bool
has_picture p = p.has_pipeline && not (length p.jobs.items == 0 && length p.resources.items == 0)

-- The link that skips it.
abbrev pub skip_pieces : Page → List PieceData
skip_pieces p = if has_picture p then Markup SKIP.now ∷ [] else []

-- How many jobs stand so, unless none does.
abbrev pub sum_pieces : List Job → Status → List PieceData
sum_pieces jobs s =
    if count_of s jobs == 0 then []
    else Markup (codes "<li class=") ∷ Class s ∷ Markup (codes "><b>") ∷ Number (count_of s jobs) ∷ Markup (codes "</b> ")
    ∷ Standing s ∷ Markup (codes "</li>") ∷ []

-- The same of each status.
abbrev pub sums_pieces : List Job → List Status → List PieceData
sums_pieces jobs ss = flat_map (sum_pieces jobs) ss

-- The end of the verb behind a number: one thing stands.
abbrev pub plural : ℕ → List PieceData
plural n = if n == 1 then Markup (codes "</b> stands still</a></li>") ∷ [] else Markup (codes "</b> stand still</a></li>") ∷ []

-- How many jobs stand still.
abbrev pub standing_pieces : ℕ → List PieceData
standing_pieces n = (Markup (codes "<li class=w><a href=#hs><b>") ∷ Number n ∷ []) ++ plural n

-- The same, unless none does.
abbrev pub stands_pieces : ℕ → List PieceData
stands_pieces n = if n == 0 then [] else standing_pieces n

-- The header begins: the title.
abbrev pub heading : Text → List PieceData
heading title = Markup (codes "<header><h1>") ∷ Shown title ∷ Markup (codes "</h1><ul class=sum>") ∷ []

-- The counts end; then what runs right now, if that is told.
abbrev pub now_pieces : Option (String Global) → List PieceData
now_pieces None = Markup (codes "</ul>") ∷ []
now_pieces (Some t) = Markup (codes "</ul><p class=now>now: ") ∷ Shown (string_bytes t) ∷ Markup (codes "</p>") ∷ []

-- The header ends: when the page was made, if that is told.
abbrev pub made_pieces : Option (String Global) → List PieceData
made_pieces None = Markup (codes "</header>\n<main>\n") ∷ []
made_pieces (Some t) = Markup (codes "<p>made ") ∷ Shown (string_bytes t) ∷ Markup (codes "</p></header>\n<main>\n") ∷ []

-- THE HEADER.
abbrev pub header_pieces : Page → List PieceData
header_pieces p =
    skip_pieces p ++ heading (string_bytes p.title) ++ sums_pieces p.jobs.items all_statuses
    ++ stands_pieces (still_count p.jobs.items) ++ now_pieces p.now ++ made_pieces p.made
