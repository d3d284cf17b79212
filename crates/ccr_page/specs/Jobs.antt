-- The jobs of a page.
use Rattle.std.specs.Prelude.{ℕ, List, [], ◌∷◌, ◌++◌, length, flat_map, ◌==◌, if◌then◌else◌, codes, string_bytes}
use Rattle.ccr_page.specs.Pieces.{PieceData, Markup, Shown, Number, Class}
use Rattle.ccr_page.specs.Sentences.{sentence}
use Rattle.ccr_page.specs.Each.{each_from}
use Rattle.ccr_page.specs.declared.data.Bar.{Bar}
use Rattle.ccr_page.specs.declared.data.Job.{Job}
use Rattle.ccr_page.specs.declared.template.TheConstants.{JOBS}

-- A build of the job at a position, which leads to its row if it has one.
abbrev pub bar_pieces : ℕ → Bar → List PieceData
bar_pieces i b =
    if b.has_row then Markup (codes "<li class=") ∷ Class b.status ∷ Markup (codes "><a href=#b") ∷ Number i ∷ Markup (codes "-")
    ∷ Number b.number ∷ Markup (codes ">") ∷ Number b.number ∷ Markup (codes "</a>") ∷ []
    else Markup (codes "<li class=") ∷ Class b.status ∷ Markup (codes ">") ∷ Number b.number ∷ []

-- A job begins: its name, coloured by its newest build.
abbrev pub job_open : ℕ → Job → List PieceData
job_open i j =
    Markup (codes "<article id=\"j") ∷ Number i ∷ Markup (codes "\"><h3 class=") ∷ Class j.status ∷ Markup (codes ">")
    ∷ Shown (string_bytes j.name) ∷ Markup (codes "</h3><p>") ∷ []

-- A JOB: its name, what is said of it, and its last builds.
abbrev pub job_pieces : ℕ → Job → List PieceData
job_pieces i j =
    job_open i j ++ sentence j.about.items ++ (Markup (codes "<ol>") ∷ []) ++ flat_map (bar_pieces i) j.bars.items
    ++ (Markup (codes "</ol></article>\n") ∷ [])

-- The list of jobs.
abbrev pub jobs_list : List Job → List PieceData
jobs_list jobs = (Markup JOBS.now ∷ []) ++ each_from job_pieces 0 jobs ++ (Markup (codes "</section>\n") ∷ [])

-- THE JOBS, if there are any.
abbrev pub jobs_section : List Job → List PieceData
jobs_section jobs = if length jobs == 0 then [] else jobs_list jobs
