-- The rows of a page: what each build took and put, and through which builds that had gone together.
use Rattle.std.specs.Prelude.{ℕ, List, [], ◌∷◌, ◌++◌, length, map, flat_map, filter, take, find, slice_get, option_to_list, Bool, not, ◌==◌, ◌&&◌, Option, Some, None, option_map, if◌then◌else◌, codes, decimal}
use Rattle.std.specs.List.{list_any}
use Rattle.std.specs.Option.{option_map_or}
use Rattle.std.specs.Str.{bytes_eq}
use Rattle.ccr_history.specs.Text.{Text}
use Rattle.ccr_history.specs.Builds.{UsedData, BuildData}
use Rattle.ccr_history.specs.History.{HistoryData}
use Rattle.ccr_pipeline.specs.Inputs.{InputData, inputs}
use Rattle.ccr_pipeline.specs.JobData.{JobData}
use Rattle.ccr_pipeline.specs.Names.{has_name, with_names}
use Rattle.ccr_lines.specs.Releases.{TogetherData, resource_at, is_pair, all_together}
use Rattle.ccr_overview.specs.Sayings.{joined, separated}
use Rattle.ccr_overview.specs.PageBuilds.{status_of, listed, builds_at}
use Rattle.ccr_overview.specs.PageData.{WordData, Plain, Cut, Named, CellData, RowData}
use Rattle.ccr_overview.specs.Each.{each_from}
use Rattle.ccr_overview.specs.Scenes.{SceneData}
use Rattle.ccr_overview.specs.Shorts.{short_there}
use Rattle.ccr_overview.specs.Linked.{job_word, build_word}

-- ---- columns
-- the names of the inputs for which these builds took something, each once
abbrev pub taken_names : List BuildData → List Text
taken_names bs = with_names [] (flat_map (λ b. map (λ u. u.input) b.used) bs)

-- of these names those that are among the others
abbrev pub names_in : List Text → List Text → List Text
names_in others names = filter (has_name others) names

-- of these names those that aren't among the others
abbrev pub names_beyond : List Text → List Text → List Text
names_beyond others names = filter (λ n. not (has_name others n)) names

-- of a plan's inputs those for which something was taken, in its order; then the others for which something was
abbrev pub columns_of : List Text → List Text → List Text
columns_of plan taken = names_in taken plan ++ names_beyond plan taken

-- THE COLUMNS of these builds of a job: the names of inputs for which one of them took something
abbrev pub columns : JobData → List BuildData → List Text
columns j bs = columns_of (map (λ i. i.name) (inputs j.plan)) (taken_names bs)

-- ---- cells
-- what a build took for an input: the place, and the version there in a few letters
abbrev pub cell_of : HistoryData → UsedData → CellData
cell_of h u = record { place = u.place; short = short_there h u.scope u.place }

-- what a build took for the input of a name, if it took something
abbrev pub used_for : BuildData → Text → Option UsedData
used_for b input = find (λ u. bytes_eq input u.input) b.used

-- the same in a cell
abbrev pub cell : HistoryData → BuildData → Text → Option CellData
cell h b input = option_map (cell_of h) (used_for b input)

-- ---- what went together, and what was put
-- the build of a job through which what a build took had gone together; or that there is none
abbrev pub witness_words : SceneData → Text → Option ℕ → List WordData
witness_words s named (Some n) = build_word s named n ∷ []
witness_words s named None = Plain (codes "no build of ") ∷ job_word s named ∷ []

-- the same behind the others
abbrev pub together_words : SceneData → ℕ → TogetherData → List WordData
together_words s k t = separated (codes ", ") k ++ witness_words s t.job t.number

-- the same of all jobs
abbrev pub all_together_words : SceneData → List TogetherData → List WordData
all_together_words s ts = each_from (together_words s) 0 ts

-- the build took this pair of scope and place
abbrev pub has_taken : BuildData → ℕ × ℕ → Bool
has_taken b q = list_any (λ u. is_pair q (u.scope, u.place)) b.used

-- what a build moved and didn't take
abbrev pub put_pairs : BuildData → List (ℕ × ℕ)
put_pairs b = filter (λ q. not (has_taken b q)) b.moved

-- a version that was put: its resource, its place, and it in a few letters
abbrev pub moved_words : HistoryData → ℕ × ℕ → List WordData
moved_words h q =
    Named (resource_at h.tables q.0) 30 ∷ Plain (codes " " ++ (decimal q.1 ++ codes " ")) ∷ Cut (short_there h q.0 q.1) 18 ∷ []

-- the same behind the others
abbrev pub pair_words : HistoryData → ℕ → ℕ × ℕ → List WordData
pair_words h k q = separated (codes ", ") k ++ moved_words h q

-- what was put, if something was
abbrev pub put_words : HistoryData → List (ℕ × ℕ) → List WordData
put_words h [] = []
put_words h (q ∷ qs) = Plain (codes "put ") ∷ each_from (pair_words h) 0 (q ∷ qs)

-- through which builds what a build took had gone together, where these were made before it; and what it put
abbrev pub rest_words : SceneData → List BuildData → BuildData → List WordData
rest_words s before b =
    joined (all_together_words s (all_together s.pipeline before b)) (put_words s.history (put_pairs b))

-- ---- rows
-- a build, where these were made before it
abbrev pub row_of : SceneData → List Text → List BuildData → BuildData → RowData
row_of s names before b = record {
  number = b.number;
  status = status_of b.status;
  cells = map (cell s.history b) names;
  rest = rest_words s before b;
}

-- the build at a position
abbrev pub row_at : SceneData → List Text → ℕ → List RowData
row_at s names k =
    option_to_list (option_map (row_of s names (take k s.history.builds)) (slice_get s.history.builds k))

-- THE ROWS of the builds at these positions
abbrev pub rows_at : SceneData → List Text → List ℕ → List RowData
rows_at s names ks = flat_map (row_at s names) ks
