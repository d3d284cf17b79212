-- How the indexes of a core follow its history.
use Rattle.std.proofs.Common.{◌≡◌, ℕ, ◌+◌, ◌≤◌, List, [], ◌∷◌, map, Bool, true, false, cond, Option, Some, None, refl, sym, ap, ◌∙◌, subst, arith}
use Rattle.std.specs.Prelude.{IfSome}
use Rattle.std.proofs.lemmas.List.Sums.{sum_by_push}
use Rattle.ccr_history.specs.declared.build.Status.TheVariants.{Errored}
use Rattle.ccr_history.specs.declared.change.Reported.{Reported}
use Rattle.ccr_history.specs.Text.{Text}
use Rattle.ccr_history.specs.Builds.{UsedData, is_of, count_of, new_build, is_succeeded}
use Rattle.ccr_history.specs.Changes.{build, versions, edited, changed, AdmitsAll}
use Rattle.ccr_history.specs.History.{HistoryData, IsHistory}
use Rattle.ccr_history.proofs.ChangeLaws.{kept}
use Rattle.ccr_pipeline.specs.Inputs.{inputs}
use Rattle.ccr_pipeline.specs.JobData.{JobData}
use Rattle.ccr_pipeline.specs.Pipelines.{PipelineData}
use Rattle.ccr_choice.specs.Problem.{BuildValue}
use Rattle.ccr_index.specs.Index.{IndexValue}
use Rattle.ccr_problem.specs.Follows.{UnsuccessfulEndLeaves, has_newer}
use Rattle.ccr_problem.specs.ProblemOf.{problem_with}
use Rattle.ccr_problem.proofs.Ends.{map_same}
use Rattle.ccr_problem.proofs.Newer.{none_newer_than}
use Rattle.ccr_problem.specs.Indexes.{problems, AreIndexes, AreBefore, IsBrought}
use Rattle.ccr_steps.specs.declared.outcome.Outcome.{Outcome}
use Rattle.ccr_core.specs.Builds.{status_of}
use Rattle.ccr_core.specs.Endings.{report_edits}
use Rattle.ccr_core.specs.Going.{Changes}
use Rattle.ccr_core.specs.Indexed.{AreIndexesOf, AreReported}
use Rattle.ccr_core.specs.Resumed.{cut_name}

-- ---- indexes that stand for the same problems
none_left : (xs ys : List IndexValue) → problems ys ≡ problems xs → xs ≡ [] → ys ≡ []
none_left xs [] same none = refl
none_left xs (y ∷ ys) same none = absurd (cc (same ∙ ap problems none))

pub still_of : (o : Option PipelineData) (h : HistoryData) (xs ys : List IndexValue) → problems ys ≡ problems xs → AreIndexesOf o h xs → AreIndexesOf o h ys
still_of None h xs ys same none = none_left xs ys same none
still_of (Some p) h xs ys same are = same ∙ are

pub still_reported : (p : PipelineData) (h : HistoryData) (r : Option Reported) (xs ys : List IndexValue) → problems ys ≡ problems xs → AreReported p h r xs → AreReported p h r ys
still_reported p h None xs ys same are = same ∙ are
still_reported p h (Some r) xs ys same (before, rules, numbers, is, are) = (before, rules, numbers, is, same ∙ are)

-- ---- a report
-- after a report the indexes are those before it
pub reported_so : (p : PipelineData) (h mid : HistoryData) (r : Option Reported) (xs : List IndexValue) → IsHistory h → Changes (report_edits r) h mid → AreIndexes p h xs → AreReported p mid r xs
reported_so p h mid None xs rules (accepts, is) are = subst (λ y. AreIndexes p y xs) is are
reported_so p h mid (Some r) xs rules ((takes, numbers), is) are = (h, rules, numbers.0, sym is, are)

-- a report without versions changes nothing
pub none_reported : (p : PipelineData) (h : HistoryData) (r : Reported) (xs : List IndexValue) → r.versions.items ≡ [] → AreBefore p h r xs → AreIndexes p h xs
none_reported p h r xs none (before, rules, numbers, is, are) =
    let same : h ≡ before = is ∙ ap (λ vs. edited (versions r.scope vs) before) none in
    subst (λ y. AreIndexes p y xs) (sym same) are

-- ---- a build that is made
counted_by : (b : Bool) (n : ℕ) → n + cond b 1 0 ≤ n + 1
counted_by true n = omega arith
counted_by false n = omega arith

-- it is newer than all others of its job
pub newest_made : (h mid : HistoryData) (job : Text) (used : List UsedData) → IsHistory mid → mid ≡ edited (build job used) h → has_newer job (count_of job h.builds + 1) mid.builds ≡ false
newest_made h mid job used rules is =
    let new = new_build job (count_of job h.builds + 1) used in
    let pushed = sum_by_push (λ b. cond (is_of job b) 1 0) h.builds new in
    let most = counted_by (is_of job new) (count_of job h.builds) in
    let same = ap (λ (y : HistoryData). count_of job y.builds) is in
    none_newer_than job (count_of job h.builds + 1) mid.builds rules.1.1 (omega (arith, pushed, most, same))

-- so its end comes behind no newer one
pub newest_so : (o : Option Outcome) (b : Bool) → b ≡ false → IfSome o (λ x. is_succeeded (status_of x) ≡ true → b ≡ false)
newest_so None b none = tt
newest_so (Some o) b none = λ _. none

-- what its end brings is the same once it is made
pub brought_so : (p : PipelineData) (h mid : HistoryData) (job : Text) (number : ℕ) (used : List UsedData) (pairs ps : List (ℕ × ℕ)) (o : Option Outcome) (bs : List (Option (ℕ × BuildValue))) → mid ≡ edited (build job used) h → ps ≡ pairs
    → IfSome o (λ x. IsBrought p h job number (status_of x) ps bs) → IfSome o (λ x. IsBrought p mid job number (status_of x) pairs bs)
brought_so p h mid job number used pairs ps None bs is same brought = tt
brought_so p h mid job number used pairs ps (Some o) bs is same brought =
    subst (λ y. IsBrought p y job number (status_of o) pairs bs) (sym is) (subst (λ l. IsBrought p h job number (status_of o) l bs) same brought)

-- ---- builds that are cut short
pub cuts_on : UnsuccessfulEndLeaves → (p : PipelineData) (ns : List (Text × ℕ)) (h : HistoryData) (xs : List IndexValue) → IsHistory h → AdmitsAll h (map cut_name ns) → AreIndexes p h xs → AreIndexes p (changed (map cut_name ns) h) xs
cuts_on leaves p [] h xs rules takes are = are
cuts_on leaves p (n ∷ ns) h xs rules (take, takes) are =
    cuts_on leaves p ns (edited (cut_name n) h) xs (kept (cut_name n) h rules take) takes
    (are ∙ sym (map_same (λ (j : JobData). problem_with p (edited (cut_name n) h) j.name (inputs j.plan)) (λ j. problem_with p h j.name (inputs j.plan)) p.jobs (λ j. leaves p h j.name (inputs j.plan) n.0 n.1 Errored [] rules take.0 refl)))

pub cuts_on_of : UnsuccessfulEndLeaves → (o : Option PipelineData) (ns : List (Text × ℕ)) (h : HistoryData) (xs : List IndexValue) → IsHistory h → AdmitsAll h (map cut_name ns) → AreIndexesOf o h xs → AreIndexesOf o (changed (map cut_name ns) h) xs
cuts_on_of leaves None ns h xs rules takes are = are
cuts_on_of leaves (Some p) ns h xs rules takes are = cuts_on leaves p ns h xs rules takes are
