use Rattle.std.proofs.Common.{ℕ, List, length, true, get_or, inl, inr, slice_index, sym, ap, ◌∙◌, subst, arith}
use Rattle.std.specs.Prelude.{Contains}
use Rattle.std.proofs.lemmas.Bool.{false≢true}
use Rattle.std.proofs.lemmas.List.{take_all}
use Rattle.ccr_layout.proofs.PlaceLaws.{low_at}
use Rattle.ccr_layout.proofs.LayerLaws.{above_cases}
use Rattle.ccr_layout.proofs.layer.layer_above.Goals as goal
use Rattle.ccr_layout.proofs.layer.layer_above.Goals.{then-is_done, else-is_done}

pub loop-job-preserved : goal.loop-job-preserved
loop-job-preserved c =
    let jobs = c.args.jobs.now in
    let layers = c.args.layers.now in
    let i = c.loop-job.job-index in
    let is = c.loop-job.invariant in
    elim c.if-is_done.branch [
      | then-is_done w ↦ record {
        low = λ most all. omega (arith, w.above-is, w.max-above.ensures, w.column_at.ensures, low_at most layers (get_or jobs i 0) all, is.low most all);
        first = λ none. absurd (omega (arith, c.loop-job-test.true, ap length none));
        above = λ s has d. elim (above_cases jobs i s c.loop-job-test.true has) [
          | inl earlier ↦ omega (arith, w.above-is, w.max-above.ensures, is.above s earlier d)
          | inr same ↦ omega (arith, w.above-is, w.max-above.ensures, w.column_at.ensures, ap (slice_index layers) same)
        ];
      }
      | else-is_done w ↦ record {
        low = λ most all. omega (arith, w.above-is, is.low most all);
        first = λ none. absurd (omega (arith, c.loop-job-test.true, ap length none));
        above = λ s has d. elim (above_cases jobs i s c.loop-job-test.true has) [
          | inl earlier ↦ omega (arith, w.above-is, is.above s earlier d)
          | inr same ↦ absurd (false≢true (sym w.if-is_done.false ∙ c.is_done.ensures ∙ ap (λ k. get_or c.args.done.now k true) same ∙ d))
        ];
      }
    ]

pub returns-clause-above : goal.returns-clause-above
returns-clause-above c = λ s has d.
    let P : List ℕ → Type 0 = λ xs. Contains xs s in
    c.loop-job.invariant.above s (subst P (sym (take_all c.loop-job.job-index c.args.jobs.now (omega (arith, c.loop-job-test.false)))) has) d
