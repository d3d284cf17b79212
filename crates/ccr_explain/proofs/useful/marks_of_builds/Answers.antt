use Rattle.std.proofs.Common.{◌∙◌, take, arith}
use Rattle.std.proofs.lemmas.List.Elements.{All-more, All-weaker}
use Rattle.ccr_explain.specs.Cut.{MarksBuilds}
use Rattle.ccr_explain.proofs.Steps.{all_taken}
use Rattle.ccr_explain.proofs.useful.marks_of_builds.Goals as goal

pub loop-place-preserved : goal.loop-place-preserved
loop-place-preserved c =
    let bs = c.args.rows.now.builds in
    let scope = c.args.scope in
    let i = c.loop-place.place-index in
    let before = c.loop-place.marks.items in
    let after = c.mark_builds.new.marks.items in
    let e = c.mark_builds.ensures in
    record {
      long = e.long ∙ c.loop-place.invariant.long;
      marked = All-more (λ place. MarksBuilds bs after (scope, place)) c.args.places.now i 0 (omega arith)
          (All-weaker (λ place. MarksBuilds bs before (scope, place)) (λ place. MarksBuilds bs after (scope, place)) (λ place h k within has. e.kept k (h k within has)) (take i c.args.places.now) c.loop-place.invariant.marked)
          e.marked;
    }

pub returns : goal.returns
returns c =
    all_taken (λ place. MarksBuilds c.args.rows.now.builds c.loop-place.marks.items (c.args.scope, place)) c.args.places.now c.loop-place.place-index (omega arith) c.loop-place.invariant.marked
