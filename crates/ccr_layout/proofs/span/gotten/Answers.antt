use Rattle.std.proofs.Common.{ℕ, ◌+◌, List, Option, Some, None, get_or, set, min, sym, ap, ◌∙◌, subst}
use Rattle.std.specs.Prelude.{unwrap_or}
use Rattle.std.proofs.lemmas.Bool.{MatchBool-at_true, MatchBool-at_false}
use Rattle.ccr_layout.specs.Nodes.{IsJob, IsResource}
use Rattle.ccr_layout.specs.Passed.{kind_in, edge_in}
use Rattle.ccr_layout.specs.Columns.{AreGotten}
use Rattle.ccr_layout.proofs.ColumnLaws.{gotten_same, gotten_more}
use Rattle.ccr_layout.proofs.span.gotten.Goals as goal
use Rattle.ccr_layout.proofs.span.gotten.Goals.{then-is_job, else-is_job}

pub loop-edge-preserved : goal.loop-edge-preserved
loop-edge-preserved c =
    let nodes = c.args.nodes.now in
    let edges = c.args.edges.now in
    let layers = c.args.layers.now in
    let i = c.loop-edge.edge-index in
    let e = edge_in edges i in
    let old = c.loop-edge.columns.items in
    let P : List (Option ℕ) → Type 0 = λ xs. AreGotten nodes edges layers (i + 1) xs in
    elim c.if-is_job.branch [
      | then-is_job w ↦ subst P (sym (ap (λ v. v.items) w.columns-is ∙ w.note_least.ensures
          ∙ ap (λ n. set old e.source (Some (min (unwrap_or (get_or old e.source None) n) n))) w.column_at.ensures))
          (gotten_more nodes edges layers old i c.loop-edge.invariant c.loop-edge-test.true
          (MatchBool-at_true (IsJob (kind_in nodes e.target)) (IsResource (kind_in nodes e.target)) w.if-is_job.true c.is_job.ensures))
      | else-is_job w ↦ subst P (sym (ap (λ v. v.items) w.columns-is)) (gotten_same nodes edges layers old i c.loop-edge.invariant c.loop-edge-test.true
          (MatchBool-at_false (IsJob (kind_in nodes e.target)) (IsResource (kind_in nodes e.target)) w.if-is_job.false c.is_job.ensures))
    ]
