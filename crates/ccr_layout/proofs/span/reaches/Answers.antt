use Rattle.std.proofs.Common.{ℕ, ◌+◌, List, max, false, get_or, set, slice_index, sym, ap, ◌∙◌, subst}
use Rattle.std.proofs.lemmas.List.{get_or_default}
use Rattle.ccr_layout.specs.declared.graph.Edge.{Edge}
use Rattle.ccr_layout.specs.Reaches.{AreReaches}
use Rattle.ccr_layout.proofs.StepLaws.{reaches_more}
use Rattle.ccr_layout.proofs.span.reaches.Goals as goal

pub loop-edge-preserved : goal.loop-edge-preserved
loop-edge-preserved c =
    let edges = c.args.edges.now in
    let columns = c.args.columns.now in
    let old = c.loop-edge.reaches.items in
    let i = c.loop-edge.edge-index in
    let none : Edge = record { source = 0; target = 0; port = 0; trigger = false } in
    let e : Edge = get_or edges i none in
    let P : List ℕ → Type 0 = λ xs. AreReaches columns edges (i + 1) xs in
    subst P (sym (c.note_greatest.ensures ∙ ap (λ n. set old e.source (max (slice_index old e.source) n)) c.column_at.ensures))
    (reaches_more columns edges old i e c.loop-edge.invariant c.loop-edge-test.true (get_or_default edges i none e c.loop-edge-test.true))
