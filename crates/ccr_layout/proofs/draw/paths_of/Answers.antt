use Rattle.std.proofs.Common.{◌+◌, false, get_or, sym, ap, ◌∙◌, length, subst}
use Rattle.std.proofs.lemmas.List.{get_or_default, length_push}
use Rattle.ccr_layout.specs.declared.graph.Edge.{Edge}
use Rattle.ccr_layout.specs.declared.picture.Path.{Path}
use Rattle.ccr_layout.specs.Drawing.{IsPathOf}
use Rattle.ccr_layout.proofs.StepLaws.{paths_more, path_is_of}
use Rattle.ccr_layout.proofs.draw.paths_of.Goals as goal

pub loop-edge-preserved : goal.loop-edge-preserved
loop-edge-preserved c =
    let nodes = c.args.nodes.now in
    let spans = c.args.spans.now in
    let bands = c.args.bands.now in
    let tops = c.args.tops.now in
    let edges = c.args.edges.now in
    let lanes = c.args.lanes.now in
    let i = c.loop-edge.edge-index in
    let none : Edge = record { source = 0; target = 0; port = 0; trigger = false } in
    let e : Edge = get_or edges i none in
    let P = λ (p : Path). IsPathOf nodes spans bands tops lanes e p in
    let is : IsPathOf nodes spans bands tops lanes e c.path_of.result = subst P (sym c.path_of.ensures)
    (path_is_of nodes spans bands tops lanes e c.start_of-from.result c.bend_of-bend.result c.end_of-end.result c.at-lane.result c.is_forward-is_forward.result
    c.is_forward-is_forward.ensures c.start_of-from.ensures.forward c.start_of-from.ensures.back c.bend_of-bend.ensures c.end_of-end.ensures c.at-lane.ensures) in
    record {
      long = ap length c.in_ok-push.ensures.items ∙ length_push c.loop-edge.paths.items c.path_of.result ∙ ap (λ n. n + 1) c.loop-edge.invariant.long;
      each = paths_more (IsPathOf nodes spans bands tops lanes) edges c.loop-edge.paths.items c.push.new.self.items c.path_of.result i e c.loop-edge.invariant.long c.loop-edge.invariant.each c.loop-edge-test.true
          (get_or_default edges i none e c.loop-edge-test.true) is c.in_ok-push.ensures.items;
    }
