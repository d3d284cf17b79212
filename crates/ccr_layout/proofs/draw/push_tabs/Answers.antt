use Rattle.std.proofs.Common.{◌+◌, List, [], ◌∷◌, ◌++◌, sym, ap, ◌∙◌, subst, arith}
use Rattle.ccr_layout.specs.declared.picture.Tab.{Tab}
use Rattle.ccr_layout.specs.Drawing.{HasTabs}
use Rattle.ccr_layout.proofs.TabLaws.{tabs_more, tabs_same, tabs_next}
use Rattle.ccr_layout.proofs.draw.push_tabs.Goals as goal
use Rattle.ccr_layout.proofs.draw.push_tabs.Goals.{then-has_tab+in_ok-push, else-has_tab}

pub loop-port-preserved : goal.loop-port-preserved
loop-port-preserved c =
    let spans = c.args.spans.now in
    let bands = c.args.bands.now in
    let tops = c.args.tops.now in
    let nodes = c.args.nodes.now in
    let node = c.args.node in
    let port = c.loop-port.port in
    let old = c.loop-port.tabs.items in
    let P : List Tab → Type 0 = λ ts. HasTabs spans bands tops nodes node (port + 1) ts in
    elim c.if-has_tab.branch [
      | then-has_tab+in_ok-push w ↦ subst P (sym (ap (λ v. v.items) w.tabs-is ∙ w.in_ok-push.ensures.items ∙ ap (λ t. old ++ t ∷ []) w.tab_of.ensures))
          (tabs_more spans bands tops nodes node port old c.loop-port.invariant c.requires.within (sym c.has_tab.ensures ∙ w.if-has_tab.true))
      | else-has_tab w ↦ subst P (sym (ap (λ v. v.items) w.tabs-is)) (tabs_same spans bands tops nodes node port old c.loop-port.invariant (sym c.has_tab.ensures ∙ w.if-has_tab.false))
    ]

pub returns : goal.returns
returns c =
    tabs_next c.args.spans.now c.args.bands.now c.args.tops.now c.args.nodes.now c.args.node c.loop-port.port c.loop-port.tabs.items c.loop-port.invariant
    (λ p past. c.tab_count-port-end.ensures p (omega (arith, past, c.loop-port-test.false)))
