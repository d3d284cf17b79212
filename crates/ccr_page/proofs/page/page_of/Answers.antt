use Rattle.std.proofs.Common.{List, map, ap, ◌∙◌, subst}
use Rattle.ccr_layout.specs.declared.graph.Edge.{Edge}
use Rattle.ccr_layout.specs.Pictures.{IsPicture}
use Rattle.ccr_page.specs.Shapes.{node_data, edge_of}
use Rattle.ccr_page.proofs.page.page_of.Goals as goal

pub returns : goal.returns
returns c =
    let G : List Edge → Type 0 = λ es. IsPicture c.as_slice-nodes.result.now es c.in_ok-picture.picture in (
      c.as_slice-nodes.result.now,
      c.in_ok-picture.picture,
      ap (map node_data) c.as_slice-nodes.ensures.value ∙ c.in_ok-nodes.ensures,
      subst G (c.as_slice-edges.ensures.value ∙ c.in_ok-edges.ensures ∙ ap (map edge_of) c.deref.ensures.value) c.in_ok-picture.ensures,
      c.in_ok-out.ensures.same,
    )
