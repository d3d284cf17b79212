use Rattle.std.proofs.Common.{◌≡◌, ℕ, ◌+◌, ◌<◌, ◌≤◌, List, length, sym, ap, ◌∙◌, subst, arith}
use Rattle.std.specs.Prelude.{All}
use Rattle.std.specs.declared.vec.Vec.{Vec}
use Rattle.std.specs.declared.alloc.Global.{Global}
use Rattle.std.proofs.lemmas.List.Elements.{All-from_get_or}
use Rattle.ccr_layout.specs.declared.span.Span.{Span}
use Rattle.ccr_layout.specs.declared.band.Band.{Band}
use Rattle.ccr_layout.specs.declared.picture.NodeBox.{NodeBox}
use Rattle.ccr_layout.specs.declared.picture.Slot.{Slot}
use Rattle.ccr_layout.specs.declared.picture.Picture.{Picture}
use Rattle.ccr_layout.specs.Spans.{AreSpans}
use Rattle.ccr_layout.specs.Standing.{AreColumns}
use Rattle.ccr_layout.specs.Bands.{AreBands, AreRoomy}
use Rattle.ccr_layout.specs.Lanes.{AreLanes}
use Rattle.ccr_layout.proofs.PictureLaws.{standing_all, boxes_bound, slots_bound, picture_all}
use Rattle.ccr_layout.proofs.layout.picture_of.Goals as goal

pub column_count-columns-requires : goal.column_count-columns-requires
column_count-columns-requires c =
    let P : List Span → Type 0 = λ xs. All (λ s. s.column ≤ 402) xs in
    subst P (sym c.as_slice-spans.ensures.value) c.in_ok-spans.ensures.left

pub tops_of-requires-clause-few : goal.tops_of-requires-clause-few
tops_of-requires-clause-few c = omega (arith, ap length c.as_slice-spans.ensures.value, c.in_ok-spans.ensures.long, c.requires)

pub tops_of-requires-clause-low : goal.tops_of-requires-clause-low
tops_of-requires-clause-low c =
    let P : List Span → Type 0 = λ xs. All (λ s. s.height ≤ 710) xs in
    subst P (sym c.as_slice-spans.ensures.value) c.in_ok-spans.ensures.low

pub bands_of-requires : goal.bands_of-requires
bands_of-requires c = omega (arith, ap length c.as_slice-lines.ensures.value, c.in_ok-lines.ensures.long, c.column_count-columns.ensures.low)

pub slots_of-requires : goal.slots_of-requires
slots_of-requires c =
    let spans = c.as_slice-spans.result.now in
    let P : List Span → Type 0 = λ xs. AreSpans c.args.nodes.now c.args.edges.now xs in
    let Q : List (Vec ℕ Global) → Type 0 = λ ts. AreColumns spans (length c.as_slice-lines.result.now) ts in
    standing_all c.args.nodes.now c.args.edges.now spans c.as_slice-tops.result.now (length c.as_slice-lines.result.now) (subst P (sym c.as_slice-spans.ensures.value) c.in_ok-spans.ensures)
    (subst Q (sym c.as_slice-tops.ensures.value) c.in_ok-tops.ensures)

pub tabs_of-requires : goal.tabs_of-requires
tabs_of-requires c =
    let spans = c.as_slice-spans.result.now in
    let P : List Span → Type 0 = λ xs. AreSpans c.args.nodes.now c.args.edges.now xs in
    let Q : List (Vec ℕ Global) → Type 0 = λ ts. AreColumns spans (length c.as_slice-lines.result.now) ts in
    standing_all c.args.nodes.now c.args.edges.now spans c.as_slice-tops.result.now (length c.as_slice-lines.result.now) (subst P (sym c.as_slice-spans.ensures.value) c.in_ok-spans.ensures)
    (subst Q (sym c.as_slice-tops.ensures.value) c.in_ok-tops.ensures)

pub paths_of-requires : goal.paths_of-requires
paths_of-requires c =
    let spans = c.as_slice-spans.result.now in
    let P : List Span → Type 0 = λ xs. AreSpans c.args.nodes.now c.args.edges.now xs in
    let Q : List (Vec ℕ Global) → Type 0 = λ ts. AreColumns spans (length c.as_slice-lines.result.now) ts in
    standing_all c.args.nodes.now c.args.edges.now spans c.as_slice-tops.result.now (length c.as_slice-lines.result.now) (subst P (sym c.as_slice-spans.ensures.value) c.in_ok-spans.ensures)
    (subst Q (sym c.as_slice-tops.ensures.value) c.in_ok-tops.ensures)

pub bottom_of-bottom-requires-clause-boxes : goal.bottom_of-bottom-requires-clause-boxes
bottom_of-bottom-requires-clause-boxes c =
    let spans = c.as_slice-spans.result.now in
    let bands = c.as_slice-bands.result.now in
    let tops = c.as_slice-tops.result.now in
    let columns = c.column_count-columns.result in
    let many : length c.as_slice-lines.result.now ≡ columns = ap length c.as_slice-lines.ensures.value ∙ c.in_ok-lines.ensures.long in
    let P : List Span → Type 0 = λ xs. AreSpans c.args.nodes.now c.args.edges.now xs in
    let Q : List (Vec ℕ Global) → Type 0 = λ ts. AreColumns spans (length c.as_slice-lines.result.now) ts in
    let R : ℕ → Type 0 = λ n. AreColumns spans n tops in
    let S : List Band → Type 0 = λ bs. AreBands (length c.as_slice-lines.result.now) bs in
    let T : ℕ → Type 0 = λ n. AreBands n bands in
    let B : List NodeBox → Type 0 = λ bs. All (λ b. b.top + b.height ≤ 10301010) bs in
    let are_spans : AreSpans c.args.nodes.now c.args.edges.now spans = subst P (sym c.as_slice-spans.ensures.value) c.in_ok-spans.ensures in
    let are_columns : AreColumns spans columns tops = subst R many (subst Q (sym c.as_slice-tops.ensures.value) c.in_ok-tops.ensures) in
    subst B (sym c.as_slice.ensures.value) (boxes_bound c.args.nodes.now c.args.edges.now spans bands tops columns c.in_ok-boxes.boxes.items c.in_ok-slots.slots.items are_spans
    (All-from_get_or (λ s. s.column < columns) spans (record { column = 0; reach = 0; height = 0; first_port = 0 }) c.column_count-columns.ensures.past)
    are_columns (subst T many (subst S (sym c.as_slice-bands.ensures.value) c.in_ok-bands.ensures.beside)) c.in_ok-boxes.ensures.long c.in_ok-boxes.ensures.each c.in_ok-slots.ensures
    (standing_all c.args.nodes.now c.args.edges.now spans tops columns are_spans are_columns))

pub bottom_of-bottom-requires-clause-slots : goal.bottom_of-bottom-requires-clause-slots
bottom_of-bottom-requires-clause-slots c =
    let spans = c.as_slice-spans.result.now in
    let bands = c.as_slice-bands.result.now in
    let tops = c.as_slice-tops.result.now in
    let columns = c.column_count-columns.result in
    let many : length c.as_slice-lines.result.now ≡ columns = ap length c.as_slice-lines.ensures.value ∙ c.in_ok-lines.ensures.long in
    let P : List Span → Type 0 = λ xs. AreSpans c.args.nodes.now c.args.edges.now xs in
    let Q : List (Vec ℕ Global) → Type 0 = λ ts. AreColumns spans (length c.as_slice-lines.result.now) ts in
    let R : ℕ → Type 0 = λ n. AreColumns spans n tops in
    let S : List Band → Type 0 = λ bs. AreBands (length c.as_slice-lines.result.now) bs in
    let T : ℕ → Type 0 = λ n. AreBands n bands in
    let B : List Slot → Type 0 = λ ss. All (λ s. s.top ≤ 10300000) ss in
    let are_spans : AreSpans c.args.nodes.now c.args.edges.now spans = subst P (sym c.as_slice-spans.ensures.value) c.in_ok-spans.ensures in
    subst B (sym c.as_slice-2.ensures.value) (slots_bound c.args.nodes.now c.args.edges.now spans bands tops columns c.in_ok-boxes.boxes.items c.in_ok-slots.slots.items are_spans
    (All-from_get_or (λ s. s.column < columns) spans (record { column = 0; reach = 0; height = 0; first_port = 0 }) c.column_count-columns.ensures.past)
    (subst R many (subst Q (sym c.as_slice-tops.ensures.value) c.in_ok-tops.ensures)) (subst T many (subst S (sym c.as_slice-bands.ensures.value) c.in_ok-bands.ensures.beside))
    c.in_ok-boxes.ensures.long c.in_ok-boxes.ensures.each c.in_ok-slots.ensures)

pub lanes_of-requires-clause-few : goal.lanes_of-requires-clause-few
lanes_of-requires-clause-few c = omega (arith, ap length c.as_slice-spans.ensures.value, c.in_ok-spans.ensures.long, c.requires)

pub width_of-width-requires : goal.width_of-width-requires
width_of-width-requires c =
    let bands = c.as_slice-bands.result.now in
    let S : List Band → Type 0 = λ bs. AreBands (length c.as_slice-lines.result.now) bs in
    let are : AreBands (length c.as_slice-lines.result.now) bands = subst S (sym c.as_slice-bands.ensures.value) c.in_ok-bands.ensures.beside in
    let T : ℕ → Type 0 = λ n. AreBands n bands in
    subst T (sym are.long) are

pub returns : goal.returns
returns c =
    let nodes = c.args.nodes.now in
    let edges = c.args.edges.now in
    let spans = c.as_slice-spans.result.now in
    let bands = c.as_slice-bands.result.now in
    let tops = c.as_slice-tops.result.now in
    let lanes = c.as_slice-lanes.result.now in
    let columns = c.column_count-columns.result in
    let below = c.in_ok-below.below in
    let made = c.in_ok-below.ensures in
    let bottom = c.bottom_of-bottom.result in
    let p : Picture = record {
      boxes = c.in_ok-boxes.boxes;
      tabs = c.in_ok-tabs.tabs;
      slots = c.in_ok-slots.slots;
      paths = c.in_ok-paths.paths;
      width = c.width_of-width.result;
      height = below.1;
    } in
    let many : length c.as_slice-lines.result.now ≡ columns = ap length c.as_slice-lines.ensures.value ∙ c.in_ok-lines.ensures.long in
    let P : List Span → Type 0 = λ xs. AreSpans nodes edges xs in
    let Q : List (Vec ℕ Global) → Type 0 = λ ts. AreColumns spans (length c.as_slice-lines.result.now) ts in
    let R : ℕ → Type 0 = λ n. AreColumns spans n tops in
    let S : List Band → Type 0 = λ bs. AreBands (length c.as_slice-lines.result.now) bs in
    let T : ℕ → Type 0 = λ n. AreBands n bands in
    let U : List Band → Type 0 = λ bs. AreRoomy nodes spans bs (length c.as_slice-lines.result.now) in
    let V : ℕ → Type 0 = λ n. AreRoomy nodes spans bands n in
    let W : List NodeBox → Type 0 = λ bs. All (λ b. b.top + b.height ≤ bottom) bs in
    let X : List Slot → Type 0 = λ ss. All (λ s. s.top ≤ bottom) ss in
    let Y : List ℕ → Type 0 = λ ls. AreLanes made.0 bottom ls (length spans) made.1 below.1 in
    let are_bands : AreBands columns bands = subst T many (subst S (sym c.as_slice-bands.ensures.value) c.in_ok-bands.ensures.beside) in
    picture_all nodes edges spans bands tops columns lanes p
    (subst P (sym c.as_slice-spans.ensures.value) c.in_ok-spans.ensures)
    (All-from_get_or (λ s. s.column < columns) spans (record { column = 0; reach = 0; height = 0; first_port = 0 }) c.column_count-columns.ensures.past)
    (subst R many (subst Q (sym c.as_slice-tops.ensures.value) c.in_ok-tops.ensures))
    are_bands
    (subst V many (subst U (sym c.as_slice-bands.ensures.value) c.in_ok-bands.ensures.room))
    c.in_ok-boxes.ensures.long c.in_ok-boxes.ensures.each c.in_ok-slots.ensures c.in_ok-tabs.ensures c.in_ok-paths.ensures.long c.in_ok-paths.ensures.each
    bottom (subst W c.as_slice.ensures.value c.bottom_of-bottom.ensures.boxes) (subst X c.as_slice-2.ensures.value c.bottom_of-bottom.ensures.slots)
    made.0 made.1 made.2 (subst Y (sym c.as_slice-lanes.ensures.value) made.3)
    (λ k within. c.width_of-width.ensures k (omega (arith, within, are_bands.long)))
