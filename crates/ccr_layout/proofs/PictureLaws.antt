-- What is drawn is a picture of the graph.
use Rattle.std.proofs.Common.{◌≡◌, ◌≢◌, ℕ, zero, suc, true, false, Bool, Option, Some, None, ◌+◌, ◌-◌, ◌*◌, ◌/◌, ◌<◌, ◌≤◌, ◌⊎◌, List, [], ◌∷◌, length, map, min, get_or, slice_index, slice_index_or, cond, eqb, inl, inr, refl, sym, ap, ◌∙◌, subst, arith}
use Rattle.std.specs.Prelude.{All, Contains, is_some}
use Rattle.std.specs.declared.vec.Vec.{Vec}
use Rattle.std.proofs.lemmas.Option.{none-some, same_Some}
use Rattle.std.proofs.lemmas.Bool.{false≢true, cases_lt, cond-true, cond-false, eq-eqb, ne_eqb}
use Rattle.std.proofs.lemmas.List.{get_or-map, get_or_past, length-map}
use Rattle.std.proofs.lemmas.List.Elements.{All-weaker, All-contains, All-nil, All-from_get_or, Contains-get_or}
use Rattle.ccr_layout.specs.declared.graph.Node.{Node}
use Rattle.ccr_layout.specs.declared.graph.Edge.{Edge}
use Rattle.ccr_layout.specs.declared.span.Span.{Span}
use Rattle.ccr_layout.specs.declared.band.Band.{Band}
use Rattle.ccr_layout.specs.declared.picture.Point.{Point}
use Rattle.ccr_layout.specs.declared.picture.NodeBox.{NodeBox}
use Rattle.ccr_layout.specs.declared.picture.Tab.{Tab}
use Rattle.ccr_layout.specs.declared.picture.Slot.{Slot}
use Rattle.ccr_layout.specs.declared.picture.Path.{Path}
use Rattle.ccr_layout.specs.declared.picture.Path.TheVariants.{Forward, Back}
use Rattle.ccr_layout.specs.declared.picture.Picture.{Picture}
use Rattle.ccr_layout.specs.declared.graph.Kind.{Kind}
use Rattle.ccr_layout.specs.declared.graph.Kind.TheVariants.{Resource, Job}
use Rattle.ccr_layout.specs.Nodes.{IsJob, height_of, first_port_of, job_count}
use Rattle.ccr_layout.specs.Passed.{kind_in, edge_in, IsWithin}
use Rattle.ccr_layout.specs.Spans.{Passes, IsIn, height_in, span_in, AreSpans}
use Rattle.ccr_layout.specs.Standing.{tops_in, AreColumns, IsStanding}
use Rattle.ccr_layout.specs.Bands.{band_in, AreBands, AreRoomy}
use Rattle.ccr_layout.specs.Lanes.{IsBackward, AreMarked, AreLanes}
use Rattle.ccr_layout.specs.Ends.{tab_in}
use Rattle.ccr_layout.specs.Drawing.{right_end, box_of, bend_of, end_of, tab_of, HasTabs, slot_of, HasSlots, IsPathOf}
use Rattle.ccr_layout.specs.Pictures.{box_in, IsAbove, AreBoxes, IsTab, AreTabs, lane_of, lane_at, AreLow, IsFramed, Leaves, AreSlots, Arrives, IsPath, ArePaths, IsBounded, IsPicture}
use Rattle.ccr_layout.proofs.LeadLaws.{lead_same}
use Rattle.ccr_layout.proofs.SizeLaws.{slots_few}

abbrev no_span : Span
no_span = record { column = 0; reach = 0; height = 0; first_port = 0 }

abbrev no_box : NodeBox
no_box = record { column = 0; left = 0; top = 0; width = 0; height = 0 }

abbrev no_path : Path
no_path = Forward (record { x = 0; y = 0 }) (record { x = 0; y = 0 }) 0

-- ---- heights
height_here : (s : Span) → height_in s s.column ≡ s.height
height_here s = cond-true (eqb s.column s.column) s.height 0 (eq-eqb s.column s.column refl)

height_passing : (s : Span) (c : ℕ) → Passes s c → height_in s c ≡ 0
height_passing s c p = cond-false (eqb s.column c) s.height 0 (ne_eqb s.column c (λ e. omega (arith, e, p.0)))

-- ---- columns
-- a column ends left of each later one
beside_far : (columns : ℕ) (bands : List Band) → AreBands columns bands → (n c : ℕ) → c + 1 + n < columns → (band_in bands c).right + 46 ≤ (band_in bands (c + 1 + n)).left
beside_far columns bands are zero c within =
    let P : ℕ → Type 0 = λ k. (band_in bands c).right + 46 ≤ (band_in bands k).left in
    let e : c + 1 ≡ c + 1 + 0 = omega arith in
    subst P e (are.beside c (omega (arith, within)))
beside_far columns bands are (suc n) c within =
    let h = beside_far columns bands are n c (omega (arith, within)) in
    let g = are.beside (c + 1 + n) (omega (arith, within)) in
    let P : ℕ → Type 0 = λ k. (band_in bands c).right + 46 ≤ (band_in bands k).left in
    let e : c + 1 + n + 1 ≡ c + 1 + suc n = omega arith in
    subst P e (omega (arith, h, g, are.tabs (c + 1 + n) (omega (arith, within)), are.boxes (c + 1 + n) (omega (arith, within))))

-- so does an earlier one
pub beside_columns : (columns : ℕ) (bands : List Band) → AreBands columns bands → (c e : ℕ) → c < e → e < columns → (band_in bands c).right + 46 ≤ (band_in bands e).left
beside_columns columns bands are c e less within =
    let f : c + 1 + (e - c - 1) ≡ e = omega (arith, less) in
    let P : ℕ → Type 0 = λ k. (band_in bands c).right + 46 ≤ (band_in bands k).left in
    subst P f (beside_far columns bands are (e - c - 1) c (omega (arith, f, within)))

-- ---- ports
-- a port of a job lies in the height of its box, with a tab around it
port_high : (kind : Kind) (tabs : List (Option ℕ)) (p : ℕ) → IsJob kind → p < length tabs → p < 32 → first_port_of kind tabs + 22 * min p 32 + 9 ≤ height_of kind tabs
port_high Resource tabs p job within few = absurd job
port_high Job tabs p job within few = omega (arith, within, few)

port_low : (kind : Kind) (tabs : List (Option ℕ)) → 9 ≤ first_port_of kind tabs
port_low Resource tabs = omega arith
port_low Job tabs = omega arith

-- an element of a list that has one
some_of : {X : Type 0} (xs : List X) (k : ℕ) → k < length xs → X
some_of [] k less = absurd (omega (arith, less))
some_of (x ∷ xs) k less = x

-- a port with a tab is one of those that may have one
port_within : (tabs : List (Option ℕ)) (p : ℕ) → is_some (get_or tabs p None) ≡ true → p < length tabs
port_within tabs p some =
    elim (cases_lt p (length tabs)) [
      | inl within ↦ within
      | inr past ↦ absurd (false≢true (sym (ap is_some (get_or_past tabs p None past)) ∙ some))
    ]

module _ {A : Type 0} (nodes : List Node) (edges : List Edge) (spans : List Span) (bands : List Band) (tops : List (Vec ℕ A)) (columns : ℕ) (boxes : List NodeBox) (slots : List Slot)
    (are_spans : AreSpans nodes edges spans) (past : All (λ s. s.column < columns) spans) (are_columns : AreColumns spans columns tops) (are_bands : AreBands columns bands)
    (many : length boxes ≡ length spans) (each : (k : ℕ) (d : NodeBox) → k < length spans → slice_index_or boxes k d ≡ box_of spans bands tops k)
    (has : HasSlots spans bands tops (length spans) 0 slots) where
  box_is : (k : ℕ) → k < length boxes → box_in boxes k ≡ box_of spans bands tops k
  box_is k within = each k _ (omega (arith, within, many))

  column_is : (k : ℕ) → k < length boxes → (box_in boxes k).column ≡ (span_in spans k).column
  column_is k within = ap (λ b. b.column) (box_is k within)

  column_low : (k : ℕ) → k < length boxes → (span_in spans k).column < columns
  column_low k within = past k no_span (omega (arith, within, many))

  height_at : (c k : ℕ) → k < length spans → slice_index (map (λ s. height_in s c) spans) k ≡ height_in (span_in spans k) c
  height_at c k within = get_or-map (λ s. height_in s c) spans k no_span 0 within

  -- two nodes in one column
  apart_in : (c i j : ℕ) → c < columns → i < length spans → j < length spans → IsIn (span_in spans i) c → IsIn (span_in spans j) c → i ≢ j
      → (slice_index (tops_in tops c) i + height_in (span_in spans i) c + 12 ≤ slice_index (tops_in tops c) j)
      ⊎ (slice_index (tops_in tops c) j + height_in (span_in spans j) c + 12 ≤ slice_index (tops_in tops c) i)
  apart_in c i j low wi wj hi hj differ =
      elim ((are_columns.each c low).apart i j wi wj hi hj differ) [
        | inl h ↦ inl (omega (arith, h, height_at c i wi))
        | inr h ↦ inr (omega (arith, h, height_at c j wj))
      ]

  apart_boxes : (i j : ℕ) → i < length boxes → j < length boxes → i ≢ j → (box_in boxes i).column ≡ (box_in boxes j).column → IsAbove (box_in boxes i) (box_in boxes j) ⊎ IsAbove (box_in boxes j) (box_in boxes i)
  apart_boxes i j wi wj differ same =
      let si = span_in spans i in
      let sj = span_in spans j in
      let e : sj.column ≡ si.column = sym (sym (column_is i wi) ∙ same ∙ column_is j wj) in
      let ti = ap (λ b. b.top) (box_is i wi) in
      let tj = ap (λ b. b.top) (box_is j wj) ∙ ap (λ c. slice_index (tops_in tops c) j) e in
      let hi = ap (λ b. b.height) (box_is i wi) ∙ sym (height_here si) in
      let hj = ap (λ b. b.height) (box_is j wj) ∙ sym (height_here sj) ∙ ap (height_in sj) e in
      elim (apart_in si.column i j (column_low i wi) (omega (arith, wi, many)) (omega (arith, wj, many)) (inl refl) (inl e) differ) [
        | inl h ↦ inl (omega (arith, h, ti, tj, hi, hj))
        | inr h ↦ inr (omega (arith, h, ti, tj, hi, hj))
      ]

  beside_boxes : (i j : ℕ) → i < length boxes → j < length boxes → (box_in boxes i).column < (box_in boxes j).column → (box_in boxes i).left + (box_in boxes i).width + 46 ≤ (box_in boxes j).left
  beside_boxes i j wi wj less =
      let ci = (span_in spans i).column in
      let cj = (span_in spans j).column in
      let low : ci < cj = omega (arith, less, column_is i wi, column_is j wj) in
      let far' = beside_columns columns bands are_bands ci cj low (column_low j wj) in
      let li = ap (λ b. b.left) (box_is i wi) in
      let wid = ap (λ b. b.width) (box_is i wi) in
      let lj = ap (λ b. b.left) (box_is j wj) in
      omega (arith, far', li, wid, lj, are_bands.boxes ci (column_low i wi), are_bands.tabs cj (column_low j wj))

  across_boxes : (k : ℕ) → k < length boxes → (box_in boxes k).left + (box_in boxes k).width ≤ 900000
  across_boxes k within =
      let l = ap (λ b. b.left) (box_is k within) in
      let w = ap (λ b. b.width) (box_is k within) in
      omega (arith, l, w, are_bands.low (span_in spans k).column (column_low k within), are_bands.boxes (span_in spans k).column (column_low k within))

  down_boxes : (standing : IsStanding spans tops) (k : ℕ) → k < length boxes → (box_in boxes k).top + (box_in boxes k).height ≤ 10301010
  down_boxes standing k within =
      let c = (span_in spans k).column in
      let t = ap (λ b. b.top) (box_is k within) in
      let h = ap (λ b. b.height) (box_is k within) in
      let low = standing.low c k 0 (omega (arith, within, many, (are_columns.each c (column_low k within)).long)) in
      let high = standing.high k no_span (omega (arith, within, many)) in
      omega (arith, t, h, low, high)

  wide_boxes : AreRoomy nodes spans bands columns → (k : ℕ) (d : Node) → k < length nodes → min (slice_index_or nodes k d).width 1000 ≤ (box_in boxes k).width
  wide_boxes roomy k d within =
      let wk : k < length boxes = omega (arith, within, many, are_spans.long) in
      omega (arith, (roomy (span_in spans k).column (column_low k wk)).box k d within refl, ap (λ b. b.width) (box_is k wk))

  pub boxes_are : IsStanding spans tops → AreRoomy nodes spans bands columns → AreBoxes nodes edges boxes
  boxes_are standing roomy = record {
    once = many ∙ are_spans.long;
    high = λ k d within. ap (λ b. b.height) (box_is k (omega (arith, within, many, are_spans.long))) ∙ (are_spans.each k d within).high;
    apart = apart_boxes;
    beside = beside_boxes;
    wide = wide_boxes roomy;
    lead = lead_same nodes edges (λ k. (span_in spans k).column) (λ k. (box_in boxes k).column) are_spans.lead (λ k within. column_is k (omega (arith, within, many, are_spans.long)));
    across = across_boxes;
    down = down_boxes standing;
  }

  -- ---- how much there is
  few_columns : All (λ s. s.column < job_count nodes + 3) spans
  few_columns = All-weaker (λ s. s.column ≤ job_count nodes + 2) (λ s. s.column < job_count nodes + 3) (λ s h. omega (arith, h)) spans are_spans.few

  slots_within : All (λ s. (s.node < length nodes) × (s.column < job_count nodes + 3)) slots
  slots_within =
      All-weaker (λ s. (s ≡ slot_of spans bands tops s.node s.column) × Passes (span_in spans s.node) s.column × (s.node < length spans))
      (λ s. (s.node < length nodes) × (s.column < job_count nodes + 3))
      (λ s h. (omega (arith, h.2, are_spans.long), omega (arith, h.1.1, are_spans.bound (job_count nodes + 3) few_columns s.node h.2))) slots has.each

  pub size_is : IsBounded nodes boxes slots
  size_is = record {
    columns = λ k within. omega (arith, column_is k within, few_columns k no_span (omega (arith, within, many)));
    slot_columns = λ s inside. (All-contains (λ s. (s.node < length nodes) × (s.column < job_count nodes + 3)) slots s slots_within inside).1;
    slot_count = slots_few slots (length nodes) (job_count nodes + 3) has.order slots_within;
  }

  -- ---- slots
  slot_is : (s : Slot) → Contains slots s → (s ≡ slot_of spans bands tops s.node s.column) × Passes (span_in spans s.node) s.column × (s.node < length spans)
  slot_is s inside = All-contains (λ s. (s ≡ slot_of spans bands tops s.node s.column) × Passes (span_in spans s.node) s.column × (s.node < length spans)) slots s has.each inside

  -- a node's line leaves each of its columns but the last
  leaves : (k c : ℕ) → k < length boxes → (span_in spans k).column ≤ c → ((span_in spans k).column < c → c < (span_in spans k).reach) → Leaves boxes slots k c (right_end spans bands tops k c)
  leaves k c within low high =
      let s = span_in spans k in
      elim (cases_lt s.column c) [
        | inl less ↦ (let t = slot_of spans bands tops k c in
            let e = height_passing s c (less, high less) in
            inr (t, (has.before k c (omega (arith, within, many)) (less, high less), refl, refl, refl, omega (arith, e))))
        | inr reached ↦ (let e : c ≡ s.column = omega (arith, low, reached) in
            let l = ap (λ b. b.left) (box_is k within) in
            let w = ap (λ b. b.width) (box_is k within) in
            let t = ap (λ b. b.top) (box_is k within) in
            let h = ap (λ b. b.height) (box_is k within) in
            let x = ap (λ d. (band_in bands d).right) e in
            let y = ap (λ d. slice_index (tops_in tops d) k) e in
            let z : height_in s c ≡ (box_in boxes k).height = ap (height_in s) e ∙ height_here s ∙ sym h in
            inl (column_is k within ∙ sym e, omega (arith, l, w, x, are_bands.boxes s.column (column_low k within)), ap (λ n. slice_index (tops_in tops c) k + n / 2) z ∙ ap (λ n. n + (box_in boxes k).height / 2) (y ∙ sym t)))
      ]

  joined' : (s : Slot) → Contains slots s → Leaves boxes slots s.node (s.column - 1) s.from
  joined' s inside =
      let is = slot_is s inside in
      let P : Point → Type 0 = λ p. Leaves boxes slots s.node (s.column - 1) p in
      subst P (sym (ap (λ x. x.from) is.0)) (leaves s.node (s.column - 1) (omega (arith, is.2, many)) (omega (arith, is.1.0)) (λ _. omega (arith, is.1.0, is.1.1)))

  later' : (s : Slot) → Contains slots s → (box_in boxes s.node).column < s.column
  later' s inside =
      let is = slot_is s inside in
      omega (arith, is.1.0, column_is s.node (omega (arith, is.2, many)))

  slot_low : (s : Slot) → Contains slots s → (box_in boxes s.node).column < s.column
  slot_low s inside = later' s inside

  clear' : (s : Slot) (k : ℕ) → Contains slots s → k < length boxes → (box_in boxes k).column ≡ s.column → (s.top + 12 ≤ (box_in boxes k).top) ⊎ ((box_in boxes k).top + (box_in boxes k).height + 12 ≤ s.top)
  clear' s k inside within same =
      let is = slot_is s inside in
      let sk = span_in spans k in
      let c = sk.column in
      let e : s.column ≡ c = sym same ∙ column_is k within in
      let P : ℕ → Type 0 = λ d. Passes (span_in spans s.node) d in
      let passes : Passes (span_in spans s.node) c = subst P e is.1 in
      let differ : s.node ≢ k = λ f. omega (arith, passes.0, ap (λ n. (span_in spans n).column) f) in
      let t = ap (λ x. x.top) is.0 ∙ ap (λ d. slice_index (tops_in tops d) s.node) e in
      let tk = ap (λ b. b.top) (box_is k within) in
      let hk = ap (λ b. b.height) (box_is k within) ∙ sym (height_here sk) in
      let hs = height_passing (span_in spans s.node) c passes in
      elim (apart_in c s.node k (column_low k within) is.2 (omega (arith, within, many)) (inr passes) (inl refl) differ) [
        | inl h ↦ inl (omega (arith, h, t, tk, hs))
        | inr h ↦ inr (omega (arith, h, t, tk, hk))
      ]

  apart_slots : (in_columns : (s : Slot) → Contains slots s → s.column < columns) → (s t : Slot) → Contains slots s → Contains slots t → s.node ≢ t.node → s.column ≡ t.column → (s.top + 12 ≤ t.top) ⊎ (t.top + 12 ≤ s.top)
  apart_slots in_columns s t ins int differ same =
      let is = slot_is s ins in
      let it = slot_is t int in
      let P : ℕ → Type 0 = λ d. Passes (span_in spans t.node) d in
      let passes : Passes (span_in spans t.node) s.column = subst P (sym same) it.1 in
      let ts = ap (λ x. x.top) is.0 in
      let tt' = ap (λ x. x.top) it.0 ∙ ap (λ d. slice_index (tops_in tops d) t.node) (sym same) in
      let hs = height_passing (span_in spans s.node) s.column is.1 in
      let ht = height_passing (span_in spans t.node) s.column passes in
      elim (apart_in s.column s.node t.node (in_columns s ins) is.2 it.2 (inr is.1) (inr passes) differ) [
        | inl h ↦ inl (omega (arith, h, ts, tt', hs))
        | inr h ↦ inr (omega (arith, h, ts, tt', ht))
      ]

  -- no line leads beyond the last column
  in_columns : (s : Slot) → Contains slots s → s.column < columns
  in_columns s inside =
      let is = slot_is s inside in
      omega (arith, is.1.1, are_spans.bound columns past s.node is.2)

  pub slots_are : AreSlots boxes slots
  slots_are = record { within = λ s inside. omega (arith, (slot_is s inside).2, many); order = has.order; joined = joined'; later = later'; clear = clear'; apart = apart_slots in_columns }

  -- ---- paths
  arrives : (e : Edge) → e.target < length nodes → Arrives nodes boxes e (bend_of spans bands tops e) (end_of nodes spans bands e)
  arrives e within =
      let k = e.target in
      let wk : k < length boxes = omega (arith, within, many, are_spans.long) in
      let t = ap (λ b. b.top) (box_is k wk) in
      let l = ap (λ b. b.left) (box_is k wk) in (
        λ d _. ap (λ n. n + (span_in spans k).first_port + 22 * min e.port 32) (sym t) ∙ ap (λ n. (box_in boxes k).top + n + 22 * min e.port 32) (are_spans.each k d within).port,
        omega (arith, l, are_bands.tabs (span_in spans k).column (column_low k wk)),
        ap (λ n. cond (is_some (tab_in nodes k e.port)) (band_in bands (span_in spans k).column).left n) (sym l),
      )

  path_is : (lanes : List ℕ) (e : Edge) (p : Path) → e.source < length nodes → e.target < length nodes → (span_in spans e.target).column ≤ (span_in spans e.source).reach → IsPathOf nodes spans bands tops lanes e p → IsPath nodes boxes slots e p
  path_is lanes e (Forward from bend end) ws wt reached is =
      let s = e.source in
      let ls : s < length boxes = omega (arith, ws, many, are_spans.long) in
      let lt : e.target < length boxes = omega (arith, wt, many, are_spans.long) in
      let es = column_is s ls in
      let et = column_is e.target lt in
      let c = (span_in spans e.target).column in
      let P : Point → Type 0 = λ q. Leaves boxes slots s (c - 1) q in
      let Q : ℕ → Type 0 = λ n. Leaves boxes slots s (n - 1) from in
      let R : Point → ℕ → Type 0 = λ q n. Arrives nodes boxes e q n in
      let S : Point → Type 0 = λ q. R q end in
      let T : ℕ → Type 0 = λ n. R (bend_of spans bands tops e) n in (
        omega (arith, es, et, is.0),
        subst Q (sym et) (subst P (sym is.1) (leaves s (c - 1) ls (omega (arith, is.0)) (λ _. omega (arith, is.0, reached)))),
        subst S (sym is.2) (subst T (sym is.3) (arrives e wt)),
      )
  path_is lanes e (Back from lane bend end) ws wt reached is =
      let s = e.source in
      let ls : s < length boxes = omega (arith, ws, many, are_spans.long) in
      let lt : e.target < length boxes = omega (arith, wt, many, are_spans.long) in
      let es = column_is s ls in
      let et = column_is e.target lt in
      let c = (span_in spans s).column in
      let P : Point → Type 0 = λ q. Leaves boxes slots s c q in
      let Q : ℕ → Type 0 = λ n. Leaves boxes slots s n from in
      let R : Point → ℕ → Type 0 = λ q n. Arrives nodes boxes e q n in
      let S : Point → Type 0 = λ q. R q end in
      let T : ℕ → Type 0 = λ n. R (bend_of spans bands tops e) n in (
        omega (arith, es, et, is.0),
        subst Q (sym es) (subst P (sym is.1) (leaves s c ls (omega arith) (λ less. absurd (omega (arith, less))))),
        subst S (sym is.2) (subst T (sym is.3) (arrives e wt)),
      )

  pub paths_are : (lanes : List ℕ) (paths : List Path) → length paths ≡ length edges
      → ((k : ℕ) (d : Path) (e : Edge) → k < length edges → IsPathOf nodes spans bands tops lanes (slice_index_or edges k e) (slice_index_or paths k d))
      → ArePaths nodes edges boxes slots paths
  paths_are lanes paths once is = record {
    once = once;
    each = λ k e d within ws wt. path_is lanes (slice_index_or edges k e) (slice_index_or paths k d) ws wt (are_spans.reached k e within ws wt) (is k d e within);
  }

  -- ---- tabs
  module _ (roomy : AreRoomy nodes spans bands columns) (t : Tab) (is : t ≡ tab_of spans bands tops t.node t.port) (some : is_some (tab_in nodes t.node t.port) ≡ true) (within : t.node < length nodes) where
    wk : t.node < length boxes
    wk = omega (arith, within, many, are_spans.long)

    low : (span_in spans t.node).column < columns
    low = column_low t.node wk

    middle' : (d : Node) → t.top + 9 ≡ (box_in boxes t.node).top + first_port_of (slice_index_or nodes t.node d).kind (slice_index_or nodes t.node d).tabs.items + 22 * min t.port 32
    middle' d =
        let x = slice_index_or nodes t.node d in
        omega (arith, ap (λ y. y.top) is, ap (λ b. b.top) (box_is t.node wk), (are_spans.each t.node d within).port, port_low x.kind x.tabs.items)

    after' : (i : ℕ) → i < length boxes → (box_in boxes i).column < (box_in boxes t.node).column → (box_in boxes i).left + (box_in boxes i).width + 46 ≤ t.left
    after' i wi less =
        let ci = (span_in spans i).column in
        let lower : ci < (span_in spans t.node).column = omega (arith, less, column_is i wi, column_is t.node wk) in
        let far = beside_columns columns bands are_bands ci (span_in spans t.node).column lower low in
        omega (arith, far, ap (λ b. b.left) (box_is i wi), ap (λ b. b.width) (box_is i wi), are_bands.boxes ci (column_low i wi), ap (λ y. y.left) is)

    inside' : IsJob (kind_in nodes t.node) → t.port < 32 → ((box_in boxes t.node).top ≤ t.top) × (t.top + 18 ≤ (box_in boxes t.node).top + (box_in boxes t.node).height)
    inside' job few =
        let d = some_of nodes t.node within in
        let x = slice_index_or nodes t.node d in
        let P : Kind → Type 0 = λ k. IsJob k in
        let job' : IsJob x.kind = subst P (get_or-map (λ n. n.kind) nodes t.node d Resource within) job in
        let tabs_is : tab_in nodes t.node t.port ≡ get_or x.tabs.items t.port None = ap (λ ts. get_or ts t.port None) (get_or-map (λ n. n.tabs.items) nodes t.node d [] within) in
        let inside = port_within x.tabs.items t.port (sym (ap is_some tabs_is) ∙ some) in
        let high = port_high x.kind x.tabs.items t.port job' inside few in
        let h = ap (λ b. b.height) (box_is t.node wk) ∙ (are_spans.each t.node d within).high in
        (omega (arith, middle' d, port_low x.kind x.tabs.items), omega (arith, middle' d, high, h))

    tab_is : IsTab nodes boxes t
    tab_is = record {
      within = within;
      has = some;
      beside = omega (arith, ap (λ y. y.left) is, ap (λ y. y.width) is, ap (λ b. b.left) (box_is t.node wk), are_bands.tabs (span_in spans t.node).column low);
      middle = middle';
      high = ap (λ y. y.height) is;
      wide = λ w at. omega (arith, (roomy (span_in spans t.node).column low).tab t.node t.port w within refl at, ap (λ y. y.width) is);
      after = after';
      inside = inside';
    }

  pub tabs_are : AreRoomy nodes spans bands columns → (tabs : List Tab) → HasTabs spans bands tops nodes (length nodes) 0 tabs → AreTabs nodes boxes tabs
  tabs_are roomy tabs has = record {
    each = λ t inside. (let h = All-contains (λ t. (t ≡ tab_of spans bands tops t.node t.port) × (is_some (tab_in nodes t.node t.port) ≡ true) × (t.node < length nodes)) tabs t has.each inside in
        tab_is roomy t h.0 h.1 h.2);
    all = λ k p within some. (tab_of spans bands tops k p, (has.before k p within some, refl, refl));
    order = has.order;
  }

  -- ---- lanes
  module _ (lanes : List ℕ) (paths : List Path) (many_paths : length paths ≡ length edges)
      (is : (k : ℕ) (d : Path) (e : Edge) → k < length edges → IsPathOf nodes spans bands tops lanes (slice_index_or edges k e) (slice_index_or paths k d)) where
    lane_of_path : (e : Edge) (p : Path) (l : ℕ) → IsPathOf nodes spans bands tops lanes e p → lane_of p ≡ Some l → (l ≡ slice_index lanes e.target) × IsBackward spans e
    lane_of_path e (Forward from bend end) l path at = absurd (none-some l at)
    lane_of_path e (Back from lane bend end) l path at = (sym (same_Some lane l at) ∙ path.4, path.0)

    lane_is : (k l : ℕ) → k < length edges → lane_at paths k ≡ Some l → (l ≡ slice_index lanes (edge_in edges k).target) × IsBackward spans (edge_in edges k)
    lane_is k l within at =
        let p = slice_index_or paths k no_path in
        let e = get_or-map lane_of paths k no_path None (omega (arith, within, many_paths)) in
        lane_of_path (edge_in edges k) p l (is k no_path (record { source = 0; target = 0; port = 0; trigger = false }) within) (sym e ∙ at)

    module _ (marks : List Bool) (bottom next end : ℕ) (marked : AreMarked spans edges (length edges) marks) (are : AreLanes marks bottom lanes (length spans) next end)
        (boxes_low : All (λ b. b.top + b.height ≤ bottom) boxes) (slots_low : All (λ s. s.top ≤ bottom) slots) where
      target : (k : ℕ) → IsWithin nodes (edge_in edges k) → (edge_in edges k).target < length spans
      target k w = omega (arith, w.1, are_spans.long)

      mark : (k l : ℕ) → k < length edges → IsWithin nodes (edge_in edges k) → lane_at paths k ≡ Some l → get_or marks (edge_in edges k).target true ≡ true
      mark k l within w at = marked.each k within (lane_is k l within at).1 (target k w)

      pub lanes_are : AreLow nodes edges boxes slots paths end
      lanes_are = record {
        below_boxes = λ k l i within w at wi. omega (arith, (lane_is k l within at).0, are.below (edge_in edges k).target (target k w), boxes_low i no_box wi);
        below_slots = λ k l s within w at inside. omega (arith, (lane_is k l within at).0, are.below (edge_in edges k).target (target k w), All-contains (λ s. s.top ≤ bottom) slots s slots_low inside);
        within = λ k l within w at. omega (arith, (lane_is k l within at).0, (are.ends (edge_in edges k).target (target k w) (mark k l within w at)).1);
        shared = λ j k l m wj wk ij ik aj ak same. (lane_is j l wj aj).0 ∙ ap (slice_index lanes) same ∙ sym (lane_is k m wk ak).0;
        apart = λ j k l m wj wk ij ik aj ak differ.
            (let h = are.apart (edge_in edges j).target (edge_in edges k).target (target j ij) (target k ik) (mark j l wj ij aj) (mark k m wk ik ak) differ in
            elim h [
              | inl x ↦ inl (omega (arith, x, (lane_is j l wj aj).0, (lane_is k m wk ak).0))
              | inr x ↦ inr (omega (arith, x, (lane_is j l wj aj).0, (lane_is k m wk ak).0))
            ]);
      }

  -- ---- the frame
  pub framed : (bottom end width : ℕ) → All (λ b. b.top + b.height ≤ bottom) boxes → All (λ s. s.top ≤ bottom) slots → bottom ≤ end
      → ((c : ℕ) → c < columns → (band_in bands c).right + 40 ≤ width) → IsFramed boxes slots width end
  framed bottom end width boxes_low slots_low above wide = record {
    right = λ k within. (let c = (span_in spans k).column in
        omega (arith, wide c (column_low k within), ap (λ b. b.left) (box_is k within), ap (λ b. b.width) (box_is k within), are_bands.boxes c (column_low k within)));
    low = λ k within. omega (arith, boxes_low k no_box within, above);
    slots_right = λ s inside. omega (arith, wide s.column (in_columns s inside), ap (λ y. y.right) (slot_is s inside).0);
    slots_low = λ s inside. omega (arith, All-contains (λ s. s.top ≤ bottom) slots s slots_low inside, above);
  }

  -- boxes and slots have bounds
  pub boxes_bound : IsStanding spans tops → All (λ b. b.top + b.height ≤ 10301010) boxes
  boxes_bound standing = All-from_get_or (λ b. b.top + b.height ≤ 10301010) boxes no_box (down_boxes standing)

  pub slots_bound : All (λ s. s.top ≤ 10300000) slots
  slots_bound k d within =
      let s = slice_index_or slots k d in
      let inside = Contains-get_or slots k d within in
      let at = slot_is s inside in
      omega (arith, ap (λ y. y.top) at.0, (are_columns.each s.column (in_columns s inside)).low s.node 0 (omega (arith, at.2, (are_columns.each s.column (in_columns s inside)).long)))

-- what stands has bounds
pub standing_all : {A : Type 0} (nodes : List Node) (edges : List Edge) (spans : List Span) (tops : List (Vec ℕ A)) (columns : ℕ) → AreSpans nodes edges spans → AreColumns spans columns tops → IsStanding spans tops
standing_all nodes edges spans tops columns are_spans are_columns = record {
  high = are_spans.low;
  ports = are_spans.ports;
  low = λ c. elim (cases_lt c columns) [
    | inl within ↦ (are_columns.each c within).low
    | inr past ↦ (let P : List ℕ → Type 0 = λ xs. All (λ t. t ≤ 10300000) xs in
        subst P (sym (get_or_past (map (λ v. v.items) tops) c [] (omega (arith, past, are_columns.long, length-map tops (λ v. v.items))))) (All-nil (λ t. t ≤ 10300000)))
  ];
}

-- what is drawn is a picture
pub picture_all : {A : Type 0} (nodes : List Node) (edges : List Edge) (spans : List Span) (bands : List Band) (tops : List (Vec ℕ A)) (columns : ℕ) (lanes : List ℕ) (p : Picture)
    → AreSpans nodes edges spans → All (λ s. s.column < columns) spans → AreColumns spans columns tops → AreBands columns bands → AreRoomy nodes spans bands columns
    → length p.boxes.items ≡ length spans → ((k : ℕ) (d : NodeBox) → k < length spans → slice_index_or p.boxes.items k d ≡ box_of spans bands tops k)
    → HasSlots spans bands tops (length spans) 0 p.slots.items → HasTabs spans bands tops nodes (length nodes) 0 p.tabs.items
    → length p.paths.items ≡ length edges
    → ((k : ℕ) (d : Path) (e : Edge) → k < length edges → IsPathOf nodes spans bands tops lanes (slice_index_or edges k e) (slice_index_or p.paths.items k d))
    → (bottom : ℕ) → All (λ b. b.top + b.height ≤ bottom) p.boxes.items → All (λ s. s.top ≤ bottom) p.slots.items
    → (marks : List Bool) (next : ℕ) → AreMarked spans edges (length edges) marks → AreLanes marks bottom lanes (length spans) next p.height
    → ((c : ℕ) → c < columns → (band_in bands c).right + 40 ≤ p.width)
    → IsPicture nodes edges p
picture_all nodes edges spans bands tops columns lanes p are_spans past are_columns are_bands roomy many each has tabs once is bottom boxes_low slots_low marks next marked are wide = record {
  boxes_are = boxes_are nodes edges spans bands tops columns p.boxes.items p.slots.items are_spans past are_columns are_bands many each has (standing_all nodes edges spans tops columns are_spans are_columns) roomy;
  tabs_are = tabs_are nodes edges spans bands tops columns p.boxes.items p.slots.items are_spans past are_columns are_bands many each has roomy p.tabs.items tabs;
  slots_are = slots_are nodes edges spans bands tops columns p.boxes.items p.slots.items are_spans past are_columns are_bands many each has;
  paths_are = paths_are nodes edges spans bands tops columns p.boxes.items p.slots.items are_spans past are_columns are_bands many each has lanes p.paths.items once is;
  lanes_are = lanes_are nodes edges spans bands tops columns p.boxes.items p.slots.items are_spans past are_columns are_bands many each has lanes p.paths.items once is marks bottom next p.height marked are boxes_low slots_low;
  size_is = size_is nodes edges spans bands tops columns p.boxes.items p.slots.items are_spans past are_columns are_bands many each has;
  frame_is = framed nodes edges spans bands tops columns p.boxes.items p.slots.items are_spans past are_columns are_bands many each has bottom p.height p.width boxes_low slots_low are.above wide;
}

-- the last column ends where no other ends later
pub right_last : (bands : List Band) → AreBands (length bands) bands → (c : ℕ) → c < length bands → (band_in bands c).right ≤ (band_in bands (length bands - 1)).right
right_last bands are c within =
    let n = length bands - 1 in
    elim (cases_lt c n) [
      | inl before ↦ (let last : n < length bands = omega (arith, within) in omega (arith, beside_columns (length bands) bands are c n before last, are.tabs n last, are.boxes n last))
      | inr past ↦ (let e : c ≡ n = omega (arith, past, within) in omega (arith, ap (λ k. (band_in bands k).right) e))
    ]
