-- One more step of the loops that make spans, columns, boxes, slots and paths.
use Rattle.std.proofs.Common.{◌≡◌, ℕ, ◌+◌, ◌<◌, ◌≤◌, ◌⊎◌, ◌↔◌, Bool, true, false, List, [], ◌∷◌, ◌++◌, length, map, max, get_or, set, slice_index, slice_index_or, inl, inr, refl, sym, ap, ◌∙◌, subst, arith, length-set, ◌-◌, nat_eq, IsTrue}
use Rattle.std.specs.Prelude.{All, Contains}
use Rattle.std.specs.declared.vec.Vec.{Vec}
use Rattle.std.proofs.lemmas.Bool.{cases_lt, cases_eq, cases_Bool, cond-true, cond-false, false≢true}
use Rattle.std.proofs.lemmas.List.{get_or-set_same, get_or-set_other, get_or_append_left, get_or_push, get_or_default, length_push, length-map, map_push, set_past}
use Rattle.std.proofs.lemmas.List.Elements.{All-set, All-push, All-weaker, All-same, All-map, All-get_or, Contains-append_left, Contains-push}
use Rattle.std.proofs.lemmas.List.Quantifiers.{all_pairs_push}
use Rattle.ccr_layout.specs.declared.graph.Node.{Node}
use Rattle.ccr_layout.specs.declared.graph.Edge.{Edge}
use Rattle.ccr_layout.specs.declared.span.Span.{Span}
use Rattle.ccr_layout.specs.declared.band.Band.{Band}
use Rattle.ccr_layout.specs.declared.picture.Point.{Point}
use Rattle.ccr_layout.specs.declared.picture.Slot.{Slot}
use Rattle.ccr_layout.specs.declared.picture.Path.{Path}
use Rattle.ccr_layout.specs.Nodes.{job_count}
use Rattle.ccr_layout.specs.Spans.{Passes, IsIn, height_in, span_in, IsSpanOf, AreSpans}
use Rattle.ccr_layout.specs.Reaches.{AreReaches}
use Rattle.ccr_layout.specs.Places.{ArePlaced, IsColumn}
use Rattle.ccr_layout.specs.Standing.{tops_in, AreColumns}
use Rattle.ccr_layout.specs.Drawing.{right_end, bend_of, end_of, slot_of, path_of, HasSlots, IsPathOf}
use Rattle.ccr_layout.specs.Passed.{LeadOn}
use Rattle.ccr_layout.proofs.PlaceLaws.{low_at}
use Rattle.ccr_layout.proofs.LeadLaws.{lead_same}

abbrev no_span : Span
no_span = record { column = 0; reach = 0; height = 0; first_port = 0 }

-- what holds of each element, by its position
pub push_more : {X : Type 0} (P : ℕ → X → Type 0) (xs : List X) (x d : X) (n : ℕ) → length xs ≡ n → ((k : ℕ) → k < n → P k (get_or xs k d)) → P n x → (k : ℕ) → k < n + 1 → P k (get_or (xs ++ x ∷ []) k d)
push_more {X} P xs x d n long each new k less =
    elim (cases_lt k n) [
      | inl inside ↦ (let Q : X → Type 0 = λ y. P k y in subst Q (sym (get_or_append_left xs (x ∷ []) d k (omega (arith, inside, long)))) (each k inside))
      | inr past ↦ (let e : n ≡ k = omega (arith, past, less) in
          let Q : X → Type 0 = λ y. P k y in
          let R : ℕ → Type 0 = λ m. P m x in
          subst Q (sym (get_or_push xs x d k (long ∙ e))) (subst R e new))
    ]

-- ---- the nodes of a column
pub members_more : (spans : List Span) (c node : ℕ) (xs : List ℕ) → ((k : ℕ) → k < node → IsIn (span_in spans k) c → Contains xs k) → (k : ℕ) → k < node + 1 → IsIn (span_in spans k) c → Contains (xs ++ node ∷ []) k
members_more spans c node xs all k less is =
    elim (cases_lt k node) [
      | inl inside ↦ Contains-append_left xs (node ∷ []) k (all k inside is)
      | inr past ↦ (let e : k ≡ node = omega (arith, past, less) in
          let P : ℕ → Type 0 = λ n. Contains (xs ++ n ∷ []) k in
          subst P e (Contains-push xs k))
    ]

pub members_same : (spans : List Span) (c node : ℕ) (xs : List ℕ) → ((k : ℕ) → k < node → IsIn (span_in spans k) c → Contains xs k) → (IsIn (span_in spans node) c → ⊥) → (k : ℕ) → k < node + 1 → IsIn (span_in spans k) c → Contains xs k
members_same spans c node xs all none k less is =
    elim (cases_lt k node) [
      | inl inside ↦ all k inside is
      | inr past ↦ (let e : k ≡ node = omega (arith, past, less) in
          let P : ℕ → Type 0 = λ n. IsIn (span_in spans n) c in
          absurd (none (subst P e is)))
    ]

-- ---- how far nodes reach
module _ (columns : List ℕ) (edges : List Edge) (reaches : List ℕ) (i : ℕ) (e : Edge) (is : AreReaches columns edges i reaches) (within : i < length edges) (read : e ≡ get_or edges i e) where
  more : ℕ
  more = max (slice_index reaches e.source) (slice_index columns e.target)

  grows : (j : ℕ) → slice_index reaches j ≤ slice_index (set reaches e.source more) j
  unfolding more
  grows j =
      elim (cases_eq j e.source) [
        | inl same ↦ elim (cases_lt e.source (length reaches)) [
          | inl inside ↦ (let h = get_or-set_same reaches e.source more 0 inside in
              let f = ap (slice_index (set reaches e.source more)) same in
              let g = ap (slice_index reaches) same in
              omega (arith, h, f, g))
          | inr past ↦ omega (arith, ap (λ xs. slice_index xs j) (set_past reaches e.source more past))
        ]
        | inr other ↦ omega (arith, get_or-set_other reaches e.source j more 0 other)
      ]

  each' : (k : ℕ) (d : Edge) → k < i + 1 → (slice_index_or edges k d).source < length columns
      → slice_index columns (slice_index_or edges k d).target ≤ slice_index (set reaches e.source more) (slice_index_or edges k d).source
  unfolding more
  each' k d less inside =
      elim (cases_lt k i) [
        | inl earlier ↦ omega (arith, is.each k d earlier inside, grows (slice_index_or edges k d).source)
        | inr past ↦ (let f : i ≡ k = omega (arith, past, less) in
            let g : slice_index_or edges k d ≡ e = ap (λ n. slice_index_or edges n d) (sym f) ∙ get_or_default edges i d e within ∙ sym read in
            let s = ap (λ x. x.source) g in
            let t = ap (λ x. slice_index columns x.target) g in
            let u = ap (λ x. slice_index (set reaches e.source more) x.source) g in
            let h = get_or-set_same reaches e.source more 0 (omega (arith, inside, s, is.long)) in
            omega (arith, t, u, h))
      ]

  bound' : (n : ℕ) → All (λ c. c < n) columns → All (λ r. r ≤ n) (set reaches e.source more)
  unfolding more
  bound' n low =
      let a = low_at n columns e.target (All-weaker (λ c. c < n) (λ c. c ≤ n) (λ c h. omega (arith, h)) columns low) in
      let b = low_at n reaches e.source (is.bound n low) in
      All-set (λ r. r ≤ n) reaches e.source more (omega (arith, a, b)) (is.bound n low)

  pub reaches_more : AreReaches columns edges (i + 1) (set reaches e.source (max (slice_index reaches e.source) (slice_index columns e.target)))
  unfolding more
  reaches_more = record { long = length-set reaches e.source more ∙ is.long; each = each'; bound = bound' }

-- ---- the tops of columns
pub columns_more : {A : Type 0} (spans : List Span) (c : ℕ) (tops : List (Vec ℕ A)) (v : Vec ℕ A) → AreColumns spans c tops → IsColumn spans c v.items → AreColumns spans (c + 1) (tops ++ v ∷ [])
columns_more {A} spans c tops v are is = record {
  long = length_push tops v ∙ ap (λ n. n + 1) are.long;
  each = each';
}
  where
    each' : (k : ℕ) → k < c + 1 → IsColumn spans k (tops_in (tops ++ v ∷ []) k)
    each' k less =
        let P : ℕ → List ℕ → Type 0 = λ n xs. IsColumn spans n xs in
        let Q : List (List ℕ) → Type 0 = λ xs. IsColumn spans k (slice_index_or xs k []) in
        let long : length (map (λ v. v.items) tops) ≡ c = length-map tops (λ v. v.items) ∙ are.long in
        subst Q (sym (map_push (λ v. v.items) tops v)) (push_more P (map (λ v. v.items) tops) v.items [] c long are.each is k less)

-- ---- slots
-- a slot before a column lies before a later one, and before the next node's
slot_weaker : (node column to : ℕ) → column ≤ to → (s : Slot) → (s.node < node) ⊎ ((s.node ≡ node) × (s.column < column)) → (s.node < node) ⊎ ((s.node ≡ node) × (s.column < to))
slot_weaker node column to from s (inl less) = inl less
slot_weaker node column to from s (inr same) = inr (same.0, omega (arith, same.1, from))

slot_passed : (node column : ℕ) (s : Slot) → (s.node < node) ⊎ ((s.node ≡ node) × (s.column < column)) → (s.node < node + 1) ⊎ ((s.node ≡ node + 1) × (s.column < 0))
slot_passed node column s (inl less) = inl (omega (arith, less))
slot_passed node column s (inr same) = inl (omega (arith, same.0))

module _ {A : Type 0} (spans : List Span) (bands : List Band) (tops : List (Vec ℕ A)) (node column : ℕ) (slots : List Slot) (has : HasSlots spans bands tops node column slots) where
  pub slots_more : node < length spans → Passes (span_in spans node) column → HasSlots spans bands tops node (column + 1) (slots ++ slot_of spans bands tops node column ∷ [])
  slots_more within passes =
      let new : Slot = slot_of spans bands tops node column in
      let R : Slot → Slot → Type 0 = λ s t. (s.node < t.node) ⊎ ((s.node ≡ t.node) × (s.column < t.column)) in
      let E : Slot → Type 0 = λ s. (s.node < node) ⊎ ((s.node ≡ node) × (s.column < column)) in
      let F : Slot → Type 0 = λ s. (s.node < node) ⊎ ((s.node ≡ node) × (s.column < column + 1)) in
      record {
        each = All-push (λ s. (s ≡ slot_of spans bands tops s.node s.column) × Passes (span_in spans s.node) s.column × (s.node < length spans)) slots (slot_of spans bands tops node column) has.each (refl, passes, within);
        early = All-push F slots new (All-weaker E F (λ s e. slot_weaker node column (column + 1) (omega arith) s e) slots has.early) (inr (refl, omega arith));
        order = all_pairs_push R slots new has.order (λ k d less. All-get_or E slots k d less has.early);
        before = λ k c less p. Contains-append_left slots (slot_of spans bands tops node column ∷ []) (slot_of spans bands tops k c) (has.before k c less p);
        here = λ c less p. elim (cases_lt c column) [
          | inl inside ↦ Contains-append_left slots (slot_of spans bands tops node column ∷ []) (slot_of spans bands tops node c) (has.here c inside p)
          | inr past ↦ (let e : column ≡ c = omega (arith, past, less) in
              let P : ℕ → Type 0 = λ n. Contains (slots ++ slot_of spans bands tops node column ∷ []) (slot_of spans bands tops node n) in
              subst P e (Contains-push slots (slot_of spans bands tops node column)))
        ];
      }

  -- no line passes the column of its own box, or one before it
  pub slots_first : (to : ℕ) → column ≤ to → to ≤ (span_in spans node).column + 1 → HasSlots spans bands tops node to slots
  slots_first to from low = record {
    each = has.each;
    early = All-weaker (λ s. (s.node < node) ⊎ ((s.node ≡ node) × (s.column < column))) (λ s. (s.node < node) ⊎ ((s.node ≡ node) × (s.column < to))) (λ s e. slot_weaker node column to from s e) slots has.early;
    order = has.order;
    before = has.before;
    here = λ c less p. absurd (omega (arith, less, low, p.0));
  }

  pub slots_next : (span_in spans node).reach ≤ column → HasSlots spans bands tops (node + 1) 0 slots
  slots_next past = record {
    each = has.each;
    early = All-weaker (λ s. (s.node < node) ⊎ ((s.node ≡ node) × (s.column < column))) (λ s. (s.node < node + 1) ⊎ ((s.node ≡ node + 1) × (s.column < 0))) (λ s e. slot_passed node column s e) slots has.early;
    order = has.order;
    before = λ k c less p. elim (cases_lt k node) [
      | inl inside ↦ has.before k c inside p
      | inr reached ↦ (let e : k ≡ node = omega (arith, reached, less) in
          let P : ℕ → Type 0 = λ n. Passes (span_in spans n) c in
          let Q : ℕ → Type 0 = λ n. Contains slots (slot_of spans bands tops n c) in
          let q : Passes (span_in spans node) c = subst P e p in
          subst Q (sym e) (has.here c (omega (arith, q.1, past)) q))
    ];
    here = λ c less p. absurd (omega (arith, less));
  }

-- ---- paths
pub path_is_of : {A : Type 0} (nodes : List Node) (spans : List Span) (bands : List Band) (tops : List (Vec ℕ A)) (lanes : List ℕ) (e : Edge) (from bend : Point) (end lane : ℕ) (b : Bool)
    → (IsTrue b ↔ ((span_in spans e.source).column < (span_in spans e.target).column))
    → ((span_in spans e.source).column < (span_in spans e.target).column → from ≡ right_end spans bands tops e.source ((span_in spans e.target).column - 1))
    → ((span_in spans e.target).column ≤ (span_in spans e.source).column → from ≡ right_end spans bands tops e.source (span_in spans e.source).column)
    → bend ≡ bend_of spans bands tops e → end ≡ end_of nodes spans bands e → lane ≡ slice_index lanes e.target → IsPathOf nodes spans bands tops lanes e (path_of from bend end lane b)
path_is_of nodes spans bands tops lanes e from bend end lane true is forward back bends ends at = let less = is.0 refl in (less, forward less, bends, ends)
path_is_of nodes spans bands tops lanes e from bend end lane false is forward back bends ends at =
    let past : (span_in spans e.target).column ≤ (span_in spans e.source).column = elim (cases_lt (span_in spans e.source).column (span_in spans e.target).column) [
      | inl less ↦ absurd (false≢true (is.1 less))
      | inr h ↦ h
    ] in
    (past, back past, bends, ends, at)

-- ---- spans
pub spans_all : (nodes : List Node) (edges : List Edge) (spans : List Span) (columns reaches : List ℕ) → length spans ≡ length nodes → length columns ≡ length nodes
    → ((k : ℕ) → k < length nodes → (d : Node) → IsSpanOf (slice_index_or nodes k d) (span_in spans k))
    → All (λ s. s.column ≤ 402) spans → All (λ s. s.column ≤ job_count nodes + 2) spans → All (λ s. s.height ≤ 710) spans → All (λ s. s.first_port ≤ 40) spans
    → ((k : ℕ) → k < length nodes → (span_in spans k).column ≡ slice_index columns k) → ((k : ℕ) → k < length nodes → (span_in spans k).reach ≡ slice_index reaches k)
    → AreReaches columns edges (length edges) reaches → LeadOn nodes edges (slice_index columns) → AreSpans nodes edges spans
spans_all nodes edges spans columns reaches long columns_long each left few low ports col rch are lead = record {
  long = long;
  each = λ k d within. each k within d;
  left = left;
  few = few;
  low = low;
  ports = ports;
  reached = λ k e within ws wt. omega (arith, are.each k e within (omega (arith, ws, columns_long)), col (slice_index_or edges k e).target wt, rch (slice_index_or edges k e).source ws);
  bound = λ n all k within. omega (arith, rch k (omega (arith, within, long)), low_at n reaches k (are.bound n (columns_low n all)));
  lead = lead_same nodes edges (slice_index columns) (λ k. (span_in spans k).column) lead col;
}
  where
    columns_low : (n : ℕ) → All (λ s. s.column < n) spans → All (λ c. c < n) columns
    columns_low n all k d within =
        omega (arith, get_or_default columns k d 0 within, col k (omega (arith, within, columns_long)), all k no_span (omega (arith, within, long, columns_long)))

pub record AreSpansTo (nodes : List Node) (columns reaches : List ℕ) (n : ℕ) (spans : List Span) : Type 0 where
  pub long : length spans ≡ n
  pub each : (k : ℕ) → k < n → (d : Node) → IsSpanOf (slice_index_or nodes k d) (span_in spans k)
  pub left : All (λ s. s.column ≤ 402) spans
  pub few : All (λ s. s.column ≤ job_count nodes + 2) spans
  pub low : All (λ s. s.height ≤ 710) spans
  pub ports : All (λ s. s.first_port ≤ 40) spans
  pub col : (k : ℕ) → k < n → (span_in spans k).column ≡ slice_index columns k
  pub rch : (k : ℕ) → k < n → (span_in spans k).reach ≡ slice_index reaches k

pub spans_more : (nodes : List Node) (columns reaches : List ℕ) (n : ℕ) (spans spans' : List Span) (x : Node) (s : Span) → AreSpansTo nodes columns reaches n spans → n < length nodes → x ≡ get_or nodes n x → IsSpanOf x s
    → s.column ≡ slice_index columns n → s.reach ≡ slice_index reaches n → All (λ c. c ≤ 402) columns → All (λ c. c ≤ job_count nodes + 2) columns → s.height ≤ 710 → s.first_port ≤ 40 → spans' ≡ spans ++ s ∷ [] → AreSpansTo nodes columns reaches (n + 1) spans'
spans_more nodes columns reaches n spans spans' x s is within read span column reach columns_low columns_few low port grown =
    let P : List Span → Type 0 = λ xs. AreSpansTo nodes columns reaches (n + 1) xs in
    subst P (sym grown) (record {
      long = length_push spans s ∙ ap (λ m. m + 1) is.long;
      each = push_more (λ k y. (d : Node) → IsSpanOf (slice_index_or nodes k d) y) spans s no_span n is.long is.each
          (λ d. let Q : Node → Type 0 = λ y. IsSpanOf y s in subst Q (read ∙ get_or_default nodes n x d within) span);
      left = All-push (λ y. y.column ≤ 402) spans s is.left (omega (arith, column, low_at 402 columns n columns_low));
      few = All-push (λ y. y.column ≤ job_count nodes + 2) spans s is.few (omega (arith, column, low_at (job_count nodes + 2) columns n columns_few));
      low = All-push (λ y. y.height ≤ 710) spans s is.low low;
      ports = All-push (λ y. y.first_port ≤ 40) spans s is.ports port;
      col = push_more (λ k y. y.column ≡ slice_index columns k) spans s no_span n is.long is.col column;
      rch = push_more (λ k y. y.reach ≡ slice_index reaches k) spans s no_span n is.long is.rch reach;
    })

-- ---- paths, one more
pub paths_more : (P : Edge → Path → Type 0) (edges : List Edge) (paths paths' : List Path) (p : Path) (i : ℕ) (x : Edge) → length paths ≡ i
    → ((k : ℕ) (d : Path) (e : Edge) → k < i → P (get_or edges k e) (get_or paths k d)) → i < length edges → x ≡ get_or edges i x → P x p → paths' ≡ paths ++ p ∷ []
    → (k : ℕ) (d : Path) (e : Edge) → k < i + 1 → P (get_or edges k e) (get_or paths' k d)
paths_more P edges paths paths' p i x long each within read new grown k d e less =
    let Q = λ (ys : List Path). P (get_or edges k e) (get_or ys k d) in
    subst Q (sym grown) (push_more (λ k y. P (get_or edges k e) y) paths p d i long (λ k low. each k d e low)
    (let R = λ (y : Edge). P y p in subst R (read ∙ get_or_default edges i x e within) new) k less)

-- ---- columns that are placed
height_low : (n : ℕ) (s : Span) (c : ℕ) → s.height ≤ n → height_in s c ≤ n
height_low n s c low =
    elim (cases_Bool (nat_eq s.column c)) [
      | inl is ↦ omega (arith, cond-true (nat_eq s.column c) s.height 0 is, low)
      | inr not ↦ omega (arith, cond-false (nat_eq s.column c) s.height 0 not)
    ]

pub heights_low : (n : ℕ) (spans : List Span) (c : ℕ) (heights : List ℕ) → heights ≡ map (λ s. height_in s c) spans → All (λ s. s.height ≤ n) spans → All (λ h. h ≤ n) heights
heights_low n spans c heights is low =
    All-same (λ h. h ≤ n) heights (map (λ s. height_in s c) spans) is
    (All-map (λ h. h ≤ n) (λ s. height_in s c) spans (All-weaker (λ s. s.height ≤ n) (λ s. height_in s c ≤ n) (λ s h. height_low n s c h) spans low))

pub column_placed : (spans : List Span) (c : ℕ) (order inside tops : List ℕ) → ArePlaced order (map (λ s. height_in s c) spans) tops → order ≡ inside
    → ((k : ℕ) → k < length spans → IsIn (span_in spans k) c → Contains inside k) → IsColumn spans c tops
column_placed spans c order inside tops is same has = record {
  long = is.long ∙ length-map spans (λ s. height_in s c);
  low = is.low;
  apart = λ a b la lb ha hb differ. is.apart a b (omega (arith, la, long)) (omega (arith, lb, long)) (in_order a (has a la ha)) (in_order b (has b lb hb)) differ;
}
  where
    long : length tops ≡ length spans
    long = is.long ∙ length-map spans (λ s. height_in s c)

    in_order : (k : ℕ) → Contains inside k → Contains order k
    in_order k h = let P : List ℕ → Type 0 = λ xs. Contains xs k in subst P (sym same) h
