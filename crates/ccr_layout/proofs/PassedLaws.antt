-- Edges from job to job lead to later columns, where there is no cycle.
use Rattle.std.proofs.Common.{◌≡◌, ◌≢◌, ℕ, zero, suc, ◌+◌, ◌<◌, ◌≤◌, ◌⊎◌, Bool, true, false, not, cond, eqb, Option, Some, None, List, [], ◌∷◌, ◌++◌, length, map, get_or, set, slice_index, inl, inr, refl, sym, ap, ◌∙◌, subst, arith}
use Rattle.std.specs.Prelude.{Contains}
use Rattle.std.specs.declared.vec.Vec.{Vec}
use Rattle.std.proofs.lemmas.Bool.{cases_lt, cases_eq, false≢true}
use Rattle.std.proofs.lemmas.List.{get_or-map, map-set, get_or-set_same, get_or-set_other, length-map}
use Rattle.std.proofs.lemmas.List.Sums.{sum_by-cons}
use Rattle.std.proofs.lemmas.List.Elements.{Contains-append_left, Contains-push, Contains-push_cases}
use Rattle.ccr_layout.specs.declared.graph.Node.{Node}
use Rattle.ccr_layout.specs.declared.graph.Edge.{Edge}
use Rattle.ccr_layout.specs.declared.graph.Kind.{Kind}
use Rattle.ccr_layout.specs.declared.graph.Kind.TheVariants.{Resource, Job}
use Rattle.ccr_layout.specs.Nodes.{IsJob, IsResource, is_job, job_count}
use Rattle.ccr_layout.specs.Layers.{named_in, naming, LeadsBack, AreLayers}
use Rattle.ccr_layout.specs.Columns.{AreGotten, ArePut, AreStood}
use Rattle.ccr_layout.specs.Passed.{kind_in, edge_in, IsPassed, Follows, IsOnCycle, IsGotten, IsWithin, LeadOn, AreNamed}
use Rattle.ccr_layout.proofs.LayerLaws.{cond_one, naming_cons}

abbrev no_edge : Edge
no_edge = record { source = 0; target = 0; port = 0; trigger = false }

-- there is something, or nothing
pub cases_Option : {X : Type 0} (o : Option X) → (o ≡ None) ⊎ ((x : X) × (o ≡ Some x))
cases_Option None = inl refl
cases_Option (Some x) = inr (x, refl)

module _ {A : Type 0} (nodes : List Node) (edges : List Edge) (i : ℕ) (named : List (Vec ℕ A)) (is : AreNamed nodes edges i named) (within : i < length edges) where
  abbrev e : Edge
  e = edge_in edges i

  -- the edge at a position below the next one: an earlier one, or this
  at_here : (k : ℕ) → i ≤ k → k < i + 1 → edge_in edges k ≡ e
  at_here k low high = let f : k ≡ i = omega (arith, low, high) in ap (edge_in edges) f

  pub named_same : (IsPassed nodes e → ⊥) → AreNamed nodes edges (i + 1) named
  named_same none = record {
    long = is.long;
    all = λ k less p inside. elim (cases_lt k i) [
      | inl earlier ↦ is.all k earlier p inside
      | inr past ↦ (let P : Edge → Type 0 = λ x. IsPassed nodes x in absurd (none (subst P (at_here k past less) p)))
    ];
    only = is.only;
  }

  pub named_more : (named' : List (Vec ℕ A)) → IsPassed nodes e → length named' ≡ length named → (e.target < length named → named_in named' e.target ≡ named_in named e.target ++ e.source ∷ [])
      → ((t : ℕ) → t ≢ e.target → named_in named' t ≡ named_in named t) → (length named ≤ e.target → named_in named' e.target ≡ named_in named e.target) → AreNamed nodes edges (i + 1) named'
  named_more named' passed long pushed others past' = record { long = long ∙ is.long; all = all'; only = only' }
    where
      kept : (t s : ℕ) → Contains (named_in named t) s → Contains (named_in named' t) s
      kept t s has =
          let P : List ℕ → Type 0 = λ xs. Contains xs s in
          elim (cases_eq t e.target) [
            | inl same ↦ (let Q : ℕ → Type 0 = λ n. Contains (named_in named n) s in
                let R : ℕ → Type 0 = λ n. Contains (named_in named' n) s in
                let h : Contains (named_in named e.target) s = subst Q same has in
                subst R (sym same) (elim (cases_lt e.target (length named)) [
                  | inl inside ↦ subst P (sym (pushed inside)) (Contains-append_left (named_in named e.target) (e.source ∷ []) s h)
                  | inr out ↦ subst P (sym (past' out)) h
                ]))
            | inr other ↦ subst P (sym (others t other)) has
          ]

      all' : (k : ℕ) → k < i + 1 → IsPassed nodes (edge_in edges k) → (edge_in edges k).target < length nodes
          → Contains (named_in named' (edge_in edges k).target) (edge_in edges k).source
      all' k less p inside =
          elim (cases_lt k i) [
            | inl earlier ↦ kept (edge_in edges k).target (edge_in edges k).source (is.all k earlier p inside)
            | inr reached ↦ (let g = at_here k reached less in
                let P : List ℕ → Type 0 = λ xs. Contains xs e.source in
                let Q : Edge → Type 0 = λ x. Contains (named_in named' x.target) x.source in
                subst Q (sym g) (subst P (sym (pushed (omega (arith, inside, ap (λ x. x.target) g, is.long)))) (Contains-push (named_in named e.target) e.source)))
          ]

      this : (t s : ℕ) → e.source ≡ s → e.target ≡ t → (k : ℕ) × ((k < length edges) × IsPassed nodes (edge_in edges k) × ((edge_in edges k).source ≡ s) × ((edge_in edges k).target ≡ t))
      this t s source target = (i, (within, passed, source, target))

      only' : (t s : ℕ) → Contains (named_in named' t) s → (k : ℕ) × ((k < length edges) × IsPassed nodes (edge_in edges k) × ((edge_in edges k).source ≡ s) × ((edge_in edges k).target ≡ t))
      only' t s has =
          let P : List ℕ → Type 0 = λ xs. Contains xs s in
          elim (cases_eq t e.target) [
            | inl same ↦ (let Q : ℕ → Type 0 = λ n. Contains (named_in named' n) s in
                let back = λ (h : Contains (named_in named e.target) s). (let R : ℕ → Type 0 = λ n. Contains (named_in named n) s in is.only t s (subst R (sym same) h)) in
                elim (cases_lt e.target (length named)) [
                  | inl inside ↦ elim (Contains-push_cases (named_in named e.target) e.source s (subst P (pushed inside) (subst Q same has))) [
                    | inl earlier ↦ back earlier
                    | inr new ↦ this t s new (sym same)
                  ]
                  | inr out ↦ back (subst P (past' out) (subst Q same has))
                ])
            | inr other ↦ is.only t s (subst P (others t other) has)
          ]

-- only jobs name others, so no more do than there are jobs
pub naming_few : {A : Type 0} (nodes : List Node) (edges : List Edge) (count : ℕ) (named : List (Vec ℕ A)) → AreNamed nodes edges count named → naming named ≤ job_count nodes
naming_few nodes edges count named are = naming_jobs nodes named are.long (λ t s has. let o = are.only t s has in let P : ℕ → Type 0 = λ n. IsJob (kind_in nodes n) in subst P o.1.3 o.1.1.1)
  where
    job_true : (k : Kind) → IsJob k → is_job k ≡ true
    job_true Resource job = absurd job
    job_true Job job = refl

    both : (p q : Bool) (m n : ℕ) → (p ≡ true → q ≡ true) → m ≤ n → cond p (1 + m) m ≤ cond q (1 + n) n
    both true true m n h less = omega (arith, less)
    both true false m n h less = absurd (false≢true (h refl))
    both false true m n h less = omega (arith, less)
    both false false m n h less = less

    some : (xs : List ℕ) → not (eqb (length xs) 0) ≡ true → (s : ℕ) × Contains xs s
    some [] h = absurd (false≢true h)
    some (x ∷ xs) h = (x, (0, omega arith, refl))

    jobs_cons : (n : Node) (ns : List Node) → job_count (n ∷ ns) ≡ cond (is_job n.kind) (1 + job_count ns) (job_count ns)
    jobs_cons n ns = sum_by-cons (λ x. cond (is_job x.kind) 1 0) n ns ∙ cond_one (is_job n.kind) (job_count ns)

    naming_jobs : {A : Type 0} (nodes : List Node) (named : List (Vec ℕ A)) → length named ≡ length nodes
        → ((t s : ℕ) → Contains (named_in named t) s → IsJob (kind_in nodes t)) → naming named ≤ job_count nodes
    naming_jobs [] [] long jobs = omega arith
    naming_jobs [] (v ∷ vs) long jobs = absurd (omega (arith, long))
    naming_jobs (n ∷ ns) [] long jobs = omega arith
    naming_jobs (n ∷ ns) (v ∷ vs) long jobs =
        let P : ℕ → Type 0 = λ m. m ≤ job_count (n ∷ ns) in
        let Q : ℕ → Type 0 = λ m. cond (not (eqb (length v.items) 0)) (1 + naming vs) (naming vs) ≤ m in
        subst P (sym (naming_cons v vs)) (subst Q (sym (jobs_cons n ns)) (both (not (eqb (length v.items) 0)) (is_job n.kind) (naming vs) (job_count ns) (λ h. let s = some v.items h in job_true n.kind (jobs 0 s.0 s.1))
        (naming_jobs ns vs (omega (arith, long)) (λ t s has. jobs (suc t) s has))))

-- what is named after a list was set
pub named_set : {A : Type 0} (named : List (Vec ℕ A)) (i : ℕ) (v : Vec ℕ A) → i < length named → named_in (set named i v) i ≡ v.items
named_set named i v within =
    ap (λ xs. get_or xs i []) (map-set (λ v. v.items) named i v) ∙ get_or-set_same (map (λ v. v.items) named) i v.items [] (omega (arith, within, length-map named (λ v. v.items)))

pub named_other : {A : Type 0} (named : List (Vec ℕ A)) (i : ℕ) (v : Vec ℕ A) (t : ℕ) → t ≢ i → named_in (set named i v) t ≡ named_in named t
named_other named i v t other = ap (λ xs. get_or xs t []) (map-set (λ v. v.items) named i v) ∙ get_or-set_other (map (λ v. v.items) named) i t v.items [] other

pub named_read : {A : Type 0} (named : List (Vec ℕ A)) (i : ℕ) (v : Vec ℕ A) → i < length named → v ≡ get_or named i v → v.items ≡ named_in named i
named_read named i v within read = ap (λ x. x.items) read ∙ sym (get_or-map (λ v. v.items) named i v [] within)

-- no edge is noted yet
pub named_none : {A : Type 0} (nodes : List Node) (edges : List Edge) (named : List (Vec ℕ A)) → length named ≡ length nodes → ((t : ℕ) → named_in named t ≡ []) → AreNamed nodes edges 0 named
named_none nodes edges named long empty = record {
  long = long;
  all = λ k less p inside. absurd (omega (arith, less));
  only = λ t s has. (let P : List ℕ → Type 0 = λ xs. Contains xs s in let h : Contains [] s = subst P (empty t) has in absurd (omega (arith, h.1)));
}

-- names that lead from node to node are edges that lead back
follows : {A : Type 0} (nodes : List Node) (edges : List Edge) (named : List (Vec ℕ A)) → AreNamed nodes edges (length edges) named → (n t s : ℕ) → LeadsBack named n t s → Follows nodes edges n s t
follows nodes edges named are zero t s back = back
follows nodes edges named are (suc n) t s back =
    let o = are.only t back.0 back.1.0 in
    let P : ℕ → Type 0 = λ m. Follows nodes edges n s m in
    (o.0, (o.1.0, o.1.1, o.1.3, subst P (sym o.1.2) (follows nodes edges named are n back.0 s back.1.1)))

-- edges lead on where jobs stand right of their layers, and resources where they are gotten and put
pub lead_on : {A : Type 0} (nodes : List Node) (edges : List Edge) (named : List (Vec ℕ A)) (layers put columns : List ℕ) (gotten : List (Option ℕ)) → AreNamed nodes edges (length edges) named → AreLayers named layers
    → AreGotten nodes edges layers (length edges) gotten → ArePut nodes edges layers (length edges) put
    → AreStood nodes layers gotten put columns (length nodes) → LeadOn nodes edges (slice_index columns)
lead_on nodes edges named layers put columns gotten are is got have stood = record { passed = passed'; gets = gets'; puts = puts' }
  where
    passed' : (k : ℕ) → k < length edges → IsWithin nodes (edge_in edges k) → IsPassed nodes (edge_in edges k)
        → (slice_index columns (edge_in edges k).source < slice_index columns (edge_in edges k).target) ⊎ IsOnCycle nodes edges (edge_in edges k).target
    passed' k within w passed =
        let e = edge_in edges k in
        let has = are.all k within passed w.1 in
        elim (is.later e.target e.source (omega (arith, w.1, are.long)) (omega (arith, w.0, are.long)) has) [
          | inl less ↦ inl (omega (arith, less, stood.jobs e.source w.0 passed.0, stood.jobs e.target w.1 passed.1))
          | inr back ↦ inr (back.0, follows nodes edges named are (suc back.0) e.target e.target back.1)
        ]

    gets' : (k : ℕ) → k < length edges → IsWithin nodes (edge_in edges k) → IsResource (kind_in nodes (edge_in edges k).source) → IsJob (kind_in nodes (edge_in edges k).target)
        → slice_index columns (edge_in edges k).source < slice_index columns (edge_in edges k).target
    gets' k within w resource job =
        let e = edge_in edges k in
        let g = got.least k within job w.0 in
        omega (arith, stood.gets e.source w.0 resource g.0 g.1.0, g.1.1, stood.jobs e.target w.1 job)

    puts' : (k : ℕ) → k < length edges → IsWithin nodes (edge_in edges k) → IsJob (kind_in nodes (edge_in edges k).source) → IsResource (kind_in nodes (edge_in edges k).target)
        → (slice_index columns (edge_in edges k).source < slice_index columns (edge_in edges k).target) ⊎ IsGotten nodes edges (edge_in edges k).target
    puts' k within w job resource =
        let e = edge_in edges k in
        elim (cases_Option (get_or gotten e.target None)) [
          | inl none ↦ inl (omega (arith, stood.puts e.target w.1 resource none, have.greatest k within resource w.1, stood.jobs e.source w.0 job))
          | inr some ↦ inr (got.only e.target some.0 some.1)
        ]
