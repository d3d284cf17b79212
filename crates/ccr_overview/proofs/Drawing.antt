-- The arrows of a page, written as lines.
use Rattle.std.proofs.Common.{◌≡◌, ◌<◌, ◌+◌, ◌-◌, ◌++◌, ◌∷◌, [], zero, suc, List, ℕ, Bool, true, false, cond, Option, Some, None, length, flat_map, refl, sym, ◌∙◌, ap, ap₂, append_assoc, append-nil, codes, decimal, arith}
use Rattle.std.specs.Prelude.{slice_get, nat_lt}
use Rattle.std.specs.Option.{option_map_or}
use Rattle.std.specs.Str.{bytes_eq}
use Rattle.std.proofs.lemmas.List.Concat.{flat_map-append}
use Rattle.std.proofs.lemmas.Bool.Decides.{nat_tests}
use Rattle.ccr_history.specs.Text.{Text}
use Rattle.ccr_history.specs.History.{HistoryData}
use Rattle.ccr_pipeline.specs.Inputs.{InputData, inputs}
use Rattle.ccr_pipeline.specs.JobData.{ResourceData, JobData}
use Rattle.ccr_pipeline.specs.Names.{has_name}
use Rattle.ccr_pipeline.specs.Pipelines.{PipelineData}
use Rattle.ccr_pipeline.specs.Tree.{gathered}
use Rattle.ccr_lines.specs.Each.{AreEach}
use Rattle.ccr_lines.specs.Graphs.{own_put, label, numbered, arrow, taken_edge, passed_edge, input_edges, put_edge, edges_to, edges_from}
use Rattle.ccr_lines.specs.Lines.{line}
use Rattle.ccr_page.specs.declared.data.Arrow.{Arrow}
use Rattle.ccr_overview.specs.Arrows.{stopper_at, is_named, taken_arrow, passed_arrow, port_arrows, put_arrow, arrows_to, arrows_from, arrows}
use Rattle.ccr_overview.specs.Drawn.{port_resource, arrow_line}
use Rattle.ccr_overview.specs.Each.{each_from}
use Rattle.ccr_overview.specs.Overviews.{scene_of}
use Rattle.ccr_overview.specs.Scenes.{ToldData, IsTold, AreTold}

-- ---- lists
-- what is written of things made one after another
written : {X Y : Type 0} (f : Y → Text) (g : ℕ → X → List Y) (k : ℕ) (xs : List X)
    → flat_map f (each_from g k xs) ≡ numbered (λ n x. flat_map f (g n x)) k xs
written f g k [] = refl
written f g k (x ∷ xs) = flat_map-append f (g k x) (each_from g (k + 1) xs) ∙ ap (λ t. flat_map f (g k x) ++ t) (written f g (k + 1) xs)

-- the things of a list have the same texts, if those of each that is there do
numbered_same : {X : Type 0} (a b : ℕ → X → Text) (all : List X) (k : ℕ) (xs : List X)
    → ((n : ℕ) (x : X) → slice_get xs n ≡ Some x → slice_get all (k + n) ≡ Some x)
    → ((n : ℕ) (x : X) → slice_get all n ≡ Some x → a n x ≡ b n x)
    → numbered a k xs ≡ numbered b k xs
numbered_same a b all k [] there same = refl
numbered_same a b all k (x ∷ xs) there same =
    let here : k + 0 ≡ k = omega arith in
    ap₂ (λ s t. s ++ t) (same k x (ap (slice_get all) (sym here) ∙ there 0 x refl))
    (numbered_same a b all (k + 1) xs
    (λ n y at. let m : k + 1 + n ≡ k + suc n = omega arith in ap (slice_get all) m ∙ there (suc n) y at) same)

-- texts that don't go by positions
numbered_flat : {X : Type 0} (a : ℕ → X → Text) (b : X → Text) (all : List X) (k : ℕ) (xs : List X)
    → ((n : ℕ) (x : X) → slice_get xs n ≡ Some x → slice_get all (k + n) ≡ Some x)
    → ((n : ℕ) (x : X) → slice_get all n ≡ Some x → a n x ≡ b x)
    → numbered a k xs ≡ flat_map b xs
numbered_flat a b all k [] there same = refl
numbered_flat a b all k (x ∷ xs) there same =
    let here : k + 0 ≡ k = omega arith in
    ap₂ (λ s t. s ++ t) (same k x (ap (slice_get all) (sym here) ∙ there 0 x refl))
    (numbered_flat a b all (k + 1) xs
    (λ n y at. let m : k + 1 + n ≡ k + suc n = omega arith in ap (slice_get all) m ∙ there (suc n) y at) same)

-- a list has itself
there_all : {X : Type 0} (xs : List X) (n : ℕ) (x : X) → slice_get xs n ≡ Some x → slice_get xs (0 + n) ≡ Some x
there_all xs n x at = let m : 0 + n ≡ n = omega arith in ap (slice_get xs) m ∙ at

-- what is there has a position in the list
within : {X : Type 0} (xs : List X) (n : ℕ) (x : X) → slice_get xs n ≡ Some x → n < length xs
within [] zero x at = absurd (cc (at))
within [] (suc n) x at = absurd (cc (at))
within (y ∷ ys) zero x at = omega arith
within (y ∷ ys) (suc n) x at = let rest : n < length ys = within ys n x at in omega (arith, rest)

flat_same : {X : Type 0} (a b : X → Text) (xs : List X) → ((x : X) → a x ≡ b x) → flat_map a xs ≡ flat_map b xs
flat_same a b [] same = refl
flat_same a b (x ∷ xs) same = ap₂ (λ s t. s ++ t) (same x) (flat_same a b xs same)

flat_flat : {X Y : Type 0} (f : Y → Text) (g : X → List Y) (xs : List X) → flat_map f (flat_map g xs) ≡ flat_map (λ x. flat_map f (g x)) xs
flat_flat f g [] = refl
flat_flat f g (x ∷ xs) = flat_map-append f (g x) (flat_map g xs) ∙ ap (λ t. flat_map f (g x) ++ t) (flat_flat f g xs)

-- ---- one arrow
below : (n m : ℕ) → n < m → nat_lt n m ≡ true
below n m lt = grind (arith, nat_tests, lt)

beyond : (n m : ℕ) → nat_lt (m + n) m ≡ false
beyond n m = grind (arith, nat_tests)

behind : (n m : ℕ) → (m + n) - m ≡ n
behind n m = omega arith

-- where the pipeline has these resources and jobs
module _ (rs : List ResourceData) (js : List JobData) where
  from_resource : (n k i : ℕ) (trigger held : Bool) → n < length rs
      → arrow_line rs js (record { source = n; target = length rs + k; port = i; trigger = trigger; is_held = held })
      ≡ line (codes "    r" ∷ decimal n ∷ arrow trigger ∷ codes " j" ∷ decimal k ∷ [])
  from_resource n k i trigger held lt = rw (below n (length rs) lt, behind k (length rs)) refl

  to_resource : (n k : ℕ) (trigger held : Bool) → n < length rs
      → arrow_line rs js (record { source = length rs + k; target = n; port = 0; trigger = trigger; is_held = held })
      ≡ line (codes "    j" ∷ decimal k ∷ codes " --> r" ∷ decimal n ∷ [])
  to_resource n k trigger held lt = rw (beyond k (length rs), below n (length rs) lt, behind k (length rs)) refl

  from_job : (n k i : ℕ) (x : InputData) (trigger held : Bool) → port_resource js k i ≡ x.resource
      → arrow_line rs js (record { source = length rs + n; target = length rs + k; port = i; trigger = trigger; is_held = held })
      ≡ line (codes "    j" ∷ decimal n ∷ arrow trigger ∷ codes "|" ∷ label x.resource ∷ codes "| j" ∷ decimal k ∷ [])
  from_job n k i x trigger held at = rw (beyond n (length rs), beyond k (length rs), behind n (length rs), behind k (length rs), at) refl

  port_at : (k i : ℕ) (j : JobData) (x : InputData) → slice_get js k ≡ Some j → slice_get (inputs j.plan) i ≡ Some x → port_resource js k i ≡ x.resource
  port_at k i j x at here =
      ap (λ o. option_map_or (λ j. option_map_or (λ x. x.resource) (slice_get (inputs j.plan) i) []) o []) at
      ∙ ap (λ o. option_map_or (λ x. x.resource) o []) here

-- ---- the edges of a pipeline
-- where these are its resources and jobs, and this is said of its jobs
module _ (p : PipelineData) (h : HistoryData) (budget : ℕ) (all : List ToldData) where
  taken_if : (b : Bool) (n k i : ℕ) (x : InputData) → n < length p.resources
      → flat_map (arrow_line p.resources p.jobs)
      (cond b (record { source = n; target = length p.resources + k; port = i; trigger = x.trigger; is_held = false } ∷ []) [])
      ≡ cond b (line (codes "    r" ∷ decimal n ∷ arrow x.trigger ∷ codes " j" ∷ decimal k ∷ [])) []
  taken_if true n k i x lt = append-nil _ ∙ from_resource p.resources p.jobs n k i x.trigger false lt
  taken_if false n k i x lt = refl

  passed_if : (b : Bool) (n k i : ℕ) (x : InputData) (held : Bool) → port_resource p.jobs k i ≡ x.resource
      → flat_map (arrow_line p.resources p.jobs)
      (cond b (record { source = length p.resources + n; target = length p.resources + k; port = i; trigger = x.trigger; is_held = held } ∷ []) [])
      ≡ cond b (line (codes "    j" ∷ decimal n ∷ arrow x.trigger ∷ codes "|" ∷ label x.resource ∷ codes "| j" ∷ decimal k ∷ [])) []
  passed_if true n k i x held at = append-nil _ ∙ from_job p.resources p.jobs n k i x x.trigger held at
  passed_if false n k i x held at = refl

  put_if : (b : Bool) (n k : ℕ) → n < length p.resources
      → flat_map (arrow_line p.resources p.jobs)
      (cond b (record { source = length p.resources + k; target = n; port = 0; trigger = true; is_held = false } ∷ []) [])
      ≡ cond b (line (codes "    j" ∷ decimal k ∷ codes " --> r" ∷ decimal n ∷ [])) []
  put_if true n k lt = append-nil _ ∙ to_resource p.resources p.jobs n k true false lt
  put_if false n k lt = refl

  -- to a port
  port_edges : (k i : ℕ) (t : ToldData) (x : InputData) (names : List Text) → port_resource p.jobs k i ≡ x.resource
      → flat_map (arrow_line p.resources p.jobs) (port_arrows (scene_of p h all) k t i x names) ≡ input_edges p x k names
  port_edges k i t x [] at =
      written (arrow_line p.resources p.jobs) (taken_arrow (length p.resources) k i x) 0 p.resources
      ∙ numbered_same (λ n r. flat_map (arrow_line p.resources p.jobs) (taken_arrow (length p.resources) k i x n r)) (taken_edge x k)
      p.resources 0 p.resources (there_all p.resources)
      (λ n r here. taken_if (bytes_eq x.resource r.name) n k i x (within p.resources n r here))
  port_edges k i t x (name ∷ names) at =
      flat_flat (arrow_line p.resources p.jobs)
      (λ passed. each_from (passed_arrow (length p.resources) k i x passed (is_named (stopper_at (scene_of p h all) t i) passed)) 0 p.jobs)
      (name ∷ names)
      ∙ flat_same _ (λ passed. numbered (passed_edge x k passed) 0 p.jobs) (name ∷ names) (λ passed.
      written (arrow_line p.resources p.jobs)
      (passed_arrow (length p.resources) k i x passed (is_named (stopper_at (scene_of p h all) t i) passed)) 0 p.jobs
      ∙ numbered_same (λ n j. flat_map (arrow_line p.resources p.jobs)
      (passed_arrow (length p.resources) k i x passed (is_named (stopper_at (scene_of p h all) t i) passed) n j))
      (passed_edge x k passed) p.jobs 0 p.jobs (there_all p.jobs)
      (λ n j here. passed_if (bytes_eq passed j.name) n k i x (is_named (stopper_at (scene_of p h all) t i) passed) at))

  -- to a job, and from one
  job_edges : (k : ℕ) (t : ToldData) → slice_get p.jobs k ≡ Some t.job
      → flat_map (arrow_line p.resources p.jobs) (arrows_to (scene_of p h all) k t) ≡ edges_to p k t.job
  job_edges k t here =
      written (arrow_line p.resources p.jobs) (λ i x. port_arrows (scene_of p h all) k t i x x.passed) 0 (inputs t.job.plan)
      ∙ numbered_flat (λ i x. flat_map (arrow_line p.resources p.jobs) (port_arrows (scene_of p h all) k t i x x.passed))
      (λ x. input_edges p x k x.passed) (inputs t.job.plan) 0 (inputs t.job.plan) (there_all (inputs t.job.plan))
      (λ i x at. port_edges k i t x x.passed (port_at p.resources p.jobs k i t.job x here at))

  put_edges : (k : ℕ) (t : ToldData) → flat_map (arrow_line p.resources p.jobs) (arrows_from p.resources k t) ≡ edges_from p.resources k t.job
  put_edges k t =
      written (arrow_line p.resources p.jobs) (put_arrow (length p.resources) k t.job.plan) 0 p.resources
      ∙ numbered_same (λ n r. flat_map (arrow_line p.resources p.jobs) (put_arrow (length p.resources) k t.job.plan n r))
      (put_edge t.job.plan k) p.resources 0 p.resources (there_all p.resources)
      (λ n r here. put_if (has_name (gathered own_put t.job.plan) r.name) n k (within p.resources n r here))

  -- ---- all jobs
  edges_in : (k : ℕ) (js : List JobData) (ts : List ToldData) → AreEach (IsTold p h budget) k js ts
      → ((n : ℕ) (j : JobData) → slice_get js n ≡ Some j → slice_get p.jobs (k + n) ≡ Some j)
      → flat_map (arrow_line p.resources p.jobs) (each_from (arrows_to (scene_of p h all)) k ts) ≡ numbered (edges_to p) k js
  edges_in k [] ts are there = ap (λ x. flat_map (arrow_line p.resources p.jobs) (each_from (arrows_to (scene_of p h all)) k x)) are
  edges_in k (j ∷ js) ts are there =
      let t : ToldData = record { job = j; explained = are.2.0 } in
      let here : k + 0 ≡ k = omega arith in
      ap (λ x. flat_map (arrow_line p.resources p.jobs) (each_from (arrows_to (scene_of p h all)) k x)) (are.4 ∙ ap (λ o. o ++ are.1) are.2.2)
      ∙ (flat_map-append (arrow_line p.resources p.jobs) (arrows_to (scene_of p h all) k t) (each_from (arrows_to (scene_of p h all)) (k + 1) are.1)
      ∙ ap₂ (λ a b. a ++ b) (job_edges k t (ap (slice_get p.jobs) (sym here) ∙ there 0 j refl))
      (edges_in (k + 1) js are.1 are.3
      (λ n i at. let m : k + 1 + n ≡ k + suc n = omega arith in ap (slice_get p.jobs) m ∙ there (suc n) i at)))

  edges_out : (k : ℕ) (js : List JobData) (ts : List ToldData) → AreEach (IsTold p h budget) k js ts
      → flat_map (arrow_line p.resources p.jobs) (each_from (arrows_from p.resources) k ts) ≡ numbered (edges_from p.resources) k js
  edges_out k [] ts are = ap (λ x. flat_map (arrow_line p.resources p.jobs) (each_from (arrows_from p.resources) k x)) are
  edges_out k (j ∷ js) ts are =
      let t : ToldData = record { job = j; explained = are.2.0 } in
      ap (λ x. flat_map (arrow_line p.resources p.jobs) (each_from (arrows_from p.resources) k x)) (are.4 ∙ ap (λ o. o ++ are.1) are.2.2)
      ∙ (flat_map-append (arrow_line p.resources p.jobs) (arrows_from p.resources k t) (each_from (arrows_from p.resources) (k + 1) are.1)
      ∙ ap₂ (λ a b. a ++ b) (put_edges k t) (edges_out (k + 1) js are.1 are.3))

-- the arrows of a page are the edges of the graph
pub edges_drawn : (p : PipelineData) (h : HistoryData) (budget : ℕ) (told : List ToldData) → AreTold p h budget told
    → flat_map (arrow_line p.resources p.jobs) (arrows (scene_of p h told))
    ≡ numbered (edges_to p) 0 p.jobs ++ numbered (edges_from p.resources) 0 p.jobs
edges_drawn p h budget told are =
    flat_map-append (arrow_line p.resources p.jobs) (each_from (arrows_to (scene_of p h told)) 0 told)
    (each_from (arrows_from p.resources) 0 told)
    ∙ ap₂ (λ a b. a ++ b) (edges_in p h budget told 0 p.jobs told are (there_all p.jobs))
    (edges_out p h budget told 0 p.jobs told are)
