-- The problem that a build answered, made from today's.
use Rattle.std.proofs.Common.{◌≡◌, ℕ, zero, suc, ◌+◌, ◌-◌, ◌<◌, ◌≤◌, List, [], ◌∷◌, ◌++◌, length, map, reverse, take, drop, get_or, slice_index_or, Bool, true, false, cond, ◌&&◌, ◌==◌, None, Some, slice_get, string_bytes, String, Global, refl, sym, ap, ap₂, ◌∙◌, subst, arith, length-append}
use Rattle.std.specs.Prelude.{filter, nat_le, nat_lt}
use Rattle.std.specs.List.{list_all, range_with_len, AllByRecursion}
use Rattle.std.proofs.lemmas.Bool.{and_parts, and_from, lt-ltb, le-leb, ltb-true, leb-true, eq-eqb}
use Rattle.std.proofs.lemmas.List.{length-map, length-reverse, length-take-le, map-append, map-id, reverse-append, take-append-drop, drop_at, get_or-map, map_more}
use Rattle.std.proofs.lemmas.List.Elements.{filter-append}
use Rattle.std.proofs.lemmas.List.FromFn.{map-range_with_len_more}
use Rattle.std.proofs.lemmas.List.Sums.{length-filter, count_by-le-length}
use Rattle.ccr_history.specs.Text.{Text}
use Rattle.ccr_history.specs.Tables.{TableData}
use Rattle.ccr_history.specs.Builds.{BuildData, is_of, is_succeeded}
use Rattle.ccr_history.specs.History.{HistoryData, IsTable, IsHistory, places_at}
use Rattle.ccr_pipeline.specs.Inputs.{InputData, input_data, named_jobs}
use Rattle.ccr_pipeline.specs.Pipelines.{PipelineData}
use Rattle.ccr_pipeline.specs.declared.input.Input.{Input}
use Rattle.ccr_choice.specs.Problem.{InputValue, BuildValue, ProblemValue, are_distinct, are_numbered, are_places_after, is_after, is_input, are_inputs, next_used, used_after, scopes_after, jobs_after, are_pairs_after, is_build, are_builds_below, are_builds, IsProblem}
use Rattle.ccr_choice.proofs.Bounds.{rules_of}
use Rattle.ccr_problem.specs.Numbering.{each_once, number_of}
use Rattle.ccr_problem.specs.Passed.{successful, build_value, job_value}
use Rattle.ccr_problem.specs.ProblemOf.{history_number, used_resources, input_value, problem_with}
use Rattle.ccr_lines.specs.PastProblems.{open_input, past_problem}
use Rattle.ccr_lines.proofs.Showing.{one_more}

-- ---- places
-- one place more
pub places_told : (k : ℕ) (old new : List ℕ) → old ≡ range_with_len 1 k → new ≡ old ++ (k + 1) ∷ [] → new ≡ range_with_len 1 (k + 1)
places_told k old new o n =
    let next : 1 + k ≡ k + 1 = omega arith in
    n ∙ (ap (λ xs. xs ++ (k + 1) ∷ []) (o ∙ sym (map-id (range_with_len 1 k)))
    ∙ (sym (map-range_with_len_more (λ x. x) 1 k (k + 1) next) ∙ map-id (range_with_len 1 (k + 1))))

few_by : (b : Bool) (x y : ℕ) → x ≤ 100000 → y ≤ 100000 → cond b x y ≤ 100000
few_by true x y few more = few
few_by false x y few more = more

few_places : (ts : List TableData) (n : ℕ) → AllByRecursion IsTable ts → places_at ts n ≤ 100000
few_places [] n each = omega arith
few_places (t ∷ ts) n each = few_by (n == 1) (length t.versions) (places_at ts (n - 1)) each.0.1 (few_places ts (n - 1) each.1)

-- a scope has few places
pub few_in : (h : HistoryData) (n : ℕ) → IsHistory h → places_at h.tables n ≤ 100000
few_in h n is = few_places h.tables n is.0.2

rise : (low first n : ℕ) → low < first → first + n ≤ 100001 → are_places_after low (range_with_len first n) ≡ true
rise low first zero above few = refl
rise low first (suc n) above few =
    and_from _ _ (lt-ltb _ _ above) (and_from _ _ (le-leb _ _ (omega arith)) (rise first (first + 1) n (omega arith) (omega arith)))

-- ---- inputs
module _ (p : PipelineData) (h : HistoryData) (own : Text) (resources jobs : List Text) where
  abbrev today : InputData → InputValue
  today i = input_value p h own resources jobs i

  -- one input more
  pub inputs_told : (values : List InputValue) (gets : List Input) (k : ℕ) (value : InputValue) (g : Input) (old new : List InputValue)
      → values ≡ map today (map input_data gets) → k < length gets → get_or gets k g ≡ g → slice_index_or values k value ≡ value
      → old ≡ map (open_input p h resources jobs) (map input_data (take k gets))
      → new ≡ old ++ record {
        scope = value.scope;
        places = range_with_len 1 (places_at h.tables (history_number p h (input_data g).resource));
        jobs = value.jobs;
        after = None;
      } ∷ []
      → new ≡ map (open_input p h resources jobs) (map input_data (take (k + 1) gets))
  inputs_told values gets k value g old new are within here there o n =
      let inside : k < length (map input_data gets) = omega (arith, length-map gets input_data) in
      let same : value ≡ today (input_data g) =
      sym there ∙ (ap (λ vs. slice_index_or vs k value) are
      ∙ (get_or-map today (map input_data gets) k (input_data g) value inside
      ∙ ap today (get_or-map input_data gets k g (input_data g) within ∙ ap input_data here))) in
      let made : InputValue → InputValue = λ v. record {
        scope = v.scope;
        places = range_with_len 1 (places_at h.tables (history_number p h (input_data g).resource));
        jobs = v.jobs;
        after = None;
      } in
      let F : InputData → InputValue = open_input p h resources jobs in
      n ∙ (ap₂ (λ xs v. xs ++ made v ∷ []) o same
      ∙ (sym (map-append F (map input_data (take k gets)) (input_data g ∷ []))
      ∙ ap (map F) (ap (λ x. map input_data (take k gets) ++ input_data x ∷ []) (sym here) ∙ sym (map_more input_data gets k g within))))

  -- ---- the rules of inputs
  open_kept : (scopes named : ℕ) (is : List InputData) → IsHistory h → are_inputs scopes named (map today is) ≡ true
      → are_inputs scopes named (map (open_input p h resources jobs) is) ≡ true
  open_kept scopes named [] is_history e = refl
  open_kept scopes named (i ∷ is) is_history e =
      let x : InputValue = today i in
      let last : Bool = is_after x.after && are_places_after 0 x.places in
      let a = and_parts (is_input scopes named x) (are_inputs (next_used scopes x.scope) (used_after named x.jobs) (map today is)) e in
      let b = and_parts (nat_le x.scope scopes) (are_distinct x.jobs && (are_numbered named x.jobs && last)) a.0 in
      let c = and_parts (are_distinct x.jobs) (are_numbered named x.jobs && last) b.1 in
      let d = and_parts (are_numbered named x.jobs) last c.1 in
      let few : places_at h.tables (history_number p h i.resource) ≤ 100000 = few_in h (history_number p h i.resource) is_history in
      let places = rise 0 1 (places_at h.tables (history_number p h i.resource)) (omega arith) (omega arith) in
      and_from _ _ (and_from _ _ b.0 (and_from _ _ c.0 (and_from _ _ d.0 (and_from _ _ refl places))))
      (open_kept (next_used scopes (number_of resources i.resource)) (used_after named (map (number_of jobs) (each_once i.passed))) is is_history a.1)

  open_scopes : (scopes : ℕ) (is : List InputData) → scopes_after scopes (map (open_input p h resources jobs) is) ≡ scopes_after scopes (map today is)
  open_scopes scopes [] = refl
  open_scopes scopes (i ∷ is) = open_scopes (next_used scopes (number_of resources i.resource)) is

  open_jobs : (named : ℕ) (is : List InputData) → jobs_after named (map (open_input p h resources jobs) is) ≡ jobs_after named (map today is)
  open_jobs named [] = refl
  open_jobs named (i ∷ is) = open_jobs (used_after named (map (number_of jobs) (each_once i.passed))) is

-- ---- builds
abbrev chosen : List BuildData → List BuildData
chosen bs = filter (λ b. is_succeeded b.status) bs

-- a job's builds that were made later come first
successful_split : (job : Text) (xs ys : List BuildData) → successful job (xs ++ ys) ≡ successful job ys ++ successful job xs
successful_split job xs ys =
    ap (λ zs. reverse (chosen zs)) (filter-append (is_of job) xs ys)
    ∙ (ap reverse (filter-append (λ b. is_succeeded b.status) (filter (is_of job) xs) (filter (is_of job) ys))
    ∙ reverse-append (chosen (filter (is_of job) xs)) (chosen (filter (is_of job) ys)))

pub few_chosen : (job : Text) (bs : List BuildData) → length (successful job bs) ≤ length bs
few_chosen job bs =
    let mine : List BuildData = filter (is_of job) bs in
    let some = count_by-le-length (λ b. is_succeeded b.status) mine in
    let own = count_by-le-length (is_of job) bs in
    let a = length-reverse (chosen mine) in
    let b = length-filter (λ b. is_succeeded b.status) mine in
    let c = length-filter (is_of job) bs in
    omega arith

-- no more than there are
pub few_counted : (job : Text) (bs : List BuildData) (k : ℕ) → k ≤ length bs → length (successful job (take k bs)) ≤ k
few_counted job bs k within = omega (arith, few_chosen job (take k bs), length-take-le k bs within)

-- one build more
pub count_told : (job : Text) (bs : List BuildData) (k : ℕ) (b : BuildData) (old one new : ℕ) → slice_get bs k ≡ Some b
    → old ≡ length (successful job (take k bs)) → one ≡ length (successful job (b ∷ [])) → new ≡ old + one
    → new ≡ length (successful job (take (k + 1) bs))
count_told job bs k b old one new at o e n =
    let all : length (successful job (take (k + 1) bs)) ≡ length (successful job (b ∷ []) ++ successful job (take k bs)) =
    ap length (ap (successful job) (one_more bs k b at) ∙ successful_split job (take k bs) (b ∷ [])) in
    omega (arith, o, e, n, all, length-append (successful job (b ∷ [])) (successful job (take k bs)))

-- the builds of a job that were made before stand behind the others
later : (scopes : List ℕ) (job : Text) (before rest : List BuildData)
    → job_value (before ++ rest) scopes job ≡ map (build_value scopes) (successful job rest) ++ job_value before scopes job
later scopes job before rest =
    ap (map (build_value scopes)) (successful_split job before rest)
    ∙ map-append (build_value scopes) (successful job rest) (successful job before)

cut_there : (scopes : List ℕ) (job : Text) (before rest : List BuildData) (count : ℕ) → count ≡ length (successful job before)
    → drop (length (job_value (before ++ rest) scopes job) - count) (job_value (before ++ rest) scopes job) ≡ job_value before scopes job
cut_there scopes job before rest count many =
    let front : List BuildValue = map (build_value scopes) (successful job rest) in
    let back : List BuildValue = job_value before scopes job in
    let whole = later scopes job before rest in
    let all : length (job_value (before ++ rest) scopes job) ≡ length front + length back = ap length whole ∙ length-append front back in
    let own : length back ≡ length (successful job before) = length-map (successful job before) (build_value scopes) in
    let left : length front ≡ length (job_value (before ++ rest) scopes job) - count = omega (arith, all, own, many) in
    ap (drop (length (job_value (before ++ rest) scopes job) - count)) whole ∙ drop_at front back _ left

-- the last of them, as many as were made before
pub cut_told : (scopes : List ℕ) (job : Text) (bs : List BuildData) (k count : ℕ) → count ≡ length (successful job (take k bs))
    → drop (length (job_value bs scopes job) - count) (job_value bs scopes job) ≡ job_value (take k bs) scopes job
cut_told scopes job bs k count many =
    let whole : take k bs ++ drop k bs ≡ bs = take-append-drop k bs in
    let P : List BuildData → Type 0 =
    λ all. drop (length (job_value all scopes job) - count) (job_value all scopes job) ≡ job_value (take k bs) scopes job in
    subst P whole (cut_there scopes job (take k bs) (drop k bs) count many)

-- one job more
pub builds_told : (scopes : List ℕ) (bs : List BuildData) (before : ℕ) (jobs : List (List BuildValue)) (names : List (String Global)) (k : ℕ)
    (name : String Global) (job : List BuildValue) (count : ℕ) (old new : List (List BuildValue))
    → jobs ≡ map (job_value bs scopes) (map string_bytes names) → k < length names → get_or names k name ≡ name → get_or jobs k job ≡ job
    → count ≡ length (successful (string_bytes name) (take before bs))
    → old ≡ map (job_value (take before bs) scopes) (map string_bytes (take k names))
    → new ≡ old ++ drop (length job - count) job ∷ []
    → new ≡ map (job_value (take before bs) scopes) (map string_bytes (take (k + 1) names))
builds_told scopes bs before jobs names k name job count old new are within here there many o n =
    let inside : k < length (map string_bytes names) = omega (arith, length-map names string_bytes) in
    let F : Text → List BuildValue = job_value bs scopes in
    let G : Text → List BuildValue = job_value (take before bs) scopes in
    let same : job ≡ F (string_bytes name) =
    sym there ∙ (ap (λ js. get_or js k job) are
    ∙ (get_or-map F (map string_bytes names) k (string_bytes name) job inside
    ∙ ap F (get_or-map string_bytes names k name (string_bytes name) within ∙ ap string_bytes here))) in
    let cut : drop (length job - count) job ≡ G (string_bytes name) =
    ap (λ j. drop (length j - count) j) same ∙ cut_told scopes (string_bytes name) bs before count many in
    n ∙ (ap₂ (λ xs x. xs ++ x ∷ []) o cut
    ∙ (sym (map-append G (map string_bytes (take k names)) (string_bytes name ∷ []))
    ∙ ap (map G) (ap (λ x. map string_bytes (take k names) ++ string_bytes x ∷ []) (sym here) ∙ sym (map_more string_bytes names k name within))))

-- ---- the rules of builds
below_more : (scopes high top : ℕ) (bs : List BuildValue) → high ≤ top → are_builds_below scopes high bs ≡ true → are_builds_below scopes top bs ≡ true
below_more scopes high top [] more e = refl
below_more scopes high top (b ∷ bs) more e =
    let rest : Bool = are_pairs_after scopes 0 0 b.pairs in
    let a = and_parts (is_build scopes high b) (are_builds_below scopes b.number bs) e in
    let c = and_parts (nat_lt 0 b.number) (nat_lt b.number high && rest) a.0 in
    let d = and_parts (nat_lt b.number high) rest c.1 in
    let less : b.number < high = ltb-true _ _ d.0 in
    let low : b.number < top = omega (arith, less, more) in
    and_from _ _ (and_from _ _ c.0 (and_from _ _ (lt-ltb _ _ low) d.1)) a.1

behind : (scopes high top : ℕ) (xs ys : List BuildValue) → high ≤ top → are_builds_below scopes high (xs ++ ys) ≡ true → are_builds_below scopes top ys ≡ true
behind scopes high top [] ys more e = below_more scopes high top ys more e
behind scopes high top (x ∷ xs) ys more e =
    let rest : Bool = are_pairs_after scopes 0 0 x.pairs in
    let a = and_parts (is_build scopes high x) (are_builds_below scopes x.number (xs ++ ys)) e in
    let c = and_parts (nat_lt 0 x.number) (nat_lt x.number high && rest) a.0 in
    let d = and_parts (nat_lt x.number high) rest c.1 in
    let less : x.number < high = ltb-true _ _ d.0 in
    let low : x.number ≤ top = omega (arith, less, more) in
    behind scopes x.number top xs ys low a.1

last_kept : (scopes : ℕ) (all xs ys : List BuildValue) → all ≡ xs ++ ys → are_builds scopes all ≡ true → are_builds scopes ys ≡ true
last_kept scopes all xs ys e h =
    let a = and_parts _ _ h in
    let few : length all ≤ 1000000 = leb-true _ _ a.0 in
    let less : length ys ≤ 1000000 = omega (arith, few, ap length e, length-append xs ys) in
    let down : are_builds_below scopes 1000001 (xs ++ ys) ≡ true = subst (λ bs. are_builds_below scopes 1000001 bs ≡ true) e a.1 in
    and_from _ _ (le-leb _ _ less) (behind scopes 1000001 1000001 xs ys (omega arith) down)

jobs_kept : (n : ℕ) (scopes : List ℕ) (before rest : List BuildData) (names : List Text)
    → list_all (are_builds n) (map (job_value (before ++ rest) scopes) names) ≡ true → list_all (are_builds n) (map (job_value before scopes) names) ≡ true
jobs_kept n scopes before rest [] e = refl
jobs_kept n scopes before rest (job ∷ names) e =
    let a = and_parts _ _ e in
    and_from _ _ (last_kept n (job_value (before ++ rest) scopes job) (map (build_value scopes) (successful job rest)) (job_value before scopes job)
    (later scopes job before rest) a.0) (jobs_kept n scopes before rest names a.1)

-- ---- the problem
past_kept : (p : PipelineData) (h : HistoryData) (own : Text) (is : List InputData) (before rest : List BuildData) → IsHistory h
    → h.builds ≡ before ++ rest → IsProblem (problem_with p h own is) → IsProblem (past_problem p h before is)
past_kept p h own is before rest is_history e h-is =
    let resources : List Text = used_resources is in
    let jobs : List Text = named_jobs [] is in
    let scopes : List ℕ = map (history_number p h) resources in
    let r = rules_of (problem_with p h own is) h-is in
    let old : List InputValue = map (input_value p h own resources jobs) is in
    let new : List InputValue = map (open_input p h resources jobs) is in
    let many : length new ≡ length is = length-map is (open_input p h resources jobs) in
    let few : length old ≡ length is = length-map is (input_value p h own resources jobs) in
    let all : length (map (job_value before scopes) jobs) ≡ length jobs = length-map jobs (job_value before scopes) in
    let each : length (map (job_value h.builds scopes) jobs) ≡ length jobs = length-map jobs (job_value h.builds scopes) in
    let same : scopes_after 0 new ≡ scopes_after 0 old = open_scopes p h own resources jobs 0 is in
    let named : jobs_after 0 new ≡ jobs_after 0 old = open_jobs p h own resources jobs 0 is in
    let kept : list_all (are_builds (scopes_after 0 old)) (map (job_value (before ++ rest) scopes) jobs) ≡ true =
    subst (λ bs. list_all (are_builds (scopes_after 0 old)) (map (job_value bs scopes) jobs) ≡ true) e r.builds in
    and_from _ _ (le-leb _ _ (omega (arith, many, few, r.few_inputs)))
    (and_from _ _ (open_kept p h own resources jobs 0 0 is is_history r.inputs)
    (and_from _ _ (eq-eqb _ _ (all ∙ (sym each ∙ (r.counted ∙ sym named))))
    (ap (λ n. list_all (are_builds n) (map (job_value before scopes) jobs)) same
    ∙ jobs_kept (scopes_after 0 old) scopes before rest jobs kept)))

-- what is made of the parts is the problem, and keeps the rules
pub record IsPast (p : PipelineData) (h : HistoryData) (before : ℕ) (is : List InputData) (values : List InputValue) (builds : List (List BuildValue)) : Type 0 where
  pub same : record { inputs = values; jobs = builds } ≡ past_problem p h (take before h.builds) is
  pub kept : IsProblem (record { inputs = values; jobs = builds })

pub past_made : (p : PipelineData) (h : HistoryData) (own : Text) (is gets : List InputData) (before : ℕ) (today : ProblemValue)
    (names : List Text) (values : List InputValue) (builds : List (List BuildValue)) → IsHistory h → gets ≡ is
    → today ≡ problem_with p h own is → IsProblem today → names ≡ named_jobs [] gets
    → ((o : Text) (resources jobs : List Text) → today.inputs ≡ map (input_value p h o resources jobs) gets → values ≡ map (open_input p h resources jobs) gets)
    → ((scopes : List ℕ) → today.jobs ≡ map (job_value h.builds scopes) names → builds ≡ map (job_value (take before h.builds) scopes) names)
    → IsPast p h before gets values builds
past_made p h own is gets before today names values builds is_history same now kept named opened cut =
    let now : today ≡ problem_with p h own gets = now ∙ ap (problem_with p h own) (sym same) in
    let resources : List Text = used_resources gets in
    let jobs : List Text = named_jobs [] gets in
    let scopes : List ℕ = map (history_number p h) resources in
    let first : values ≡ map (open_input p h resources jobs) gets = opened own resources jobs (ap (λ q. q.inputs) now) in
    let second : builds ≡ map (job_value (take before h.builds) scopes) names =
    cut scopes (ap (λ q. q.jobs) now ∙ ap (map (job_value h.builds scopes)) (sym named)) in
    let third : builds ≡ map (job_value (take before h.builds) scopes) jobs = second ∙ ap (map (job_value (take before h.builds) scopes)) named in
    let whole : record { inputs = values; jobs = builds } ≡ past_problem p h (take before h.builds) gets =
    ap₂ (λ xs js. record { inputs = xs; jobs = js }) first third in
    let P : ProblemValue → Type 0 = IsProblem in
    record {
      same = whole;
      kept = subst P (sym whole)
          (past_kept p h own gets (take before h.builds) (drop before h.builds) is_history (sym (take-append-drop before h.builds)) (subst P now kept));
    }
