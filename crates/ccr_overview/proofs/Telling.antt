-- What is told of jobs, one after another.
use Rattle.std.proofs.Common.{◌≡◌, ◌+◌, ◌<◌, ◌∷◌, ◌++◌, [], List, ℕ, zero, suc, Bool, true, false, length, take, map, get_or, cond, Option, Some, refl, sym, ◌∙◌, ap, subst, append_assoc, append-nil, arith}
use Rattle.std.specs.List.{AllByRecursion, IsDistinct}
use Rattle.std.specs.Str.{bytes_eq}
use Rattle.std.proofs.lemmas.List.{take_more, map-append, length-map, length-take-le}
use Rattle.std.proofs.lemmas.Slice.Eq.{bytes_eq-Decides}
use Rattle.std.proofs.lemmas.Map.Keys.{IsDistinct-head, IsDistinct-tail}
use Rattle.std.proofs.lemmas.Bool.{false≢true}
use Rattle.ccr_pipeline.specs.JobData.{JobData, job_data}
use Rattle.ccr_pipeline.specs.Links.{job_names, HasDistinctJobs}
use Rattle.ccr_pipeline.specs.declared.resource.Job.{Job}
use Rattle.ccr_problem.specs.ProblemOf.{job_of}
use Rattle.ccr_lines.specs.Each.{AreEach}

-- ---- several things shown
-- what is shown of one thing more, at the end
each_more : {X Y : Type 0} (May : ℕ → X → List Y → Type 0) (i n : ℕ) (xs : List X) (x : X) (old own : List Y)
    → n ≡ i + length xs → AreEach May i xs old → May n x own → AreEach May i (xs ++ x ∷ []) (old ++ own)
each_more May i n [] x old own at none may =
    (own, [], subst (λ m. May m x own) (omega (arith, at)) may, refl, ap (λ t. t ++ own) none ∙ sym (append-nil own))
each_more May i n (y ∷ ys) x old own at are may = (
  are.0,
  are.1 ++ own,
  are.2,
  each_more May (i + 1) n ys x are.1 own (omega (arith, at)) are.3 may,
  ap (λ t. t ++ own) are.4 ∙ append_assoc are.0 are.1 own,
)

-- what is shown of the next thing comes to what is shown of the first ones
pub each_told : {X Y Z : Type 0} (May : ℕ → X → List Z → Type 0) (of : Y → X) (ys : List Y) (k : ℕ) (y : Y)
    (old own new : List Z) → k < length ys → get_or ys k y ≡ y → AreEach May 0 (map of (take k ys)) old
    → May k (of y) own → new ≡ old ++ own → AreEach May 0 (map of (take (k + 1) ys)) new
each_told May of ys k y old own new within at are may told =
    subst (λ t. AreEach May 0 (map of (take (k + 1) ys)) t) (sym told)
    (subst (λ xs. AreEach May 0 (map of xs) (old ++ own)) (sym more)
    (subst (λ xs. AreEach May 0 xs (old ++ own)) (sym (map-append of (take k ys) (y ∷ [])))
    (each_more May 0 k (map of (take k ys)) (of y) old own long are may))) where
      more : take (k + 1) ys ≡ take k ys ++ y ∷ []
      more = take_more ys k y within ∙ ap (λ x. take k ys ++ x ∷ []) at

      known : length (map of (take k ys)) ≡ k
      known = length-map (take k ys) of ∙ length-take-le k ys (omega (arith, within))

      long : k ≡ 0 + length (map of (take k ys))
      long = omega (arith, known)

-- ---- the job of its own name
same_self : (t : List ℕ) → bytes_eq t t ≡ true
same_self t = (bytes_eq-Decides t t).1 refl

here : (b : Bool) (i j : JobData) (rest : Option JobData) → b ≡ true → i ≡ j → cond b (Some i) rest ≡ Some j
here true i j rest e same = ap Some same
here false i j rest e same = absurd (false≢true e)

on : (b : Bool) (i j : JobData) (rest : Option JobData) → b ≡ false → rest ≡ Some j → cond b (Some i) rest ≡ Some j
on true i j rest e more = absurd (false≢true (sym e))
on false i j rest e more = more

-- another name than each of these isn't that of one of them
other : (b : Bool) (x y : List ℕ) → bytes_eq y x ≡ b → bytes_eq x y ≡ false → b ≡ false
other true x y is none = absurd (false≢true (sym none ∙ ap (λ t. bytes_eq x t) ((bytes_eq-Decides y x).0 is) ∙ same_self x))
other false x y is none = refl

apart : (name : List ℕ) (js : List Job) (k : ℕ) (j : Job) → k < length js → get_or js k j ≡ j
    → AllByRecursion (λ y. bytes_eq name y ≡ false) (job_names (map job_data js)) → bytes_eq name (job_data j).name ≡ false
apart name [] k j within at all = absurd (omega arith)
apart name (i ∷ is) zero j within at all = ap (λ x. bytes_eq name (job_data x).name) (sym at) ∙ all.0
apart name (i ∷ is) (suc k) j within at all = apart name is k j (omega arith) at all.1

found : (js : List Job) (k : ℕ) (j : Job) → k < length js → get_or js k j ≡ j → HasDistinctJobs (map job_data js)
    → job_of (job_data j).name (map job_data js) ≡ Some (job_data j)
found [] k j within at distinct = absurd (omega arith)
found (i ∷ is) zero j within at distinct =
    here (bytes_eq (job_data j).name (job_data i).name) (job_data i) (job_data j) (job_of (job_data j).name (map job_data is))
    (ap (λ x. bytes_eq (job_data j).name (job_data x).name) at ∙ same_self (job_data j).name) (ap job_data at)
found (i ∷ is) (suc k) j within at distinct =
    let head = IsDistinct-head bytes_eq (job_data i).name (job_names (map job_data is)) distinct in
    let rest = IsDistinct-tail bytes_eq (job_data i).name (job_names (map job_data is)) distinct in
    on (bytes_eq (job_data j).name (job_data i).name) (job_data i) (job_data j) (job_of (job_data j).name (map job_data is))
    (other (bytes_eq (job_data j).name (job_data i).name) (job_data i).name (job_data j).name refl
    (apart (job_data i).name is k j (omega arith) at head))
    (found is k j (omega arith) at rest)

-- a job of a pipeline is the one of its name
pub job_there : (js : List Job) (all : List JobData) (k : ℕ) (j : Job) → map job_data js ≡ all → HasDistinctJobs all
    → k < length js → get_or js k j ≡ j → job_of (job_data j).name all ≡ Some (job_data j)
job_there js all k j same distinct within at =
    subst (λ xs. job_of (job_data j).name xs ≡ Some (job_data j)) same
    (found js k j within at (subst HasDistinctJobs (sym same) distinct))
