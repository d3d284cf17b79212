-- Builds that run, by their names in a core.
use Rattle.std.proofs.Common.{◌≡◌, ℕ, zero, suc, ◌+◌, ◌<◌, ◌≤◌, ◌==◌, Bool, true, false, cond, ◌&&◌, List, [], ◌∷◌, ◌++◌, Some, None, length, map, get_or, take, drop, set, String, string_bytes, bytes_eq, refl, sym, ap, ◌∙◌, subst, arith}
use Rattle.std.specs.declared.alloc.Global.{Global}
use Rattle.ccr_history.specs.Text.{Text}
use Rattle.ccr_steps.specs.Asks.{Exchange}
use Rattle.ccr_steps.specs.Progress.{IsAllowed}
use Rattle.ccr_steps.specs.Runs.{run_data, StandsFor}
use Rattle.ccr_steps.specs.declared.build.BuildRun.{BuildRun}
use Rattle.ccr_core.specs.Going.{named}
use Rattle.ccr_core.specs.Holding.{name_data, AreRuns, name_index}
use Rattle.ccr_core.specs.State.{RunningData, is_run_of, running_at, replaced, without}
use Rattle.ccr_core.proofs.RunningLists.{id_same, id_refl}

abbrev pub Names : Type 0
Names = List (String Global × ℕ)

-- the job's build of a number that runs, and what stands for it
pub record Found (j : Text) (m : ℕ) (ns : Names) (rs : List BuildRun) (bs : List RunningData) (k : ℕ) (d : BuildRun) : Type 0 where
  pub b : RunningData
  pub at : running_at j m bs ≡ Some b
  pub job_is : b.job ≡ j
  pub number_is : b.number ≡ m
  pub stands : StandsFor (run_data (get_or rs k d)) b.plan b.inputs b.exchanges
  pub waits : IsAllowed b.inputs b.plan b.exchanges → ⊥
  pub kept : (r : BuildRun) (es : List Exchange) → StandsFor (run_data r) b.plan b.inputs es → (IsAllowed b.inputs b.plan es → ⊥) → AreRuns (map name_data ns) (map run_data (set rs k r)) (replaced (named b.job b.number b.plan b.inputs es) bs)
  pub gone : AreRuns (map name_data (take k ns ++ drop (suc k) ns)) (map run_data (take k rs ++ drop (suc k) rs)) (without b.job b.number bs)

-- the test on a build is that by the number that was sought
test_at : (j : Text) (m : ℕ) (f b : RunningData) → f.job ≡ j → f.number ≡ m → is_run_of f.job f.number b ≡ is_run_of j m b
test_at j m f b p q = ap (λ x. bytes_eq x b.job && f.number == b.number) p ∙ ap (λ y. bytes_eq j b.job && y == b.number) q

module _ (j : Text) (m : ℕ) (n : String Global × ℕ) (ns : Names) (r : BuildRun) (rs : List BuildRun) (b : RunningData) (bs : List RunningData) (d : BuildRun) (same : name_data n ≡ (b.job, b.number)) (st : StandsFor (run_data r) b.plan b.inputs b.exchanges) (waits : IsAllowed b.inputs b.plan b.exchanges → ⊥) (rest : AreRuns (map name_data ns) (map run_data rs) bs) where
  here : is_run_of j m b ≡ true → Found j m (n ∷ ns) (r ∷ rs) (b ∷ bs) zero d
  here e =
      let (p, q) = id_same j b.job m b.number e in
      let own : is_run_of b.job b.number b ≡ true = id_refl b.job b.number in
      record {
        b = b;
        at = ap (λ t. cond t (Some b) (running_at j m bs)) e;
        job_is = sym p;
        number_is = sym q;
        stands = st;
        waits = waits;
        kept = λ x es s w. subst (λ t. AreRuns (map name_data (n ∷ ns)) (map run_data (x ∷ rs)) (cond t (named b.job b.number b.plan b.inputs es ∷ bs) (b ∷ replaced (named b.job b.number b.plan b.inputs es) bs))) (sym own) (same, s, w, rest);
        gone = subst (λ t. AreRuns (map name_data ns) (map run_data rs) (cond t bs (b ∷ without b.job b.number bs))) (sym own) rest;
      }

  there : (k : ℕ) → is_run_of j m b ≡ false → Found j m ns rs bs k d → Found j m (n ∷ ns) (r ∷ rs) (b ∷ bs) (suc k) d
  there k e f =
      let other : is_run_of f.b.job f.b.number b ≡ false = test_at j m f.b b f.job_is f.number_is ∙ e in
      record {
        b = f.b;
        at = ap (λ t. cond t (Some b) (running_at j m bs)) e ∙ f.at;
        job_is = f.job_is;
        number_is = f.number_is;
        stands = f.stands;
        waits = f.waits;
        kept = λ x es s w. subst (λ t. AreRuns (map name_data (n ∷ ns)) (map run_data (r ∷ set rs k x)) (cond t (named f.b.job f.b.number f.b.plan f.b.inputs es ∷ bs) (b ∷ replaced (named f.b.job f.b.number f.b.plan f.b.inputs es) bs))) (sym other) (same, st, waits, f.kept x es s w);
        gone = subst (λ t. AreRuns (map name_data (n ∷ (take k ns ++ drop (suc k) ns))) (map run_data (r ∷ (take k rs ++ drop (suc k) rs))) (cond t bs (b ∷ without f.b.job f.b.number bs))) (sym other) (same, st, waits, f.gone);
      }

  found_by : (t : Bool) → is_run_of j m b ≡ t → ((k : ℕ) → k ≡ name_index j m (map name_data ns) → k < length rs → Found j m ns rs bs k d) → (k : ℕ) → k ≡ cond t 0 (1 + name_index j m (map name_data ns)) → k < length (r ∷ rs) → Found j m (n ∷ ns) (r ∷ rs) (b ∷ bs) k d
  found_by true is more zero e lt = here is
  found_by true is more (suc k) e lt = absurd (omega (arith, e))
  found_by false is more zero e lt = absurd (omega (arith, e))
  found_by false is more (suc k) e lt =
      let less : k < length rs = omega (arith, lt) in
      let at : k ≡ name_index j m (map name_data ns) = omega (arith, e) in
      there k is (more k at less)

  lost_by : (t : Bool) → is_run_of j m b ≡ t → (length rs ≤ name_index j m (map name_data ns) → running_at j m bs ≡ None) → length (r ∷ rs) ≤ cond t 0 (1 + name_index j m (map name_data ns)) → running_at j m (b ∷ bs) ≡ None
  lost_by true is more le = absurd (omega (arith, le))
  lost_by false is more le =
      let less : length rs ≤ name_index j m (map name_data ns) = omega (arith, le) in
      ap (λ t. cond t (Some b) (running_at j m bs)) is ∙ more less

-- the test on a name is that on the build
test_same : (j : Text) (m : ℕ) (n : String Global × ℕ) (b : RunningData) → name_data n ≡ (b.job, b.number) → is_run_of j m b ≡ (bytes_eq j (string_bytes n.0) && m == n.1)
test_same j m n b e = ap (λ x. bytes_eq j x.0 && m == x.1) (sym e)

pub found : (j : Text) (m : ℕ) (ns : Names) (rs : List BuildRun) (bs : List RunningData) (d : BuildRun) → AreRuns (map name_data ns) (map run_data rs) bs → (k : ℕ) → k ≡ name_index j m (map name_data ns) → k < length rs → Found j m ns rs bs k d
found j m ns [] bs d h k e lt = absurd (omega (arith, lt))
found j m [] (r ∷ rs) bs d h k e lt = absurd h
found j m (n ∷ ns) (r ∷ rs) [] d h k e lt = absurd h
found j m (n ∷ ns) (r ∷ rs) (b ∷ bs) d (same, st, waits, rest) k e lt = found_by j m n ns r rs b bs d same st waits rest (bytes_eq j (string_bytes n.0) && m == n.1) (test_same j m n b same) (found j m ns rs bs d rest) k e lt

pub lost : (j : Text) (m : ℕ) (ns : Names) (rs : List BuildRun) (bs : List RunningData) → AreRuns (map name_data ns) (map run_data rs) bs → length rs ≤ name_index j m (map name_data ns) → running_at j m bs ≡ None
lost j m [] [] [] h le = refl
lost j m [] [] (b ∷ bs) h le = absurd h
lost j m (n ∷ ns) [] bs h le = absurd h
lost j m [] (r ∷ rs) bs h le = absurd h
lost j m (n ∷ ns) (r ∷ rs) [] h le = absurd h
lost j m (n ∷ ns) (r ∷ rs) (b ∷ bs) (same, st, waits, rest) le = lost_by j m n ns r rs b bs r same st waits rest (bytes_eq j (string_bytes n.0) && m == n.1) (test_same j m n b same) (lost j m ns rs bs rest) le
