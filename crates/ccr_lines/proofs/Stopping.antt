-- The job at which a version stopped, one job after another.
use Rattle.std.proofs.Common.{◌≡◌, ◌+◌, ◌<◌, ◌∷◌, ℕ, suc, List, length, drop, map, get_or, Bool, true, false, cond, Option, Some, None, sym, ◌∙◌, ap}
use Rattle.std.proofs.lemmas.List.{drop_more}
use Rattle.std.specs.Prelude.{find}
use Rattle.std.specs.Option.{option_map_or}
use Rattle.ccr_history.specs.Text.{Text}
use Rattle.ccr_history.specs.History.{HistoryData}
use Rattle.ccr_pipeline.specs.Pipelines.{PipelineData}
use Rattle.ccr_lines.specs.Stops.{next_stop, stopping_job}

module _ (p : PipelineData) (h : HistoryData) (pair : ℕ × ℕ) where
  -- one job on
  pub stop_on : (n m : ℕ) (job next all : Text) (found : Option Text) → n ≡ suc m → found ≡ next_stop p h pair job
      → found ≡ Some next → stopping_job n p h pair job ≡ all → stopping_job m p h pair next ≡ all
  stop_on n m job next all found more is some before =
      sym (ap (λ f. option_map_or (λ x. stopping_job m p h pair x) f job) (sym is ∙ some))
      ∙ (sym (ap (λ k. stopping_job k p h pair job) more) ∙ before)

  -- it stopped here
  pub stop_here : (n m : ℕ) (job all : Text) (found : Option Text) → n ≡ suc m → found ≡ next_stop p h pair job
      → found ≡ None → stopping_job n p h pair job ≡ all → job ≡ all
  stop_here n m job all found more is none before =
      sym (ap (λ f. option_map_or (λ x. stopping_job m p h pair x) f job) (sym is ∙ none))
      ∙ (sym (ap (λ k. stopping_job k p h pair job) more) ∙ before)

-- ---- the first that passes a test, one after another
module _ {X : Type 0} (test : Text → Bool) (of : X → Text) (xs : List X) (k : ℕ) (x : X) (all : Option Text) (within : k < length xs)
    (at : get_or xs k x ≡ x) (before : find test (map of (drop k xs)) ≡ all) where
  -- what is found from here on
  from_here : cond (test (of x)) (Some (of x)) (find test (map of (drop (k + 1) xs))) ≡ all
  from_here =
      sym (ap (λ ys. find test (map of ys)) (drop_more xs k x within ∙ ap (λ y. y ∷ drop (k + 1) xs) at)) ∙ before

  -- this one passes
  pub found_here : test (of x) ≡ true → Some (of x) ≡ all
  found_here so = ap (λ b. cond b (Some (of x)) (find test (map of (drop (k + 1) xs)))) (sym so) ∙ from_here

  -- this one doesn't
  pub found_on : test (of x) ≡ false → find test (map of (drop (k + 1) xs)) ≡ all
  found_on so = ap (λ b. cond b (Some (of x)) (find test (map of (drop (k + 1) xs)))) (sym so) ∙ from_here
