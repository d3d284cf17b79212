-- The graph of a pipeline, line by line.
use Rattle.std.proofs.Common.{◌≡◌, ◌<◌, ◌+◌, ◌++◌, ◌∷◌, [], suc, List, ℕ, length, take, map, get_or, Some, unwrap_or, refl, sym, ◌∙◌, ap, subst, append_assoc, append-nil, add-zero, arith}
use Rattle.std.specs.Prelude.{IsSome}
use Rattle.std.proofs.lemmas.List.{take_more, map-append, length-map, length-take-le}
use Rattle.ccr_history.specs.History.{HistoryData}
use Rattle.ccr_history.specs.Text.{Text}
use Rattle.ccr_pipeline.specs.Pipelines.{PipelineData}
use Rattle.ccr_core.specs.Holding.{CoreData}
use Rattle.ccr_core.specs.State.{no_pipeline}
use Rattle.ccr_lines.specs.Graphs.{numbered, graph_lines}
use Rattle.ccr_core.specs.Commands.{graph}
use Rattle.ccr_lines.specs.Shown.{IsMade}

-- ---- one more of a list
-- where this is the text of one at a position
module _ {Y : Type 0} (text : ℕ → Y → Text) where
  numbered_more : (k : ℕ) (ys : List Y) (y : Y)
      → numbered text k (ys ++ y ∷ []) ≡ numbered text k ys ++ text (k + length ys) y
  numbered_more k [] y = append-nil (text k y) ∙ ap (λ n. text n y) (sym (add-zero k))
  numbered_more k (z ∷ zs) y =
      let same : k + 1 + length zs ≡ k + suc (length zs) = omega arith in
      ap (λ t. text k z ++ t) (numbered_more (k + 1) zs y)
      ∙ (sym (append_assoc (text k z) (numbered text (k + 1) zs) (text (k + 1 + length zs) y))
      ∙ ap (λ n. (text k z ++ numbered text (k + 1) zs) ++ text n y) same)

  -- its text comes to the texts
  pub numbered_told : {X : Type 0} (g : X → Y) (xs : List X) (k : ℕ) (x : X) (start old new : Text) → k < length xs
      → get_or xs k x ≡ x → old ≡ start ++ numbered text 0 (map g (take k xs)) → new ≡ old ++ text k (g x)
      → new ≡ start ++ numbered text 0 (map g (take (k + 1) xs))
  numbered_told g xs k x start old new within at o n =
      let place : 0 + length (map g (take k xs)) ≡ k = omega (arith, length-map (take k xs) g, length-take-le k xs) in
      let more : take (k + 1) xs ≡ take k xs ++ x ∷ [] = take_more xs k x within ∙ ap (λ y. take k xs ++ y ∷ []) at in
      let shown : map g (take (k + 1) xs) ≡ map g (take k xs) ++ g x ∷ [] =
      ap (λ ys. map g ys) more ∙ map-append g (take k xs) (x ∷ []) in
      n ∙ (ap (λ t. t ++ text k (g x)) o
      ∙ (append_assoc start (numbered text 0 (map g (take k xs))) (text k (g x))
      ∙ ap (λ t. start ++ t)
      (ap (λ m. numbered text 0 (map g (take k xs)) ++ text m (g x)) (sym place)
      ∙ (sym (numbered_more 0 (map g (take k xs)) (g x)) ∙ ap (λ ys. numbered text 0 ys) (sym shown)))))

-- ---- the whole
-- six texts are added, one after another
pub all_told : (start a b c d e f u v w x y z : Text) → a ≡ start ++ u → b ≡ a ++ v → c ≡ b ++ w → d ≡ c ++ x
    → e ≡ d ++ y → f ≡ e ++ z → f ≡ start ++ (u ++ v ++ w ++ x ++ y ++ z)
all_told start a b c d e f u v w x y z p q r s t o =
    o ∙ (ap (λ l. l ++ z) (t ∙ ap (λ l. l ++ y) (s ∙ ap (λ l. l ++ x) (r ∙ ap (λ l. l ++ w) (q ∙ ap (λ l. l ++ v) p))))
    ∙ simp append_assoc)

-- the graph of what a core holds
pub graph_made : (c : CoreData) (p : PipelineData) (h : HistoryData) (lines : Text) → c.pipeline ≡ Some p
    → h ≡ c.history → lines ≡ graph_lines p h → IsMade graph c 0 lines
graph_made c p h lines set held told = (
  subst (λ o. IsSome o) (sym set) refl,
  (
    refl,
    told ∙ (ap (λ x. graph_lines p x) held ∙ ap (λ o. graph_lines (unwrap_or o no_pipeline) c.history) (sym set)),
  ),
)
