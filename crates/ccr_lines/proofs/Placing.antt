-- The places that a build took for inputs, one input after another.
use Rattle.std.proofs.Common.{◌≡◌, ◌<◌, ◌+◌, ◌∷◌, [], ℕ, List, length, map, drop, get_or, Bool, true, false, ◌&&◌, ◌==◌, sym, ◌∙◌, ap, ap₂}
use Rattle.std.specs.Option.{option_map_or}
use Rattle.std.proofs.lemmas.List.{drop_more}
use Rattle.ccr_history.specs.Builds.{BuildData}
use Rattle.ccr_history.specs.History.{HistoryData}
use Rattle.ccr_pipeline.specs.Inputs.{input_data}
use Rattle.ccr_pipeline.specs.Pipelines.{PipelineData}
use Rattle.ccr_pipeline.specs.declared.input.Input.{Input}
use Rattle.ccr_lines.specs.BuildCertificates.{place_for}
use Rattle.ccr_lines.specs.Newest.{took_each}

-- what is left from an index on
left_from : {X : Type 0} (xs : List X) (k : ℕ) (d x : X) → k < length xs → get_or xs k d ≡ x → drop k xs ≡ x ∷ drop (k + 1) xs
left_from xs k d x within at = drop_more xs k d within ∙ ap (λ y. y ∷ drop (k + 1) xs) at

module _ (p : PipelineData) (h : HistoryData) (b : BuildData) (is : List Input) (ns : List ℕ) (k : ℕ) where
  -- whether it took the places of the inputs from here on
  from_here : (i : Input) (n : ℕ) → k < length is → get_or is k i ≡ i → k < length ns → get_or ns k 0 ≡ n
      → took_each p h (map input_data (drop k is)) (drop k ns) b
      ≡ (option_map_or (λ m. m == n) (place_for p h b.used (input_data i)) false
      && took_each p h (map input_data (drop (k + 1) is)) (drop (k + 1) ns) b)
  from_here i n in_is i_at in_ns n_at =
      ap₂ (λ (xs : List Input) (ys : List ℕ). took_each p h (map input_data xs) ys b) (left_from is k i i in_is i_at)
      (left_from ns k 0 n in_ns n_at)

  -- one input on, for which it took its place
  pub each_on : (i : Input) (n : ℕ) (took all : Bool) → k < length is → get_or is k i ≡ i → k < length ns
      → get_or ns k 0 ≡ n → took ≡ option_map_or (λ m. m == n) (place_for p h b.used (input_data i)) false → took ≡ true
      → took_each p h (map input_data (drop k is)) (drop k ns) b ≡ all
      → took_each p h (map input_data (drop (k + 1) is)) (drop (k + 1) ns) b ≡ all
  each_on i n took all in_is i_at in_ns n_at tested so before =
      ap (λ t. t && took_each p h (map input_data (drop (k + 1) is)) (drop (k + 1) ns) b) (sym so ∙ tested)
      ∙ (sym (from_here i n in_is i_at in_ns n_at) ∙ before)

  -- one for which it didn't
  pub each_not : (i : Input) (n : ℕ) (took all : Bool) → k < length is → get_or is k i ≡ i → k < length ns
      → get_or ns k 0 ≡ n → took ≡ option_map_or (λ m. m == n) (place_for p h b.used (input_data i)) false → took ≡ false
      → took_each p h (map input_data (drop k is)) (drop k ns) b ≡ all → false ≡ all
  each_not i n took all in_is i_at in_ns n_at tested so before =
      ap (λ t. t && took_each p h (map input_data (drop (k + 1) is)) (drop (k + 1) ns) b) (sym so ∙ tested)
      ∙ (sym (from_here i n in_is i_at in_ns n_at) ∙ before)
