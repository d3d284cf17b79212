-- The lines of a pipeline.
use Rattle.std.proofs.Common.{◌≡◌, ◌++◌, ◌∷◌, [], List, length, map, flat_map, codes, decimal, String, string_bytes, ℕ, sym, ◌∙◌, ap, append_assoc}
use Rattle.std.specs.declared.alloc.Global.{Global}
use Rattle.std.proofs.lemmas.List.Folds.{flat_map-map}
use Rattle.ccr_history.specs.Text.{Text}
use Rattle.ccr_pipeline.specs.Pipelines.{PipelineData}
use Rattle.ccr_lines.specs.Lines.{line, pipeline_lines}

-- the lines of paths, as they lie in memory
paths_lines : (paths : List (String Global)) (us : List Text) → map string_bytes paths ≡ us
    → flat_map (λ path. line (codes "unused " ∷ string_bytes path ∷ [])) paths
    ≡ flat_map (λ path. line (codes "unused " ∷ path ∷ [])) us
paths_lines paths us same =
    sym (flat_map-map (λ path. line (codes "unused " ∷ path ∷ [])) string_bytes paths)
    ∙ ap (λ ps. flat_map (λ path. line (codes "unused " ∷ path ∷ [])) ps) same

-- one text is written, and then another
both_told : (start mid new first second : List ℕ) → mid ≡ start ++ first → new ≡ mid ++ second
    → new ≡ start ++ (first ++ second)
both_told start mid new first second a b = b ∙ (ap (λ w. w ++ second) a ∙ append_assoc start first second)

-- the counts of a pipeline and its paths are written
pub pipeline_told : (start mid new resources jobs : List ℕ) (p : PipelineData) (paths : List (String Global))
    → resources ≡ decimal (length p.resources) → jobs ≡ decimal (length p.jobs) → map string_bytes paths ≡ p.unused
    → mid ≡ start ++ line (codes "pipeline set: " ∷ resources ∷ codes " resources, " ∷ jobs ∷ codes " jobs" ∷ [])
    → new ≡ mid ++ flat_map (λ path. line (codes "unused " ∷ string_bytes path ∷ [])) paths
    → new ≡ start ++ pipeline_lines p
pipeline_told start mid new resources jobs p paths r j u a b =
    both_told start mid new
    (line (codes "pipeline set: " ∷ decimal (length p.resources) ∷ codes " resources, "
    ∷ decimal (length p.jobs) ∷ codes " jobs" ∷ []))
    (flat_map (λ path. line (codes "unused " ∷ path ∷ [])) p.unused)
    (a ∙ (ap (λ n. start ++ line (codes "pipeline set: " ∷ n ∷ codes " resources, " ∷ jobs ∷ codes " jobs" ∷ [])) r
    ∙ ap (λ n. start ++ line (codes "pipeline set: " ∷ decimal (length p.resources) ∷ codes " resources, "
    ∷ n ∷ codes " jobs" ∷ [])) j))
    (b ∙ ap (λ w. mid ++ w) (paths_lines paths p.unused u))
