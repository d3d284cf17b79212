-- Findings that hang on what is found of a key or a list.
use Rattle.std.specs.Prelude.{◌≡◌, List, [], ◌∷◌, ◌++◌, length, Some, codes}
use Rattle.std.proofs.Common.{refl, sym, subst}
use Rattle.std.proofs.lemmas.List.{nil_from_length}
use Rattle.serde_json.specs.declared.value.Value.{Value}
use Rattle.serde_json.specs.View.{items_view}
use Rattle.ccr_pipeline.specs.Faults.{Path}
use Rattle.ccr_pipeline.specs.Tree.{Text}
use Rattle.ccr_pipeline.specs.declared.schema.Schema.{Schema}
use Rattle.ccr_findings.specs.declared.finding.Kind.TheVariants.{Misplaced}
use Rattle.ccr_findings.specs.Findings.{FindingData, finding}
use Rattle.ccr_findings.specs.Known.{owner_of, name_of}
use Rattle.ccr_findings.specs.Objects.{stray_key, empty_at, empty_finding}

pub stray_of : (p : Path) (key : Text) (s : Schema) (owner line : Text) → owner_of key ≡ Some s → owner ≡ name_of s
    → line ≡ codes "misplaced " ++ (p ++ (codes ": belongs to " ++ owner)) → finding Misplaced line ≡ stray_key p key
stray_of p key s owner line e f g =
    rw (e, g, f) refl

pub empty_on : (p : Path) (ds : List Value) (old new : List FindingData) → length ds ≡ 0 → new ≡ old ++ (empty_finding p ∷ []) → new ≡ old ++ empty_at p (items_view ds)
empty_on p ds old new e h = subst (λ l. new ≡ old ++ empty_at p (items_view l)) (sym (nil_from_length ds e)) h
