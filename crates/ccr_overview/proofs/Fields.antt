-- The fields of a JSON object.
use Rattle.std.proofs.Common.{◌≡◌, [], ◌∷◌, ◌++◌, Option, Some, None, option_map, refl, sym, ◌∙◌, ap, append_assoc, append-nil}
use Rattle.std.specs.Prelude.{option_and_then}
use Rattle.serde_json.specs.Data.{Data, Members, no_members, member}
use Rattle.serde_json.specs.Find.{as_str}
use Rattle.ccr_history.specs.Text.{Text}
use Rattle.ccr_history.specs.TextMap.{TextMap, texts_of}
use Rattle.ccr_overview.specs.Shorts.{texts_onto}

-- a field more before the others
one_more : (old : TextMap) (k t : Text) (rest : Option TextMap)
    → option_map (λ fs. (old ++ (k, t) ∷ []) ++ fs) rest ≡ option_map (λ fs. old ++ fs) (option_map (λ fs. (k, t) ∷ fs) rest)
one_more old k t (Some fs) = ap Some (append_assoc old ((k, t) ∷ []) fs)
one_more old k t None = refl

onto_by : (old : TextMap) (k : Text) (ms : Members) (o : Option Text)
    → ((fields : TextMap) → texts_onto fields ms ≡ option_map (λ fs. fields ++ fs) (texts_of ms))
    → option_and_then (λ t. texts_onto (old ++ (k, t) ∷ []) ms) o
    ≡ option_map (λ fs. old ++ fs) (option_and_then (λ t. option_map (λ fs. (k, t) ∷ fs) (texts_of ms)) o)
onto_by old k ms (Some t) rest = rest (old ++ (k, t) ∷ []) ∙ one_more old k t (texts_of ms)
onto_by old k ms None rest = refl

onto : (ms : Members) (old : TextMap) → texts_onto old ms ≡ option_map (λ fs. old ++ fs) (texts_of ms)
onto no_members old = ap Some (sym (append-nil old))
onto (member k d ms) old = onto_by old k ms (as_str d) (onto ms)

same : (o : Option TextMap) → option_map (λ (fs : TextMap). [] ++ fs) o ≡ o
same (Some fs) = refl
same None = refl

-- behind no field they are those of the object
pub onto_none : (ms : Members) → texts_onto [] ms ≡ texts_of ms
onto_none ms = onto ms [] ∙ same (texts_of ms)
