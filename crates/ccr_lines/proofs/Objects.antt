-- Objects, member by member.
use Rattle.std.proofs.Common.{◌≡◌, ◌∷◌, ◌++◌, [], List, Bool, true, false, map, refl, sym, ◌∙◌, ap, ap₂}
use Rattle.serde_json.specs.Data.{Data, string, object}
use Rattle.serde_json.specs.Written.{compact_text, comma_if}
use Rattle.serde_json.specs.Written as written
use Rattle.ccr_history.specs.Text.{Text}
use Rattle.ccr_lines.specs.Objects.{members_text, object_text, named}

-- the first, and the rest, of lists that are the same
first_is : {x y : Text} {xs ys : List Text} → x ∷ xs ≡ y ∷ ys → x ≡ y
first_is e = cc (e)

rest_is : {x y : Text} {xs ys : List Text} → x ∷ xs ≡ y ∷ ys → xs ≡ ys
rest_is e = cc (e)

none_of : {A : Type 0} {x : Text} {xs : List Text} → x ∷ xs ≡ [] → A
none_of e = absurd (cc (e))

members_are : {X : Type 0} (name : X → Text) (text : X → Text) (later : Bool) (ms : List X) (ds : List Data)
    → map text ms ≡ map compact_text ds
    → members_text later (map (λ m. (name m, text m)) ms) ≡ written.members_text later (named (map name ms) ds)
members_are name text later [] ds e = refl
members_are name text later (m ∷ ms) [] e = none_of e
members_are name text later (m ∷ ms) (d ∷ ds) e =
    ap₂ (λ v t. comma_if later ++ (compact_text (string (name m)) ++ 58 ∷ (v ++ t))) (first_is e)
    (members_are name text true ms ds (rest_is e))

-- the text of the object of values of which these are the texts
pub object_is : {X : Type 0} (name : X → Text) (text : X → Text) (ms : List X) (ds : List Data)
    → map text ms ≡ map compact_text ds
    → object_text (map (λ m. (name m, text m)) ms) ≡ compact_text (object (named (map name ms) ds))
object_is name text ms ds e = ap (λ t. 123 ∷ t) (members_are name text false ms ds e)
