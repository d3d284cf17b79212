-- Gains that grow.
use Rattle.std.proofs.Common.{◌≡◌, Bool, true, false, ◌||◌, cond, ℕ, ◌+◌, ◌<◌, get_or, drop, drop-cons, add-one, List, [], ◌∷◌, ◌++◌, map, length, refl, sym, ap, ◌∙◌, append-nil, append_assoc}
use Rattle.std.specs.List.{list_any}
use Rattle.ccr_pipeline.specs.Names.{has_name}
use Rattle.ccr_pipeline.specs.Tree.{Text}
use Rattle.ccr_steps.specs.Gains.{GainsData, Grew, register}

pub list_any-map : {X Y : Type 0} (p : X → Bool) (f : Y → X) (ys : List Y) → list_any p (map f ys) ≡ list_any (λ y. p (f y)) ys
list_any-map p f [] = refl
list_any-map p f (y ∷ ys) = ap (λ b. p (f y) || b) (list_any-map p f ys)

pub grew_same : (g : GainsData) → Grew g g
grew_same g = ([], [], sym (append-nil g.names), sym (append-nil g.moved))

pub grew_more : (f g h : GainsData) → Grew f g → Grew g h → Grew f h
grew_more f g h (ns, ms, n, m) (ns', ms', n', m') =
    (ns ++ ns', ms ++ ms', n' ∙ ap (λ l. l ++ ns') n ∙ append_assoc f.names ns ns', m' ∙ ap (λ l. l ++ ms') m ∙ append_assoc f.moved ms ms')

name_grew : (b : Bool) (names : List Text) (name : Text) → (more : List Text) × (cond b names (names ++ name ∷ []) ≡ names ++ more)
name_grew true names name = ([], sym (append-nil names))
name_grew false names name = (name ∷ [], refl)

pub register_grew : (name : Text) (g : GainsData) → Grew g (register name g)
register_grew name g = let (more, e) = name_grew (has_name g.names name) g.names name in (more, [], e, sym (append-nil g.moved))

pub map_push : {X Y : Type 0} (f : X → Y) (xs : List X) (x : X) → map f (xs ++ x ∷ []) ≡ map f xs ++ f x ∷ []
map_push f [] x = refl
map_push f (y ∷ ys) x = ap (λ l. f y ∷ l) (map_push f ys x)

pub from_next : {X : Type 0} (xs : List X) (i : ℕ) (x : X) → i < length xs → x ≡ get_or xs i x → drop i xs ≡ x ∷ drop (i + 1) xs
from_next xs i x h e = rw (drop-cons xs i x h, sym e, add-one) refl
