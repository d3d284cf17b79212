-- What was written, and more after it.
use Rattle.std.proofs.Common.{◌≡◌, ℕ, suc, ◌+◌, ◌<◌, ◌≤◌, List, [], ◌∷◌, ◌++◌, length, take, get_or, flat_map, refl, sym, ap, ap₂, ◌∙◌, subst, arith, append_assoc}
use Rattle.std.proofs.lemmas.List.{append-nil, take_more, take_all, length-take-le}
use Rattle.std.proofs.lemmas.List.Concat.{flat_map-append}
use Rattle.ccr_page.specs.Texts.{Text}
use Rattle.ccr_page.specs.Pieces.{PieceData, piece_text, written, Adds}
use Rattle.ccr_page.specs.Each.{each_from, at_each}

-- nothing was written
pub adds_nothing : (o : Text) → Adds o o []
adds_nothing o = record { same = sym (append-nil o) }

-- one after another
pub then_adds : {o p q : Text} {ps qs : List PieceData} → Adds o p ps → Adds p q qs → Adds o q (ps ++ qs)
then_adds {o} {p} {q} {ps} {qs} a b = record {
  same = b.same ∙ ap (λ t. t ++ written qs) a.same ∙ append_assoc o (written ps) (written qs) ∙ ap (λ t. o ++ t) (sym (flat_map-append piece_text ps qs));
}

-- ---- things one after another
-- one more of them
pub each_more : {X : Type 0} (f : ℕ → X → List PieceData) (n : ℕ) (xs : List X) (i : ℕ) (x : X) → i < length xs → x ≡ get_or xs i x
    → each_from f n (take (i + 1) xs) ≡ each_from f n (take i xs) ++ f (n + i) x
each_more f n xs i x within read =
    ap (each_from f n) (take_more xs i x within) ∙ each_push f n (take i xs) (get_or xs i x)
    ∙ ap₂ (λ k y. each_from f n (take i xs) ++ f k y) (ap (λ k. n + k) (length-take-le i xs (omega arith))) (sym read)
  where
    each_push : {X : Type 0} (f : ℕ → X → List PieceData) (n : ℕ) (xs : List X) (x : X) → each_from f n (xs ++ x ∷ []) ≡ each_from f n xs ++ f (n + length xs) x
    each_push f n [] x = let e : n ≡ n + 0 = omega arith in append-nil (f n x) ∙ ap (λ k. f k x) e
    each_push f n (y ∷ ys) x =
        let e : n + 1 + length ys ≡ n + suc (length ys) = omega arith in
        ap (λ t. f n y ++ t) (each_push f (n + 1) ys x ∙ ap (λ k. each_from f (n + 1) ys ++ f k x) e) ∙ sym (append_assoc (f n y) (each_from f (n + 1) ys) (f (n + suc (length ys)) x))

-- what was written, and one more of them
pub adds_each : {X : Type 0} (f : ℕ → X → List PieceData) (xs : List X) (i : ℕ) (x : X) (o p q : Text) → i < length xs → x ≡ get_or xs i x
    → Adds o p (each_from f 0 (take i xs)) → Adds p q (f i x) → Adds o q (each_from f 0 (take (i + 1) xs))
adds_each f xs i x o p q within read before one =
    let P : List PieceData → Type 0 = λ ps. Adds o q ps in
    let e : i ≡ 0 + i = omega arith in
    subst P (sym (each_more f 0 xs i x within read ∙ ap (λ k. each_from f 0 (take i xs) ++ f k x) (sym e))) (then_adds before one)

-- the same by a list alone
pub adds_more : {X : Type 0} (f : X → List PieceData) (xs : List X) (i : ℕ) (x : X) (o p q : Text) → i < length xs → x ≡ get_or xs i x
    → Adds o p (flat_map f (take i xs)) → Adds p q (f x) → Adds o q (flat_map f (take (i + 1) xs))
adds_more f xs i x o p q within read before one =
    let P : List PieceData → Type 0 = λ ps. Adds o q ps in
    subst P (sym (ap (flat_map f) (take_more xs i x within) ∙ flat_map-append f (take i xs) (get_or xs i x ∷ []) ∙ ap (λ t. flat_map f (take i xs) ++ t) (append-nil (f (get_or xs i x)) ∙ ap f (sym read)))) (then_adds before one)

-- all of them
pub adds_all : {X : Type 0} (f : ℕ → X → List PieceData) (xs : List X) (i : ℕ) (o p : Text) → length xs ≤ i → Adds o p (each_from f 0 (take i xs)) → Adds o p (each_from f 0 xs)
adds_all f xs i o p past before = let P : List PieceData → Type 0 = λ ps. Adds o p ps in subst P (ap (each_from f 0) (take_all i xs past)) before

-- one more position
pub adds_at : (f : ℕ → List PieceData) (k : ℕ) (o p q : Text) → Adds o p (at_each f k) → Adds p q (f k) → Adds o q (at_each f (k + 1))
adds_at f k o p q before one =
    let e : suc k ≡ k + 1 = omega arith in
    let P : ℕ → Type 0 = λ n. Adds o q (at_each f n) in
    subst P e (then_adds before one)
