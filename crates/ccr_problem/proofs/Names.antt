-- Lists of names, each once, in order of first mention.
use Rattle.std.proofs.Common.{◌≡◌, ◌+◌, ◌≤◌, List, [], ◌∷◌, ◌++◌, length, Bool, true, false, ◌||◌, cond, refl, sym, ap, ◌∙◌, subst, arith, append_assoc}
use Rattle.std.specs.List.{AllByRecursion}
use Rattle.std.specs.Str.{bytes_eq}
use Rattle.std.proofs.lemmas.Bool.{or_parts, or_left, or_right, false≢true}
use Rattle.std.proofs.lemmas.List.{append-nil, length-append}
use Rattle.std.proofs.lemmas.List.Folds.{list_any-append}
use Rattle.std.proofs.lemmas.Slice.Eq.{bytes_eq-Decides}
use Rattle.ccr_history.specs.Text.{Text}
use Rattle.ccr_pipeline.specs.Inputs.{InputData, named_jobs}
use Rattle.ccr_pipeline.specs.Names.{has_name, with_name, with_names}

pub same_text : (x y : Text) → bytes_eq x y ≡ true → x ≡ y
same_text x y h = (bytes_eq-Decides x y).0 h

pub same_self : (x : Text) → bytes_eq x x ≡ true
same_self x = (bytes_eq-Decides x x).1 refl

has-append : (xs ys : List Text) (x : Text) → has_name (xs ++ ys) x ≡ (has_name xs x || has_name ys x)
has-append xs ys x = list_any-append (bytes_eq x) xs ys

pub stays : (xs ys : List Text) (x : Text) → has_name xs x ≡ true → has_name (xs ++ ys) x ≡ true
stays xs ys x h = has-append xs ys x ∙ or_left (has_name xs x) (has_name ys x) h

-- ---- more names come behind the ones before
-- the list begins with these
abbrev pub Begins : List Text → List Text → Type 0
Begins names all = (more : List Text) × (all ≡ names ++ more)

pub begins_then : (xs ys zs : List Text) → Begins xs ys → Begins ys zs → Begins xs zs
begins_then xs ys zs (m, e) (n, d) = (m ++ n, d ∙ ap (λ l. l ++ n) e ∙ append_assoc xs m n)

with_by : (b : Bool) (names : List Text) (t : Text) → Begins names (cond b names (names ++ t ∷ []))
with_by true names t = ([], sym (append-nil names))
with_by false names t = (t ∷ [], refl)

pub begins_with : (names : List Text) (t : Text) → Begins names (with_name names t)
begins_with names t = with_by (has_name names t) names t

pub begins_all : (names ts : List Text) → Begins names (with_names names ts)
begins_all names [] = ([], sym (append-nil names))
begins_all names (t ∷ ts) =
    begins_then names (with_name names t) (with_names (with_name names t) ts) (begins_with names t) (begins_all (with_name names t) ts)

pub begins_named : (names : List Text) (is : List InputData) → Begins names (named_jobs names is)
begins_named names [] = ([], sym (append-nil names))
begins_named names (i ∷ is) =
    begins_then names (with_names names i.passed) (named_jobs (with_names names i.passed) is) (begins_all names i.passed) (begins_named (with_names names i.passed) is)

pub length-begins : (xs ys : List Text) → Begins xs ys → length xs ≤ length ys
length-begins xs ys (m, e) = omega (arith, ap length e, length-append xs m)

pub has_later : (xs ys : List Text) (x : Text) → Begins xs ys → has_name xs x ≡ true → has_name ys x ≡ true
has_later xs ys x (m, e) h = ap (λ l. has_name l x) e ∙ stays xs m x h

added_by : (b : Bool) (names : List Text) (t : Text) → has_name names t ≡ b → has_name (cond b names (names ++ t ∷ [])) t ≡ true
added_by true names t e = e
added_by false names t e =
    has-append names (t ∷ []) t ∙ or_right (has_name names t) (has_name (t ∷ []) t) (or_left (bytes_eq t t) false (same_self t))

pub added : (names : List Text) (t : Text) → has_name (with_name names t) t ≡ true
added names t = added_by (has_name names t) names t refl

-- each of the names that come is there
pub all_there : (names ts all : List Text) → Begins (with_names names ts) all → AllByRecursion (λ t. has_name all t ≡ true) ts
all_there names [] all b = tt
all_there names (t ∷ ts) all b =
    let after : List Text = with_name names t in
    (has_later after all t (begins_then after (with_names after ts) all (begins_all after ts) b) (added names t), all_there after ts all b)

-- ---- names that were put together before
with_names-push : (names ts : List Text) (t : Text) → with_names names (ts ++ t ∷ []) ≡ with_name (with_names names ts) t
with_names-push names [] t = refl
with_names-push names (x ∷ xs) t = with_names-push (with_name names x) xs t

known : (names : List Text) (t : Text) → has_name names t ≡ true → with_name names t ≡ names
known names t h = ap (λ b. cond b names (names ++ t ∷ [])) h

among_by : (b : Bool) (names xs : List Text) (x t : Text) → bytes_eq t x ≡ b → (b || has_name xs t) ≡ true
    → (has_name xs t ≡ true → has_name (with_names (with_name names x) xs) t ≡ true) → has_name (with_names (with_name names x) xs) t ≡ true
among_by true names xs x t e h rec =
    let here : has_name (with_name names x) t ≡ true = subst (λ y. has_name (with_name names x) y ≡ true) (sym (same_text t x e)) (added names x) in
    has_later (with_name names x) (with_names (with_name names x) xs) t (begins_all (with_name names x) xs) here
among_by false names xs x t e h rec = rec h

among : (names ts : List Text) (t : Text) → has_name ts t ≡ true → has_name (with_names names ts) t ≡ true
among names [] t h = absurd (false≢true h)
among names (x ∷ xs) t h = among_by (bytes_eq t x) names xs x t refl h (among (with_name names x) xs t)

onto_by : (b : Bool) (names ts : List Text) (t : Text) → has_name ts t ≡ b → with_names names (cond b ts (ts ++ t ∷ [])) ≡ with_name (with_names names ts) t
onto_by true names ts t e = sym (known (with_names names ts) t (among names ts t e))
onto_by false names ts t e = with_names-push names ts t

onto : (names ts us : List Text) → with_names names (with_names ts us) ≡ with_names (with_names names ts) us
onto names ts [] = refl
onto names ts (u ∷ us) = onto names (with_name ts u) us ∙ ap (λ l. with_names l us) (onto_by (has_name ts u) names ts u refl)

-- a list of names that were put together adds what the names add
pub with_names-once : (names ts : List Text) → with_names names (with_names [] ts) ≡ with_names names ts
with_names-once names ts = onto names [] ts

-- ---- no name twice
abbrev pub AreApart : List Text → Type 0
AreApart [] = Unit {0}
AreApart (x ∷ xs) = (has_name xs x ≡ false) × AreApart xs

flipped : (b : Bool) (x y : Text) → bytes_eq x y ≡ b → b ≡ false → bytes_eq y x ≡ false
flipped b x y e f = other (bytes_eq y x) refl
  where
    other : (c : Bool) → bytes_eq y x ≡ c → c ≡ false
    other true d = absurd (false≢true (sym f ∙ sym e ∙ ap (λ z. bytes_eq z y) (sym (same_text y x d)) ∙ same_self y))
    other false d = refl

apart_push : (xs : List Text) (y : Text) → AreApart xs → has_name xs y ≡ false → AreApart (xs ++ y ∷ [])
apart_push [] y h n = (refl, tt)
apart_push (x ∷ xs) y (new, h) n =
    let parts = or_parts (bytes_eq y x) (has_name xs y) n in
    let not_y : bytes_eq x y ≡ false = flipped (bytes_eq y x) y x refl parts.0 in
    (rw (has-append xs (y ∷ []) x, new, not_y) refl, apart_push xs y h parts.1)

apart_by : (b : Bool) (names : List Text) (t : Text) → has_name names t ≡ b → AreApart names → AreApart (cond b names (names ++ t ∷ []))
apart_by true names t e h = h
apart_by false names t e h = apart_push names t h e

pub apart : (names ts : List Text) → AreApart names → AreApart (with_names names ts)
apart names [] h = h
apart names (t ∷ ts) h = apart (with_name names t) ts (apart_by (has_name names t) names t refl h)

-- ---- how many
few_by : (b : Bool) (names : List Text) (t : Text) → length (cond b names (names ++ t ∷ [])) ≤ length names + 1
few_by true names t = omega arith
few_by false names t = omega (arith, length-append names (t ∷ []))

pub length-with_names : (names ts : List Text) → length (with_names names ts) ≤ length names + length ts
length-with_names names [] = omega arith
length-with_names names (t ∷ ts) = omega (arith, length-with_names (with_name names t) ts, few_by (has_name names t) names t)
