-- What a line says, both ways.
use Rattle.std.proofs.Common.{◌≡◌, ℕ, List, [], ◌∷◌, ◌++◌, length, Bool, true, false, cond, ◌==◌, Option, Some, None, ap, ◌∙◌, refl, arith, eqb-true}
use Rattle.std.proofs.lemmas.List.{append-nil}
use Rattle.ccr_choice.specs.declared.word.Word.{Word}
use Rattle.ccr_choice.specs.declared.word.Word.TheVariants.{Number, Jobs, After, Places}
use Rattle.ccr_choice.specs.Problem.{InputValue}
use Rattle.ccr_choice.specs.Reading.{number_words, front_numbers, after_numbers}
use Rattle.ccr_choice.specs.ProblemText.{after_words, input_line, after_on, places_on, input_on}

-- numbers, and then something else
pub front-number_words : (ns : List ℕ) (ws : List Word) → front_numbers ws ≡ [] → front_numbers (number_words ns ++ ws) ≡ ns
front-number_words [] ws h = h
front-number_words (n ∷ ns) ws h = ap (λ ms. n ∷ ms) (front-number_words ns ws h)

pub after-number_words : (ns : List ℕ) (ws : List Word) → after_numbers ws ≡ ws → after_numbers (number_words ns ++ ws) ≡ ws
after-number_words [] ws h = h
after-number_words (n ∷ ns) ws h = after-number_words ns ws h

pub numbers_are : (ws : List Word) → ws ≡ number_words (front_numbers ws) ++ after_numbers ws
numbers_are [] = refl
numbers_are (Number n ∷ ws) = ap (λ vs. Number n ∷ vs) (numbers_are ws)
numbers_are (w ∷ ws) = refl

pub front-all : (ns : List ℕ) → front_numbers (number_words ns) ≡ ns
front-all [] = refl
front-all (n ∷ ns) = ap (λ ms. n ∷ ms) (front-all ns)

pub after-all : (ns : List ℕ) → after_numbers (number_words ns) ≡ []
after-all [] = refl
after-all (n ∷ ns) = after-all ns

places_again : (scope : ℕ) (jobs : List ℕ) (after : Option ℕ) (places : List ℕ)
    → places_on scope jobs after (Places ∷ number_words places) ≡ Some (record { scope = scope; places = places; jobs = jobs; after = after })
places_again scope jobs after places = rw (after-all places, front-all places) refl

-- the place that is kept, and then the allowed ones
after_again : (after : Option ℕ) (ws : List Word) → after_on (after_words after ++ Places ∷ ws) ≡ (after, Places ∷ ws)
after_again None ws = refl
after_again (Some u) ws = refl

after_found : (ws : List Word) → ws ≡ after_words (after_on ws).0 ++ (after_on ws).1
after_found [] = refl
after_found (After ∷ Number u ∷ ws) = refl
after_found (w ∷ ws) = refl

no_number : (after : Option ℕ) (ws : List Word) → front_numbers (after_words after ++ Places ∷ ws) ≡ []
no_number None ws = refl
no_number (Some u) ws = refl

all_behind : (after : Option ℕ) (ws : List Word) → after_numbers (after_words after ++ Places ∷ ws) ≡ after_words after ++ Places ∷ ws
all_behind None ws = refl
all_behind (Some u) ws = refl

pub input_again : (i : InputValue) → input_on (input_line i) ≡ Some i
unfolding input_on
input_again i =
    let more : List Word = after_words i.after ++ Places ∷ number_words i.places in
    rw (front-number_words i.jobs more (no_number i.after (number_words i.places)), after-number_words i.jobs more (all_behind i.after (number_words i.places)), after_again i.after (number_words i.places))
    (places_again i.scope i.jobs i.after i.places)

pub none_left : (ws : List Word) → (length ws == 0) ≡ true → ws ≡ []
none_left [] h = refl
none_left (w ∷ ws) h = absurd (omega (arith, eqb-true (length (w ∷ ws)) 0 h))

guard : {A : Type 0} (b : Bool) (y x : A) → cond b (Some y) None ≡ Some x → (b ≡ true) × (y ≡ x)
guard true y x h = (refl, cc)
guard false y x h = cc

places_found : (scope : ℕ) (jobs : List ℕ) (after : Option ℕ) (ws : List Word) (i : InputValue) → places_on scope jobs after ws ≡ Some i
    → (ws ≡ Places ∷ number_words i.places) × (scope ≡ i.scope) × (jobs ≡ i.jobs) × (after ≡ i.after)
places_found scope jobs after (Places ∷ ws) i h =
    let g = guard (length (after_numbers ws) == 0) (record { scope = scope; places = front_numbers ws; jobs = jobs; after = after }) i h in
    let all : ws ≡ number_words (front_numbers ws) = numbers_are ws ∙ ap (λ vs. number_words (front_numbers ws) ++ vs) (none_left _ g.0) ∙ append-nil (number_words (front_numbers ws)) in
    (ap (λ vs. Places ∷ vs) (all ∙ ap (λ j. number_words j.places) g.1), ap (λ j. j.scope) g.1, ap (λ j. j.jobs) g.1, ap (λ j. j.after) g.1)
places_found scope jobs after [] i h = cc
places_found scope jobs after (w ∷ ws) i h = cc

pub input_found : (ws : List Word) (i : InputValue) → input_on ws ≡ Some i → ws ≡ input_line i
unfolding input_on
input_found (Number scope ∷ Jobs ∷ ws) i h =
    let behind = after_on (after_numbers ws) in
    let f = places_found scope (front_numbers ws) behind.0 behind.1 i h in
    let rest : after_numbers ws ≡ after_words i.after ++ Places ∷ number_words i.places =
    after_found (after_numbers ws) ∙ ap (λ o. after_words o ++ behind.1) f.3 ∙ ap (λ vs. after_words i.after ++ vs) f.0 in
    ap (λ s. Number s ∷ Jobs ∷ ws) f.1 ∙ ap (λ vs. Number i.scope ∷ Jobs ∷ vs) (numbers_are ws ∙ ap (λ js. number_words js ++ after_numbers ws) f.2 ∙ ap (λ vs. number_words i.jobs ++ vs) rest)
input_found [] i h = cc
input_found (w ∷ ws) i h = cc
