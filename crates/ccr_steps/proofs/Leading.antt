-- Exchanges that lead from one play to another.
use Rattle.std.proofs.Common.{◌≡◌, List, [], ◌∷◌, ◌++◌, refl, sym, ap, ◌∙◌, subst}
use Rattle.ccr_steps.specs.declared.outcome.Outcome.{Outcome}
use Rattle.ccr_steps.specs.Asks.{AskData, errored, Exchange, exchange}
use Rattle.ccr_steps.specs.Gains.{GainsData}
use Rattle.ccr_steps.specs.Progress.{answers, HaveSameAnswers, HaveSameAsks}
use Rattle.ccr_steps.specs.Play.{Play, ended, asks, Going, and_then, Leads}

pub leads_join : (p : Play) (next : Outcome → Going) (front back : List Exchange) (o : Outcome) (g : GainsData) (q : Play) → Leads p front (ended o g) → Leads (next o g) back q → Leads (and_then p next) (front ++ back) q
leads_join p next [] back o g q e h = subst (λ r. Leads (and_then r next) back q) e h
leads_join (ended u f) next (x ∷ front) back o g q a h = absurd a
leads_join (asks a then) next (x ∷ front) back o g q l h = (l.0, leads_join (then x.answer) next front back o g q l.1 h)

pub leads_split : (p : Play) (next : Outcome → Going) (es : List Exchange) (o : Outcome) (g : GainsData) → Leads (and_then p next) es (ended o g) → (front back : List Exchange) × (mid : Outcome) × (between : GainsData) × (es ≡ front ++ back) × Leads p front (ended mid between) × Leads (next mid between) back (ended o g)
leads_split (ended u f) next es o g h = ([], es, u, f, refl, refl, h)
leads_split (asks a then) next [] o g h = absurd (cc (h))
leads_split (asks a then) next (x ∷ es) o g h =
    let (front, back, mid, between, cut, l, r) = leads_split (then x.answer) next es o g h.1 in
    (x ∷ front, back, mid, between, ap (λ l. x ∷ l) cut, (h.0, l), r)

pub leads_on : (p : Play) (es fs : List Exchange) (q r : Play) → Leads p es q → Leads q fs r → Leads p (es ++ fs) r
leads_on p [] fs q r e h = subst (λ x. Leads x fs r) e h
leads_on (ended u f) (x ∷ es) fs q r a h = absurd a
leads_on (asks a then) (x ∷ es) fs q r l h = (l.0, leads_on (then x.answer) es fs q r l.1 h)

pub leads_cut : (p : Play) (es fs : List Exchange) (q r : Play) → Leads p es q → Leads p (es ++ fs) r → Leads q fs r
leads_cut p [] fs q r e h = subst (λ x. Leads x fs r) (sym e) h
leads_cut (ended u f) (x ∷ es) fs q r a h = absurd a
leads_cut (asks a then) (x ∷ es) fs q r l h = leads_cut (then x.answer) es fs q r l.1 h.1

pub leads_one : (p : Play) (es : List Exchange) (q r : Play) → Leads p es q → Leads p es r → r ≡ q
leads_one p [] q r e h = h ∙ sym e
leads_one (ended u f) (x ∷ es) q r a h = absurd a
leads_one (asks a then) (x ∷ es) q r l h = leads_one (then x.answer) es q r l.1 h.1

-- each play can be brought to its end
pub finish : (p : Play) → (es : List Exchange) × (o : Outcome) × (g : GainsData) × Leads p es (ended o g)
finish (ended o g) = ([], o, g, refl)
finish (asks a then) =
    let (es, o, g, l) = finish (then errored) in
    (exchange a errored ∷ es, o, g, (refl, l))

same_exchange : (e f : Exchange) (a : AskData) → e.ask ≡ a → f.ask ≡ a → e.answer ≡ f.answer → e ≡ f
same_exchange e f a p q r = ap (λ x. exchange x e.answer) (p ∙ sym q) ∙ ap (λ x. exchange f.ask x) r

pub answers_lead : (p : Play) (es fs : List Exchange) (o u : Outcome) (g h : GainsData) → Leads p es (ended o g) → Leads p fs (ended u h) → answers es ≡ answers fs → (es ≡ fs) × (o ≡ u) × (g ≡ h)
answers_lead p [] [] o u g h l m e = let one : ended o g ≡ ended u h = l ∙ sym m in (refl, cc (one), cc (one))
answers_lead p [] (f ∷ fs) o u g h l m e = absurd (cc (e))
answers_lead p (x ∷ es) [] o u g h l m e = absurd (cc (e))
answers_lead (ended v k) (x ∷ es) (f ∷ fs) o u g h l m e = absurd l
answers_lead (asks a then) (x ∷ es) (f ∷ fs) o u g h l m e =
    let head : x.answer ≡ f.answer = cc (e) in
    let tail : answers es ≡ answers fs = cc (e) in
    let rest = answers_lead (then x.answer) es fs o u g h l.1 (subst (λ y. Leads (then y) fs (ended u h)) (sym head) m.1) tail in
    let one = same_exchange x f a l.0 m.0 head in
    (ap (λ l. x ∷ l) rest.0 ∙ ap (λ y. y ∷ fs) one, rest.1, rest.2)

pub leads_front : (p : Play) (es rest : List Exchange) (q : Play) → Leads p (es ++ rest) q → (r : Play) × Leads p es r
leads_front p [] rest q l = (p, refl)
leads_front (ended u f) (x ∷ es) rest q a = absurd a
leads_front (asks a then) (x ∷ es) rest q l = let (r, m) = leads_front (then x.answer) es rest q l.1 in (r, (l.0, m))

-- lists that were answered the same ask the same, as far as both go
pub same_asks : (p : Play) (es fs : List Exchange) (q r : Play) → Leads p es q → Leads p fs r → HaveSameAnswers es fs → HaveSameAsks es fs
same_asks p [] fs q r l m e = tt
same_asks p (x ∷ es) [] q r l m e = tt
same_asks (ended v k) (x ∷ es) (f ∷ fs) q r l m e = absurd l
same_asks (asks a then) (x ∷ es) (f ∷ fs) q r l m e = (l.0 ∙ sym m.0, same_asks (then x.answer) es fs q r l.1 (subst (λ y. Leads (then y) fs r) (sym e.0) m.1) e.1)

-- and are the same list, where they have as many answers
pub answers_begin : (p : Play) (es fs : List Exchange) (q r : Play) → Leads p es q → Leads p fs r → answers es ≡ answers fs → es ≡ fs
answers_begin p [] [] q r l m e = refl
answers_begin p [] (f ∷ fs) q r l m e = absurd (cc (e))
answers_begin p (x ∷ es) [] q r l m e = absurd (cc (e))
answers_begin (ended v k) (x ∷ es) (f ∷ fs) q r l m e = absurd l
answers_begin (asks a then) (x ∷ es) (f ∷ fs) q r l m e =
    let head : x.answer ≡ f.answer = cc (e) in
    let tail : answers es ≡ answers fs = cc (e) in
    let rest = answers_begin (then x.answer) es fs q r l.1 (subst (λ y. Leads (then y) fs r) (sym head) m.1) tail in
    let one = same_exchange x f a l.0 m.0 head in
    ap (λ l. x ∷ l) rest ∙ ap (λ y. y ∷ fs) one
