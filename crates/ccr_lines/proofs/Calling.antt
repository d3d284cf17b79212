-- A writer is given more: its calls, their bytes, and where they stop.
use Rattle.std.proofs.Common.{◌≡◌, inl, inr, List, [], ◌∷◌, ◌++◌, ℕ, Bool, true, false, ◌||◌, refl, sym, ap, subst, ◌∙◌, append-nil, append_assoc}
use Rattle.std.proofs.lemmas.Grind.{flat_map-append}
use Rattle.std.proofs.lemmas.List.Folds.{list_any-append}
use Rattle.ccr_lines.specs.Calls.{CallData, wrote, flushed, is_error, bytes_of, any_error, all_bytes, StopsAtError, IsPassedOn, Gives, IsGiven, IsAnswered, HasBegun}
use Rattle.ccr_lines.specs.Printed.{EntryData, shown, told, all_shown, all_told, told_lines, AreCalled}
use Rattle.ccr_lines.proofs.Printing.{shown_more, told_still, shown_still, noted_more, lines_more}

-- ---- one giving
-- its bytes
gives_bytes : (bytes : List ℕ) (calls : List CallData) → Gives bytes calls → all_bytes calls ≡ bytes
gives_bytes bytes calls (inl is) = rw is (append-nil bytes)
gives_bytes bytes calls (inr (failed, is)) = rw is (append-nil bytes)

-- it stops at an error
gives_stops : (bytes : List ℕ) (calls : List CallData) → Gives bytes calls → StopsAtError calls
gives_stops bytes calls (inl is) = rw is (λ _. refl, tt)
gives_stops bytes calls (inr (failed, is)) = rw is (λ e. absurd cc, (λ _. refl, tt))

-- ---- one giving more
-- neither of two is
neither : (a b : Bool) → a || b ≡ false → (a ≡ false) × (b ≡ false)
neither true b e = absurd cc
neither false b e = (refl, e)

-- where no call answered an error, the next ones may follow
stops_after : (calls more : List CallData) → any_error calls ≡ false → StopsAtError more → StopsAtError (calls ++ more)
stops_after [] more none stops = stops
stops_after (call ∷ calls) more none stops =
    let parts = neither (is_error call) (any_error calls) none in
    (λ is. absurd cc, stops_after calls more parts.1 stops)

pub given_stops : (bytes : List ℕ) (old new : List CallData) → any_error old ≡ false → IsGiven bytes old new → StopsAtError new
given_stops bytes old new none (calls, added, gives) =
    rw added (stops_after old calls none (gives_stops bytes calls gives))

pub given_bytes : (bytes : List ℕ) (old new : List CallData) → IsGiven bytes old new → all_bytes new ≡ all_bytes old ++ bytes
given_bytes bytes old new (calls, added, gives) =
    ap all_bytes added ∙ (flat_map-append bytes_of old calls ∙ ap (λ xs. all_bytes old ++ xs) (gives_bytes bytes calls gives))

-- it ends by passing the bytes on, unless a call answered an error
gives_passed : (bytes : List ℕ) (calls : List CallData) → Gives bytes calls → any_error calls ≡ false
    → calls ≡ wrote bytes false ∷ flushed false ∷ []
gives_passed bytes calls (inl is) none = absurd (let e : true ≡ false = rw is at none in cc)
gives_passed bytes calls (inr (false, is)) none = is
gives_passed bytes calls (inr (true, is)) none = absurd (let e : true ≡ false = rw is at none in cc)

given_passed : (bytes : List ℕ) (old new : List CallData) → IsGiven bytes old new → any_error new ≡ false → IsPassedOn new
given_passed bytes old new (calls, added, gives) none =
    let parts = neither (any_error old) (any_error calls) (sym (ap any_error added ∙ list_any-append is_error old calls) ∙ none) in
    inr (
      old ++ wrote bytes false ∷ [],
      added ∙ (ap (λ cs. old ++ cs) (gives_passed bytes calls gives parts.1)
          ∙ sym (append_assoc old (wrote bytes false ∷ []) (flushed false ∷ []))),
    )

-- ---- from the first on
-- a writer whose calls answered no error is given more
begun_more : (first bytes all : List ℕ) (old new : List CallData) → any_error old ≡ false → all ≡ first ++ bytes
    → HasBegun first old → IsGiven bytes old new → HasBegun all new
begun_more first bytes all old new none joined begun given = record {
  rest = [];
  split = joined ∙ (ap (λ xs. xs ++ bytes) (begun.split ∙ (ap (λ xs. all_bytes old ++ xs) (begun.whole none).0
      ∙ append-nil (all_bytes old))) ∙ (sym (given_bytes bytes old new given) ∙ sym (append-nil (all_bytes new))));
  whole = λ still. (refl, given_passed bytes old new given still);
  stopped = given_stops bytes old new none given;
}

-- one of whose calls answered an error gets nothing more
begun_still : (first bytes all : List ℕ) (calls : List CallData) → any_error calls ≡ true → all ≡ first ++ bytes
    → HasBegun first calls → HasBegun all calls
begun_still first bytes all calls some joined begun = record {
  rest = begun.rest ++ bytes;
  split = joined ∙ (ap (λ xs. xs ++ bytes) begun.split ∙ append_assoc (all_bytes calls) begun.rest bytes);
  whole = λ none. absurd (let e : true ≡ false = sym some ∙ none in cc);
  stopped = begun.stopped;
}

-- a writer is given more, unless a call of it answered an error
begun_on : (failed : Bool) (first bytes all : List ℕ) (old new : List CallData) → IsAnswered failed old → all ≡ first ++ bytes
    → HasBegun first old → (failed ≡ true → new ≡ old) → (failed ≡ false → IsGiven bytes old new) → HasBegun all new
begun_on true first bytes all old new answered joined begun still given =
    subst (λ cs. HasBegun all cs) (sym (still refl)) (begun_still first bytes all old (sym answered) joined begun)
begun_on false first bytes all old new answered joined begun still given =
    begun_more first bytes all old new (sym answered) joined begun (given refl)

-- ---- what is handed out
pub called_shown : (es more : List EntryData) (bytes given : List ℕ) (failed now unsaid : Bool) (old new asides : List CallData)
    → more ≡ es ++ shown bytes ∷ [] → given ≡ bytes → AreCalled es failed unsaid old asides → (failed ≡ true → new ≡ old)
    → (failed ≡ false → IsGiven given old new) → (IsAnswered failed old → IsAnswered now new)
    → AreCalled more now unsaid new asides
called_shown es more bytes given failed now unsaid old new asides m same called still gives answers = record {
  answered = answers called.answered;
  begun = begun_on failed (all_shown es) given (all_shown more) old new called.answered
      (ap all_shown m ∙ (shown_more es bytes ∙ ap (λ xs. all_shown es ++ xs) (sym same))) called.begun still gives;
  answered_beside = called.answered_beside;
  told_all = called.told_all ∙ ap told_lines (sym (told_still es more bytes m));
}

-- ---- what is told
pub called_told : (es more : List EntryData) (line bytes : List ℕ) (failed unsaid now : Bool) (calls old new : List CallData)
    → more ≡ es ++ told line ∷ [] → bytes ≡ line ++ 10 ∷ [] → AreCalled es failed unsaid calls old → IsGiven bytes old new
    → (IsAnswered unsaid old → IsAnswered now new) → AreCalled more failed now calls new
called_told es more line bytes failed unsaid now calls old new m b called gives answers = record {
  answered = called.answered;
  begun = subst (λ xs. HasBegun xs calls) (sym (shown_still es more line m)) called.begun;
  answered_beside = answers called.answered_beside;
  told_all = given_bytes bytes old new gives ∙ (ap (λ xs. xs ++ bytes) called.told_all
      ∙ (ap (λ xs. told_lines (all_told es) ++ xs) b
      ∙ sym (ap told_lines (noted_more es more line m) ∙ lines_more (all_told es) line)));
}
