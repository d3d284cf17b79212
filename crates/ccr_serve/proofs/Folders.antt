-- Calls for folders that a shelf does in order, and what a build leaves.
use Rattle.std.proofs.Common.{◌≡◌, ◌≢◌, ◌<◌, ◌+◌, ◌++◌, ℕ, suc, List, [], ◌∷◌, length, drop, get_or, map, Bool, true, is_ok, Option, Some, IfSome, String, string_bytes, Result, Ok, Err, refl, sym, ◌∙◌, ap, subst, append_assoc, drop-cons, arith, inl, inr}
use Rattle.std.specs.declared.alloc.Global.{Global}
use Rattle.ccr_history.specs.Text.{Text}
use Rattle.ccr_steps.specs.Asks.{ask_data}
use Rattle.ccr_steps.specs.declared.ask.Ask.{Ask}
use Rattle.ccr_steps.specs.declared.ask.Ask.TheVariants.{Fetch, Push, ReadConfig, RunTask}
use Rattle.ccr_steps.specs.declared.outcome.Outcome.{Outcome}
use Rattle.ccr_core.specs.declared.reply.Reply.TheVariants.{Ends}
use Rattle.ccr_task.specs.Calls.{CallData, FolderCall, make, has, remove, making, removing, StopsAt, Does}
use Rattle.ccr_task.specs.Places.{PlacesData, build_folder, abort_folder}
use Rattle.ccr_task.specs.declared.fault.ShelfFault.{ShelfFault}
use Rattle.ccr_task.specs.declared.fault.ShelfFault.TheVariants.{Failed, TooLong, NoMemory}
use Rattle.ccr_serve.specs.Asked.{ask_folders}
use Rattle.ccr_serve.specs.Aborts.{is_asked, AbortIsAsked, AreLeftovers, Clears, Forgets}
use Rattle.ccr_serve.specs.declared.leftovers.Leftovers.{Leftovers}

-- the folder was made at a path that is another's equal
pub made_at : (before after : List CallData) (r : Result Unit ShelfFault) (p q : Text)
    → after ≡ before ++ make p r ∷ [] → p ≡ q → after ≡ before ++ make q r ∷ []
made_at before after r p q called same = called ∙ ap (λ t. before ++ make t r ∷ []) same

-- the path of what lies at a place under a name, as texts that are each other's equals
pub path_of : (place : Text → Text) (p path t name : Text) → p ≡ path → path ≡ place t → t ≡ name → p ≡ place name
path_of place p path t name first second third = first ∙ (second ∙ ap place third)

-- the first call is done, and then the others are done so
pub does_on : (call : FolderCall) (rest : List FolderCall) (before : List CallData) (r : Result Unit ShelfFault)
    (after : List CallData) → Does rest (before ++ call (Ok tt) ∷ []) r after → Does (call ∷ rest) before r after
does_on call rest before (Ok done) after h = h
does_on call rest before (Err f) after h = inr h

stops : (call : FolderCall) (f : ShelfFault) (before after : List CallData) → f ≢ TooLong
    → after ≡ before ++ call (Err f) ∷ [] → StopsAt call f before after
stops call Failed before after other is = is
stops call TooLong before after other is = absurd (other refl)
stops call NoMemory before after other is = inr is

-- the first call isn't done
pub does_not : (call : FolderCall) (rest : List FolderCall) (before : List CallData) (f : ShelfFault)
    (after : List CallData) → ◌≢◌ {A = Result Unit ShelfFault} (Err f) (Err TooLong)
    → after ≡ before ++ call (Err f) ∷ []
    → Does (call ∷ rest) before (Err f) after
does_not call rest before f after other is =
    inl (stops call f before after (λ e. other (ap (λ g. Err g) e)) is)

-- memory was wanted before the first call
pub does_nothing : (call : FolderCall) (rest : List FolderCall) (before : List CallData)
    → Does (call ∷ rest) before (Err NoMemory) before
does_nothing call rest before = inl (inl refl)

-- the one call is answered so
pub does_one : (call : FolderCall) (before : List CallData) (r : Result Unit ShelfFault) (after : List CallData)
    → r ≢ Err TooLong → after ≡ before ++ call r ∷ [] → Does (call ∷ []) before r after
does_one call before (Ok done) after other is = is
does_one call before (Err f) after other is = does_not call [] before f after other is

-- ---- a folder for each of these names
module _ (f : Text → FolderCall) (names : List (String Global)) (i : ℕ) (x : String Global) (lt : i < length names) (is : x ≡ get_or names i x) where
  abbrev these : ℕ → List FolderCall
  these k = map f (map string_bytes (drop k names))

  one_more : suc i ≡ i + 1
  one_more = omega arith

  next : drop i names ≡ x ∷ drop (i + 1) names
  next = drop-cons names i x lt
      ∙ (ap (λ y. y ∷ drop (suc i) names) (sym is) ∙ ap (λ k. x ∷ drop k names) one_more)

  -- that of the next name is made
  pub name_done : (before mid after : List CallData) (r : Result Unit ShelfFault)
      → mid ≡ before ++ f (string_bytes x) (Ok tt) ∷ [] → Does (these (i + 1)) mid r after
      → Does (these i) before r after
  name_done before mid after r called h =
      subst (λ ns. Does (map f (map string_bytes ns)) before r after) (sym next)
      (does_on (f (string_bytes x)) (these (i + 1)) before r after
      (subst (λ cs. Does (these (i + 1)) cs r after) called h))

  -- that of the next name isn't made
  pub name_not : (before after : List CallData) (g : ShelfFault)
      → ◌≢◌ {A = Result Unit ShelfFault} (Err g) (Err TooLong) → after ≡ before ++ f (string_bytes x) (Err g) ∷ [] → Does (these i) before (Err g) after
  name_not before after g other called =
      subst (λ ns. Does (map f (map string_bytes ns)) before (Err g) after) (sym next)
      (does_not (f (string_bytes x)) (these (i + 1)) before g after other called)

  -- memory was wanted before that
  pub name_nothing : (before : List CallData) → Does (these i) before (Err NoMemory) before
  name_nothing before =
      subst (λ ns. Does (map f (map string_bytes ns)) before (Err NoMemory) before) (sym next)
      (does_nothing (f (string_bytes x)) (these (i + 1)) before)

-- ---- the folders of an ask that fetches nothing
module _ (build : Text) (ask : Ask) (other : (artifact resource version params : _) → ask ≢ Fetch artifact resource version params) where
  -- memory was wanted before the first
  pub ask_nothing : (before : List CallData) → Does (ask_folders build (ask_data ask)) before (Err NoMemory) before
  ask_nothing before = by ask other where
    by : (a : Ask) → ((artifact resource version params : _) → a ≢ Fetch artifact resource version params)
        → Does (ask_folders build (ask_data a)) before (Err NoMemory) before
    by (Fetch artifact resource version params) isnt = absurd (isnt artifact resource version params refl)
    by (Push artifact resource params) isnt = does_nothing (making build) [] before
    by (ReadConfig file) isnt = does_nothing (making build) [] before
    by (RunTask config env) isnt = does_nothing (making build) _ before

  -- the build's folder isn't made
  pub ask_not : (before after : List CallData) (f : ShelfFault)
      → ◌≢◌ {A = Result Unit ShelfFault} (Err f) (Err TooLong) → after ≡ before ++ make build (Err f) ∷ []
      → Does (ask_folders build (ask_data ask)) before (Err f) after
  ask_not before after f fault called = by ask other where
    by : (a : Ask) → ((artifact resource version params : _) → a ≢ Fetch artifact resource version params)
        → Does (ask_folders build (ask_data a)) before (Err f) after
    by (Fetch artifact resource version params) isnt = absurd (isnt artifact resource version params refl)
    by (Push artifact resource params) isnt = does_not (making build) [] before f after fault called
    by (ReadConfig file) isnt = does_not (making build) [] before f after fault called
    by (RunTask config env) isnt = does_not (making build) _ before f after fault called

  -- the build's folder is made, and there is no other
  pub ask_done : (before after : List CallData) → ((config env : _) → ask ≢ RunTask config env)
      → after ≡ before ++ make build (Ok tt) ∷ [] → Does (ask_folders build (ask_data ask)) before (Ok tt) after
  ask_done before after no_task called = by ask other no_task where
    by : (a : Ask) → ((artifact resource version params : _) → a ≢ Fetch artifact resource version params)
        → ((config env : _) → a ≢ RunTask config env) → Does (ask_folders build (ask_data a)) before (Ok tt) after
    by (Fetch artifact resource version params) isnt nor = absurd (isnt artifact resource version params refl)
    by (Push artifact resource params) isnt nor = called
    by (ReadConfig file) isnt nor = called
    by (RunTask config env) isnt nor = absurd (nor config env refl)

-- ---- aborts
-- the folder that asks for an abort was there, and its removal was answered so
pub asked_so : (folder : Text) (r : Result Unit ShelfFault) (before mid after : List CallData)
    → mid ≡ before ++ has folder (Ok true) ∷ [] → after ≡ mid ++ remove folder r ∷ []
    → AbortIsAsked folder (is_ok r) before after
asked_so folder r before mid after first second = (Ok true, r, calls, told r) where
  calls : after ≡ before ++ has folder (Ok true) ∷ remove folder r ∷ []
  calls = second
      ∙ (ap (λ cs. cs ++ remove folder r ∷ []) first
      ∙ append_assoc before (has folder (Ok true) ∷ []) (remove folder r ∷ []))

  told : (r : Result Unit ShelfFault) → is_ok r ≡ is_asked (Ok true) r
  told (Ok done) = refl
  told (Err f) = refl

-- what asks for an abort was looked for under the path that was made for it
pub took_so : (places : PlacesData) (job : Text) (number : ℕ) (left : Leftovers) (request : Text) (asked is : Bool)
    (before after : List CallData) → AreLeftovers places job number left → request ≡ string_bytes left.request → asked ≡ is
    → AbortIsAsked request asked before after → AbortIsAsked (abort_folder places job number) is before after
took_so places job number left request asked is before after are named same took =
    subst (λ b. AbortIsAsked (abort_folder places job number) b before after) same
    (subst (λ p. AbortIsAsked p asked before after) (named ∙ are.request) took)

-- what a build that ended leaves was removed, and then it was looked for what asks for its abort
pub cleared : (places : PlacesData) (job : Text) (number : ℕ) (o : Outcome) (left : Leftovers) (build request : Text)
    (before mid after : List CallData) (removed : Result Unit ShelfFault) (asked : Bool) → AreLeftovers places job number left
    → build ≡ string_bytes left.build → request ≡ string_bytes left.request → mid ≡ before ++ remove build removed ∷ []
    → AbortIsAsked request asked mid after → Clears places job number (Ends o) before after
cleared places job number o left build request before mid after removed asked are b r called took =
    let first : mid ≡ before ++ remove (build_folder places job number) removed ∷ [] =
    called ∙ ap (λ p. before ++ remove p removed ∷ []) (b ∙ are.build) in (
      removed,
      (
        asked,
        subst (λ m. AbortIsAsked (abort_folder places job number) asked m after) first
            (took_so places job number left request asked asked mid after are r refl took),
      ),
    )

-- what asks to abort a build that has ended at once was looked for
pub forgotten : (places : PlacesData) (job : Text) (number : Option ℕ) (n : ℕ) (request : Text) (asked : Bool)
    (before after : List CallData) → number ≡ Some n → IfSome number (λ m. request ≡ abort_folder places job m)
    → AbortIsAsked request asked before after → Forgets places job number before after
forgotten places job number n request asked before after is known took =
    let named : request ≡ abort_folder places job n =
    subst (λ o. IfSome o (λ m. request ≡ abort_folder places job m)) is known in
    subst (λ o. Forgets places job o before after) (sym is)
    (asked, subst (λ p. AbortIsAsked p asked before after) named took)
