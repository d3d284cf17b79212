-- What words order, and its budget.
use Rattle.std.proofs.Common.{◌≡◌, ◌≢◌, ◌⊎◌, inl, inr, ◌∙◌, ◌≤◌, ◌&&◌, ℕ, List, Bool, true, false, Option, Some, None, Result, Ok, Err, ap, ap₂, sym, refl, subst, if◌then◌else◌, nat_le, option_map, option_and_then, codes}
use Rattle.std.proofs.lemmas.Bool.{and_parts, leb-true}
use Rattle.std.specs.Str.Parse.{digits_value, without_leading_plus}
use Rattle.clap.specs.declared.parser.matches.Found.{Found}
use Rattle.clap.specs.declared.error.Error.{Error as LineError}
use Rattle.clap.specs.declared.error.kind.ErrorKind.TheVariants.{OutOfMemory}
use Rattle.clap.specs.Values.{kind_of}
use Rattle.clap.specs.declared.parser.matches.ArgMatches.{ArgMatches}
use Rattle.clap.specs.Words.{App, HasMatchesOf, Text, first_value, found_of, takes}
use Rattle.ccr_core.specs.Commands.{command_data}
use Rattle.ccr_core.specs.declared.command.Command.{Command as CommandValue}
use Rattle.ccr_command.specs.Commands.{command_in}
use Rattle.ccr_command.specs.Looking.{asks_look, look_by, look_in}
use Rattle.ccr_command.specs.declared.options.Options.{Options}
use Rattle.ccr_command.specs.declared.options.OptionFault.{OptionFault}
use Rattle.ccr_command.specs.Numbers.{MOST, in_range, is_numeral, numeral_of, number_of}
use Rattle.ccr_command.specs.Options.{OptionsData, given_or, from_the_top, launcher_in, options_data, options_in}
use Rattle.ccr_command.specs.Usage.{line}
use Rattle.ccr_run.specs.declared.order.Misuse.{Misuse}
use Rattle.ccr_run.specs.declared.order.Misuse.TheVariants.{Line, NoMemory}
use Rattle.ccr_run.specs.declared.order.Ordered.{Ordered}
use Rattle.ccr_run.specs.declared.order.Ordered.TheVariants as ordered
use Rattle.ccr_run.specs.Orders.{Becomes, IsMisused, Orders, budget_of}

-- what was named
pub some_named : {A B : Type 0} (f : A → B) (field : Option A) (a : A) (named : Option B)
    → option_map f field ≡ named → field ≡ Some a → named ≡ Some (f a)
some_named f field a named made is = sym made ∙ ap (λ o. option_map f o) is

-- nothing was named
pub none_named : {A B : Type 0} (f : A → B) (field : Option A) (named : Option B)
    → option_map f field ≡ named → field ≡ None → named ≡ None
none_named f field named made is = sym made ∙ ap (λ o. option_map f o) is

-- the command line doesn't take the words, unless memory was refused
pub misused_line : (words : List Text) (a : App) (error : LineError) (m : Misuse) → a ≡ line
    → (takes a words ≡ true → kind_of error ≡ OutOfMemory)
    → ((kind_of error ≡ OutOfMemory) × (m ≡ NoMemory)) ⊎ ((kind_of error ≢ OutOfMemory) × (m ≡ Line error))
    → IsMisused words m
misused_line words a error m same passes (inl refused) = subst (λ (k : Misuse). IsMisused words k) (sym refused.1) tt
misused_line words a error m same passes (inr other) =
    subst (λ (k : Misuse). IsMisused words k) (sym other.1)
    (λ taken. other.0 (passes (subst (λ (b : App). takes b words ≡ true) (sym same) taken)))

abbrev some_or : Option ℕ → ℕ → ℕ
some_or (Some k) d = k
some_or None d = d

-- a number that is read is in its range
abbrev In : ℕ → Type 0
In b = (1 ≤ b) × (b ≤ MOST)

ranged : (n b : ℕ) → in_range n ≡ Some b → In b
ranged n b h = by (nat_le 1 n && nat_le n MOST) refl h where
  by : (t : Bool) → nat_le 1 n && nat_le n MOST ≡ t → (if t then Some n else None) ≡ Some b → In b
  by true e h =
      let parts = and_parts (nat_le 1 n) (nat_le n MOST) e in
      let same : n ≡ b = ap (λ o. some_or o n) h in
      subst In same (leb-true 1 n parts.0, leb-true n MOST parts.1)
  by false e h = absurd (cc)

numeral_ranged : (ds : List ℕ) (b : ℕ) → numeral_of ds ≡ Some b → In b
numeral_ranged ds b h = by (is_numeral ds) h where
  by : (t : Bool) → (if t then in_range (digits_value 10 ds) else None) ≡ Some b → In b
  by true h = ranged (digits_value 10 ds) b h
  by false h = absurd (cc)

read_ranged : (text : Option (List ℕ)) (b : ℕ) → option_and_then number_of text ≡ Some b → In b
read_ranged (Some text) b h = numeral_ranged (without_leading_plus text) b h
read_ranged None b h = absurd (cc)

-- what was made of a value that is there
abbrev Given : {A : Type 0} → Option A → (A → Result OptionsData OptionFault) → OptionsData → Type 0
Given {A} x make o = (a : A) × (x ≡ Some a) × (make a ≡ Ok o)

given : {A : Type 0} (f : OptionFault) (x : Option A) (make : A → Result OptionsData OptionFault) (o : OptionsData)
    → given_or f x make ≡ Ok o → Given x make o
given f (Some a) make o h = (a, refl, h)
given f None make o h = absurd (cc)

abbrev ok_or : Result OptionsData OptionFault → OptionsData → OptionsData
ok_or (Ok o) d = o
ok_or (Err f) d = d

-- the budget of options is in its range
pub budget_ranged : (found : Found) (o : OptionsData) → options_in found ≡ Ok o
    → (1 ≤ o.budget) × (o.budget ≤ MOST)
budget_ranged found o h =
    let database = given _ (first_value found (codes "db")) _ o h in
    let types = given _ (option_and_then from_the_top (first_value found (codes "types"))) _ o database.2 in
    let work = given _ (option_and_then from_the_top (first_value found (codes "work"))) _ o types.2 in
    let budget = given _ (option_and_then number_of (first_value found (codes "budget"))) _ o work.2 in
    let launcher = given _ (launcher_in (first_value found (codes "launcher"))) _ o budget.2 in
    subst (λ (b : ℕ). In b) (ap (λ r. (ok_or r o).budget) launcher.2)
    (read_ranged (first_value found (codes "budget")) budget.0 budget.1)

-- what is looked at, by the command and by whether a look was asked for
same_look : (m : ArgMatches) (command : CommandValue) (asks : Bool) → command_in m ≡ Some (command_data command) → asks ≡ asks_look m
    → look_in m ≡ look_by asks (Some (command_data command))
same_look m command asks named is = ap₂ look_by (sym is) named

-- what a command becomes is what the words order
pub becomes_ordered : (words : List Text) (options : Options) (command : CommandValue) (m : ArgMatches) (asks : Bool) (r : Ordered)
    → HasMatchesOf line words m → options_in (found_of m) ≡ Ok (options_data options) → command_in m ≡ Some (command_data command)
    → asks ≡ asks_look m → Becomes options command asks r → Orders words r
becomes_ordered words options command m asks (ordered.Command order) matches given named is it = (
  m,
  matches,
  given ∙ ap (λ (o : Options). Ok (options_data o)) (sym it.0),
  named ∙ ap (λ (c : CommandValue). Some (command_data c)) (sym it.1),
  same_look m command asks named is ∙ it.2,
)
becomes_ordered words options command m asks (ordered.Look order) matches given named is it =
    (m, matches, given ∙ ap (λ (o : Options). Ok (options_data o)) (sym it.0), same_look m command asks named is ∙ it.1)
becomes_ordered words options command m asks (ordered.Page order) matches given named is it = absurd it
becomes_ordered words options command m asks (ordered.Abort order) matches given named is it = absurd it

-- and has the same budget
pub becomes_budget : (options : Options) (command : CommandValue) (asks : Bool) (r : Ordered) → Becomes options command asks r
    → budget_of r ≡ options.budget
becomes_budget options command asks (ordered.Command order) it = ap (λ (o : Options). o.budget) it.0
becomes_budget options command asks (ordered.Look order) it = ap (λ (o : Options). o.budget) it.0
becomes_budget options command asks (ordered.Page order) it = absurd it
becomes_budget options command asks (ordered.Abort order) it = absurd it
