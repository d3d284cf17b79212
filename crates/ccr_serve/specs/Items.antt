-- What a call of the server is made of: items, one after another.
use Rattle.std.specs.Prelude.{◌≡◌, ◌⊎◌, ℕ, List, [], ◌∷◌, ◌++◌, Bool, true, false, Option, None, Some, flat_map, option_to_list}
use Rattle.ccr_history.specs.Text.{Text}
use Rattle.ccr_process.specs.Runs.{Pair}
use Rattle.ccr_task.specs.Calls.{CallData}
use Rattle.ccr_core.specs.Events.{EventData}
use Rattle.ccr_core.specs.Replies.{Replied}
use Rattle.ccr_core.specs.State.{State}
use Rattle.ccr_core.specs.Commands.{ShownData}

-- what an item came to that was cut short: the pair of a program that answered nothing, if one ran, and the event that
-- wasn't made, if it got so far
pub record Loss : Type 0 where
  pub pair : Option Pair
  pub event : Option EventData

-- no item was cut short, or one before it did anything
abbrev pub no_loss : Loss
no_loss = record { pair = None; event = None }

-- where a server stands: the core's state, the rank of the build served last, which counts from 1 in order of making,
-- or 0 where none was served, the calls of its shelf, and what an item came to that was cut short
pub record World : Type 0 where
  pub core : State
  pub last : ℕ
  pub calls : List CallData
  pub lost : Loss

-- where a server stands whose event wasn't made, before which nothing else was begun
abbrev pub unmade : EventData → World → World
unmade e w = record {
  core = w.core;
  last = w.last;
  calls = w.calls;
  lost = record { pair = None; event = Some e };
}

-- a check of a resource, a schedule of a job, a turn of the build whose turn it is, the event of a command, or what a
-- command shows with which status
pub data Item : Type 0 where
  check : (resource : Text) → Item
  schedule : (job : Text) → Item
  turn : Item
  tell : (event : EventData) → Item
  show : (what : ShownData) (status : ℕ) → Item

-- what came of an item: the launch of its program with the end, its event with the reply, and its lines
pub record Done : Type 0 where
  pub pair : Option Pair
  pub event : Option (EventData × Replied)
  pub lines : Text

-- nothing came of it
abbrev pub nothing : Done
nothing = record { pair = None; event = None; lines = [] }

-- the pairs of what was done, in order
abbrev pub pairs_of : List Done → List Pair
pairs_of ds = flat_map (λ d. option_to_list d.pair) ds

-- the lines of what was done, in order
abbrev pub lines_of_all : List Done → Text
lines_of_all ds = flat_map (λ d. d.lines) ds

-- what a server does: an item may lead from one world to the next, and this come of it; and what it begins of an item that
-- is cut short
pub record Serve : Type 1 where
  pub does : Item → World → Done → World → Type 0
  pub begins : Item → World → World → Type 0

-- each item after the one before, from where that led
abbrev pub Each : Serve → List Item → World → List Done → World → Type 0
Each S [] old [] new = new ≡ old
Each S (i ∷ is) old (d ∷ ds) new = (mid : World) × S.does i old d mid × Each S is mid ds new
Each S [] old (d ∷ ds) new = ⊥
Each S (i ∷ is) old [] new = ⊥

-- something was begun of the first of these items
abbrev pub BeginsFirst : Serve → List Item → World → World → Type 0
BeginsFirst S [] old new = ⊥
BeginsFirst S (i ∷ is) old new = S.begins i old new

-- these items were cut short before the first of them was done: nothing was begun, or something of the first
abbrev pub IsCut : Serve → List Item → World → World → Type 0
IsCut S is old new = (new ≡ old) ⊎ BeginsFirst S is old new

-- a part of a call, done whole (true) or cut short (false)
abbrev pub Part : Type 1
Part = World → List Done → Bool → World → Type 0

-- these items in order; cut short, those of a front of the list, and what was begun of the next one
abbrev pub Items : Serve → List Item → Part
Items S is old ds true new = Each S is old ds new
Items S is old ds false new =
    (front : List Item) × (rest : List Item) × (is ≡ front ++ rest) × (mid : World) × Each S front old ds mid
    × IsCut S rest mid new

-- what was done in the first part, then in the second
pub record Both (First Second : World → List Done → World → Type 0) (old : World) (ds : List Done) (new : World)
    : Type 0 where
  pub mid : World
  pub front : List Done
  pub back : List Done
  pub first : First old front mid
  pub second : Second mid back new
  pub joined : ds ≡ front ++ back

-- a part, of which this is noted once it is whole
abbrev pub Noting : Part → (List Done → Type 0) → Part
Noting P Note old ds true new = P old ds true new × Note ds
Noting P Note old ds false new = P old ds false new

-- one part, then another; where the first is cut short, nothing of the other
abbrev pub Then : Part → Part → Part
Then First Second old ds true new = Both (λ w es v. First w es true v) (λ w es v. Second w es true v) old ds new
Then First Second old ds false new =
    First old ds false new ⊎ Both (λ w es v. First w es true v) (λ w es v. Second w es false v) old ds new
