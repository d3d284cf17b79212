-- Where reading a proof stops.
use Rattle.std.specs.Prelude.{◌≡◌, ℕ, Result, Ok, Err, List}
use Rattle.ccr_choice.specs.declared.word.Word.{Word}
use Rattle.ccr_choice.specs.declared.stop.Stop.{Stop}
use Rattle.ccr_choice.specs.declared.stop.Stop.TheVariants as stop
use Rattle.ccr_choice.specs.Reading.{Read}
use Rattle.ccr_proof.specs.declared.halt.Halt.{Halt}
use Rattle.ccr_proof.specs.declared.halt.Halt.TheVariants.{Memory, Left, TooMany}

-- The same stop, of a reader that may also be asked for too many nodes.
abbrev pub halt_of : Stop → Halt
halt_of stop.Memory = Memory
halt_of (stop.Left k) = Left k

-- Where reading nodes stops: left k, where of the lines that are left, the first, which is the last but k - 1, breaks a
-- rule or, where k is 0, none is left and one is missing; or too_many, where more nodes are asked for than a tree may
-- have.
pub data NodeStop : Type 0 where
  left : ℕ → NodeStop
  too_many : NodeStop

-- Reading nodes answers what was read with the lines behind it, or where it stops.
abbrev pub NodeRead : Type 0 → Type 0
NodeRead A = Result (A × List (List Word)) NodeStop

-- What lines say, before nodes are read.
abbrev pub of_lines : {A : Type 0} → Read A → NodeRead A
of_lines (Ok x) = Ok x
of_lines (Err k) = Err (left k)

-- A reader that stopped says where reading stops, unless memory ran out.
abbrev pub Halts : {Y : Type 0} → Halt → Result Y NodeStop → Type 0
Halts Memory read = Unit {0}
Halts (Left k) read = read ≡ Err (left k)
Halts TooMany read = read ≡ Err too_many

-- What a function answered, seen by view, is what reading gives, unless memory ran out.
abbrev pub GivesNode : {X Y : Type 0} → (X → Y) → Result X Halt → Result Y NodeStop → Type 0
GivesNode view (Ok x) read = read ≡ Ok (view x)
GivesNode view (Err e) read = Halts e read
