-- The calls that a writer got, and the bytes that it was given by them.
use Rattle.std.specs.Prelude.{◌≡◌, ◌⊎◌, ℕ, List, [], ◌∷◌, ◌++◌, flat_map, Bool, true, false, ⊤}
use Rattle.std.specs.List.{list_any}
use Rattle.ccr_lines.specs.declared.calls.Call.{Call}
use Rattle.ccr_lines.specs.declared.calls.Call.TheVariants.{Wrote, Flushed}

-- ---- calls
-- a call: the writer was given these bytes to write, or was to pass on what it had; and whether it answered an error
pub data CallData : Type 0 where
  wrote : List ℕ → Bool → CallData
  flushed : Bool → CallData

-- a call, without where its bytes lie in memory
abbrev pub call_data : Call → CallData
call_data (Wrote bytes failed) = wrote bytes.now failed
call_data (Flushed failed) = flushed failed

-- whether a call answered an error
abbrev pub is_error : CallData → Bool
is_error (wrote bytes failed) = failed
is_error (flushed failed) = failed

-- the bytes that a call gave to write
abbrev pub bytes_of : CallData → List ℕ
bytes_of (wrote bytes failed) = bytes
bytes_of (flushed failed) = []

-- ---- lists of them
-- whether a call answered an error
abbrev pub any_error : List CallData → Bool
any_error calls = list_any is_error calls

-- all bytes that were given to write, one after the other
abbrev pub all_bytes : List CallData → List ℕ
all_bytes calls = flat_map bytes_of calls

-- no call stands behind one that answered an error
abbrev pub StopsAtError : List CallData → Type 0
StopsAtError [] = ⊤
StopsAtError (call ∷ calls) = (is_error call ≡ true → calls ≡ []) × StopsAtError calls

-- nothing that was written waits to be passed on: no call was made, or the last one passed it on
abbrev pub IsPassedOn : List CallData → Type 0
IsPassedOn calls = (calls ≡ []) ⊎ ((before : List CallData) × (calls ≡ before ++ flushed false ∷ []))

-- ---- giving bytes
-- WHAT GIVING A WRITER BYTES CALLS: one write of them all and then, unless it answered an error, one flush; nothing else
abbrev pub Gives : List ℕ → List CallData → Type 0
Gives bytes calls = (calls ≡ wrote bytes true ∷ [])
    ⊎ ((failed : Bool) × (calls ≡ wrote bytes false ∷ flushed failed ∷ []))

-- from these calls to those, a writer was given these bytes and got no other call
abbrev pub IsGiven : List ℕ → List CallData → List CallData → Type 0
IsGiven bytes old new = (calls : List CallData) × (new ≡ old ++ calls) × Gives bytes calls

-- a failure is told exactly where a call answered an error
abbrev pub IsAnswered : Bool → List CallData → Type 0
IsAnswered failed calls = failed ≡ any_error calls

-- a writer was given these bytes from the first on: all of them, passed on, unless a call answered an error; behind that
-- call no other stands
pub record HasBegun (bytes : List ℕ) (calls : List CallData) : Type 0 where
  pub rest : List ℕ
  pub split : bytes ≡ all_bytes calls ++ rest
  pub whole : any_error calls ≡ false → (rest ≡ []) × IsPassedOn calls
  pub stopped : StopsAtError calls
