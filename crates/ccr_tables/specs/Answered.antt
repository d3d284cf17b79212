-- What SQLite answered to a commit that failed.
use Rattle.std.specs.Prelude.{◌≡◌, ◌⊎◌, pos, ℕ, List, [], ◌∷◌, ◌++◌, Err, codes, string_bytes}
use Rattle.sqlite_trees.specs.declared.store.Store.{Ghosts}
use Rattle.sqlite.specs.declared.error.Error.{Error}
use Rattle.sqlite.specs.declared.types.Value.TheVariants.{Int, Text, Blob}
use Rattle.sqlite.specs.Order.{Row}
use Rattle.sqlite.specs.State.{State, Survives, ExecutesInside}
use Rattle.sqlite.specs.Steps.{FailsToCommit}
use Rattle.sqlite.specs.Held.{Held, state}
use Rattle.ccr_tables.specs.Step.{Turns}
use Rattle.ccr_tables.specs.Written.{all_written}
use Rattle.ccr_tables.specs.declared.write.Write.{Write}
use Rattle.ccr_tables.specs.declared.write.Write.TheVariants as write

-- ---- the statement of each write
abbrev pub put_meta_text : List ℕ
put_meta_text = codes "INSERT INTO meta(k, v) VALUES(?1, ?2) ON CONFLICT(k) DO UPDATE SET v = excluded.v"

abbrev pub scope_text : List ℕ
scope_text = codes "INSERT INTO scopes(id, resource, kind, source) VALUES(?1, ?2, ?3, ?4)"

abbrev pub version_text : List ℕ
version_text = codes "INSERT INTO versions(scope, place, body) VALUES(?1, ?2, ?3)"

abbrev pub build_text : List ℕ
build_text = codes "INSERT INTO builds(id, job, number, status) VALUES(?1, ?2, ?3, ?4)"

abbrev pub set_status_text : List ℕ
set_status_text = codes "UPDATE builds SET status = ?2 WHERE id = ?1"

abbrev pub pair_text : List ℕ
pair_text = codes "INSERT INTO pairs(build, input, scope, place) VALUES(?1, ?2, ?3, ?4)"

abbrev pub remove_pair_text : List ℕ
remove_pair_text = codes "DELETE FROM pairs WHERE build = ?1 AND input = ?2 AND scope = ?3 AND place = ?4"

abbrev pub put_pin_text : List ℕ
put_pin_text =
    codes "INSERT INTO pins(resource, body) VALUES(?1, ?2) ON CONFLICT(resource) DO UPDATE SET body = excluded.body"

abbrev pub remove_pin_text : List ℕ
remove_pin_text = codes "DELETE FROM pins WHERE resource = ?1"

abbrev pub text_of : Write → List ℕ
text_of write.Format = put_meta_text
text_of (write.PipelineText text) = put_meta_text
text_of (write.Scope id resource kind source) = scope_text
text_of (write.Version scope place body) = version_text
text_of (write.Build id job number status) = build_text
text_of (write.Status build status) = set_status_text
text_of (write.Pair build input scope place) = pair_text
text_of (write.NoPair build input scope place) = remove_pair_text
text_of (write.Pin resource body) = put_pin_text
text_of (write.NoPin resource) = remove_pin_text

abbrev pub params_of : Write → Row
params_of write.Format = Int (pos 1) ∷ Blob (50 ∷ []) ∷ []
params_of (write.PipelineText text) = Int (pos 2) ∷ Blob text.items ∷ []
params_of (write.Scope id resource kind source) =
    Int (pos id) ∷ Text (string_bytes resource) ∷ Text (string_bytes kind) ∷ Text (string_bytes source) ∷ []
params_of (write.Version scope place body) = Int (pos scope) ∷ Int (pos place) ∷ Text (string_bytes body) ∷ []
params_of (write.Build id job number status) =
    Int (pos id) ∷ Text (string_bytes job) ∷ Int (pos number) ∷ Int (pos status) ∷ []
params_of (write.Status build status) = Int (pos build) ∷ Int (pos status) ∷ []
params_of (write.Pair build input scope place) =
    Int (pos build) ∷ Text (string_bytes input) ∷ Int (pos scope) ∷ Int (pos place) ∷ []
params_of (write.NoPair build input scope place) =
    Int (pos build) ∷ Text (string_bytes input) ∷ Int (pos scope) ∷ Int (pos place) ∷ []
params_of (write.Pin resource body) = Text (string_bytes resource) ∷ Text (string_bytes body) ∷ []
params_of (write.NoPin resource) = Text (string_bytes resource) ∷ []

-- ---- what was answered
module _ {S : Type 0} (g : Ghosts S) (ws : List Write) (old : State) (e : Error) where
  -- SQLite answered this error to one of the writes, in a transaction in which those before it were made
  pub record FailedAtWrite : Type 0 where
    pub done : List Write
    pub write : Write
    pub rest : List Write
    pub before : Held S
    pub after : Held S
    pub parts : ws ≡ done ++ write ∷ rest
    pub made : Turns (all_written done) old.now (state g before).now
    pub kept : Survives old (state g before) (λ _. ⊥)
    pub answered : ExecutesInside 0 (text_of write) (params_of write) (state g before) (state g after) (Err e)

  -- SQLite answered this error at the end of the transaction, in which all writes were made
  pub record FailedAtEnd : Type 0 where
    pub before : Held S
    pub after : Held S
    pub made : Turns (all_written ws) old.now (state g before).now
    pub kept : Survives old (state g before) (λ _. ⊥)
    pub answered : FailsToCommit (state g before) (state g after) e

  -- WHY A COMMIT FAILS: SQLite answered so
  abbrev pub IsAnswered : Type 0
  IsAnswered = FailedAtWrite ⊎ FailedAtEnd
