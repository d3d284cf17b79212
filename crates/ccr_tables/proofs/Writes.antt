-- What each write does.
use Rattle.std.proofs.Common.{ℕ, [], ◌∷◌, Ok, string_bytes}
use Rattle.sqlite.specs.State.{State, Executes}
use Rattle.ccr_tables.specs.Answered.{text_of, params_of}
use Rattle.ccr_tables.specs.Contents.{Contents, Holds}
use Rattle.ccr_tables.specs.Written.{written}
use Rattle.ccr_tables.specs.declared.write.Write.{Write}
use Rattle.ccr_tables.specs.declared.write.Write.TheVariants as write
use Rattle.ccr_tables.proofs.Adds.{add_scope, add_version, add_build, add_pair}
use Rattle.ccr_tables.proofs.Changes.{change_status, drop_pin, drop_pair, set_meta, set_pin}

pub writes : (w : Write) (old new : State) (count : ℕ) (these : Contents) → Holds these old.now → Executes (text_of w) (params_of w) old new (Ok count) → Holds (written w these) new.now
writes write.Format = set_meta 1 (50 ∷ [])
writes (write.PipelineText text) = set_meta 2 text.items
writes (write.Scope id resource kind source) = add_scope id (string_bytes resource) (string_bytes kind) (string_bytes source)
writes (write.Version scope place body) = add_version scope place (string_bytes body)
writes (write.Build id job number status) = add_build id (string_bytes job) number status
writes (write.Status build status) = change_status build status
writes (write.Pair build input scope place) = add_pair build (string_bytes input) scope place
writes (write.NoPair build input scope place) = drop_pair build (string_bytes input) scope place
writes (write.Pin resource body) = set_pin (string_bytes resource) (string_bytes body)
writes (write.NoPin resource) = drop_pin (string_bytes resource)
