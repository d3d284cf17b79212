-- Each write leaves a database: its list of objects is sound.
use Rattle.std.proofs.Common.{◌≡◌, ℕ, List, [], ◌∷◌, Ok, None, string_bytes}
use Rattle.sqlite.specs.Effect.{IsDatabase}
use Rattle.sqlite.specs.Listing.{understood}
use Rattle.sqlite.specs.Order.{Row}
use Rattle.sqlite.specs.State.{State, Executes, Writes}
use Rattle.sqlite.proofs.Callers.{IsPlain, command_of, statement_of, runs_as}
use Rattle.sqlite_schema.specs.declared.command.Command.{Command}
use Rattle.sqlite_schema.specs.declared.command.Command.TheVariants.{Insert, InsertOr, Update, Delete}
use Rattle.sqlite_schema.specs.declared.command.Conflict.{Conflict}
use Rattle.sqlite_schema.specs.declared.command.Source.{Source}
use Rattle.sqlite_schema.specs.declared.command.Upsert.{Upsert}
use Rattle.sqlite_schema.specs.declared.program.Program.{Program}
use Rattle.ccr_tables.specs.Answered.{text_of, params_of}
use Rattle.ccr_tables.specs.Schema.{our_schema}
use Rattle.ccr_tables.specs.declared.write.Write.{Write}
use Rattle.ccr_tables.specs.declared.write.Write.TheVariants as write
use Rattle.ccr_tables.proofs.Texts as texts

module _ (text : List ℕ) (plain : IsPlain (understood our_schema text)) (params : Row) (old new : State) (count : ℕ) (has : old.now.schema ≡ our_schema)
    (ran : Executes text params old new (Ok count)) where
  abbrev Wrote : Command → Type 0
  Wrote command = Writes old new None command (statement_of text (understood our_schema text)) params count

  inserted : (at : ℕ) (from : Source) → command_of (understood our_schema text) ≡ Insert at from → IsDatabase new.now
  inserted at from is = let w : Wrote (Insert at from) = runs_as text params old new our_schema has (Insert at from) is plain count ran in w.sound

  put : (at : ℕ) (how : Conflict) (from : Source) (clauses : List Upsert) → command_of (understood our_schema text) ≡ InsertOr at how from clauses → IsDatabase new.now
  put at how from clauses is =
      let w : Wrote (InsertOr at how from clauses) = runs_as text params old new our_schema has (InsertOr at how from clauses) is plain count ran in w.sound

  updated : (at : ℕ) (q : Program) → command_of (understood our_schema text) ≡ Update at q → IsDatabase new.now
  updated at q is = let w : Wrote (Update at q) = runs_as text params old new our_schema has (Update at q) is plain count ran in w.sound

  deleted : (at : ℕ) (q : Program) → command_of (understood our_schema text) ≡ Delete at q → IsDatabase new.now
  deleted at q is = let w : Wrote (Delete at q) = runs_as text params old new our_schema has (Delete at q) is plain count ran in w.sound

pub sound_writes : (w : Write) (old new : State) (count : ℕ) → old.now.schema ≡ our_schema → Executes (text_of w) (params_of w) old new (Ok count) → IsDatabase new.now
sound_writes write.Format old new count has h = put texts.put_meta_text texts.put_meta_plain _ old new count has h _ _ _ _ texts.put_meta_command
sound_writes (write.PipelineText text) old new count has h = put texts.put_meta_text texts.put_meta_plain _ old new count has h _ _ _ _ texts.put_meta_command
sound_writes (write.Scope id resource kind source) old new count has h = inserted texts.scope_text texts.scope_plain _ old new count has h _ _ texts.scope_command
sound_writes (write.Version scope place body) old new count has h = inserted texts.version_text texts.version_plain _ old new count has h _ _ texts.version_command
sound_writes (write.Build id job number status) old new count has h = inserted texts.build_text texts.build_plain _ old new count has h _ _ texts.build_command
sound_writes (write.Status build status) old new count has h = updated texts.set_status_text texts.set_status_plain _ old new count has h _ _ texts.set_status_command
sound_writes (write.Pair build input scope place) old new count has h = inserted texts.pair_text texts.pair_plain _ old new count has h _ _ texts.pair_command
sound_writes (write.NoPair build input scope place) old new count has h = deleted texts.remove_pair_text texts.remove_pair_plain _ old new count has h _ _ texts.remove_pair_command
sound_writes (write.Pin resource body) old new count has h = put texts.put_pin_text texts.put_pin_plain _ old new count has h _ _ _ _ texts.put_pin_command
sound_writes (write.NoPin resource) old new count has h = deleted texts.remove_pin_text texts.remove_pin_plain _ old new count has h _ _ texts.remove_pin_command
