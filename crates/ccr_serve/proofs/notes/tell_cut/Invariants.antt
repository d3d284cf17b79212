use Rattle.std.proofs.Common.{◌≡◌, List, drop}
use Rattle.ccr_history.specs.Text.{Text}
use Rattle.ccr_history.specs.Edits.{change_data}
use Rattle.ccr_serve.specs.Noted.{NotesCut}
use Rattle.ccr_serve.proofs.notes.tell_cut.Given as goal

abbrev pub invariant-loop-edit : goal.invariant-loop-edit
invariant-loop-edit g l = record {
  noted : (new : List Text) → NotesCut (change_data (drop l.edit-index l.change)) (g.O.Lines.notes l.out) new
      → NotesCut (change_data l.change) (g.O.Lines.notes l.fn.out) new;
  same : g.O.Lines.written l.out ≡ g.O.Lines.written l.fn.out;
  waiting : g.O.Lines.waiting l.out ≡ g.O.Lines.waiting l.fn.out;
}
