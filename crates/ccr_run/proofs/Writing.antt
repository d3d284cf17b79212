-- What is written in parts.
use Rattle.std.proofs.Common.{◌≡◌, ◌++◌, ◌∷◌, [], List, sym, subst}
use Rattle.std.proofs.KnownBytes.{Appends-nil, Appends-trans}
use Rattle.std.proofs.lemmas.List.Concat.{flat_map-append}
use Rattle.std.specs.Io.KnownBytes.{Appends}
use Rattle.ccr_history.specs.Text.{Text}
use Rattle.ccr_run.specs.declared.order.Order.{Order}
use Rattle.ccr_run.specs.declared.run.Outcome.{Outcome}
use Rattle.ccr_run.specs.Explained.{ToldData, TellsLines, end_lines, explained, gate_lines, nothing_told}
use Rattle.ccr_run.specs.Writers.{WriterData, GetsLines}
use Rattle.ccr_run.proofs.Told.{end_alone}

-- lines are written, and then more
pub got_more : (first second : List Text) (a b c : WriterData) → GetsLines first a b → GetsLines second b c
    → GetsLines (first ++ second) a c
got_more first second a b c p q n =
    let last = q n in
    let then = p last.0 in (
      then.0,
      subst (λ bytes. Appends a.got c.got bytes) (sym (flat_map-append (λ line. line ++ 10 ∷ []) first second))
          (Appends-trans a.got b.got c.got _ _ then.1 last.1),
    )

-- what was found is written, and then what is told of a command's end
pub tells_both : (order : Order) (outcome : Outcome) (t u : ToldData) (a b c : WriterData) → GetsLines (gate_lines t.gates) a b
    → TellsLines (explained order outcome) b c → u ≡ record (explained order outcome) { gates = t.gates } → TellsLines u a c
tells_both order outcome t u a b c first last told =
    subst (λ (v : ToldData). TellsLines v a c) (sym told)
    (got_more (gate_lines t.gates) (end_lines (explained order outcome)) a b c first last)

-- what is told of a command's end is written, where nothing was told before
pub tells_end : (order : Order) (outcome : Outcome) (t u : ToldData) (a c : WriterData) → t ≡ nothing_told
    → u ≡ record (explained order outcome) { gates = t.gates } → TellsLines (explained order outcome) a c → TellsLines u a c
tells_end order outcome t u a c untold told wrote =
    subst (λ (v : ToldData). TellsLines v a c) (sym (end_alone order outcome t u untold told)) wrote

-- nothing is told, and nothing is written
pub tells_nothing : (t : ToldData) (a : WriterData) → t ≡ nothing_told → TellsLines t a a
tells_nothing t a untold = subst (λ (v : ToldData). TellsLines v a a) (sym untold) (λ n. (n, Appends-nil a.got))
