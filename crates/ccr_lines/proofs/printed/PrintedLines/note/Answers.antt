use Rattle.std.proofs.Common.{◌≡◌, ◌++◌, ◌∷◌, [], ◌∙◌, true, is_ok, string_bytes, ap, sym, inl}
use Rattle.ccr_lines.specs.Printed.{ChannelData}
use Rattle.ccr_lines.proofs.Calling.{called_told}
use Rattle.ccr_lines.proofs.Printing.{noted_as, shown_still, whole_told, pushed, got_line}
use Rattle.ccr_lines.proofs.printed.PrintedLines.note.Goals as goal

pub invariant_of-self : goal.invariant_of-self
invariant_of-self g c =
    let is : is_ok c.push_str.result ≡ true = sym c.is_ok.ensures.value ∙ c.if-is_ok.true in
    let line = string_bytes c.args.line in
    let bytes : c.as_bytes.result.now ≡ c.as_str.result.now ++ 10 ∷ [] = c.as_bytes.ensures.value ∙ (c.as_str-then-is_ok.ensures.value
    ∙ (pushed (is_ok c.push_str.result) (string_bytes c.push_str.new.self) line (10 ∷ []) c.push_str.ensures.bytes is
    ∙ ap (λ l. l ++ 10 ∷ []) (sym c.as_str.ensures.value))) in (
      whole_told (g.E.Write.contents c.self.inside.errors.start.value) (g.E.Write.contents c.give.new.self.start.value)
          (g.E.Write.contents c.self.inside.errors.noted.writer) (g.E.Write.contents c.give.new.self.noted.writer)
          (g.W.Write.contents c.self.inside.out.start.value) (g.W.Write.contents c.self.inside.out.noted.writer)
          c.self.inside.errors.failed c.give.new.self.failed c.self.inside.out.failed
          c.self.inside.log.list c.and-log.result.list c.as_str.result.now c.as_bytes.result.now c.and-log.ensures
          (ap (λ s. g.E.Write.contents s.value) c.give.ensures.start)
          bytes c.self.invariant.0 c.give.ensures.given,
      called_told c.self.inside.log.list c.and-log.result.list c.as_str.result.now c.as_bytes.result.now c.self.inside.out.failed
          c.self.inside.errors.failed c.give.new.self.failed c.self.inside.out.noted.calls.list
          c.self.inside.errors.noted.calls.list c.give.new.self.noted.calls.list c.and-log.ensures bytes c.self.invariant.1
          c.give.ensures.calls c.give.ensures.answered,
    )

pub returns-then-is_ok-clause-noted : goal.returns-then-is_ok-clause-noted
returns-then-is_ok-clause-noted g c =
    inl (noted_as c.self.inside.log.list c.and-log.result.list c.as_str.result.now (string_bytes c.args.line)
    c.args.self.now.notes c.and-log.ensures c.as_str.ensures.value (ap (λ p. p.notes) c.self.view_is))

pub returns-then-is_ok-clause-same : goal.returns-then-is_ok-clause-same
returns-then-is_ok-clause-same g c =
    ap (λ xs. xs ++ c.self.inside.lines.items)
    (shown_still c.self.inside.log.list c.and-log.result.list c.as_str.result.now c.and-log.ensures)
    ∙ ap (λ p. p.shown ++ p.waiting) c.self.view_is

pub returns-then-is_ok-clause-said : goal.returns-then-is_ok-clause-said
returns-then-is_ok-clause-said g c =
    let is : is_ok c.push_str.result ≡ true = sym c.is_ok.ensures.value ∙ c.if-is_ok.true in
    let line = string_bytes c.args.line in
    let held : ChannelData = record {
      failed = c.self.inside.errors.failed;
      before = g.E.Write.contents c.self.inside.errors.start.value;
      holds = g.E.Write.contents c.self.inside.errors.noted.writer;
      calls = c.self.inside.errors.noted.calls.list;
    } in
    let now : ChannelData = record {
      failed = c.give.new.self.failed;
      before = g.E.Write.contents c.give.new.self.start.value;
      holds = g.E.Write.contents c.give.new.self.noted.writer;
      calls = c.give.new.self.noted.calls.list;
    } in
    inl (
      noted_as c.self.inside.log.list c.and-log.result.list c.as_str.result.now line c.args.self.now.notes c.and-log.ensures
          c.as_str.ensures.value (ap (λ p. p.notes) c.self.view_is),
      got_line line c.as_bytes.result.now held c.args.self.now.errors now (ap (λ p. p.errors) c.self.view_is)
          (ap (λ s. g.E.Write.contents s.value) c.give.ensures.start)
          (c.as_bytes.ensures.value ∙ (c.as_str-then-is_ok.ensures.value
          ∙ pushed (is_ok c.push_str.result) (string_bytes c.push_str.new.self) line (10 ∷ []) c.push_str.ensures.bytes is))
          c.give.ensures.given c.give.ensures.calls (c.give.ensures.answered c.self.invariant.1.answered_beside),
    )
