use Rattle.std.proofs.Common.{◌++◌, ◌∙◌, ap, sym}
use Rattle.ccr_lines.proofs.Calling.{called_shown}
use Rattle.ccr_lines.proofs.Printing.{shown_all, told_still, whole_shown}
use Rattle.ccr_lines.proofs.printed.PrintedLines.hand_out.Goals as goal

pub invariant_of-self : goal.invariant_of-self
invariant_of-self g c = (
  whole_shown (g.W.Write.contents c.self.inside.out.start.value) (g.W.Write.contents c.go_on.new.self.start.value)
      (g.W.Write.contents c.self.inside.out.noted.writer) (g.W.Write.contents c.go_on.new.self.noted.writer)
      (g.E.Write.contents c.self.inside.errors.start.value) (g.E.Write.contents c.self.inside.errors.noted.writer)
      c.self.inside.out.failed c.go_on.new.self.failed c.self.inside.errors.failed
      c.self.inside.log.list c.and-self-inside.result.list c.deref.result.now c.deref-2.result.now c.and-self-inside.ensures
      (ap (λ s. g.W.Write.contents s.value) c.go_on.ensures.start) (c.deref-2.ensures.value ∙ sym c.deref.ensures.value)
      c.self.invariant.0 c.go_on.ensures.given,
  called_shown c.self.inside.log.list c.and-self-inside.result.list c.deref.result.now c.deref-2.result.now
      c.self.inside.out.failed c.go_on.new.self.failed c.self.inside.errors.failed c.self.inside.out.noted.calls.list
      c.go_on.new.self.noted.calls.list c.self.inside.errors.noted.calls.list c.and-self-inside.ensures
      (c.deref-2.ensures.value ∙ sym c.deref.ensures.value) c.self.invariant.1
      (λ is. ap (λ s. s.noted.calls.list) (c.go_on.ensures.still is)) c.go_on.ensures.calls c.go_on.ensures.answered,
)

pub returns-clause-same : goal.returns-clause-same
returns-clause-same g c =
    shown_all c.self.inside.log.list c.and-self-inside.result.list c.deref.result.now c.clear.new.self.items
    c.self.inside.lines.items c.and-self-inside.ensures c.deref.ensures.value c.clear.ensures.items
    ∙ ap (λ p. p.shown ++ p.waiting) c.self.view_is

pub returns-clause-notes : goal.returns-clause-notes
returns-clause-notes g c =
    told_still c.self.inside.log.list c.and-self-inside.result.list c.deref.result.now c.and-self-inside.ensures
    ∙ ap (λ p. p.notes) c.self.view_is
