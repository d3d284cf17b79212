use Rattle.std.proofs.Common.{◌≡◌, ◌∙◌, length, arith}
use Rattle.ccr_history.proofs.NewVersions.{taken_back}
use Rattle.ccr_history.proofs.history.History.take_back.Goals as goal

pub overflow_cast-len : goal.overflow_cast-len
overflow_cast-len c =
    let r = c.args.report.now in
    let it = taken_back r.scope r.versions.items c.requires.0 c.args.self.now c.rules.ensures c.requires.2.3 c.requires.3 in
    omega (arith, it.0, c.len.ensures, r.versions.ok)

pub take_back_last-requires : goal.take_back_last-requires
take_back_last-requires c =
    let r = c.args.report.now in
    let it = taken_back r.scope r.versions.items c.requires.0 c.args.self.now c.rules.ensures c.requires.2.3 c.requires.3 in
    let many : c.len.result ≡ length r.versions.items = omega (arith, c.len.ensures, r.versions.ok) in
    (c.requires.0, r.versions.items, c.requires.1, c.requires.3, many ∙ it.1)

pub returns : goal.returns
returns c = λ before rules numbers is.
    let r = c.args.report.now in
    let it = taken_back r.scope r.versions.items before c.args.self.now c.rules.ensures numbers.3 is in
    let many : c.len.result ≡ length r.versions.items = omega (arith, c.len.ensures, r.versions.ok) in
    c.take_back_last.ensures before r.versions.items rules is (many ∙ it.1)
