use Rattle.std.proofs.Common.{◌≡◌, ◌≤◌, ℕ, max, take, get_or, sym, arith}
use Rattle.std.proofs.lemmas.List.{take_all}
use Rattle.std.proofs.lemmas.List.Elements.{All-get_or, All-more, All-same, All-weaker}
use Rattle.ccr_index.proofs.rows.top_of.Goals as goal

pub loop-pair-preserved : goal.loop-pair-preserved
loop-pair-preserved c =
    let ps = c.args.pairs.now in
    let i = c.loop-pair.pair-index in
    let before = c.loop-pair.invariant in
    let next : ℕ = c.max-top.result in
    let is : next ≡ max c.loop-pair.top (get_or ps i (0, 0)).1 = c.max-top.ensures in
    record {
      covers = All-more (λ q. q.1 ≤ next) ps i (0, 0) (omega arith)
          (All-weaker (λ q. q.1 ≤ c.loop-pair.top) (λ q. q.1 ≤ next) (λ q h. omega (arith, is, h)) (take i ps) before.covers) (omega (arith, is));
      least = λ n all. let one = All-get_or (λ q. q.1 ≤ n) ps i (0, 0) (omega arith) all in let other = before.least n all in omega (arith, is, other, one);
    }

pub returns-clause-covers : goal.returns-clause-covers
returns-clause-covers c =
    let ps = c.args.pairs.now in
    let i = c.loop-pair.pair-index in
    All-same (λ q. q.1 ≤ c.loop-pair.top) ps (take i ps) (sym (take_all i ps (omega arith))) c.loop-pair.invariant.covers
