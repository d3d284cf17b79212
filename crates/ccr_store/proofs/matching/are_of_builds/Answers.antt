use Rattle.std.proofs.Common.{◌≡◌, ◌≤◌, ◌+◌, [], List, length, ◌==◌, subst, drop, sym, ap, ◌∙◌}
use Rattle.std.proofs.lemmas.List.{drop_all}
use Rattle.sqlite.specs.Order.{Row}
use Rattle.ccr_store.specs.Listed.{listed_pairs}
use Rattle.ccr_store.proofs.ListedRows.{pairs_step, drop_at}
use Rattle.ccr_store.proofs.matching.are_of_builds.Goals as goal

pub loop-index-preserved : goal.loop-index-preserved
loop-index-preserved c =
    let i = c.loop-index.index in
    let builds = c.args.history.now.builds in
    record {
      left = λ rest. c.loop-index.invariant.left (pairs_step builds i c.in-Some.build c.loop-index.rest.now c.in-Some-after_build.more.now (sym c.in-Some.ensures) c.in-Some-after_build.ensures.is rest);
      so_far = λ same.
          c.in-Some-after_build.ensures.only (listed_pairs (i + 1 + 1) (drop (i + 1) builds)) (c.loop-index.invariant.so_far same ∙ ap (listed_pairs (i + 1)) (drop_at builds i c.in-Some.build (sym c.in-Some.ensures)));
    }

pub returns-in_default-after_build-clause-only : goal.returns-in_default-after_build-clause-only
returns-in_default-after_build-clause-only c same =
    let i = c.loop-index.index in
    let builds = c.args.history.now.builds in
    absurd (c.in_default-after_build.ensures.only (listed_pairs (i + 1 + 1) (drop (i + 1) builds)) (c.loop-index.invariant.so_far same ∙ ap (listed_pairs (i + 1)) (drop_at builds i c.in-Some.build (sym c.in-Some.ensures))))

pub returns-clause-only : goal.returns-clause-only
returns-clause-only c same =
    let i = c.loop-index.index in
    let builds = c.args.history.now.builds in
    let past : length builds ≤ i = subst (λ n. n ≤ i) c.build_count-index-end.ensures.is c.loop-index-test.false in
    let none : c.loop-index.rest.now ≡ [] = c.loop-index.invariant.so_far same ∙ ap (listed_pairs (i + 1)) (drop_all i builds past) in
    c.is_empty.ensures ∙ ap (λ (l : List Row). length l == 0) none
