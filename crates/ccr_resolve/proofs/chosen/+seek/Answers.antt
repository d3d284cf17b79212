use Rattle.std.proofs.Common.{ℕ, ◌≢◌, slice_index, ◌≡◌, ◌<◌, ◌+◌, ◌-◌, length, get_or, [], slice_set, arith, subst, refl, ◌∙◌, Option}
use Rattle.std.specs.Prelude.{MatchOption}
use Rattle.std.proofs.lemmas.List.{get_or_default}
use Rattle.std.proofs.lemmas.Option.{slice_get-get_or}
use Rattle.ccr_choice.specs.Problem.{builds_at}
use Rattle.ccr_choice.proofs.TableLaws.{table_set}
use Rattle.ccr_choice.specs.Preference.{order_of}
use Rattle.ccr_choice.proofs.Orders.{is_order}
use Rattle.ccr_choice.proofs.Bounds.{rules_of}
use Rattle.ccr_proof.specs.Tree.{empty, bounded}
use Rattle.ccr_resolve.specs.declared.wanted.Split.{Split}
use Rattle.ccr_resolve.specs.Search.{places_of, free_jobs}
use Rattle.ccr_resolve.specs.Sought.{Sought, IsSplitOnce}
use Rattle.ccr_resolve.specs.Kinds.{kinds_from}
use Rattle.ccr_resolve.proofs.Counting.{free_set}
use Rattle.ccr_resolve.proofs.KindLaws.{kinds_one}
use Rattle.ccr_resolve.proofs.FullLaws.{full_satisfies}
use Rattle.ccr_resolve.proofs.Steps.{leaf_empty, leaf_bounded, leaf_full, child_known}
use Rattle.ccr_resolve.proofs.SoughtLaws.{IsOwn, HasDominator, sought_of, try_first, try_skip, try_next, try_over, try_closed, try_end, over_is, sought_is}
use Rattle.ccr_choice.specs.Table.{assigned}
use Rattle.ccr_resolve.proofs.chosen.+seek.Goals as goal

pub returns-then-left-eq0 : goal.returns-then-left-eq0
returns-then-left-eq0 t c = let one = kinds_one (kinds_from c.args.index.now.problem 0 c.args.index.now.problem.jobs) c.args.fixed.now in omega (arith, one)

pub returns-in-Some : goal.returns-in-Some
returns-in-Some t c =
    let p = c.args.index.now.problem in
    let none = c.in-Some.ensures.found (assigned c.args.index.now.problem c.args.fixed.now) c.requires.upper in
    sought_of (order_of p) (is_order p) p c.first_empty.ensures.rules c.args.fixed.now c.args.best.now c.args.best.now c.args.left.now _ (empty _) (omega arith)
    (leaf_empty (order_of p) (is_order p) p c.first_empty.ensures.rules c.args.fixed.now c.args.best.now c.args.left.now _ _ none c.requires.found (omega arith))

pub returns-then-is_closed : goal.returns-then-is_closed
returns-then-is_closed t c =
    let p = c.args.index.now.problem in
    sought_of (order_of p) (is_order p) p c.first_empty.ensures.rules c.args.fixed.now c.args.best.now c.args.best.now c.args.left.now _ bounded (omega arith)
    (leaf_bounded (order_of p) (is_order p) p c.first_empty.ensures.rules c.args.fixed.now c.args.best.now c.args.left.now _ ((c.if-is_closed.ensures (assigned p c.args.fixed.now) c.requires.upper).0 refl) c.requires.found (omega arith))

pub returns-in_default-2 : goal.returns-in_default-2
returns-in_default-2 t c =
    let p = c.args.index.now.problem in
    let table = c.args.fixed.now in
    let full = c.in_ok-full_choice.ensures in
    let P : Option Split → Type 0 = λ o. MatchOption o ((k : ℕ) → k < length p.jobs → slice_index table k ≢ 0) (λ s. IsSplitOnce p table (places_of c.args.best.now) s.job s.builds.items) in
    let all : (k : ℕ) → k < length p.jobs → slice_index table k ≢ 0 = subst P c.in_default-2.is c.in_ok-found.ensures in
    sought_of (order_of p) (is_order p) p c.first_empty.ensures.rules table c.args.best.now _ c.args.left.now _ bounded (omega arith)
    (leaf_full (order_of p) (is_order p) p c.first_empty.ensures.rules table c.args.best.now c.in_ok-full_choice.field-0 c.args.left.now _ (λ x. absurd (cc ((c.if-is_closed.ensures (assigned p table) c.requires.upper).1 x)))
    full.0 (full_satisfies p c.first_empty.ensures.rules table c.requires.known all (c.in_default.ensures.found (assigned p table) c.requires.upper) c.in_ok-full_choice.field-0 full) (omega arith))

pub loop-t-init : goal.loop-t-init
loop-t-init t c =
    let p = c.args.index.now.problem in
    let table = c.args.fixed.now in
    let j = c.in-Some-2.found.job in
    let list = c.in-Some-2.found.builds.items in
    let rules = c.first_empty.ensures.rules in
    let P : Option Split → Type 0 = λ o. MatchOption o ((k : ℕ) → k < length p.jobs → slice_index table k ≢ 0) (λ s. IsSplitOnce p table (places_of c.args.best.now) s.job s.builds.items) in
    let once : IsSplitOnce p table (places_of c.args.best.now) j list = subst P c.in-Some-2.is c.in_ok-found.ensures in
    let split = once.split in
    let wide : j < length table = omega (arith, split.inside, (rules_of p rules).few_jobs, c.told-fixed) in
    try_first (order_of p) p table j list c.args.best.now c.args.left.now (c.args.left.now - 1) c.requires.found (omega arith)

pub seek-requires : goal.seek-requires
seek-requires t c =
    let p = c.args.index.now.problem in
    let table = c.args.fixed.now in
    let j = c.in-Some-2.found.job in
    let list = c.in-Some-2.found.builds.items in
    let rules = c.first_empty.ensures.rules in
    let P : Option Split → Type 0 = λ o. MatchOption o ((k : ℕ) → k < length p.jobs → slice_index table k ≢ 0) (λ s. IsSplitOnce p table (places_of c.args.best.now) s.job s.builds.items) in
    let once : IsSplitOnce p table (places_of c.args.best.now) j list = subst P c.in-Some-2.is c.in_ok-found.ensures in
    let split = once.split in
    let wide : j < length table = omega (arith, split.inside, (rules_of p rules).few_jobs, c.told-fixed) in
    let k = c.index-k.result.now in
    let at = c.loop-t.t in
    let less : at < length list = omega (arith, c.loop-t-test.true, c.len-t-end.ensures) in
    let same : c.index-k.result.now ≡ slice_index list at = c.index-k.ensures ∙ get_or_default list at _ 0 less in
    let low = split.within at 0 less in
    let within : k < length (builds_at p j) = omega (arith, low, same) in
    let build = get_or (builds_at p j) k (record { number = 0; pairs = [] }) in
    let less : free_jobs (slice_set table j (k + 1)) < free_jobs table = free_set table j (k + 1) (λ z. absurd (omega (arith, z))) split.free wide in (
      subst (λ x. free_jobs (slice_set table j (k + 1)) < x) c.decreases less,
      (
        child_known p table j k c.requires.known wide within,
        (
          c.lowered-places.ensures (assigned p table) build c.requires.upper (table_set p table j k build wide (slice_get-get_or (builds_at p j) k (record { number = 0; pairs = [] }) within)),
          c.loop-t.invariant.satisfies,
        ),
      ),
    )

pub returns-then-is_closed-2 : goal.returns-then-is_closed-2
returns-then-is_closed-2 t c =
    let p = c.args.index.now.problem in
    let table = c.args.fixed.now in
    let j = c.in-Some-2.found.job in
    let list = c.in-Some-2.found.builds.items in
    let rules = c.first_empty.ensures.rules in
    let P : Option Split → Type 0 = λ o. MatchOption o ((k : ℕ) → k < length p.jobs → slice_index table k ≢ 0) (λ s. IsSplitOnce p table (places_of c.args.best.now) s.job s.builds.items) in
    let once : IsSplitOnce p table (places_of c.args.best.now) j list = subst P c.in-Some-2.is c.in_ok-found.ensures in
    let split = once.split in
    let wide : j < length table = omega (arith, split.inside, (rules_of p rules).few_jobs, c.told-fixed) in
    try_closed (order_of p) (is_order p) p rules table j list (places_of c.args.best.now) c.args.left.now c.loop-t.t c.args.best.now c.loop-t.best c.loop-t.left split wide
    c.loop-t.invariant ((c.if-is_closed-2.ensures (assigned p table) c.requires.upper).0 refl)

pub returns-then-is_over : goal.returns-then-is_over
returns-then-is_over t c =
    let p = c.args.index.now.problem in
    let table = c.args.fixed.now in
    let j = c.in-Some-2.found.job in
    let list = c.in-Some-2.found.builds.items in
    let rules = c.first_empty.ensures.rules in
    let P : Option Split → Type 0 = λ o. MatchOption o ((k : ℕ) → k < length p.jobs → slice_index table k ≢ 0) (λ s. IsSplitOnce p table (places_of c.args.best.now) s.job s.builds.items) in
    let once : IsSplitOnce p table (places_of c.args.best.now) j list = subst P c.in-Some-2.is c.in_ok-found.ensures in
    let split = once.split in
    let wide : j < length table = omega (arith, split.inside, (rules_of p rules).few_jobs, c.told-fixed) in
    let at = c.loop-t.t in
    let less : at < length list = omega (arith, c.loop-t-test.true, c.len-t-end.ensures) in
    let same : c.index-k.result.now ≡ slice_index list at = c.index-k.ensures ∙ get_or_default list at _ 0 less in
    let Q : ℕ → Type 0 = λ n. Sought (order_of p) p (slice_set table j (n + 1)) c.loop-t.best c.seek.new.best c.loop-t.left c.seek.new.left c.in_ok-is_over.is_over in
    let told : Q (slice_index list at) = subst Q same c.in_ok-is_over.ensures in
    let O : ℕ → Type 0 = λ n. IsOwn (order_of p) p j n in
    let low = split.within at 0 less in
    try_over (order_of p) p table j list (places_of c.args.best.now) c.args.left.now at c.loop-t.best c.loop-t.left once.distinct less (omega (arith, low)) (subst O same c.in_default-dominator.ensures) c.loop-t.invariant (places_of c.args.best.now) split wide
    (over_is (order_of p) p (slice_set table j (slice_index list at + 1)) c.loop-t.best c.seek.new.best c.loop-t.left c.seek.new.left c.in_ok-is_over.is_over told c.if-is_over.true)

pub loop-t-preserved : goal.loop-t-preserved
loop-t-preserved t c =
    let p = c.args.index.now.problem in
    let table = c.args.fixed.now in
    let j = c.in-Some-2.found.job in
    let list = c.in-Some-2.found.builds.items in
    let rules = c.first_empty.ensures.rules in
    let P : Option Split → Type 0 = λ o. MatchOption o ((k : ℕ) → k < length p.jobs → slice_index table k ≢ 0) (λ s. IsSplitOnce p table (places_of c.args.best.now) s.job s.builds.items) in
    let once : IsSplitOnce p table (places_of c.args.best.now) j list = subst P c.in-Some-2.is c.in_ok-found.ensures in
    let split = once.split in
    let wide : j < length table = omega (arith, split.inside, (rules_of p rules).few_jobs, c.told-fixed) in
    let at = c.loop-t.t in
    let less : at < length list = omega (arith, c.loop-t-test.true, c.len-t-end.ensures) in
    let same : c.index-k.result.now ≡ slice_index list at = c.index-k.ensures ∙ get_or_default list at _ 0 less in
    let Q : ℕ → Type 0 = λ n. Sought (order_of p) p (slice_set table j (n + 1)) c.loop-t.best c.seek.new.best c.loop-t.left c.seek.new.left c.in_ok-is_over.is_over in
    let told : Q (slice_index list at) = subst Q same c.in_ok-is_over.ensures in
    let O : ℕ → Type 0 = λ n. IsOwn (order_of p) p j n in
    let low = split.within at 0 less in
    try_next (order_of p) p table j list (places_of c.args.best.now) c.args.left.now at c.loop-t.best c.loop-t.left once.distinct less (omega (arith, low)) (subst O same c.in_default-dominator.ensures) c.loop-t.invariant c.seek.new.best c.seek.new.left wide
    (sought_is (order_of p) p (slice_set table j (slice_index list at + 1)) c.loop-t.best c.seek.new.best c.loop-t.left c.seek.new.left c.in_ok-is_over.is_over told c.if-is_over.false)

pub returns : goal.returns
returns t c =
    let p = c.args.index.now.problem in
    let table = c.args.fixed.now in
    let j = c.in-Some-2.found.job in
    let list = c.in-Some-2.found.builds.items in
    let rules = c.first_empty.ensures.rules in
    let P : Option Split → Type 0 = λ o. MatchOption o ((k : ℕ) → k < length p.jobs → slice_index table k ≢ 0) (λ s. IsSplitOnce p table (places_of c.args.best.now) s.job s.builds.items) in
    let once : IsSplitOnce p table (places_of c.args.best.now) j list = subst P c.in-Some-2.is c.in_ok-found.ensures in
    let split = once.split in
    let wide : j < length table = omega (arith, split.inside, (rules_of p rules).few_jobs, c.told-fixed) in
    try_end p rules table j list c.args.left.now c.loop-t.t c.args.best.now c.loop-t.best c.loop-t.left split (omega (arith, c.loop-t-test.false, c.loop-t.auto.t-end, c.len-t-end.ensures)) c.loop-t.invariant wide

pub bounds-inner-j : goal.bounds-inner-j
bounds-inner-j t c =
    let p = c.args.index.now.problem in
    let table = c.args.fixed.now in
    let j = c.in-Some-2.found.job in
    let list = c.in-Some-2.found.builds.items in
    let rules = c.first_empty.ensures.rules in
    let P : Option Split → Type 0 = λ o. MatchOption o ((k : ℕ) → k < length p.jobs → slice_index table k ≢ 0) (λ s. IsSplitOnce p table (places_of c.args.best.now) s.job s.builds.items) in
    let once : IsSplitOnce p table (places_of c.args.best.now) j list = subst P c.in-Some-2.is c.in_ok-found.ensures in
    let split = once.split in
    let wide : j < length table = omega (arith, split.inside, (rules_of p rules).few_jobs, c.told-fixed) in
    omega (arith, wide, c.told-fixed)

pub offset_bounds-inner-j : goal.offset_bounds-inner-j
offset_bounds-inner-j t c =
    let p = c.args.index.now.problem in
    let table = c.args.fixed.now in
    let j = c.in-Some-2.found.job in
    let list = c.in-Some-2.found.builds.items in
    let rules = c.first_empty.ensures.rules in
    let P : Option Split → Type 0 = λ o. MatchOption o ((k : ℕ) → k < length p.jobs → slice_index table k ≢ 0) (λ s. IsSplitOnce p table (places_of c.args.best.now) s.job s.builds.items) in
    let once : IsSplitOnce p table (places_of c.args.best.now) j list = subst P c.in-Some-2.is c.in_ok-found.ensures in
    let split = once.split in
    let wide : j < length table = omega (arith, split.inside, (rules_of p rules).few_jobs, c.told-fixed) in
    omega (arith, wide, c.told-fixed)

pub loop-t-preserved-in-Some-dominator : goal.loop-t-preserved-in-Some-dominator
loop-t-preserved-in-Some-dominator t c =
    let p = c.args.index.now.problem in
    let table = c.args.fixed.now in
    let j = c.in-Some-2.found.job in
    let list = c.in-Some-2.found.builds.items in
    let rules = c.first_empty.ensures.rules in
    let P : Option Split → Type 0 = λ o. MatchOption o ((k : ℕ) → k < length p.jobs → slice_index table k ≢ 0) (λ s. IsSplitOnce p table (places_of c.args.best.now) s.job s.builds.items) in
    let once : IsSplitOnce p table (places_of c.args.best.now) j list = subst P c.in-Some-2.is c.in_ok-found.ensures in
    let split = once.split in
    let wide : j < length table = omega (arith, split.inside, (rules_of p rules).few_jobs, c.told-fixed) in
    let at = c.loop-t.t in
    let less : at < length list = omega (arith, c.loop-t-test.true, c.len-t-end.ensures) in
    let same : c.index-k.result.now ≡ slice_index list at = c.index-k.ensures ∙ get_or_default list at _ 0 less in
    let D : ℕ → Type 0 = λ n. HasDominator (order_of p) p j n in
    try_skip (order_of p) p table j list (places_of c.args.best.now) c.args.left.now at c.loop-t.best c.loop-t.left (subst D same (c.in-Some-dominator.field-0, c.in-Some-dominator.ensures.0, c.in-Some-dominator.ensures.1)) c.loop-t.invariant

pub dominator-requires-clause-job : goal.dominator-requires-clause-job
dominator-requires-clause-job t c =
    let p = c.args.index.now.problem in
    let table = c.args.fixed.now in
    let j = c.in-Some-2.found.job in
    let list = c.in-Some-2.found.builds.items in
    let rules = c.first_empty.ensures.rules in
    let P : Option Split → Type 0 = λ o. MatchOption o ((k : ℕ) → k < length p.jobs → slice_index table k ≢ 0) (λ s. IsSplitOnce p table (places_of c.args.best.now) s.job s.builds.items) in
    let once : IsSplitOnce p table (places_of c.args.best.now) j list = subst P c.in-Some-2.is c.in_ok-found.ensures in
    let split = once.split in
    let wide : j < length table = omega (arith, split.inside, (rules_of p rules).few_jobs, c.told-fixed) in
    let at = c.loop-t.t in
    let less : at < length list = omega (arith, c.loop-t-test.true, c.len-t-end.ensures) in
    let same : c.index-k.result.now ≡ slice_index list at = c.index-k.ensures ∙ get_or_default list at _ 0 less in
    split.inside

pub dominator-requires-clause-build : goal.dominator-requires-clause-build
dominator-requires-clause-build t c =
    let p = c.args.index.now.problem in
    let table = c.args.fixed.now in
    let j = c.in-Some-2.found.job in
    let list = c.in-Some-2.found.builds.items in
    let rules = c.first_empty.ensures.rules in
    let P : Option Split → Type 0 = λ o. MatchOption o ((k : ℕ) → k < length p.jobs → slice_index table k ≢ 0) (λ s. IsSplitOnce p table (places_of c.args.best.now) s.job s.builds.items) in
    let once : IsSplitOnce p table (places_of c.args.best.now) j list = subst P c.in-Some-2.is c.in_ok-found.ensures in
    let split = once.split in
    let wide : j < length table = omega (arith, split.inside, (rules_of p rules).few_jobs, c.told-fixed) in
    let at = c.loop-t.t in
    let less : at < length list = omega (arith, c.loop-t-test.true, c.len-t-end.ensures) in
    let same : c.index-k.result.now ≡ slice_index list at = c.index-k.ensures ∙ get_or_default list at _ 0 less in
    let low = split.within at 0 less in
    omega (arith, low, same)
