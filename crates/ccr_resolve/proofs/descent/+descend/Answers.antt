use Rattle.std.proofs.Common.{slice_index_or, ℕ, List, ◌≢◌, slice_index, ◌≡◌, ◌<◌, ◌+◌, ◌-◌, length, get_or, [], slice_set, arith, sym, ap, subst, refl}
use Rattle.std.proofs.lemmas.Option.{slice_get-get_or}
use Rattle.ccr_choice.specs.Problem.{builds_at}
use Rattle.ccr_choice.proofs.TableLaws.{table_set}
use Rattle.ccr_proof.specs.declared.node.Node.{Node, Same}
use Rattle.ccr_choice.specs.Preference.{order_of}
use Rattle.ccr_choice.proofs.Orders.{is_order}
use Rattle.ccr_proof.specs.Tree.{trees_of}
use Rattle.ccr_proof.specs.Refutes.{IsSameCase}
use Rattle.ccr_proof.proofs.Trees.{width_of}
use Rattle.ccr_index.specs.Rows.{no_build}
use Rattle.ccr_resolve.specs.Search.{places_of, free_jobs}
use Rattle.ccr_resolve.proofs.FullLaws.{full_satisfies}
use Rattle.ccr_resolve.proofs.SameLaws.{shared_case}
use Rattle.ccr_resolve.proofs.Steps.{joined, needed_one, leaf_empty, leaf_bounded, leaf_full, IsOpen, IsLooping, fewer_free, loop_first, loop_over, loop_next_node, loop_end_node, loop_closed, some_build, child_known, same_over, same_next_node, none_needed, some_searched}
use Rattle.ccr_choice.specs.Table.{assigned}
use Rattle.ccr_resolve.proofs.descent.+descend.Goals as goal

pub returns-then-left-eq0 : goal.returns-then-left-eq0
returns-then-left-eq0 t c = needed_one (order_of c.args.index.now.problem) c.args.index.now.problem c.args.fixed.now (places_of c.args.best.now) _ (omega arith)

pub returns-in-Some : goal.returns-in-Some
returns-in-Some t c = leaf_empty (order_of c.args.index.now.problem) (is_order c.args.index.now.problem) c.args.index.now.problem c.first_empty.ensures.rules c.args.fixed.now c.args.best.now c.args.left.now _ c.in-Some.i (c.in-Some.ensures.found (assigned c.args.index.now.problem c.args.fixed.now) c.requires.upper) c.requires.found (omega arith)

pub returns-then-is_closed : goal.returns-then-is_closed
returns-then-is_closed t c = leaf_bounded (order_of c.args.index.now.problem) (is_order c.args.index.now.problem) c.args.index.now.problem c.first_empty.ensures.rules c.args.fixed.now c.args.best.now c.args.left.now _ ((c.if-is_closed.ensures (assigned c.args.index.now.problem c.args.fixed.now) c.requires.upper).0 refl) c.requires.found (omega arith)

pub returns-in_default-cheapest_job : goal.returns-in_default-cheapest_job
returns-in_default-cheapest_job t c =
    let p = c.args.index.now.problem in
    let full = c.in_ok-full_choice.ensures in
    let all : (j : ℕ) → j < length p.jobs → slice_index c.args.fixed.now j ≢ 0 = λ j within. c.in_default-cheapest_job.ensures j within in
    leaf_full (order_of p) (is_order p) p c.first_empty.ensures.rules c.args.fixed.now c.args.best.now c.in_ok-full_choice.field-0 c.args.left.now _ (λ x. absurd (cc ((c.if-is_closed.ensures (assigned c.args.index.now.problem c.args.fixed.now) c.requires.upper).1 x)))
    full.0 (full_satisfies p c.first_empty.ensures.rules c.args.fixed.now c.requires.known all (c.in_default.ensures.found (assigned c.args.index.now.problem c.args.fixed.now) c.requires.upper) c.in_ok-full_choice.field-0 full) (omega arith)

pub loop-k-init : goal.loop-k-init
loop-k-init t c =
    let p = c.args.index.now.problem in
    let table = c.args.fixed.now in
    let j = c.in-Some-cheapest_job.j in
    let rules = c.first_empty.ensures.rules in
    let before = places_of c.args.best.now in
    let inside : j < length p.jobs = omega (arith, c.in-Some-cheapest_job.ensures.0) in
    let wide : j < length table = omega (arith, inside, c.rows-rows.ensures.limit, c.told-fixed) in
    let now : IsOpen (order_of p) p table j before =
    record { inside = inside; wide = wide; free = c.in-Some-cheapest_job.ensures.1; possible = (c.in_default.ensures.found (assigned c.args.index.now.problem c.args.fixed.now) c.requires.upper); unbounded = λ x. absurd (cc ((c.if-is_closed.ensures (assigned c.args.index.now.problem c.args.fixed.now) c.requires.upper).1 x)) } in
    let P : List Node → Type 0 = λ cs. IsLooping (order_of p) p table j before c.args.left.now 0 (trees_of cs) c.args.best.now (c.args.left.now - 1) in
    subst P (sym c.new-children.ensures.items) (loop_first (order_of p) (is_order p) p rules table j before now c.args.best.now c.args.left.now (c.args.left.now - 1) refl c.requires.found (omega arith))

pub descend-requires : goal.descend-requires
descend-requires t c =
    let p = c.args.index.now.problem in
    let table = c.args.fixed.now in
    let j = c.in-Some-cheapest_job.j in
    let rules = c.first_empty.ensures.rules in
    let before = places_of c.args.best.now in
    let inside : j < length p.jobs = omega (arith, c.in-Some-cheapest_job.ensures.0) in
    let wide : j < length table = omega (arith, inside, c.rows-rows.ensures.limit, c.told-fixed) in
    let now : IsOpen (order_of p) p table j before =
    record { inside = inside; wide = wide; free = c.in-Some-cheapest_job.ensures.1; possible = (c.in_default.ensures.found (assigned c.args.index.now.problem c.args.fixed.now) c.requires.upper); unbounded = λ x. absurd (cc ((c.if-is_closed.ensures (assigned c.args.index.now.problem c.args.fixed.now) c.requires.upper).1 x)) } in
    let within : c.loop-k.k < length (builds_at p j) = omega (arith, c.loop-k-test.true, c.len-count.ensures, ap length c.rows-rows.ensures.value) in
    let build = get_or (builds_at p j) c.loop-k.k (record { number = 0; pairs = [] }) in
    let less : free_jobs (slice_set table j (c.loop-k.k + 1)) < free_jobs table = fewer_free (order_of p) (is_order p) p rules table j before now c.loop-k.k in (
      subst (λ x. free_jobs (slice_set table j (c.loop-k.k + 1)) < x) c.decreases less,
      (
        child_known p table j c.loop-k.k c.requires.known wide within,
        (
          c.lowered-places.ensures (assigned p table) build c.requires.upper (table_set p table j c.loop-k.k build wide (slice_get-get_or (builds_at p j) c.loop-k.k (record { number = 0; pairs = [] }) within)),
          c.loop-k.invariant.satisfies,
        ),
      ),
    )

pub returns-in_default-2 : goal.returns-in_default-2
returns-in_default-2 t c =
    let p = c.args.index.now.problem in
    let table = c.args.fixed.now in
    let j = c.in-Some-cheapest_job.j in
    let rules = c.first_empty.ensures.rules in
    let before = places_of c.args.best.now in
    let inside : j < length p.jobs = omega (arith, c.in-Some-cheapest_job.ensures.0) in
    let wide : j < length table = omega (arith, inside, c.rows-rows.ensures.limit, c.told-fixed) in
    let now : IsOpen (order_of p) p table j before =
    record { inside = inside; wide = wide; free = c.in-Some-cheapest_job.ensures.1; possible = (c.in_default.ensures.found (assigned c.args.index.now.problem c.args.fixed.now) c.requires.upper); unbounded = λ x. absurd (cc ((c.if-is_closed.ensures (assigned c.args.index.now.problem c.args.fixed.now) c.requires.upper).1 x)) } in
    let within : c.loop-k.k < length (builds_at p j) = omega (arith, c.loop-k-test.true, c.len-count.ensures, ap length c.rows-rows.ensures.value) in
    loop_over (order_of p) (is_order p) p rules table j before now c.args.left.now c.loop-k.k (trees_of c.loop-k.children.items) c.loop-k.best c.loop-k.left within c.in_default-dominator.ensures c.loop-k.invariant
    (none_needed (order_of p) p (slice_set table j (c.loop-k.k + 1)) c.loop-k.best c.descend.new.best c.loop-k.left c.descend.new.left c.in_ok-child.field-0 c.in_ok-child.ensures c.in_default-2.is)

pub loop-k-preserved : goal.loop-k-preserved
loop-k-preserved t c =
    let p = c.args.index.now.problem in
    let table = c.args.fixed.now in
    let j = c.in-Some-cheapest_job.j in
    let rules = c.first_empty.ensures.rules in
    let before = places_of c.args.best.now in
    let inside : j < length p.jobs = omega (arith, c.in-Some-cheapest_job.ensures.0) in
    let wide : j < length table = omega (arith, inside, c.rows-rows.ensures.limit, c.told-fixed) in
    let now : IsOpen (order_of p) p table j before =
    record { inside = inside; wide = wide; free = c.in-Some-cheapest_job.ensures.1; possible = (c.in_default.ensures.found (assigned c.args.index.now.problem c.args.fixed.now) c.requires.upper); unbounded = λ x. absurd (cc ((c.if-is_closed.ensures (assigned c.args.index.now.problem c.args.fixed.now) c.requires.upper).1 x)) } in
    let within : c.loop-k.k < length (builds_at p j) = omega (arith, c.loop-k-test.true, c.len-count.ensures, ap length c.rows-rows.ensures.value) in
    loop_next_node (order_of p) (is_order p) p rules table j before now c.args.left.now c.loop-k.k c.loop-k.children.items c.push-in-loop-k.new.self.items c.loop-k.best c.descend.new.best c.loop-k.left c.descend.new.left c.in-Some-2.child within c.in_default-dominator.ensures
    c.in_ok-push-2.ensures.items c.loop-k.invariant
    (some_searched (order_of p) p (slice_set table j (c.loop-k.k + 1)) c.loop-k.best c.descend.new.best c.loop-k.left c.descend.new.left c.in_ok-child.field-0 c.in-Some-2.child c.in_ok-child.ensures c.in-Some-2.is)

pub returns : goal.returns
returns t c =
    let p = c.args.index.now.problem in
    let table = c.args.fixed.now in
    let j = c.in-Some-cheapest_job.j in
    let rules = c.first_empty.ensures.rules in
    let before = places_of c.args.best.now in
    let inside : j < length p.jobs = omega (arith, c.in-Some-cheapest_job.ensures.0) in
    let wide : j < length table = omega (arith, inside, c.rows-rows.ensures.limit, c.told-fixed) in
    let now : IsOpen (order_of p) p table j before =
    record { inside = inside; wide = wide; free = c.in-Some-cheapest_job.ensures.1; possible = (c.in_default.ensures.found (assigned c.args.index.now.problem c.args.fixed.now) c.requires.upper); unbounded = λ x. absurd (cc ((c.if-is_closed.ensures (assigned c.args.index.now.problem c.args.fixed.now) c.requires.upper).1 x)) } in
    let all : c.loop-k.k ≡ length (builds_at p j) = omega (arith, c.loop-k-test.false, c.loop-k.auto.k-end, c.len-count.ensures, ap length c.rows-rows.ensures.value) in
    loop_end_node (order_of p) (is_order p) p rules table j before now c.args.left.now c.loop-k.k c.loop-k.children c.args.best.now c.loop-k.best c.loop-k.left refl
    (λ path. some_build (order_of p) p j path.top inside) all c.loop-k.invariant

pub returns-then-is_closed-2 : goal.returns-then-is_closed-2
returns-then-is_closed-2 t c =
    let p = c.args.index.now.problem in
    let table = c.args.fixed.now in
    let j = c.in-Some-cheapest_job.j in
    let rules = c.first_empty.ensures.rules in
    let before = places_of c.args.best.now in
    let inside : j < length p.jobs = omega (arith, c.in-Some-cheapest_job.ensures.0) in
    let wide : j < length table = omega (arith, inside, c.rows-rows.ensures.limit, c.told-fixed) in
    let now : IsOpen (order_of p) p table j before =
    record { inside = inside; wide = wide; free = c.in-Some-cheapest_job.ensures.1; possible = (c.in_default.ensures.found (assigned c.args.index.now.problem c.args.fixed.now) c.requires.upper); unbounded = λ x. absurd (cc ((c.if-is_closed.ensures (assigned c.args.index.now.problem c.args.fixed.now) c.requires.upper).1 x)) } in
    let within : c.loop-k.k < length (builds_at p j) = omega (arith, c.loop-k-test.true, c.len-count.ensures, ap length c.rows-rows.ensures.value) in
    loop_closed (order_of p) (is_order p) p rules table j before now c.args.left.now c.loop-k.k (trees_of c.loop-k.children.items) c.args.best.now c.loop-k.best c.loop-k.left refl
    (omega (arith, within)) ((c.if-is_closed-2.ensures (assigned c.args.index.now.problem c.args.fixed.now) c.requires.upper).0 refl) c.loop-k.invariant

pub returns-then-is_closed-3 : goal.returns-then-is_closed-3
returns-then-is_closed-3 t c =
    let p = c.args.index.now.problem in
    let table = c.args.fixed.now in
    let j = c.in-Some-cheapest_job.j in
    let rules = c.first_empty.ensures.rules in
    let before = places_of c.args.best.now in
    let inside : j < length p.jobs = omega (arith, c.in-Some-cheapest_job.ensures.0) in
    let wide : j < length table = omega (arith, inside, c.rows-rows.ensures.limit, c.told-fixed) in
    let now : IsOpen (order_of p) p table j before =
    record { inside = inside; wide = wide; free = c.in-Some-cheapest_job.ensures.1; possible = (c.in_default.ensures.found (assigned c.args.index.now.problem c.args.fixed.now) c.requires.upper); unbounded = λ x. absurd (cc ((c.if-is_closed.ensures (assigned c.args.index.now.problem c.args.fixed.now) c.requires.upper).1 x)) } in
    let all : c.loop-k.k ≡ length (builds_at p j) = omega (arith, c.loop-k-test.false, c.loop-k.auto.k-end, c.len-count.ensures, ap length c.rows-rows.ensures.value) in
    loop_closed (order_of p) (is_order p) p rules table j before now c.args.left.now c.loop-k.k (trees_of c.loop-k.children.items) c.args.best.now c.loop-k.best c.loop-k.left refl
    (omega (arith, all)) ((c.if-is_closed-3.ensures (assigned c.args.index.now.problem c.args.fixed.now) c.requires.upper).0 refl) c.loop-k.invariant

pub returns-in_default-checked_sub : goal.returns-in_default-checked_sub
returns-in_default-checked_sub t c =
    let p = c.args.index.now.problem in
    let table = c.args.fixed.now in
    let j = c.in-Some-cheapest_job.j in
    let rules = c.first_empty.ensures.rules in
    let before = places_of c.args.best.now in
    let inside : j < length p.jobs = omega (arith, c.in-Some-cheapest_job.ensures.0) in
    let wide : j < length table = omega (arith, inside, c.rows-rows.ensures.limit, c.told-fixed) in
    let now : IsOpen (order_of p) p table j before =
    record { inside = inside; wide = wide; free = c.in-Some-cheapest_job.ensures.1; possible = (c.in_default.ensures.found (assigned c.args.index.now.problem c.args.fixed.now) c.requires.upper); unbounded = λ x. absurd (cc ((c.if-is_closed.ensures (assigned c.args.index.now.problem c.args.fixed.now) c.requires.upper).1 x)) } in
    let within : c.loop-k.k < length (builds_at p j) = omega (arith, c.loop-k-test.true, c.len-count.ensures, ap length c.rows-rows.ensures.value) in
    same_over (order_of p) (is_order p) p rules table j before now c.args.left.now c.loop-k.k (trees_of c.loop-k.children.items) c.loop-k.best c.loop-k.left within
    (omega (arith, c.in-Some-dominator.ensures.0)) (omega (arith, c.in_default-checked_sub.ensures)) c.loop-k.invariant

pub index-requires : goal.index-requires
index-requires t c = let w = width_of c.loop-k.children.items in omega (arith, c.loop-k.invariant.wide, w, c.in-Some-dominator.ensures.0)

pub loop-k-preserved-in-Some-dominator : goal.loop-k-preserved-in-Some-dominator
loop-k-preserved-in-Some-dominator t c =
    let p = c.args.index.now.problem in
    let table = c.args.fixed.now in
    let j = c.in-Some-cheapest_job.j in
    let rules = c.first_empty.ensures.rules in
    let before = places_of c.args.best.now in
    let inside : j < length p.jobs = omega (arith, c.in-Some-cheapest_job.ensures.0) in
    let wide : j < length table = omega (arith, inside, c.rows-rows.ensures.limit, c.told-fixed) in
    let now : IsOpen (order_of p) p table j before =
    record { inside = inside; wide = wide; free = c.in-Some-cheapest_job.ensures.1; possible = (c.in_default.ensures.found (assigned c.args.index.now.problem c.args.fixed.now) c.requires.upper); unbounded = λ x. absurd (cc ((c.if-is_closed.ensures (assigned c.args.index.now.problem c.args.fixed.now) c.requires.upper).1 x)) } in
    let within : c.loop-k.k < length (builds_at p j) = omega (arith, c.loop-k-test.true, c.len-count.ensures, ap length c.rows-rows.ensures.value) in
    let k = c.loop-k.k in
    let newer = c.in-Some-dominator.newer in
    let children = c.loop-k.children.items in
    let all : newer < length children = (let w = width_of children in omega (arith, c.loop-k.invariant.wide, w, c.in-Some-dominator.ensures.0)) in
    let case = shared_case (order_of p) p (places_of c.loop-k.best) (assigned p table) j k newer children c.index.result.now c.loop-k.invariant.each c.in-Some-dominator.ensures.0 within all c.index.ensures c.in-Some-dominator.ensures.1 in
    same_next_node (order_of p) (is_order p) p rules table j before now c.args.left.now k c.case_of-case.result children c.push.new.self.items c.loop-k.best c.loop-k.left c.in-Some-checked_sub.rest (Same c.case_of-case.result) within
    (omega (arith, c.in-Some-dominator.ensures.0)) (omega (arith, c.in-Some-checked_sub.ensures)) c.in_ok-push.ensures.items refl
    (λ rest. let P : ℕ → Type 0 = λ n. IsSameCase p j (joined (trees_of children) rest) k (slice_index_or (builds_at p j) k no_build) n in subst P (sym c.case_of-case.ensures) (case rest)) c.loop-k.invariant
