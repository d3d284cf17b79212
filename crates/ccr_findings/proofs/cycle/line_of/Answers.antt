use Rattle.std.proofs.Common.{◌≡◌, Some, None, map, rules, string_bytes, ℕ, List, Bor, sym, ap, ◌∙◌, option_map, drop, String, Global}
use Rattle.std.specs.Prelude.{Option}
use Rattle.ccr_findings.specs.Cycles.{waiter_data, cycle_line}
use Rattle.ccr_findings.specs.Waits.{next_in, place_from}
use Rattle.ccr_findings.proofs.Rings.{walk_first, path_by, path_smaller, path_ends, goes_on}
use Rattle.ccr_findings.proofs.cycle.line_of.Goals as goal

pub loop-from-init : goal.loop-from-init
loop-from-init c = record {
  text = search rules;
  walks = walk_first (map waiter_data c.args.waiters.now) string_bytes c.new-path.result.items c.args.start.now c.new-path.ensures.items c.requires.known;
}

pub returns-in-Some : goal.returns-in-Some
returns-in-Some c =
    let found : place_from 0 c.loop-from.name.now (map string_bytes c.loop-from.path.items) ≡ Some c.in-Some.from = cc in
    path_ends (map waiter_data c.args.waiters.now) string_bytes c.loop-from.path.items c.loop-from.name.now c.in-Some.from _ c.loop-from.invariant.walks found
    (c.in_ok-line.ensures ∙ ap (λ (l : List (String Global)). cycle_line (map string_bytes (drop c.in-Some.from l))) c.deref-in-Some.ensures.value)

pub unreachable-requires : goal.unreachable-requires
unreachable-requires c =
    let none : next_in (map waiter_data c.args.waiters.now) (map waiter_data c.args.waiters.now) c.loop-from.name.now ≡ None =
    sym c.next_of.ensures ∙ ap (λ (o : Option (Bor (List ℕ))). option_map (λ (n : Bor (List ℕ)). n.now) o) c.in-None.is in
    goes_on (map waiter_data c.args.waiters.now) 0 (map waiter_data c.args.waiters.now) c.loop-from.name.now c.requires.stuck c.loop-from.invariant.walks.known none

pub loop-from-smaller : goal.loop-from-smaller
loop-from-smaller c =
    let apart : place_from 0 c.loop-from.name.now (map string_bytes c.loop-from.path.items) ≡ None = cc in
    path_smaller waiter_data c.args.waiters.now string_bytes c.loop-from.path.items c.push.new.self.items _ c.loop-from.name.now c.in_ok-push.ensures.items c.loop-from.invariant.walks apart

pub loop-from-preserved : goal.loop-from-preserved
loop-from-preserved c =
    let apart : place_from 0 c.loop-from.name.now (map string_bytes c.loop-from.path.items) ≡ None = cc in
    let after : next_in (map waiter_data c.args.waiters.now) (map waiter_data c.args.waiters.now) c.loop-from.name.now ≡ Some c.in-Some-next_of.next.now =
    sym c.next_of.ensures ∙ ap (λ (o : Option (Bor (List ℕ))). option_map (λ (n : Bor (List ℕ)). n.now) o) c.in-Some-next_of.is in
    record {
      text = search rules;
      walks = path_by (map waiter_data c.args.waiters.now) string_bytes c.loop-from.path.items c.push.new.self.items c.in_ok-from_str.field-0 c.loop-from.name.now c.in-Some-next_of.next.now c.in_ok-push.ensures.items c.loop-from.invariant.walks apart after c.in_ok-from_str.ensures.ok;
    }
