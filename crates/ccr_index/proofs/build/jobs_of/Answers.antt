use Rattle.std.proofs.Common.{◌≡◌, ◌∙◌, ◌↔◌, ℕ, List, [], ◌∷◌, Bool, IsTrue, length, map, take, sym, ap, subst, arith}
use Rattle.std.proofs.lemmas.List.{length-map, length-take-le, map-append}
use Rattle.std.proofs.lemmas.Grind.{common_steps}
use Rattle.ccr_choice.proofs.Bounds.{rules_of}
use Rattle.ccr_choice.proofs.Lookups.{builds_ascend}
use Rattle.ccr_index.proofs.IndexLaws.{builds_few_pairs, builds_rule}
use Rattle.ccr_choice.specs.Dominated.{IsNamedIn}
use Rattle.ccr_index.specs.Alike.{does_count, AreCounted}
use Rattle.ccr_index.specs.Rows.{JobRowsValue}
use Rattle.ccr_index.proofs.IndexLaws.{counted_push}
use Rattle.ccr_index.proofs.build.jobs_of.Goals as goal

pub rows_of-requires : goal.rows_of-requires
rows_of-requires c = record {
  ascending = builds_ascend _ c.builds.result.now c.builds.ensures.kept;
  few = builds_few_pairs _ c.builds.result.now (rules_of c.args.problem.now c.jobs-j-end.ensures.kept).few_scopes c.builds.ensures.kept;
  limit = (builds_rule _ c.builds.result.now c.builds.ensures.kept).0;
}

pub loop-j-preserved : goal.loop-j-preserved
loop-j-preserved c =
    let p = c.args.problem.now in
    let js = c.loop-j.jobs.items in
    let j = c.loop-j.j in
    let r : JobRowsValue = c.in_ok-rows_of.field-0 in
    let f : JobRowsValue → List Bool = λ x. x.scopes in
    let many : length js ≡ length (take j p.jobs) = sym (length-map js (λ x. x.builds)) ∙ ap length c.loop-j.invariant.0 in
    let long : length (take j p.jobs) ≡ j = length-take-le j p.jobs (omega (arith, c.loop-j-test.true, ap length c.jobs-j-end.ensures.value)) in
    let at : j ≡ length (map f js) = omega (arith, many, long, length-map js f) in
    let C : List Bool → ℕ → ℕ → Type 0 = λ ss n scope. IsTrue (does_count ss scope) ↔ IsNamedIn p n scope in
    let new : (scope : ℕ) → C r.scopes (length (map f js)) scope = λ scope. (let P : ℕ → Type 0 = λ n. C r.scopes n scope in
    let Q : List Bool → Type 0 = λ ss. C ss j scope in
    subst P at (subst Q (sym c.in_ok-rows_of.ensures.scopes) (c.scopes_of-scopes.ensures scope))) in
    let R : List (List Bool) → Type 0 = λ ss. AreCounted p.inputs ss in (
      grind (arith, common_steps),
      subst R (sym (ap (map f) c.in_ok-push.ensures.items ∙ map-append f js (r ∷ []))) (counted_push p.inputs (map f js) r.scopes c.loop-j.invariant.1 new),
    )
