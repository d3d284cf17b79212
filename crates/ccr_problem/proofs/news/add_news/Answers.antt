use Rattle.std.proofs.Common.{Vec, Global, ◌≡◌, ◌+◌, ◌<◌, ℕ, suc, List, [], length, map, take, drop, slice_index_or, refl, ap, sym, ◌∙◌, arith}
use Rattle.std.proofs.lemmas.List.{length-map, get_or-map}
use Rattle.ccr_choice.specs.Problem.{ProblemValue, are_places_after, input_at}
use Rattle.ccr_index.specs.Rows.{last_after}
use Rattle.ccr_problem.specs.Passing.{how_many, with_more, with_news}
use Rattle.ccr_problem.proofs.IndexPlaces.{news_step, news_later, news_none, news_ascend, many_left, length-news}
use Rattle.ccr_problem.proofs.news.add_news.Goals as goal

pub loop-i-init : goal.loop-i-init
loop-i-init c = record {
  so_far = ap {B = ProblemValue} (λ xs. record { inputs = xs; jobs = c.args.index.now.problem.jobs }) (sym (news_none c.args.index.now.problem.inputs));
  room = c.requires.room;
  pairs = refl;
}

pub add_places-requires-clause-input : goal.add_places-requires-clause-input
add_places-requires-clause-input c =
    let so_far = ap (λ (q : ProblemValue). length q.inputs) c.loop-i.invariant.so_far in
    let same = length-news c.args.index.now.problem.inputs (take c.loop-i.i (map (λ y. y.items) c.args.news.now)) in
    omega (arith, so_far, same, c.loop-i-test.true, c.requires.each)

-- the places that come to an input
there : (news : List (Vec ℕ Global)) (i : ℕ) (x : Vec ℕ Global) (ns : List ℕ) → i < length news → x ≡ slice_index_or news i x → ns ≡ x.items → slice_index_or (map (λ y. y.items) news) i [] ≡ ns
there news i x ns within is value = get_or-map (λ y. y.items) news i x [] within ∙ ap (λ y. y.items) (sym is) ∙ sym value

pub add_places-requires-clause-rules : goal.add_places-requires-clause-rules
add_places-requires-clause-rules c =
    let q : ProblemValue = c.args.index.now.problem in
    let i = c.loop-i.i in
    let more : List (List ℕ) = map (λ y. y.items) c.args.news.now in
    let inside : i < length more = omega (arith, c.loop-i-test.true, length-map c.args.news.now (λ y. y.items)) in
    let within : i < length q.inputs = omega (arith, c.loop-i-test.true, c.requires.each) in
    let same : input_at c.loop-i.index.problem i ≡ input_at q i = ap (λ (x : ProblemValue). input_at x i) c.loop-i.invariant.so_far ∙ news_later q.inputs more i in
    ap (λ x. are_places_after (last_after 0 x.places) c.deref.result.now) same
    ∙ ap (are_places_after (last_after 0 (input_at q i).places)) (sym (there c.args.news.now c.loop-i.i c.index-news-i.result c.deref.result.now c.loop-i-test.true c.index-news-i.is c.deref.ensures.value)) ∙ news_ascend q more i c.requires.rules within inside

pub add_places-requires-clause-room : goal.add_places-requires-clause-room
add_places-requires-clause-room c =
    let i = c.loop-i.i in
    let more : List (List ℕ) = map (λ y. y.items) c.args.news.now in
    let inside : i < length more = omega (arith, c.loop-i-test.true, length-map c.args.news.now (λ y. y.items)) in
    omega (arith, many_left more i inside, ap length (there c.args.news.now c.loop-i.i c.index-news-i.result c.deref.result.now c.loop-i-test.true c.index-news-i.is c.deref.ensures.value), c.loop-i.invariant.room)

pub loop-i-preserved : goal.loop-i-preserved
loop-i-preserved c =
    let q : ProblemValue = c.args.index.now.problem in
    let i = c.loop-i.i in
    let more : List (List ℕ) = map (λ y. y.items) c.args.news.now in
    let inside : i < length more = omega (arith, c.loop-i-test.true, length-map c.args.news.now (λ y. y.items)) in
    let e : suc i ≡ i + 1 = omega arith in
    let step = ap {B = ProblemValue} (λ xs. record { inputs = xs; jobs = q.jobs }) (news_step q.inputs more i inside) in
    let left = many_left more i inside in
    record {
      so_far = c.add_places.ensures.problem ∙ ap (λ x. with_more x i c.deref.result.now) c.loop-i.invariant.so_far
          ∙ ap (with_more (with_news q (take i more)) i) (sym (there c.args.news.now c.loop-i.i c.index-news-i.result c.deref.result.now c.loop-i-test.true c.index-news-i.is c.deref.ensures.value)) ∙ sym step ∙ ap (λ n. with_news q (take n more)) e;
      room = let same = ap (λ n. how_many (drop n more)) e in
          omega (arith, left, ap length (there c.args.news.now c.loop-i.i c.index-news-i.result c.deref.result.now c.loop-i-test.true c.index-news-i.is c.deref.ensures.value), c.loop-i.invariant.room, c.add_places.ensures.spare, same);
      pairs = c.add_places.ensures.pairs ∙ c.loop-i.invariant.pairs;
    }
