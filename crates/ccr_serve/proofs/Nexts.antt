-- Whose turn it is, told by the names of the builds that run.
use Rattle.std.proofs.Common.{◌≡◌, ℕ, zero, suc, ◌+◌, ◌≤◌, List, [], ◌∷◌, map, find, slice_get, nat_lt, Bool, true, false, cond, Option, Some, None, option_map, refl, sym, ◌∙◌, ap, subst, arith}
use Rattle.std.specs.Option.{option_or}
use Rattle.ccr_history.specs.Text.{Text}
use Rattle.ccr_history.specs.Builds.{BuildData}
use Rattle.ccr_history.specs.History.{HistoryData, AreNumbered}
use Rattle.ccr_core.specs.Holding.{CoreData, Stands}
use Rattle.ccr_core.specs.Picking.{name_of}
use Rattle.ccr_core.specs.Positions.{AreInOrder}
use Rattle.ccr_core.specs.State.{RunningData, State, is_run_of, running_at}
use Rattle.ccr_core.proofs.Opening.{names_are}
use Rattle.ccr_core.proofs.RunningLists.{id_refl, id_same}
use Rattle.ccr_serve.specs.Due.{next_name, IsTurnOf}
use Rattle.ccr_serve.specs.Turns.{rank_of, rank_in, next_after}
use Rattle.ccr_serve.proofs.Ranks.{made_ranked}

-- ---- from names to builds
first_named : (bs : List RunningData) → slice_get (map name_of bs) 0 ≡ option_map name_of (slice_get bs 0)
first_named [] = refl
first_named (b ∷ bs) = refl

or_named : (a b : Option RunningData)
    → option_or (option_map name_of a) (option_map name_of b) ≡ option_map name_of (option_or a b)
or_named None b = refl
or_named (Some x) b = refl

back_named : (o : Option RunningData) (n : Text × ℕ) → option_map name_of o ≡ Some n
    → (b : RunningData) × (o ≡ Some b) × (name_of b ≡ n)
back_named None n e = absurd (cc e)
back_named (Some b) n e = (b, refl, cc e)

module _ (h : HistoryData) (last : ℕ) where
  abbrev is_name_after : Text × ℕ → Bool
  is_name_after n = nat_lt last (rank_of n.0 n.1 h.builds)

  abbrev is_after : RunningData → Bool
  is_after b = nat_lt last (rank_in h b)

  find_named : (bs : List RunningData) → find is_name_after (map name_of bs) ≡ option_map name_of (find is_after bs)
  find_named [] = refl
  find_named (b ∷ bs) = by (is_after b) (find_named bs) where
    by : (t : Bool) → find is_name_after (map name_of bs) ≡ option_map name_of (find is_after bs)
        → cond t (Some (name_of b)) (find is_name_after (map name_of bs))
        ≡ option_map name_of (cond t (Some b) (find is_after bs))
    by true more = refl
    by false more = more

  next_named : (bs : List RunningData)
      → next_name h last (map name_of bs) ≡ option_map name_of (next_after (rank_in h) last bs)
  next_named bs =
      ap (λ o. option_or o (slice_get (map name_of bs) 0)) (find_named bs)
      ∙ (ap (λ o. option_or (option_map name_of (find is_after bs)) o) (first_named bs)
      ∙ or_named (find is_after bs) (slice_get bs 0))

-- ---- the build whose turn it is runs
abbrev IsAmong : List RunningData → RunningData → Type 0
IsAmong bs b = (k : ℕ) × (slice_get bs k ≡ Some b)

found_among : (is : RunningData → Bool) (bs : List RunningData) (b : RunningData) → find is bs ≡ Some b → IsAmong bs b
found_among is [] b e = absurd (cc e)
found_among is (x ∷ bs) b e = by (is x) (found_among is bs b) e where
  by : (t : Bool) → (find is bs ≡ Some b → IsAmong bs b) → cond t (Some x) (find is bs) ≡ Some b → IsAmong (x ∷ bs) b
  by true more e = (0, e)
  by false more e = let rest = more e in (suc rest.0, rest.1)

either_among : (bs : List RunningData) (a c : Option RunningData) (b : RunningData) → (a ≡ Some b → IsAmong bs b)
    → (c ≡ Some b → IsAmong bs b) → option_or a c ≡ Some b → IsAmong bs b
either_among bs None c b first second e = second e
either_among bs (Some x) c b first second e = first e

next_among : (rank : RunningData → ℕ) (last : ℕ) (bs : List RunningData) (b : RunningData)
    → next_after rank last bs ≡ Some b → IsAmong bs b
next_among rank last bs b e =
    either_among bs (find (λ x. nat_lt last (rank x)) bs) (slice_get bs 0) b
    (found_among (λ x. nat_lt last (rank x)) bs b) (λ at. (0, at)) e

-- ---- builds in order of making are found by their names
module _ (builds : List BuildData) (numbered : AreNumbered builds) where
  later : (bs : List RunningData) (least : ℕ) → AreInOrder builds least (map name_of bs) → (k : ℕ) (b : RunningData)
      → slice_get bs k ≡ Some b → least + 1 ≤ rank_of b.job b.number builds
  later [] least order k b at = absurd (cc at)
  later (x ∷ bs) least (p, le, made, rest) zero b at =
      let same : x ≡ b = cc at in
      let ranked : rank_of x.job x.number builds ≡ p + 1 = made_ranked x.job x.number builds numbered p made in
      subst (λ y. least + 1 ≤ rank_of y.job y.number builds) same (omega (arith, ranked, le))
  later (x ∷ bs) least (p, le, made, rest) (suc k) b at =
      let more : (p + 1) + 1 ≤ rank_of b.job b.number builds = later bs (p + 1) rest k b at in omega (arith, more, le)

  found_by_name : (bs : List RunningData) (least : ℕ) → AreInOrder builds least (map name_of bs) → (k : ℕ)
      (b : RunningData) → slice_get bs k ≡ Some b → running_at b.job b.number bs ≡ Some b
  found_by_name [] least order k b at = absurd (cc at)
  found_by_name (x ∷ bs) least order zero b at =
      let same : x ≡ b = cc at in
      subst (λ y. running_at y.job y.number (x ∷ bs) ≡ Some y) same
      (ap (λ t. cond t (Some x) (running_at x.job x.number bs)) (id_refl x.job x.number))
  found_by_name (x ∷ bs) least (p, le, made, rest) (suc k) b at =
      by (is_run_of b.job b.number x) refl (found_by_name bs (p + 1) rest k b at) where
        by : (t : Bool) → is_run_of b.job b.number x ≡ t → running_at b.job b.number bs ≡ Some b
            → cond t (Some x) (running_at b.job b.number bs) ≡ Some b
        by false is more = more
        by true is more =
            let (job, number) = id_same b.job x.job b.number x.number is in
            let ranked : rank_of x.job x.number builds ≡ p + 1 = made_ranked x.job x.number builds numbered p made in
            let same : rank_of b.job b.number builds ≡ rank_of x.job x.number builds =
            ap (λ j. rank_of j b.number builds) job ∙ ap (λ n. rank_of x.job n builds) number in
            let after : (p + 1) + 1 ≤ rank_of b.job b.number builds = later bs (p + 1) rest k b at in
            absurd (omega (arith, ranked, same, after))

-- ---- in each state that the core stands for
pub turn_of : (c : CoreData) (last : ℕ) (job : Text) (number rank : ℕ) → AreNumbered c.history.builds
    → AreInOrder c.history.builds 0 c.names → next_name c.history last c.names ≡ Some (job, number)
    → rank ≡ rank_of job number c.history.builds → (s : State) → Stands c s → IsTurnOf s last job number rank
turn_of c last job number rank numbered order next ranked s stands =
    let names : c.names ≡ map name_of s.running = sym (names_are c.names c.runs s.running stands.3) in
    let named : next_name s.history last (map name_of s.running) ≡ Some (job, number) =
    subst (λ ns. next_name s.history last ns ≡ Some (job, number)) names
    (subst (λ h. next_name h last c.names ≡ Some (job, number)) stands.0 next) in
    let (b, is, same) = back_named (next_after (rank_in s.history) last s.running) (job, number)
    (sym (next_named s.history last s.running) ∙ named) in
    let (k, at) = next_among (rank_in s.history) last s.running b is in
    let found : running_at b.job b.number s.running ≡ Some b =
    found_by_name c.history.builds numbered s.running 0 (subst (AreInOrder c.history.builds 0) names order) k b at in
    record {
      build = b;
      next = is;
      there = subst (λ n. running_at n.0 n.1 s.running ≡ Some b) same found;
      ranked = ranked ∙ (ap (λ n. rank_of n.0 n.1 c.history.builds) (sym same)
          ∙ ap (λ h. rank_in h b) stands.0);
    }

-- nobody's turn
or_none : {A : Type 0} (o : Option A) (x : A) → option_or o (Some x) ≡ None → ⊥
or_none None x e = absurd (cc e)
or_none (Some y) x e = absurd (cc e)

pub nobody_runs : (h : HistoryData) (last : ℕ) (names : List (Text × ℕ)) → next_name h last names ≡ None → names ≡ []
nobody_runs h last [] e = refl
nobody_runs h last (n ∷ ns) e =
    absurd (or_none (find (λ m. nat_lt last (rank_of m.0 m.1 h.builds)) (n ∷ ns)) n e)
