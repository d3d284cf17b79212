use Rattle.std.proofs.Common.{[], ◌∷◌, refl, sym, subst}
use Rattle.ccr_history.specs.History.{IsHistory}
use Rattle.ccr_core.specs.Cores.{core_data}
use Rattle.ccr_core.specs.Events.{event_data}
use Rattle.ccr_serve.specs.Views.{bare_view}
use Rattle.ccr_serve.proofs.Commits.{asked_none, asked_one}
use Rattle.ccr_serve.proofs.Crash.{leaves_ready, stored, torn}
use Rattle.ccr_serve.proofs.server.Server.make.Goals as goal

pub returns-in-Ok-commit-clause-made : goal.returns-in-Ok-commit-clause-made
returns-in-Ok-commit-clause-made g c =
    let before = c.args.self.now.core.history in
    let after = (core_data c.step.new.self).history in
    record {
      takes = c.in-Ok.ensures.step;
      kept = c.in-Ok.ensures.kept;
      refused = tt;
      found_memory = λ is. absurd cc;
      ready = record {
        is_open = c.requires.ready.is_open;
        unfailed = c.in-Ok-commit.ensures.told;
        holds = stored (g.T.Storage.holds c.commit.new.self) before after c.deref.result.now c.in-Ok.change.items
            c.deref.ensures.value c.in-Ok.ensures.change
            (λ accepts. c.in-Ok-commit.ensures.done before c.requires.ready.holds accepts);
        leaves = stored (λ h. g.T.Storage.leaves c.commit.new.self (h ∷ [])) before after c.deref.result.now
            c.in-Ok.change.items c.deref.ensures.value c.in-Ok.ensures.change
            (λ accepts. c.in-Ok-commit.ensures.crash before (subst IsHistory c.history.ensures c.rules.ensures)
            c.requires.ready.holds c.requires.ready.leaves accepts);
      };
      commits = c.in-Ok-commit.ensures.counted;
      rest = record { last = refl; calls = refl; pairs = refl; places = refl; lines = refl };
    }

pub returns-in-Ok-clause-unmade : goal.returns-in-Ok-clause-unmade
returns-in-Ok-clause-unmade g c =
    let before = c.args.self.now.core.history in
    let after = (core_data c.step.new.self).history in
    record {
      back = (refl, c.in-Err-commit.ensures.told);
      holds = c.in-Err-commit.ensures.refused _ c.requires.ready.holds;
      crash = torn (g.T.Storage.leaves c.commit.new.self) (core_data c.args.self.now.core) (core_data c.step.new.self)
          (event_data c.args.event) c.in-Ok.reply c.in-Ok.ensures.step c.in-Ok.ensures.kept
          (stored (λ h. g.T.Storage.leaves c.commit.new.self (h ∷ before ∷ [])) before after c.deref.result.now
          c.in-Ok.change.items c.deref.ensures.value c.in-Ok.ensures.change
          (λ accepts. c.in-Err-commit.ensures.crash before (subst IsHistory c.history.ensures c.rules.ensures)
          c.requires.ready.holds c.requires.ready.leaves accepts));
      commits = asked_one _ _ c.in-Err-commit.ensures.counted;
      rest = record { last = refl; calls = refl; pairs = refl; places = refl; lines = refl };
    }

pub returns-in-Err-NoMemory-clause-unmade : goal.returns-in-Err-NoMemory-clause-unmade
returns-in-Err-NoMemory-clause-unmade g c =
    let view = bare_view g.R.Runner g.S.Shelf g.T.Storage in
    let old = view c.args.self.now in
    let same = c.in-Err-NoMemory.ensures.unchanged in
    let ready = c.requires.ready in
    record {
      back = (
        same,
        record {
          is_open = ready.is_open;
          unfailed = ready.unfailed;
          holds = subst (λ k. old.holds k.history) (sym same) ready.holds;
          leaves = subst (λ k. old.leaves (k.history ∷ [])) (sym same) ready.leaves;
        },
      );
      holds = ready.holds;
      crash = λ s is. leaves_ready _ old s ready is;
      commits = asked_none _;
      rest = record { last = refl; calls = refl; pairs = refl; places = refl; lines = refl };
    }
