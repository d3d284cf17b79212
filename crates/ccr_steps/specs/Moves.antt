-- What a build moves: the versions that it fetched for its inputs, and those that it pushed.
use Rattle.std.specs.Prelude.{◌⊎◌, List, Option, Contains}
use Rattle.serde_json.specs.Data.{Data}
use Rattle.ccr_history.specs.TextMap.{TextMap}
use Rattle.ccr_pipeline.specs.Tree.{Text, Tree}
use Rattle.ccr_steps.specs.declared.outcome.Outcome.{Outcome}
use Rattle.ccr_steps.specs.Asks.{fetch, done, Exchange, exchange, Chosen}
use Rattle.ccr_steps.specs.Fetches.{IsOfInput, WasPushed}
use Rattle.ccr_steps.specs.Gains.{MovedData, GainsData, no_gains}
use Rattle.ccr_steps.specs.Means.{Means}

-- in one of these exchanges a fetch of the version, as the one that was chosen for an input of the plan, was done
abbrev pub WasFetched : Chosen → Tree → List Exchange → (resource : Text) → TextMap → Type 0
WasFetched c t es resource v =
    (name : Text) × (params : Option Data)
    × IsOfInput c t name resource v × Contains es (exchange (fetch name resource v params) done)

-- WHAT A BUILD MOVED with a whole list of exchanges: each version was fetched for an input of the plan, or pushed
abbrev pub MovesItsOwn : Type 0
MovesItsOwn =
    (c : Chosen) (t : Tree) (es : List Exchange) (o : Outcome) (g : GainsData) → Means c t no_gains es o g
    → (m : MovedData) → Contains g.moved m → WasFetched c t es m.resource m.version ⊎ WasPushed es m.resource m.version
