-- Steps and jobs without their timeouts.
use Rattle.std.specs.Prelude.{None}
use Rattle.ccr_pipeline.specs.JobData.{JobData}
use Rattle.ccr_pipeline.specs.Tree.{Tree, Trees, get, put, task, in_order, in_parallel, tried, attempts, hook, no_trees, tree}

abbrev mutual
  -- a step without the timeouts of the gets, puts and tasks in it
  pub untimed : Tree → Tree
  untimed (get g) = get (record g { timeout = None })
  untimed (put p) = put (record p { timeout = None })
  untimed (task t) = task (record t { timeout = None })
  untimed (in_order ts) = in_order (untimed_each ts)
  untimed (in_parallel ts fast) = in_parallel (untimed_each ts) fast
  untimed (tried t) = tried (untimed t)
  untimed (attempts n t) = attempts n (untimed t)
  untimed (hook w t h) = hook w (untimed t) (untimed h)

  -- the steps of a list without theirs
  pub untimed_each : Trees → Trees
  untimed_each no_trees = no_trees
  untimed_each (tree t ts) = tree (untimed t) (untimed_each ts)

-- a job without the timeouts of its plan
abbrev pub untimed_job : JobData → JobData
untimed_job j = record j { plan = untimed j.plan }
