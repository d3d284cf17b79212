use Rattle.std.proofs.Common.{◌≡◌, ◌++◌, map, take}
use Rattle.ccr_page.specs.Shapes.{node_data, job_node}
use Rattle.ccr_page.proofs.shape.push_job_nodes.Given as goal

abbrev pub invariant-loop-job : goal.invariant-loop-job
invariant-loop-job l = map node_data l.nodes.items ≡ map node_data l.fn.nodes.items ++ map job_node (take l.job-index l.jobs)
