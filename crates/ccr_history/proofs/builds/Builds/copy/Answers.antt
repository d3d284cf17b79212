use Rattle.ccr_history.proofs.builds.Builds.copy.Goals as goal

pub invariant_of-result : goal.invariant_of-result
invariant_of-result c =
    rw (c.in_ok-copy.ensures, c.in_ok-copy-2.ensures, c.in_ok-copy-3.ensures, c.in_ok-copy_jobs.ensures, c.deref.ensures.value) c.self.invariant
