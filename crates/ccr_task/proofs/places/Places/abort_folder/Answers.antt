use Rattle.std.proofs.Common.{◌∷◌, ◌++◌, append_assoc, string_bytes, decimal, codes, rules}
use Rattle.ccr_task.proofs.places.Places.abort_folder.Goals as goal

pub returns : goal.returns
returns c = rw (append_assoc (string_bytes c.args.self.now.work) (47 ∷ c.args.job.now) (47 ∷ (codes "abort-" ++ decimal c.args.number))) (search rules)
