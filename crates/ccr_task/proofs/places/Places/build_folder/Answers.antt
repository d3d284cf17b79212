use Rattle.std.proofs.Common.{◌∷◌, append_assoc, string_bytes, decimal, rules}
use Rattle.ccr_task.proofs.places.Places.build_folder.Goals as goal

pub returns : goal.returns
returns c = rw (append_assoc (string_bytes c.args.self.now.work) (47 ∷ c.args.job.now) (47 ∷ decimal c.args.number)) (search rules)
