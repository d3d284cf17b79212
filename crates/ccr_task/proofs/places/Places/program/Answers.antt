use Rattle.std.proofs.Common.{◌∷◌, append_assoc, string_bytes, rules}
use Rattle.ccr_task.proofs.places.Places.program.Goals as goal

pub returns : goal.returns
returns c = rw (append_assoc (string_bytes c.args.self.now.types) (47 ∷ c.args.kind.now) (47 ∷ c.args.name.now)) (search rules)
