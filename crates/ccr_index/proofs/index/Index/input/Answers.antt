use Rattle.ccr_index.proofs.IndexLaws.{input_facts}
use Rattle.ccr_index.proofs.index.Index.input.Goals as goal

pub returns : goal.returns
returns c =
    let facts = input_facts c.self.inside.inputs.items c.self.inside.jobs.items c.self.inside.tops c.self.inside.spare_places c.self.inside.spare_pairs c.self.invariant
    c.args.self.now c.self.view_is c.args.input c.index.result.now c.requires c.index.ensures in
    record { value = facts.value; rising = facts.rising; below = facts.below; kept = facts.kept }
