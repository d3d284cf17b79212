use Rattle.ccr_index.proofs.IndexLaws.{rows_facts}
use Rattle.ccr_index.proofs.index.Index.rows.Goals as goal

pub returns : goal.returns
returns c =
    let facts = rows_facts c.self.inside.inputs.items c.self.inside.jobs.items c.self.inside.tops c.self.inside.spare_places c.self.inside.spare_pairs c.self.invariant
    c.args.self.now c.self.view_is c.args.job c.index.result.now c.requires c.index.ensures in
    record { value = facts.value; few = facts.few; descending = facts.descending; limit = facts.limit; counted = facts.counted }
