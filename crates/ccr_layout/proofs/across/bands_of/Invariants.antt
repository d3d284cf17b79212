use Rattle.ccr_layout.specs.Bands.{AreRoomy}
use Rattle.ccr_layout.proofs.BandLaws.{AreBandsTo}
use Rattle.ccr_layout.proofs.across.bands_of.Given as goal

abbrev pub invariant-loop-column : goal.invariant-loop-column
invariant-loop-column l = record {
  beside : AreBandsTo l.column l.end l.bands.items;
  room : AreRoomy l.nodes l.spans l.bands.items l.column;
}
