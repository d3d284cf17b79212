use Rattle.std.proofs.Common.{◌+◌, arith, take}
use Rattle.ccr_tables.specs.declared.write.Write.{Write}
use Rattle.ccr_tables.specs.declared.write.Write.TheVariants.{Version}
use Rattle.ccr_store.specs.Writes.{version_writes}
use Rattle.ccr_store.proofs.WriteLemmas.{pushed, version_more}
use Rattle.ccr_store.proofs.writes.write_versions.Goals as goal

pub loop-version-preserved : goal.loop-version-preserved
loop-version-preserved c =
    let i = c.loop-version.version-index in
    let place = c.loop-version.place in
    let so_far = c.loop-version.invariant in
    let w : Write = Version c.args.scope place c.in_ok-key.field-0 in
    record {
      place = omega (arith, so_far.place);
      written = pushed c.args.writes.now.items c.loop-version.writes.items c.push.new.self.items w (version_writes c.args.scope c.args.first (take i c.args.versions.now)) (version_writes c.args.scope c.args.first (take (i + 1) c.args.versions.now)) so_far.written c.in_ok-push.ensures.items
          (version_more c.args.scope c.args.first c.args.versions.now i place c.version-item.result _ so_far.place c.loop-version-test.true c.version-item.is c.in_ok-key.ensures.is);
    }
