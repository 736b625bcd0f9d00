-- Bounds that fit under a protocol fit under a closer analysis of it. So the closer one of two runs writes no greater bound.
use Rattle.std.specs.Prelude.{◌≡◌, ◌≢◌}
use Rattle.sporadic_model.specs.SetDef.{SetDef}
use Rattle.protocol_names.specs.declared.ProtocolName.{ProtocolName}
use Rattle.sha2.specs.Sha256.{sha256}
use Rattle.named_laws.specs.Named.{IsCloserThan}
use Rattle.named_laws.proofs.CloserNames.{named_closer_fits}
use Rattle.run_plans.specs.Headline.{Call, WritesSchedulable}
use Rattle.run_plans.specs.Run.{IsRun}
use Rattle.run_plans.specs.Compared.{AnalyseOneSet, RaisesNoBound}

plain_writes : (plain closer : ProtocolName) (first second : Call) (set : SetDef) → IsRun first
    → (two : AnalyseOneSet plain closer first second set) → first.status ≡ 0
    → WritesSchedulable first plain (sha256 two.plain_call.read.bytes) set
plain_writes plain closer first second set run two done = (run.headline plain set two.plain_call).least done

pub raises_no_bound : (plain closer : ProtocolName) (first second : Call) (set : SetDef) → IsCloserThan closer plain → IsRun first
    → IsRun second → (two : AnalyseOneSet plain closer first second set) → first.status ≡ 0 → second.status ≡ 0
    → RaisesNoBound plain closer first second set two
raises_no_bound plain closer first second set is run other two done ended =
    let without = plain_writes plain closer first second set run two done in
    let with_more = (other.headline closer set two.closer_call).least ended in
    record {
      plain_written = without;
      closer_written = with_more;
      no_greater = with_more.least.least without.certificate.bounds
          (named_closer_fits closer plain set without.certificate.bounds is without.least.fitting);
    }

pub stays_shown : (plain closer : ProtocolName) (first second : Call) (set : SetDef) → IsCloserThan closer plain → IsRun first
    → IsRun second → AnalyseOneSet plain closer first second set → first.status ≡ 0 → second.status ≢ 1
stays_shown plain closer first second set is run other two done none =
    let without = plain_writes plain closer first second set run two done in
    (other.headline closer set two.closer_call).none none without.certificate.bounds
    (named_closer_fits closer plain set without.certificate.bounds is without.least.fitting)
