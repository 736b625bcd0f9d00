use Rattle.std.proofs.Common.{◌≡◌, ℕ, List, ap, inl}
use Rattle.std.specs.Prelude.{slice_index}
use Rattle.program_form.specs.Certificate.{CertificateDef, certificate_seen}
use Rattle.report.specs.FullTable.{full_text}
use Rattle.run_plans.proofs.JudgementLaws.{listed_table}
use Rattle.block_top.proofs.judging.full_table_reply.Goals as goal

pub returns : goal.returns
returns c =
    let cert : CertificateDef = certificate_seen c.args.certificate.now in
    let values : List ℕ = c.in_ok-valid.valid.values.items in
    let text : c.in_ok-full_table.field-0.items ≡ full_text c.args.set.now cert.bounds (slice_index values) =
    rw (c.deref.ensures.value) at c.in_ok-full_table.ensures in
    inl (
      c.in_ok-valid.ensures.valid.0,
      listed_table c.args.protocol c.args.set.now cert values (record { status = 0; text = c.in_ok-full_table.field-0.items })
          c.in_ok-valid.ensures.valid.1 (ap (λ (t : List ℕ). record { status = 0; text = t }) text),
    )
