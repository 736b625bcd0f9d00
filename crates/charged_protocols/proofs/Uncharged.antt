-- A tick has no charge exactly where it isn't blocked.
use Rattle.std.proofs.Common.{◌≡◌, Bool, true, false, refl, sym, ◌∙◌, Option, Some, None}
use Rattle.std.specs.Prelude.{◌↔◌}
use Rattle.schedule_model.specs.declared.job.JobId.{JobId}
use Rattle.blocking_columns.specs.declared.columns.Class.{Class}
use Rattle.charge_laws.specs.Charges.{Charge}
use Rattle.charged_protocols.specs.Seen.{charge_seen}

-- Where the answer is the charge, blocked ticks have one, and no others have.
pub none_where_free : (answer : Option (JobId × Class)) (charge : Option Charge) (blocked : Bool) → charge_seen answer ≡ charge
    → (blocked ≡ true → (c : Charge) × (charge ≡ Some c)) → ((c : Charge) → charge ≡ Some c → blocked ≡ true)
    → (answer ≡ None) ↔ (blocked ≡ false)
none_where_free None charge true e some only =
    let a : (c : Charge) × (charge ≡ Some c) = some refl in absurd (let x : None ≡ Some a.0 = e ∙ a.1 in cc)
none_where_free None charge false e some only = (λ h. refl, λ h. refl)
none_where_free (Some a) charge false e some only =
    let on : false ≡ true = only (record { job = a.0.0; class = a.1 }) (sym e) in absurd (cc)
none_where_free (Some a) charge true e some only = (λ h. absurd (cc), λ h. absurd (cc))
