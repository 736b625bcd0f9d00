use Rattle.std.proofs.Common.{◌∙◌, sym, not}
use Rattle.serde_json.specs.View.{view}
use Rattle.sporadic_model.proofs.Mapped.{position-map}
use Rattle.cert_json.specs.Form.{is_dual}
use Rattle.cert_json.proofs.refusing.first_misshapen.Goals as goal

pub returns-in-Some : goal.returns-in-Some
returns-in-Some c = sym c.in-Some.is ∙ c.misshapen.ensures.place ∙ sym (position-map view (λ e. not (is_dual e)) c.args.duals.now)

pub returns-in-None : goal.returns-in-None
returns-in-None c = sym c.in-None.is ∙ c.misshapen.ensures.place ∙ sym (position-map view (λ e. not (is_dual e)) c.args.duals.now)
