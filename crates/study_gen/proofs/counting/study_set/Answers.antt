use Rattle.std.proofs.Common.{◌≡◌, sym, ◌∙◌, subst}
use Rattle.sporadic_model.specs.SetDef.{SetDef}
use Rattle.sporadic_model.specs.Homes.{EachHasHome}
use Rattle.sporadic_model.specs.declared.ids.Protocol.TheVariants as protocol
use Rattle.study_gen.specs.Sets.{set_made}
use Rattle.study_gen.specs.Tallies.{Adds}
use Rattle.study_gen.proofs.counting.study_set.Goals as goal

pub tally_set-requires-3-clause-suits : goal.tally_set-requires-3-clause-suits
tally_set-requires-3-clause-suits g c = λ κs h. subst (λ (x : SetDef). EachHasHome x) (sym c.in_ok-set.ensures) c.in_ok-parts.ensures.homes

pub returns : goal.returns
returns g c =
    let same : c.in_ok-set.set ≡ set_made c.args.step c.args.before.state = c.in_ok-set.ensures ∙ c.in_ok-parts.ensures.parts in
    record {
      mpcp = subst (λ (x : SetDef). Adds c.args.before.mpcp c.in_ok-tally_set.field-0 protocol.Mpcp x) same c.in_ok-tally_set.ensures;
      fmlp = subst (λ (x : SetDef). Adds c.args.before.fmlp c.in_ok-tally_set-2.field-0 protocol.FmlpPlus x) same
          c.in_ok-tally_set-2.ensures;
      dpcp = subst (λ (x : SetDef). Adds c.args.before.dpcp c.in_ok-tally_set-3.field-0 protocol.Dpcp x) same c.in_ok-tally_set-3.ensures;
      state = c.in_ok-parts.ensures.state;
    }
