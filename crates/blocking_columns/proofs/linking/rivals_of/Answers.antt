use Rattle.std.proofs.Common.{List, take, take_all, subst, sym}
use Rattle.std.specs.Prelude.{slice_index_or}
use Rattle.std.proofs.lemmas.List.{take_more}
use Rattle.sporadic_model.specs.declared.ids.ResourceId.{ResourceId}
use Rattle.blocking_columns.specs.Links.{AreRivalsOf}
use Rattle.blocking_columns.proofs.Rivals.{all_rivals, next_rivals}
use Rattle.blocking_columns.proofs.linking.rivals_of.Goals as goal

pub loop-r-preserved : goal.loop-r-preserved
loop-r-preserved c =
    let set = c.args.set.now in
    let used = c.used_by-used.result.now in
    let index = c.loop-r.r-index in
    record {
      rivals = subst (λ (rs : List ResourceId). AreRivalsOf set c.args.i.0 rs c.add_users.new.rivals.items)
          (sym (take_more used index (record { 0 = 0 }) c.loop-r-test.true))
          (next_rivals set c.args.i.0 (take index used) (slice_index_or used index (record { 0 = 0 })) c.loop-r.rivals.items
          c.add_users.new.rivals.items c.loop-r.invariant.rivals c.in_ok-add_users.ensures.users);
      known = c.in_ok-add_users.ensures.known;
    }

pub returns : goal.returns
returns c =
    let set = c.args.set.now in
    let used = c.used_by-used.result.now in
    record {
      are = all_rivals set c.args.i.0 used c.loop-r.rivals.items c.used_by-used.ensures.value
          (subst (λ (rs : List ResourceId). AreRivalsOf set c.args.i.0 rs c.loop-r.rivals.items)
          (take_all c.loop-r.r-index used c.loop-r-test.false) c.loop-r.invariant.rivals);
      known = c.loop-r.invariant.known;
    }
