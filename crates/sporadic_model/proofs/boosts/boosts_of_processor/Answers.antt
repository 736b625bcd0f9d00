use Rattle.std.proofs.Common.{◌∙◌, map, ap}
use Rattle.std.specs.Option.{option_map}
use Rattle.sporadic_model.specs.Seen.{parts_seen}
use Rattle.sporadic_model.specs.Users.{remote_ceiling_of}
use Rattle.sporadic_model.specs.declared.ids.TaskId.{TaskId}
use Rattle.sporadic_model.proofs.Filtered.{kept_more}
use Rattle.sporadic_model.proofs.boosts.boosts_of_processor.Goals as goal

pub loop-q-preserved : goal.loop-q-preserved
loop-q-preserved c =
    ap (map (option_map (λ (x : TaskId). x.0))) c.in_ok-push.ensures.items
    ∙ kept_more (option_map (λ (x : TaskId). x.0)) (λ q. remote_ceiling_of (parts_seen c.args.parts.now) q c.args.k) c.loop-q.q
    c.loop-q.row.items c.boost_of.result c.loop-q.invariant c.boost_of.ensures
