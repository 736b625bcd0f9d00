use Rattle.std.proofs.Common.{◌≡◌, ◌∙◌, ℕ, arith, map}
use Rattle.schedule_model.specs.Seen.{place_seen}
use Rattle.phase_machine.specs.Now.{holder_now, requester_now}
use Rattle.shared_choosing.specs.Scene.{place_in, stays}
use Rattle.shared_choosing.proofs.Writing.{kept_places, kept_named}
use Rattle.shared_choosing.proofs.choosing.keep_all.Goals as goal

pub returns : goal.returns
returns c =
    let m = c.args.machine.now in
    let kept : (q : ℕ) → place_in (map place_seen c.loop-q.holders) q ≡ stays (requester_now m q) (holder_now m q) =
    kept_places m c.loop-q.holders c.resources_of-q-end.ensures.machine (c.loop-q.invariant.len ∙ c.requires)
    (λ q l. c.loop-q.invariant.each q (omega (arith, l, c.loop-q-test.false, c.resources_of-q-end.ensures.value))) in
    record { len = c.loop-q.invariant.len; kept = kept; named = kept_named m c.loop-q.holders kept }
