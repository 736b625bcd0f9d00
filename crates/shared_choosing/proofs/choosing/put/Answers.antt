use Rattle.std.proofs.Common.{length-set, map}
use Rattle.std.proofs.Math.ListN.{set}
use Rattle.schedule_model.specs.Seen.{place_seen}
use Rattle.shared_choosing.specs.Scene.{place_in}
use Rattle.shared_choosing.proofs.Writing.{put_here, put_others, put_named}
use Rattle.shared_choosing.proofs.choosing.put.Goals as goal

pub returns : goal.returns
returns c = record {
  len = length-set c.args.places.now c.args.i c.args.job;
  here = put_here c.args.places.now c.args.i c.args.job c.requires;
  others = λ k other. put_others c.args.places.now c.args.i c.args.job k other;
  named = λ n named listed.
      put_named n (place_in (map place_seen c.args.places.now))
      (place_in (map place_seen (set c.args.places.now c.args.i c.args.job))) c.args.i c.args.job
      (put_here c.args.places.now c.args.i c.args.job c.requires)
      (λ k other. put_others c.args.places.now c.args.i c.args.job k other) named listed;
}
