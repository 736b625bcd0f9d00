use Rattle.std.proofs.Common.{length, arith, rules}
use Rattle.std.proofs.lemmas.List.{length-map}
use Rattle.schedule_model.specs.Seen.{place_seen}
use Rattle.shared_choosing.proofs.choosing.enter.Goals as goal

pub returns : goal.returns
returns g c = record {
  columns = record {
    len = omega (
      arith,
      length-map c.args.running.now place_seen,
      length-map c.put_on.new.running place_seen,
      c.put_on.ensures.len,
      c.requires.job.places.columns.len,
    );
    named = c.put_on.ensures.named (length c.args.machine.now.list.jobs) c.requires.job.places.columns.named c.faster.ensures.listed;
  };
  each = search rules;
}
