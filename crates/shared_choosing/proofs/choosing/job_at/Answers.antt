use Rattle.std.proofs.Common.{length, get_or, None, sym}
use Rattle.std.proofs.lemmas.List.{get_or_default}
use Rattle.phase_machine.proofs.Named.{read_below}
use Rattle.shared_choosing.proofs.Scenes.{place_shown}
use Rattle.shared_choosing.proofs.choosing.job_at.Goals as goal

pub returns : goal.returns
returns c = record {
  value = sym (place_shown c.args.places.now c.args.i);
  within =
      read_below c.args.places.now c.args.i (length c.args.machine.now.list.jobs) (get_or c.args.places.now c.args.i None) c.requires.within
      (get_or_default c.args.places.now c.args.i None (get_or c.args.places.now c.args.i None) c.requires.within)
      (λ j e. c.requires.named c.args.i j e);
}
