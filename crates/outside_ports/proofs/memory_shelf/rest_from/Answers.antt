use Rattle.std.proofs.Common.{refl}
use Rattle.std.proofs.lemmas.List.{take_rest, drop_min}
use Rattle.outside_ports.proofs.Places.{rest_at-file}
use Rattle.outside_ports.proofs.memory_shelf.rest_from.Goals as goal

pub returns-then-place-files-clause-bytes : goal.returns-then-place-files-clause-bytes
returns-then-place-files-clause-bytes c = rw (
  take_rest,
  c.min.ensures,
  drop_min,
  c.as_slice-bytes.ensures.value,
  rest_at-file c.args.files.now c.args.place c.args.at c.index-files-place.result c.if-place-files.true,
  ← c.index-files-place.is,
) refl
