use Rattle.std.proofs.Common.{sym, ap, ◌∙◌}
use Rattle.std.specs.Str.{bytes_eq}
use Rattle.outside_ports.proofs.Places.{bytes_of-found}
use Rattle.outside_ports.proofs.memory_shelf.place_of.Goals as goal

pub returns-then-eq : goal.returns-then-eq
returns-then-eq c =
    let named = ap (λ text. bytes_eq text c.args.name.now) (sym c.as_str.ensures.value) ∙ sym c.eq.ensures ∙ c.if-eq.true in
    sym c.loop-place.invariant ∙ bytes_of-found _ _ _ c.index-files-place.result c.loop-place-test.true c.index-files-place.is named
