use Rattle.std.proofs.Common.{◌≡◌, pos, ◌-ℤ◌, ◌*ℤ◌, FitsSigned, w64, rules}
use Rattle.whole_rows.specs.Rows.{AreBelow, listed_row}
use Rattle.whole_rows.specs.Short.{IsFactor, AreLeft}
use Rattle.whole_rows.proofs.Read.{read}
use Rattle.whole_rows.proofs.ShortRows.{listed_places, can_subtract, limit_room, left_bounded, leaves_listed}
use Rattle.whole_rows.proofs.short_row.ShortRow.less.Goals as goal

pub less_listed-requires : goal.less_listed-requires
less_listed-requires c =
    let row = c.self.inside in
    let fits_f : FitsSigned w64 c.in-Some.found.0 = search rules in
    let factor : IsFactor (listed_row row.places row.entries.items row.limit) c.args.k c.args.pivot.now c.in-Some.found.0 c.in-Some.found.1 =
    rw (← c.self.view_is) at c.in-Some.ensures in
    let below : AreBelow row.places c.args.pivot.now.entries =
    rw (← c.self.view_is, listed_places row.places row.entries.items row.limit) at c.requires.below in
    rw (read _ fits_f, c.deref.ensures.value, c.entries.ensures.value)
    (can_subtract row.places row.entries.items row.limit c.args.k c.in-Some.found.0 c.in-Some.found.1 c.args.pivot.now
    c.self.invariant.sparse c.self.invariant.below below factor)

pub less_times-requires : goal.less_times-requires
less_times-requires c =
    let row = c.self.inside in
    let fits_f : FitsSigned w64 c.in-Some.found.0 = search rules in
    let fits_own : FitsSigned w64 c.self.inside.limit = search rules in
    let fits_limit : FitsSigned w64 c.limit.result = search rules in
    let factor : IsFactor (listed_row row.places row.entries.items row.limit) c.args.k c.args.pivot.now c.in-Some.found.0 c.in-Some.found.1 =
    rw (← c.self.view_is) at c.in-Some.ensures in
    rw (read _ fits_own, read _ fits_f, read _ fits_limit, c.limit.ensures)
    (limit_room row.places row.entries.items row.limit c.args.k c.in-Some.found.0 c.in-Some.found.1 c.args.pivot.now factor)

pub invariant_of-result : goal.invariant_of-result
invariant_of-result c =
    let row = c.self.inside in
    let fits_f : FitsSigned w64 c.in-Some.found.0 = search rules in
    let fits_own : FitsSigned w64 c.self.inside.limit = search rules in
    let fits_limit : FitsSigned w64 c.limit.result = search rules in
    let fits_rest : FitsSigned w64 c.less_times.result = search rules in
    let factor : IsFactor (listed_row row.places row.entries.items row.limit) c.args.k c.args.pivot.now c.in-Some.found.0 c.in-Some.found.1 =
    rw (← c.self.view_is) at c.in-Some.ensures in
    let left : AreLeft row.places row.entries.items c.args.k c.in-Some.found.0 c.args.pivot.now.entries c.in_ok-entries.entries.items =
    rw (read _ fits_f, c.deref.ensures.value, c.entries.ensures.value) at c.in_ok-entries.ensures in
    let rest : c.less_times.result ≡ (row.limit *ℤ pos 1) -ℤ (c.in-Some.found.0 *ℤ c.args.pivot.now.limit) =
    rw (read _ fits_own, read _ fits_f, read _ fits_limit, c.limit.ensures) at c.less_times.ensures in
    rw (read _ fits_rest) (record {
      sparse = left.sparse;
      below = left.below;
      bounded = left_bounded row.places row.entries.items c.in_ok-entries.entries.items row.limit c.less_times.result c.args.k
          c.in-Some.found.0 c.in-Some.found.1 c.args.pivot.now c.self.invariant.below factor left rest;
    })

pub returns : goal.returns
returns c =
    let row = c.self.inside in
    let fits_f : FitsSigned w64 c.in-Some.found.0 = search rules in
    let fits_own : FitsSigned w64 c.self.inside.limit = search rules in
    let fits_limit : FitsSigned w64 c.limit.result = search rules in
    let fits_rest : FitsSigned w64 c.less_times.result = search rules in
    let factor : IsFactor (listed_row row.places row.entries.items row.limit) c.args.k c.args.pivot.now c.in-Some.found.0 c.in-Some.found.1 =
    rw (← c.self.view_is) at c.in-Some.ensures in
    let left : AreLeft row.places row.entries.items c.args.k c.in-Some.found.0 c.args.pivot.now.entries c.in_ok-entries.entries.items =
    rw (read _ fits_f, c.deref.ensures.value, c.entries.ensures.value) at c.in_ok-entries.ensures in
    let rest : c.less_times.result ≡ (row.limit *ℤ pos 1) -ℤ (c.in-Some.found.0 *ℤ c.args.pivot.now.limit) =
    rw (read _ fits_own, read _ fits_f, read _ fits_limit, c.limit.ensures) at c.less_times.ensures in
    rw (read _ fits_rest, ← c.self.view_is)
    (leaves_listed row.places row.entries.items c.in_ok-entries.entries.items row.limit c.less_times.result c.args.k
    c.in-Some.found.0 c.in-Some.found.1 c.args.pivot.now c.self.invariant.below factor left rest)
