use Rattle.std.proofs.Common.{◌&&◌, not, refl, length, ap, ◌∙◌, nat_lt}
use Rattle.number_laws.specs.Tests.{count_below}
use Rattle.closer_spin_laws.specs.CloserSpinRows.{are_many, is_spun_below, is_spun_above, is_lone}
use Rattle.closer_spin.proofs.Told.{told_many}
use Rattle.closer_spin.proofs.groups.spun_there.Goals as goal

pub table_of-requires : goal.table_of-requires
table_of-requires c =
    let set = c.args.set.now in
    let i = c.args.i.0 in
    let k = c.args.processor in
    let m = length set.resources in
    let tables = c.in_ok-tables.tables in
    let told = c.in_ok-tables.ensures in
    let above = rw c.deref.ensures.value at c.how_many-above.ensures in
    let spun = rw c.deref-2.ensures.value at c.how_many.ensures in
    record {
      shared_is = rw (c.deref-3.ensures.value) told.shared_is;
      lone_is = rw (c.deref-4.ensures.value) told.lone_is;
      few_is = c.are_few_above.ensures
          ∙ ap (λ n. nat_lt 1 n && not (are_many n)) (above ∙ told_many m (is_spun_above set i k) tables.shared.items told.shared_is);
      many_is = c.are_many-many.ensures
          ∙ ap are_many (spun ∙ told_many m (is_spun_below set i k) tables.spun.items told.spun_is);
    }

pub returns : goal.returns
returns c =
    let set = c.args.set.now in
    let i = c.args.i.0 in
    let k = c.args.processor in
    let m = length set.resources in
    let tables = c.in_ok-tables.tables in
    let told = c.in_ok-tables.ensures in
    let above = rw c.deref.ensures.value at c.how_many-above.ensures in
    let spun = rw c.deref-2.ensures.value at c.how_many.ensures in
    let left = rw c.deref-5.ensures.value at c.are_left_out-leaves_out.ensures in
    let several = told_many m (is_lone set i k) tables.lone.items told.lone_is in
    let many = c.are_many-many.ensures
    ∙ ap are_many (spun ∙ told_many m (is_spun_below set i k) tables.spun.items told.spun_is) in (
      refl,
      record {
        spun_is = told.spun_is;
        shared_is = told.shared_is;
        lone_is = told.lone_is;
        apart_is = c.in_ok-apart.ensures;
        above_is = above ∙ told_many m (is_spun_above set i k) tables.shared.items told.shared_is;
        leaves_is = left ∙ ap (λ n. c.are_many-many.result && nat_lt 1 n) several
            ∙ ap (λ b. b && nat_lt 1 (count_below m (is_lone set i k))) many;
      },
    )
