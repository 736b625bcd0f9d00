use Rattle.std.proofs.Common.{◌≡◌, ◌<◌, pos, ◌*ℤ◌, length, FitsSigned, w64, rules, refl, ◌∙◌}
use Rattle.std.proofs.lemmas.List.{with_items_is, get_or_read}
use Rattle.fraction128.proofs.Products.{fits_part}
use Rattle.whole_rows.specs.Rows.{RowDef, listed_at, num_at}
use Rattle.whole_rows.specs.DenseView.{dense_view}
use Rattle.whole_rows.specs.Rows.{IsBounded}
use Rattle.whole_rows.specs.Numbers.{IsCancelled}
use Rattle.whole_rows.proofs.Read.{read, product_read}
use Rattle.whole_rows.proofs.Taking.{den_small, room_of, listed_within, taken_bounded, left_row, IsTakenRow}
use Rattle.whole_rows.proofs.dense_row.DenseRow.take_within.Goals as goal

pub take_from-requires : goal.take_from-requires
take_from-requires c =
    let fits_f : FitsSigned w64 c.lowest_terms-f.result.0 = search rules in
    let fits_p : FitsSigned w64 c.lowest_terms-f.result.1 = search rules in
    let row = dense_view c.self.inside in
    let pivot = c.args.pivot.now in
    let bounded : IsBounded (dense_view c.self.inside) c.args.most = rw (← c.self.view_is) at c.requires.bounded in
    let value = rw (read _ fits_f, read _ fits_p) at c.in-Some.ensures.value in
    let given = rw (← c.self.view_is) at c.requires in
    rw (read _ fits_f, read _ fits_p, c.deref_mut.ensures.value, c.entries.ensures.value) (record {
      place = given.place;
      sparse = c.most.ensures.sparse;
      below = given.below;
      room = λ j.
          room_of row pivot c.args.most c.most.result c.in-Some.bound c.lowest_terms-f.result.1 c.lowest_terms-f.result.0
          bounded c.most.ensures value c.in-Some.ensures.fits (num_at row j) (listed_at pivot.entries j) (bounded.nums j)
          (listed_within pivot.entries c.most.result j c.most.ensures.sparse c.most.ensures.nums);
    })

pub less_times-self-inside-requires : goal.less_times-self-inside-requires
less_times-self-inside-requires c =
    let fits_f : FitsSigned w64 c.lowest_terms-f.result.0 = search rules in
    let fits_p : FitsSigned w64 c.lowest_terms-f.result.1 = search rules in
    let own_limit : FitsSigned w64 c.self.inside.limit = search rules in
    let fits_limit : FitsSigned w64 c.limit.result = search rules in
    let row = dense_view c.self.inside in
    let pivot = c.args.pivot.now in
    let bounded : IsBounded (dense_view c.self.inside) c.args.most = rw (← c.self.view_is) at c.requires.bounded in
    let value = rw (read _ fits_f, read _ fits_p) at c.in-Some.ensures.value in
    rw (read _ fits_f, read _ fits_p, read _ own_limit, read _ fits_limit, c.limit.ensures)
    (room_of row pivot c.args.most c.most.result c.in-Some.bound c.lowest_terms-f.result.1 c.lowest_terms-f.result.0
    bounded c.most.ensures value c.in-Some.ensures.fits row.limit pivot.limit bounded.limit c.most.ensures.limit)

pub overflow_mul-self : goal.overflow_mul-self
overflow_mul-self c =
    let fits_f : FitsSigned w64 c.lowest_terms-f.result.0 = search rules in
    let fits_p : FitsSigned w64 c.lowest_terms-f.result.1 = search rules in
    let own_den : FitsSigned w64 c.self.inside.den = search rules in
    let bounded : IsBounded (dense_view c.self.inside) c.args.most = rw (← c.self.view_is) at c.requires.bounded in
    let value = rw (read _ fits_f, read _ fits_p) at c.in-Some.ensures.value in
    rw (read _ own_den, read _ fits_p)
    (fits_part (c.self.inside.den *ℤ c.lowest_terms-f.result.1)
    (den_small (dense_view c.self.inside) c.args.most c.most.result c.in-Some.bound c.lowest_terms-f.result.1 c.lowest_terms-f.result.0
    bounded value c.in-Some.ensures.fits))

pub invariant_of-self : goal.invariant_of-self
invariant_of-self c =
    let f = c.lowest_terms-f.result.0 in
    let p = c.lowest_terms-f.result.1 in
    let row = dense_view c.self.inside in
    let pivot = c.args.pivot.now in
    let fits_f : FitsSigned w64 c.lowest_terms-f.result.0 = search rules in
    let fits_p : FitsSigned w64 c.lowest_terms-f.result.1 = search rules in
    let own_limit : FitsSigned w64 c.self.inside.limit = search rules in
    let own_den : FitsSigned w64 c.self.inside.den = search rules in
    let fits_limit : FitsSigned w64 c.limit.result = search rules in
    let fits_left : FitsSigned w64 c.less_times-self-inside.result = search rules in
    let bounded : IsBounded (dense_view c.self.inside) c.args.most = rw (← c.self.view_is) at c.requires.bounded in
    let value = rw (read _ fits_f, read _ fits_p) at c.in-Some.ensures.value in
    let small = den_small row c.args.most c.most.result c.in-Some.bound p f bounded value c.in-Some.ensures.fits in
    let many : length c.take_from.new.nums ≡ c.self.inside.nums.len = c.take_from.ensures.as_many ∙ c.deref_mut.ensures.len in
    let items = with_items_is c.self.inside.nums c.take_from.new.nums many in
    let left : RowDef = record {
      nums = c.take_from.new.nums;
      limit = c.less_times-self-inside.result;
      den = c.self.inside.den *ℤ c.lowest_terms-f.result.1;
    } in
    let taken : IsTakenRow (dense_view c.self.inside) c.args.k c.lowest_terms-f.result.1 c.lowest_terms-f.result.0
    c.args.pivot.now left = record {
      nums = rw (read _ fits_f, read _ fits_p, c.deref_mut.ensures.value, c.entries.ensures.value) at c.take_from.ensures;
      limit = rw (read _ fits_f, read _ fits_p, read _ own_limit, read _ fits_limit, c.limit.ensures) at c.less_times-self-inside.ensures;
      den = refl;
    } in
    rw (items, read _ fits_left, product_read c.self.inside.den p own_den fits_p small)
    (taken_bounded row left pivot c.args.k c.args.most c.most.result c.in-Some.bound p f bounded c.most.ensures
    c.lowest_terms-f.ensures.form.positive value c.in-Some.ensures.fits taken)

pub returns : goal.returns
returns c =
    let f = c.lowest_terms-f.result.0 in
    let p = c.lowest_terms-f.result.1 in
    let row = dense_view c.self.inside in
    let pivot = c.args.pivot.now in
    let fits_f : FitsSigned w64 c.lowest_terms-f.result.0 = search rules in
    let fits_p : FitsSigned w64 c.lowest_terms-f.result.1 = search rules in
    let own_limit : FitsSigned w64 c.self.inside.limit = search rules in
    let own_den : FitsSigned w64 c.self.inside.den = search rules in
    let fits_limit : FitsSigned w64 c.limit.result = search rules in
    let fits_left : FitsSigned w64 c.less_times-self-inside.result = search rules in
    let bounded : IsBounded (dense_view c.self.inside) c.args.most = rw (← c.self.view_is) at c.requires.bounded in
    let value = rw (read _ fits_f, read _ fits_p) at c.in-Some.ensures.value in
    let small = den_small row c.args.most c.most.result c.in-Some.bound p f bounded value c.in-Some.ensures.fits in
    let many : length c.take_from.new.nums ≡ c.self.inside.nums.len = c.take_from.ensures.as_many ∙ c.deref_mut.ensures.len in
    let items = with_items_is c.self.inside.nums c.take_from.new.nums many in
    let left : RowDef = record {
      nums = c.take_from.new.nums;
      limit = c.less_times-self-inside.result;
      den = c.self.inside.den *ℤ c.lowest_terms-f.result.1;
    } in
    let taken : IsTakenRow (dense_view c.self.inside) c.args.k c.lowest_terms-f.result.1 c.lowest_terms-f.result.0
    c.args.pivot.now left = record {
      nums = rw (read _ fits_f, read _ fits_p, c.deref_mut.ensures.value, c.entries.ensures.value) at c.take_from.ensures;
      limit = rw (read _ fits_f, read _ fits_p, read _ own_limit, read _ fits_limit, c.limit.ensures) at c.less_times-self-inside.ensures;
      den = refl;
    } in
    let within : c.args.k < length c.self.inside.nums.items = rw (← c.self.view_is) at c.requires.place in
    let number : c.index.result.now ≡ num_at (dense_view c.self.inside) c.args.k =
    get_or_read c.self.inside.nums.items c.args.k c.index.result.now within c.index.ensures (pos 0) in
    let fits_num : FitsSigned w64 c.index.result.now = search rules in
    let fits_den : FitsSigned w64 c.den.result = search rules in
    let cut : IsCancelled (num_at (dense_view c.self.inside) c.args.k) c.args.pivot.now.den
    c.lowest_terms-f.result.0 c.lowest_terms-f.result.1 =
    rw (read _ fits_num, number, read _ fits_den, c.den.ensures.value) at c.lowest_terms-f.ensures.form in
    rw (items, read _ fits_left, product_read c.self.inside.den p own_den fits_p small, ← c.self.view_is)
    (record {
      left = λ divided own.
          left_row row left divided pivot c.args.k c.args.most c.most.result c.in-Some.bound p f bounded c.most.ensures cut
          value c.in-Some.ensures.fits taken own;
      as_many = taken.nums.as_many;
      stays = tt;
      large = tt;
    })

pub returns-in-None : goal.returns-in-None
returns-in-None c =
    let fits_f : FitsSigned w64 c.lowest_terms-f.result.0 = search rules in
    let fits_p : FitsSigned w64 c.lowest_terms-f.result.1 = search rules in
    let within : c.args.k < length c.self.inside.nums.items = rw (← c.self.view_is) at c.requires.place in
    let number : c.index.result.now ≡ num_at (dense_view c.self.inside) c.args.k =
    get_or_read c.self.inside.nums.items c.args.k c.index.result.now within c.index.ensures (pos 0) in
    let fits_num : FitsSigned w64 c.index.result.now = search rules in
    let fits_den : FitsSigned w64 c.den.result = search rules in
    let cut : IsCancelled (num_at (dense_view c.self.inside) c.args.k) c.args.pivot.now.den
    c.lowest_terms-f.result.0 c.lowest_terms-f.result.1 =
    rw (read _ fits_num, number, read _ fits_den, c.den.ensures.value) at c.lowest_terms-f.ensures.form in
    rw (← c.self.view_is) (record {
      left = λ divided own. tt;
      as_many = refl;
      stays = refl;
      large = record {
        f = c.lowest_terms-f.result.0;
        p = c.lowest_terms-f.result.1;
        factor = cut;
        apart = c.lowest_terms-f.ensures.apart;
        other = c.most.result;
        is_other = c.most.ensures.attained;
        large = rw (read _ fits_f, read _ fits_p) at c.in-None.ensures.large;
      };
    })
