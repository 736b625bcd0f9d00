use Rattle.std.proofs.Common.{ℕ, suc, length, slice_index, Result, Ok, Err, OnOk, arith}
use Rattle.std.specs.Prelude.{None}
use Rattle.program_form.specs.Program.{columns}
use Rattle.free_search.specs.Choice.{IsLeastRow, LeavesAmong}
use Rattle.free_search.specs.Exchanges.{IsExchanged}
use Rattle.free_search.specs.Tables.{IsAfter, table_with}
use Rattle.free_search.proofs.Choosing.{objective_places, enters_seen, leaves_seen, none_leaves_seen, limits_not_below}
use Rattle.free_search.proofs.Exchanging.{exchanged}
use Rattle.free_search.proofs.Runs.{sizes_of, some_leaves}
use Rattle.free_search.proofs.step.step.Goals as goal

pub leaving-requires : goal.leaving-requires
leaving-requires c =
    let p = c.args.program.now in
    let t = c.args.tableau.now in
    let h = c.requires.after.1 in
    let sizes = sizes_of p t h.stands h.are in
    rw (c.deref.ensures.value, c.deref-2.ensures.value) (record {
      place = (columns p, omega (arith, c.requires.enters.within, objective_places p t h.stands h.are), sizes.rows);
      basis = sizes.basic_each;
      limits = limits_not_below p c.requires.after.0 t h.stands h.are h.reached;
    })

pub unreachable-requires : goal.unreachable-requires
unreachable-requires c =
    let p = c.args.program.now in
    let t = c.args.tableau.now in
    let h = c.requires.after.1 in
    let e : ℕ = slice_index c.args.tableau.now.outside.items c.args.k in
    let enters = enters_seen p t h.stands c.args.k h.are c.requires.enters in
    let none : LeavesAmong None (length c.args.tableau.now.rows.items) c.args.tableau.now.rows.items c.args.tableau.now.basis.items
    c.args.k = rw (c.in-None.is, c.deref.ensures.value) at c.in_ok-r.ensures in
    some_leaves p c.requires.after.0 (table_with p t h.stands) e c.rows-rows.ensures.program h.reached enters.1.within
    (none_leaves_seen p t h.stands e c.args.k h.are enters.1.within enters.0 none)

pub exchange-requires : goal.exchange-requires
exchange-requires c =
    let p = c.args.program.now in
    let t = c.args.tableau.now in
    let h = c.requires.after.1 in
    let least : IsLeastRow (length c.args.tableau.now.rows.items) c.args.tableau.now.rows.items c.args.tableau.now.basis.items
    c.args.k c.in-Some.r = rw (c.in-Some.is, c.deref.ensures.value, c.deref-2.ensures.value) at c.in_ok-r.ensures in
    record {
      place = omega (arith, c.requires.enters.within, objective_places p t h.stands h.are, h.are.placed.place_each);
      row = record { row = least.within; above = least.above };
      sizes = rw h.are.placed.place_each (sizes_of p t h.stands h.are);
    }

-- what holds where a call succeeds, from what holds there
on_ok : {X E : Type 0} (r : Result X E) (A B : Type 0) → (A → B) → OnOk r A → OnOk r B
on_ok (Ok x) A B f h = f h
on_ok (Err e) A B f h = tt

pub returns : goal.returns
returns c =
    let p = c.args.program.now in
    let t = c.args.tableau.now in
    let least : IsLeastRow (length c.args.tableau.now.rows.items) c.args.tableau.now.rows.items c.args.tableau.now.basis.items
    c.args.k c.in-Some.r = rw (c.in-Some.is, c.deref.ensures.value, c.deref-2.ensures.value) at c.in_ok-r.ensures in
    on_ok c.exchange.result (IsExchanged t c.args.k c.in-Some.r c.exchange.new.tableau)
    ((n : ℕ) → IsAfter p n t → IsAfter p (suc n) c.exchange.new.tableau)
    (λ x n h.
    let enters = enters_seen p t h.stands c.args.k h.are c.requires.enters in
    exchanged p n c.args.k c.in-Some.r t c.exchange.new.tableau h
    (omega (arith, c.requires.enters.within, objective_places p t h.stands h.are)) enters.1
    (leaves_seen p t h.stands (slice_index t.outside.items c.args.k) c.args.k c.in-Some.r h.are enters.1.within enters.0 least) x)
    c.exchange.ensures
