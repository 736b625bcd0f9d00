use Rattle.std.proofs.Common.{◌≡◌, length, slice_index, ◌∙◌, arith, rules}
use Rattle.std.specs.Vec.{with_items}
use Rattle.std.proofs.lemmas.List.{get_or_default, with_items_is}
use Rattle.std.proofs.lemmas.Result.{err_from_is_err_and}
use Rattle.exchange_runs.specs.Exchange.{IsLeavingOver}
use Rattle.exchange_runs.specs.SmallRuns.{IsSmall}
use Rattle.whole_rows.proofs.Marking.{words_within}
use Rattle.program_form.specs.Program.{columns}
use Rattle.whole_rows.specs.Rows.{entry_at}
use Rattle.whole_runs.specs.States.{table_seen}
use Rattle.whole_runs.specs.Exchanges.{AreSmallRows}
use Rattle.whole_runs.specs.Takings.{ExchangesRows}
use Rattle.whole_runs.proofs.Halting.{some_leaves, step_stop}
use Rattle.whole_runs.proofs.Following.{step_placed, step_from}
use Rattle.whole_runs.proofs.Stepping.{pivot_places, step_done, step_marked}
use Rattle.whole_runs.proofs.exchange.step.Tie.{the-claims, handed_clauses}
use Rattle.whole_runs.proofs.exchange.step.Reads.{Pre, Post}
use Rattle.whole_runs.proofs.exchange.step.Lts.{After-least_above}
use Rattle.whole_runs.proofs.exchange.step.Goals as goal

pub unreachable-requires : goal.unreachable-requires
unreachable-requires c =
    let p = c.args.program.now in
    let t = c.args.tableau.now in
    some_leaves p c.requires.reached.0 (table_seen p t.rows.items t.basis.items t.stands.items) c.args.e c.requires.program
    c.requires.reached.1 c.requires.enters.within
    ((rw (c.deref-2.ensures.value, c.deref-3.ensures.value, c.deref-4.ensures.value) at c.in-None.ensures.least)
    c.args.e c.args.k c.args.tableau.now.stands.items (rw c.deref.ensures.value at c.in_ok-read_column.ensures.column)
    c.requires.enters.within c.requires.place)

pub returns-in_err-exchange : goal.returns-in_err-exchange
returns-in_err-exchange c =
    let p = c.args.program.now in
    let stop = err_from_is_err_and c.from_residual-in_err-exchange.result c.from_residual-in_err-exchange.ensures.1 in
    rw (stop.1, stop.2)
    (step_stop c.in_err-exchange.field-0.0
    (λ (u : Unit {0}). ExchangesRows p c.args.tableau.now.rows.items c.exchange.new.rows c.args.k c.in-Some.r c.exchange.new.lines.pivot)
    p c.args.tableau.now _ c.args.e c.args.k c.in-Some.r c.requires.enters c.requires.place
    ((rw (c.deref-2.ensures.value, c.deref-3.ensures.value, c.deref-4.ensures.value) at c.in-Some.ensures.least)
    c.args.e c.args.k c.args.tableau.now.stands.items (rw c.deref.ensures.value at c.in_ok-read_column.ensures.column)
    c.requires.enters.within c.requires.place)
    (rw c.deref_mut.ensures.value at c.in_err-exchange.ensures))

pub join_marks-requires : goal.join_marks-requires
join_marks-requires c =
    let p = c.args.program.now in
    let rows = c.args.tableau.now.rows.items in
    let room = (rw c.deref.ensures.value at c.in_ok-read_column.ensures.marked).room in
    rw c.entries.ensures.value (record {
      words = λ m l.
          words_within (columns p) (length rows) (entry_at c.exchange.new.lines.pivot.entries m).place c.read_column.new.marks room
          (pivot_places p rows c.exchange.new.rows c.args.k c.in-Some.r c.exchange.new.lines.pivot
          (rw c.deref_mut.ensures.value at c.in_ok-exchange.ensures) m l);
      from = words_within (columns p) (length rows) c.args.k c.read_column.new.marks room
          (c.requires.tableau.stands.place c.args.e c.args.k c.requires.enters.within c.requires.place);
    })

pub index_mut-requires-2 : goal.index_mut-requires-2
index_mut-requires-2 c =
    let left : c.index-left.result.now ≡ slice_index c.args.tableau.now.basis.items c.in-Some.r =
    c.index-left.ensures ∙ get_or_default c.args.tableau.now.basis.items c.in-Some.r c.index-left.result.now 0
    (omega (arith, c.in-Some.ensures.within, c.requires.tableau.size.basic_each)) in
    omega (
      arith,
      left,
      c.requires.tableau.stands.basic_within c.in-Some.r c.in-Some.ensures.within,
      c.requires.tableau.size.stand_each,
    )

-- Where the state is given back.
abbrev AtReturn : Type 0
AtReturn = After-least_above the-claims Pre Post handed_clauses

-- What the answers about the state given back share: what the calls before it gave, said of the arguments.
leaves : (c : AtReturn) → IsLeavingOver IsSmall c.args.program.now
    (table_seen c.args.program.now c.args.tableau.now.rows.items c.args.tableau.now.basis.items c.args.tableau.now.stands.items)
    c.args.e c.in-Some.r
leaves c =
    (rw (c.deref-2.ensures.value, c.deref-3.ensures.value, c.deref-4.ensures.value) at c.in-Some.ensures.least)
    c.args.e c.args.k c.args.tableau.now.stands.items (rw c.deref.ensures.value at c.in_ok-read_column.ensures.column)
    c.requires.enters.within c.requires.place

exchanged : (c : AtReturn) → ExchangesRows c.args.program.now c.args.tableau.now.rows.items c.exchange.new.rows c.args.k
    c.in-Some.r c.exchange.new.lines.pivot
exchanged c = rw c.deref_mut.ensures.value at c.in_ok-exchange.ensures

same_rows : (c : AtReturn) → (with_items c.args.tableau.now.rows c.exchange.new.rows).items ≡ c.exchange.new.rows
same_rows c = with_items_is c.args.tableau.now.rows c.exchange.new.rows
    (c.in_ok-exchange.ensures.0.as_many ∙ c.deref_mut.ensures.len)

left : (c : AtReturn) → c.index-left.result.now ≡ slice_index c.args.tableau.now.basis.items c.in-Some.r
left c = c.index-left.ensures ∙ get_or_default c.args.tableau.now.basis.items c.in-Some.r c.index-left.result.now 0
    (omega (arith, c.in-Some.ensures.within, c.requires.tableau.size.basic_each))

small : (c : AtReturn) → AreSmallRows c.args.program.now c.exchange.new.rows
small c = search rules

pub returns : goal.returns
returns c =
    let p = c.args.program.now in
    let t = c.args.tableau.now in
    let is = c.requires.tableau in
    let done =
    step_done p t.rows.items c.exchange.new.rows t.basis.items t.stands.items c.args.e c.args.k c.in-Some.r
    is.size is.stands is.small c.requires.enters c.requires.place (leaves c) (exchanged c).0 in
    record {
      tableau = record {
        size = rw (same_rows c, left c) done.0;
        stands = rw (left c) done.1;
        small = rw (same_rows c) (small c);
        marked = rw (same_rows c)
            (step_marked p t.rows.items c.exchange.new.rows t.basis.items t.stands.items c.read_column.new.marks c.join_marks.new.marks
            c.exchange.new.lines.pivot c.args.e c.args.k c.in-Some.r
            is.size is.stands is.small c.requires.enters c.requires.place (leaves c) (exchanged c)
            (rw c.deref.ensures.value at c.in_ok-read_column.ensures.marked) c.join_marks.ensures.kept
            (rw (← c.entries.ensures.value) c.join_marks.ensures.joined));
        placed = rw (left c)
            (step_placed p t.rows.items t.basis.items t.stands.items t.outside.items c.args.e c.args.k c.in-Some.r
            is.size is.stands c.requires.enters c.requires.place (leaves c) is.placed);
      };
      exchanged = rw (same_rows c, left c) done.2;
      earlier = rw (same_rows c, left c)
          (step_from p t.rows.items c.exchange.new.rows t.basis.items t.stands.items t.outside.items c.exchange.new.lines.pivot
          c.objective.result.now c.args.e c.args.k c.in-Some.r c.least_above.result
          is.size is.stands is.small c.requires.enters c.requires.place (leaves c) (exchanged c)
          is.placed (rw (c.deref-5.ensures.value, same_rows c) at c.objective.ensures.row) c.least_above.ensures.first
          (rw (c.entries-2.ensures.value, c.deref-6.ensures.value, left c) at c.least_above.ensures.each));
    }
