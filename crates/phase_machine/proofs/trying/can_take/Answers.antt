use Rattle.std.proofs.Common.{◌≡◌, true, inl, inr}
use Rattle.std.proofs.lemmas.Bool.{cases_Bool}
use Rattle.schedule_model.specs.Seen.{row_seen}
use Rattle.phase_machine.specs.Taking.{CanTake, AreAlone}
use Rattle.phase_machine.proofs.Named.{named_listed, can_take_from, alone_from}
use Rattle.phase_machine.proofs.trying.can_take.Goals as goal

pub run_well-requires : goal.run_well-requires
run_well-requires c =
    rw c.deref.ensures.value
    (named_listed c.args.machine.now.list c.args.row.now (c.is_row_for.ensures.0 c.if-is_row_for.true))

pub returns-then-is_row_for : goal.returns-then-is_row_for
returns-then-is_row_for c = (λ passes. taken passes, λ takes. passed takes) where
  taken : c.run_well.result ≡ true → CanTake c.args.machine.now (row_seen c.args.row.now)
  taken passes = can_take_from c.args.machine.now c.args.row.now (c.is_row_for.ensures.0 c.if-is_row_for.true)
      (rw c.deref.ensures.value at (c.run_well.ensures.holds passes))

  passed : CanTake c.args.machine.now (row_seen c.args.row.now) → c.run_well.result ≡ true
  passed takes = elim (cases_Bool c.run_well.result) [
    | inl passes ↦ passes
    | inr fails ↦
        let alone : AreAlone c.args.machine.now c.args.row.now.running.items = alone_from c.args.machine.now c.args.row.now takes in
        absurd (c.run_well.ensures.fails fails (rw c.deref.ensures.value alone))
  ]
