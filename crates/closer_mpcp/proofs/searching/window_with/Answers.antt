use Rattle.std.proofs.Common.{rules, ◌≡◌, ℕ, ◌≤◌, suc, max, min, sym, subst, ◌∙◌, arith, inl, inr}
use Rattle.std.specs.Prelude.{slice_index}
use Rattle.std.proofs.lemmas.Bool.{cases_lt}
use Rattle.sporadic_model.specs.SetDef.{task_at}
use Rattle.window_laws.proofs.Enough.{NoneBelow, none_below_next, least_is, none_is}
use Rattle.mpcp_window_laws.specs.MpcpWindows.{ticks_held}
use Rattle.mpcp_window_laws.proofs.Rising.{ticks_held_rise}
use Rattle.closer_mpcp.proofs.SteadyJobs.{same_held}
use Rattle.closer_mpcp.proofs.searching.window_with.Goals as goal

pub returns-then-held-from : goal.returns-then-held-from
returns-then-held-from c =
    let set = c.args.set.now in
    let i = c.args.i.0 in
    let q = c.args.q.0 in
    let bounds = slice_index c.args.bounds.now in
    let deadline : ℕ = (task_at set i).deadline in
    let taken : ℕ → ℕ = ticks_held set bounds i q in
    let span : ℕ = c.loop-span.span in
    let held : ℕ = c.ticks_held-held.result in
    let window : ℕ = c.max-window.result in
    let is_held : held ≡ taken span = c.ticks_held-held.ensures in
    let greater : window ≡ max span held = c.max-window.ensures in
    let few : held ≤ max (min c.args.steady c.deadline-deadline.result) span =
    omega (arith, c.if-held-from.true, c.from.ensures, c.max-within.ensures, c.min-steady.ensures) in
    let from : 1 ≤ window = omega (arith, greater, c.loop-span.invariant.from) in
    let most : window ≤ deadline = omega (arith, greater, few, c.loop-span-test.true, c.deadline-deadline.ensures.value) in
    let none : NoneBelow taken window = λ m enough. omega (
      arith,
      greater,
      is_held,
      c.loop-span.invariant.none m enough,
      none_below_next taken span
          (λ v w more. ticks_held_rise set bounds bounds i q v w c.requires.request.task more (λ x l. omega arith))
          c.loop-span.invariant.none m enough,
    ) in
    let enough : taken window ≤ window = elim (cases_lt span held) [
      | inl more ↦
          let same : taken held ≡ taken span = same_held set bounds bounds i q held span c.requires.request.task
          (λ y l. c.requires.steady y l held (omega (arith, more)) (omega (arith, more, few))
          ∙ sym (c.requires.steady y l span c.loop-span.invariant.from (omega (arith, more, few)))) in
          let here : held ≡ window = omega (arith, greater, more) in
          subst (λ (m : ℕ). taken m ≤ m) here (omega (arith, same, is_held))
      | inr less ↦
          let here : span ≡ window = omega (arith, greater, less) in
          subst (λ (m : ℕ). taken m ≤ m) here (omega (arith, is_held, less))
    ] in
    record {
      value = sym (least_is taken (suc deadline) window none from (omega (arith, most)) enough);
      within = (from, most);
    }

pub loop-span-preserved : goal.loop-span-preserved
loop-span-preserved c = record {
  from = omega (
    arith,
    c.min-span.ensures,
    c.from.ensures,
    c.from-in-loop-span.ensures,
    c.if-held-from.false,
    c.loop-span.invariant.from,
  );
  none = λ m enough. omega (
    arith,
    c.min-span.ensures,
    c.ticks_held-held.ensures,
    none_below_next (ticks_held c.args.set.now (slice_index c.args.bounds.now) c.args.i.0 c.args.q.0) c.loop-span.span
        (λ v w more. ticks_held_rise c.args.set.now (slice_index c.args.bounds.now) (slice_index c.args.bounds.now) c.args.i.0 c.args.q.0
        v w c.requires.request.task more (λ x l. omega arith))
        c.loop-span.invariant.none m enough,
  );
}

pub returns : goal.returns
returns c =
    record {
      value = sym (none_is (ticks_held c.args.set.now (slice_index c.args.bounds.now) c.args.i.0 c.args.q.0)
          (suc (task_at c.args.set.now c.args.i.0).deadline) c.loop-span.span c.loop-span.invariant.none
          (omega (arith, c.loop-span-test.false, c.deadline-deadline.ensures.value)));
      within = search rules;
    }
