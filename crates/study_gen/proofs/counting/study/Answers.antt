use Rattle.std.proofs.Common.{◌≡◌, ◌+◌, ◌≤◌, List, ◌∷◌, [], ◌++◌, ℕ, length, refl, sym, ◌∙◌, ap, subst, arith, length-append}
use Rattle.study_gen.specs.Counts.{StoppedBefore}
use Rattle.study_gen.proofs.TallyLaws.{AreRows, step_counts, stopped_more, begins_more, stopped_most, rows_more, no_rows}
use Rattle.study_gen.proofs.counting.study.Goals as goal

pub loop-i-init : goal.loop-i-init
loop-i-init g c = record {
  count = ap (λ (l : List (List ℕ)). length l) c.new-counts.ensures.items;
  rows = subst (λ (l : List (List ℕ)). AreRows c.args.seed c.args.sets l) (sym c.new-counts.ensures.items)
      (no_rows c.args.seed c.args.sets);
  stopped = refl;
  most = omega arith;
  state = refl;
}

pub overflow_add-stopped-in-loop-i-2 : goal.overflow_add-stopped-in-loop-i-2
overflow_add-stopped-in-loop-i-2 g c =
    let step = c.in_ok-step.step in
    let most : step.mpcp.stopped + step.fmlp.stopped + step.dpcp.stopped ≤ 3000 =
    stopped_most c.loop-i.i c.loop-i.state c.args.sets step c.in_ok-step.ensures c.requires.to in
    omega (arith, most, c.loop-i.invariant.most, c.loop-i-test.true)

pub loop-i-preserved : goal.loop-i-preserved
loop-i-preserved g c =
    let step = c.in_ok-step.step in
    let inv = c.loop-i.invariant in
    let row : List ℕ = step.mpcp.shown ∷ step.fmlp.shown ∷ step.dpcp.shown ∷ [] in
    let most : step.mpcp.stopped + step.fmlp.stopped + step.dpcp.stopped ≤ 3000 =
    stopped_most c.loop-i.i c.loop-i.state c.args.sets step c.in_ok-step.ensures c.requires.to in
    let items : c.push.new.self.items ≡ c.loop-i.counts.items ++ row ∷ [] = c.in_ok-push.ensures.items in
    let grown = length-append c.loop-i.counts.items (row ∷ []) in
    record {
      count = ap (λ (l : List (List ℕ)). length l) items ∙ omega (arith, grown, inv.count);
      rows = subst (λ (l : List (List ℕ)). AreRows c.args.seed c.args.sets l) (sym items)
          (rows_more c.args.seed c.args.sets c.loop-i.i c.loop-i.counts.items row inv.count inv.rows
          (step_counts c.args.seed c.args.sets c.loop-i.i c.loop-i.state step c.in_ok-step.ensures inv.state));
      stopped = stopped_more c.args.seed c.args.sets c.loop-i.i c.loop-i.state c.loop-i.stopped _ step
          c.in_ok-step.ensures inv.state inv.stopped refl;
      most = omega (arith, most, inv.most);
      state = begins_more c.args.seed c.args.sets c.loop-i.i c.loop-i.state step c.in_ok-step.ensures inv.state;
    }

pub returns : goal.returns
returns g c =
    let inv = c.loop-i.invariant in
    let all : c.loop-i.i ≡ 8 = omega arith in
    record {
      steps = inv.count ∙ all;
      shown = inv.rows;
      stopped = subst (λ (k : ℕ). StoppedBefore c.args.seed c.args.sets k c.loop-i.stopped) all inv.stopped;
    }
