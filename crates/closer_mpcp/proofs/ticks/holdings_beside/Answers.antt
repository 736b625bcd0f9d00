use Rattle.std.proofs.Common.{◌≡◌, ◌+◌, ◌==◌, ℕ, true, length, sym, ◌∙◌, subst, arith}
use Rattle.std.specs.Prelude.{slice_index}
use Rattle.std.proofs.lemmas.Bool.{eq-eqb, eqb-true}
use Rattle.number_laws.specs.Sums.{sum_below, only_if}
use Rattle.sporadic_model.specs.SetDef.{task_at}
use Rattle.blocking_columns.specs.Windows.{requests_during}
use Rattle.mpcp_window_laws.specs.MpcpWindows.{holdings_beside}
use Rattle.closer_mpcp.specs.Sums.{made_beside}
use Rattle.closer_mpcp.proofs.ListedSums.{sum_of_own}
use Rattle.closer_mpcp.proofs.OnProcessors.{all_on, beside_and_own, none_for_itself}
use Rattle.closer_mpcp.proofs.ticks.holdings_beside.Goals as goal

pub returns-then-eq : goal.returns-then-eq
returns-then-eq c =
    let set = c.args.set.now in
    let i = c.args.i.0 in
    let bounds = slice_index c.args.bounds.now in
    let same : i ≡ c.args.x.0 = sym (eqb-true c.args.x.0 i (sym c.eq.ensures ∙ c.if-eq.true)) in
    record {
      value = subst (λ (x : ℕ). 0 ≡ holdings_beside set bounds i c.args.q.0 c.args.span x) same
          (sym (none_for_itself set i (λ y. requests_during set bounds c.args.span y c.args.q.0)));
      most = omega arith;
    }

pub returns-else-eq : goal.returns-else-eq
returns-else-eq c =
    let set = c.args.set.now in
    let i = c.args.i.0 in
    let x = c.args.x.0 in
    let own : ℕ → ℕ = slice_index c.args.holdings.now.own in
    let f : ℕ → ℕ = λ y. requests_during set (slice_index c.args.bounds.now) c.args.span y c.args.q.0 in
    let other : x ≡ i → ⊥ = λ e.
    let no : c.eq.result ≡ true = c.eq.ensures ∙ eq-eqb x i e in
    absurd (cc) in
    let all : made_beside set own x + own x ≡ sum_below i (λ y. only_if ((task_at set y).processor == (task_at set x).processor) (f y)) =
    all_on set x own c.requires.runner
    ∙ sum_of_own (length set.tasks) i (λ y. (task_at set y).processor == (task_at set x).processor) f own
    (omega (arith, c.requires.request.task)) c.requires.holdings.each in
    record {
      value = omega (arith, c.beside.ensures.value, all, beside_and_own set i x f other, c.requires.holdings.each x c.requires.runner);
      most = c.beside.ensures.most;
    }
