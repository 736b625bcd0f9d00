use Rattle.std.proofs.Common.{◌≡◌, ℕ, ◌<◌, length, true, false, not, ap, ◌∙◌, sym, arith, Option, None, Some}
use Rattle.std.specs.Option.{is_none}
use Rattle.std.proofs.lemmas.Bool.{not-false}
use Rattle.std.specs.Prelude.{IsSome}
use Rattle.sporadic_model.specs.SetDef.{resource_at, no_resource}
use Rattle.taskset_json.proofs.Lists.{position_here, position_none}
use Rattle.taskset_json.proofs.homes.first_homeless.Goals as goal

is_missing : (o : Option ℕ) → is_none o ≡ true → IsSome o → ⊥
is_missing None e h = cc
is_missing (Some k) e h = cc

pub returns-then-is_none : goal.returns-then-is_none
returns-then-is_none c =
    let hit : is_none (resource_at c.args.set.now c.loop-q.q).home ≡ true =
    ap is_none (sym c.home.ensures.value) ∙ ap not c.if-is_none.ensures in
    record {
      first = sym (position_here (λ r. is_none r.home) c.args.set.now.resources c.loop-q.q no_resource
          (omega (arith, c.loop-q-test.true, c.resources-q-end.ensures.value)) c.loop-q.invariant hit);
      none = tt;
      some = λ each. is_missing (resource_at c.args.set.now c.loop-q.q).home hit
          (each c.loop-q.q (omega (arith, c.loop-q-test.true, c.resources-q-end.ensures.value)));
    }

pub returns : goal.returns
returns c =
    let kept : (q : ℕ) → q < length c.args.set.now.resources → is_none (resource_at c.args.set.now q).home ≡ false =
    λ q below. c.loop-q.invariant q (omega (arith, below, c.loop-q-test.false, c.resources-q-end.ensures.value)) in
    record {
      first = sym (position_none (λ r. is_none r.home) c.args.set.now.resources no_resource kept);
      none = λ q below. not-false _ (kept q below);
      some = tt;
    }
