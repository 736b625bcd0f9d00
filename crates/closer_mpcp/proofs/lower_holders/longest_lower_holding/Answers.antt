use Rattle.std.proofs.Common.{◌≡◌, ℕ, ◌&&◌, nat_lt, not, Bool, false, [], length, map, max, arith}
use Rattle.std.proofs.lemmas.List.{drop_all}
use Rattle.number_laws.specs.Sums.{only_if}
use Rattle.sporadic_model.specs.declared.ids.TaskId.{TaskId}
use Rattle.sporadic_model.specs.Users.{is_user}
use Rattle.blocking_columns.specs.Columns.{have_one_processor}
use Rattle.window_laws.proofs.KeptGreatest.{greatest_of, greatest_where_kept}
use Rattle.mpcp_window_laws.specs.MpcpWindows.{may_hold_before, holding_ticks, longest_lower_holding}
use Rattle.closer_mpcp.proofs.lower_holders.longest_lower_holding.Goals as goal

not_in_use : (lower apart : Bool) (n : ℕ) → only_if (lower && (false && apart)) n ≡ 0
not_in_use lower apart n = grind (arith)

pub returns : goal.returns
returns c =
    let set = c.args.set.now in
    let i = c.args.i.0 in
    let q = c.args.q.0 in
    let users = c.users-users.result.now in
    let f : TaskId → ℕ = λ y. only_if (may_hold_before set i q y.0) (holding_ticks set i q y.0) in
    let whole : max c.loop-y.longest (greatest_of (map f [])) ≡ greatest_of (map f users) =
    rw (drop_all c.loop-y.y-index users (omega (arith, c.loop-y-test.false))) at c.loop-y.invariant.value in
    let all : greatest_of (map f users) ≡ longest_lower_holding set i q = greatest_where_kept (λ (y : TaskId). y.0) users (is_user set q)
    (λ y. only_if (may_hold_before set i q y) (holding_ticks set i q y)) (length set.tasks) c.users-users.ensures.value
    (λ y unused. rw unused (not_in_use (nat_lt i y) (not (have_one_processor set y i)) (holding_ticks set i q y))) in
    record {
      value = omega (arith, whole, all);
      most = c.loop-y.invariant.most;
    }
