use Rattle.std.proofs.Common.{◌≤◌, length, arith}
use Rattle.sporadic_model.specs.Users.{is_user}
use Rattle.sporadic_model.specs.declared.ids.TaskId.{TaskId}
use Rattle.blocking_columns.proofs.KeptNumbers.{kept_few}
use Rattle.blocking_columns.proofs.columns.number_of_users.Goals as goal

pub returns-clause-most : goal.returns-clause-most
returns-clause-most c =
    let set = c.args.set.now in
    let users = c.users.result.now in
    let few : length users ≤ length set.tasks = kept_few (λ (x : TaskId). x.0) users (is_user set c.args.q.0)
    (length set.tasks) c.users.ensures.value in
    omega (arith, few, c.tasks-tasks.ensures.value, c.tasks-tasks.ensures.most)
