use Rattle.std.proofs.Common.{◌≡◌, ◌∙◌, true, false, sym, arith}
use Rattle.std.proofs.lemmas.Bool.{lt-ltb, le-ltb}
use Rattle.number_laws.proofs.SumLaws.{only_if-true, only_if-false}
use Rattle.sporadic_model.specs.Users.{count_of}
use Rattle.mpcp_window_laws.specs.MpcpWindows.{longest_first, time_first}
use Rattle.closer_mpcp.specs.Sums.{made_beside}
use Rattle.closer_mpcp.specs.Tables.{is_used_beside}
use Rattle.closer_mpcp.proofs.UsersBeside.{used_beside}
use Rattle.closer_mpcp.proofs.first_ticks.first_beside.Goals as goal

pub returns-then-beside-gt0 : goal.returns-then-beside-gt0
returns-then-beside-gt0 c =
    let set = c.args.set.now in
    let x = c.args.x.0 in
    let q = c.args.q.0 in
    let used : is_used_beside set x q ≡ true = lt-ltb 0 (made_beside set (λ y. count_of set y q) x)
    (omega (arith, c.if-beside-gt0.true, c.beside.ensures.value, used_beside set x q c.args.users.now c.requires.users)) in
    record {
      longest = c.first_ticks.ensures.longest ∙ sym (only_if-true (is_used_beside set x q) (longest_first set x q) used);
      all = c.first_ticks.ensures.all ∙ sym (only_if-true (is_used_beside set x q) (time_first set x q) used);
      longest_to = c.first_ticks.ensures.longest_to;
      all_to = c.first_ticks.ensures.all_to;
    }

pub returns-else-beside-gt0 : goal.returns-else-beside-gt0
returns-else-beside-gt0 c =
    let set = c.args.set.now in
    let x = c.args.x.0 in
    let q = c.args.q.0 in
    let unused : is_used_beside set x q ≡ false = le-ltb 0 (made_beside set (λ y. count_of set y q) x)
    (omega (arith, c.if-beside-gt0.false, c.beside.ensures.value, used_beside set x q c.args.users.now c.requires.users)) in
    record {
      longest = sym (only_if-false (is_used_beside set x q) (longest_first set x q) unused);
      all = sym (only_if-false (is_used_beside set x q) (time_first set x q) unused);
      longest_to = omega arith;
      all_to = omega arith;
    }
