use Rattle.std.proofs.Common.{◌≡◌, ◌∙◌, ℕ, ◌+◌, ◌*◌, List, slice_index, ap, arith, suc, sym, subst, add-one}
use Rattle.std.proofs.Math.Nat.{mul_comm}
use Rattle.std.proofs.lemmas.List.{get_or_read}
use Rattle.number_laws.specs.Sums.{sum_below}
use Rattle.program_form.specs.Program.{ProgramDef, cost}
use Rattle.point_tests.proofs.sums.worth_sum.Goals as goal

pub loop-c-preserved : goal.loop-c-preserved
loop-c-preserved c =
    let p : ProgramDef = c.args.program.now in
    let num : List ℕ = c.args.num.now in
    let k : ℕ = c.loop-c.c in
    let before : c.loop-c.sum ≡ sum_below k (λ j. cost p j * slice_index num j) = c.loop-c.invariant in
    let at : c.index-num-c.result ≡ slice_index num k = get_or_read num k c.index-num-c.result (omega arith) c.index-num-c.is 0 in
    let term : c.index-num-c.result * c.cost.result ≡ cost p k * slice_index num k =
    mul_comm c.index-num-c.result c.cost.result ∙ ap (λ n. c.cost.result * n) at ∙ ap (λ n. n * slice_index num k) c.cost.ensures.value in
    let next : c.add_times.new.self ≡ sum_below (suc k) (λ j. cost p j * slice_index num j) =
    omega (arith, before, c.in_ok-add_times.ensures, term) in
    subst (λ (n : ℕ). c.add_times.new.self ≡ sum_below n (λ j. cost p j * slice_index num j)) (sym (add-one k)) next
