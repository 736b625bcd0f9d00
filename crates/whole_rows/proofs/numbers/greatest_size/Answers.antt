use Rattle.std.proofs.Common.{◌≡◌, ◌⊎◌, ℕ, inl, inr, ◌≤◌, max, unsigned_abs, subst, arith, rules}
use Rattle.std.proofs.lemmas.Bool.{cases_eq, cases_lt}
use Rattle.whole_rows.specs.Numbers.{number_at}
use Rattle.whole_rows.proofs.numbers.greatest_size.Goals as goal

pub loop-num-preserved : goal.loop-num-preserved
loop-num-preserved c =
    let nums = c.args.nums.now in
    let i = c.loop-num.num-index in
    let size : c.unsigned_abs.result ≡ unsigned_abs (number_at c.args.nums.now c.loop-num.num-index) = search rules in
    let greater : c.max-most.result ≡ max c.loop-num.most c.unsigned_abs.result = search rules in
    let before = c.loop-num.invariant in
    record {
      first = omega (arith, before.first);
      all = λ k l. elim (cases_eq k c.loop-num.num-index) [
        | inl here ↦ rw here (omega arith)
        | inr other ↦
            let earlier : unsigned_abs (number_at c.args.nums.now k) ≤ c.loop-num.most = before.all k (omega arith) in omega arith
      ];
      attained = elim (cases_lt c.loop-num.most c.unsigned_abs.result) [
        | inl less ↦ inr (i, omega arith)
        | inr other ↦
            let same : c.loop-num.most ≡ c.max-most.result = omega arith in
            subst (λ (n : ℕ). (n ≡ c.args.first) ⊎ ((k : ℕ) × (unsigned_abs (number_at nums k) ≡ n))) same before.attained
      ];
      least = λ most f w.
          let own : unsigned_abs (number_at c.args.nums.now c.loop-num.num-index) ≤ most = w i in
          omega (arith, before.least most f w);
    }
