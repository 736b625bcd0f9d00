use Rattle.std.proofs.Common.{◌≡◌, ◌⊎◌, ℕ, inl, inr, ◌<◌, ◌≤◌, length, max, unsigned_abs, subst, arith, rules}
use Rattle.std.proofs.lemmas.Bool.{cases_eq, cases_lt}
use Rattle.whole_rows.specs.Rows.{entry_at}
use Rattle.whole_rows.proofs.pivot.greatest_listed.Goals as goal

pub loop-entry-preserved : goal.loop-entry-preserved
loop-entry-preserved c =
    let entries = c.args.entries.now in
    let i = c.loop-entry.entry-index in
    let size : c.unsigned_abs.result ≡ unsigned_abs (entry_at c.args.entries.now c.loop-entry.entry-index).num = search rules in
    let greater : c.max-most.result ≡ max c.loop-entry.most c.unsigned_abs.result = search rules in
    let before = c.loop-entry.invariant in
    record {
      first = omega (arith, before.first);
      all = λ j l. elim (cases_eq j c.loop-entry.entry-index) [
        | inl here ↦ rw here (omega arith)
        | inr other ↦
            let earlier : unsigned_abs (entry_at c.args.entries.now j).num ≤ c.loop-entry.most = before.all j (omega arith) in
            omega arith
      ];
      attained = elim (cases_lt c.loop-entry.most c.unsigned_abs.result) [
        | inl less ↦ inr (i, omega (arith, c.loop-entry-test.true), omega arith)
        | inr other ↦
            let same : c.loop-entry.most ≡ c.max-most.result = omega arith in
            subst (λ (n : ℕ). (n ≡ c.args.first) ⊎ ((j : ℕ) × (j < length entries) × (unsigned_abs (entry_at entries j).num ≡ n)))
            same before.attained
      ];
      least = λ most f w.
          let own : unsigned_abs (entry_at c.args.entries.now c.loop-entry.entry-index).num ≤ most = w i in
          omega (arith, before.least most f w);
    }
