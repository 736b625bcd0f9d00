use Rattle.std.proofs.Common.{◌≡◌, ℕ, ◌∙◌, [], ◌∷◌, ◌++◌, length, subst, arith, inl, inr}
use Rattle.std.specs.Prelude.{slice_index_or}
use Rattle.std.proofs.Math.ListN.{get_or-append}
use Rattle.std.proofs.Math.Seq.{get_or-append_seam}
use Rattle.std.proofs.lemmas.Bool.{cases_lt}
use Rattle.std.proofs.lemmas.List.{get_or-replicate}
use Rattle.blocking_columns.specs.declared.homes.HomeMark.{HomeMark}
use Rattle.blocking_columns.proofs.homes.home_marks.Goals as goal

pub count_homes-requires-clause-none : goal.count_homes-requires-clause-none
count_homes-requires-clause-none c = record { room = omega arith; none = λ k l. get_or-replicate 65 k 0 0 l }

pub loop-q-preserved : goal.loop-q-preserved
loop-q-preserved c =
    let set = c.args.set.now in
    let i = c.args.i.0 in
    let before = c.loop-q.marks.items in
    let now = c.push.new.self.items in
    let size : length before ≡ c.loop-q.q = c.loop-q.invariant.one_each in
    let here : (d : HomeMark) → slice_index_or (before ++ c.mark.result ∷ []) c.loop-q.q d ≡ c.mark.result = λ d.
    subst (λ (k : ℕ). slice_index_or (before ++ c.mark.result ∷ []) k d ≡ c.mark.result) size
    (get_or-append_seam before c.mark.result [] d) in
    record {
      one_each = omega (arith, size, c.in_ok-push.ensures.len);
      each = λ q d l. rw c.in_ok-push.ensures.items (elim (cases_lt q c.loop-q.q) [
        | inl earlier ↦ get_or-append before (c.mark.result ∷ []) d q (omega (arith, size, earlier)) ∙ c.loop-q.invariant.each q d earlier
        | inr last ↦
            let same : q ≡ c.loop-q.q = omega (arith, l, last) in
            rw same (here d ∙ c.mark.ensures)
      ]);
    }
