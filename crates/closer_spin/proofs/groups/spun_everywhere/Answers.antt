use Rattle.std.proofs.Common.{◌≡◌, ◌++◌, ◌∷◌, [], arith, length, subst, sym, inl, inr}
use Rattle.std.specs.Prelude.{slice_index_or}
use Rattle.std.proofs.Math.ListN.{get_or-append}
use Rattle.std.proofs.Math.Seq.{get_or-append_seam}
use Rattle.std.proofs.lemmas.Bool.{cases_lt}
use Rattle.closer_spin.specs.Groups.{TellsAt}
use Rattle.closer_spin.proofs.groups.spun_everywhere.Goals as goal

pub loop-k-preserved : goal.loop-k-preserved
loop-k-preserved c =
    let set = c.args.set.now in
    let i = c.args.i.0 in
    let k = c.loop-k.k in
    let before = c.loop-k.everywhere.items in
    let t = c.in_ok-there.there in
    let size : length before ≡ k = c.loop-k.invariant.one_each in
    let told : TellsAt set i k t = record { there = c.in_ok-there.ensures.1; place = c.in_ok-there.ensures.0 } in
    record {
      one_each = omega (arith, size, c.in_ok-push.ensures.len);
      each = λ n d l. rw c.in_ok-push.ensures.items (elim (cases_lt n k) [
        | inl earlier ↦
            let same = get_or-append before (t ∷ []) d n (omega (arith, size, earlier)) in
            subst (TellsAt set i n) (sym same) (c.loop-k.invariant.each n d earlier)
        | inr last ↦
            let same : n ≡ k = omega (arith, l, last) in
            let here : slice_index_or (before ++ t ∷ []) k d ≡ t =
            subst (λ m. slice_index_or (before ++ t ∷ []) m d ≡ t) size (get_or-append_seam before t [] d) in
            rw same (subst (TellsAt set i k) (sym here) told)
      ]);
    }
