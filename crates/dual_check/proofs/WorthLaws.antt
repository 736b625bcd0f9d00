-- What the duals of one more task are worth.
use Rattle.std.proofs.Common.{◌≡◌, ◌∙◌, ℕ, ◌+◌, ◌<◌, List, [], ◌∷◌, ◌++◌, length, map, get_or, sym, ap, subst, arith, inl, inr}
use Rattle.std.proofs.lemmas.Bool.{cases_lt}
use Rattle.std.proofs.lemmas.List.{get_or_push, get_or_append_left, get_or-map, length_push}
use Rattle.program_form.specs.Certificate.{CertificateDef, dual_seen}
use Rattle.program_form.specs.declared.certificate.Dual.{Dual}
use Rattle.program_sources.specs.Recurrence.{SourceDef}
use Rattle.program_sources.specs.Valid.{dual_at, no_dual}
use Rattle.schedule_answers.specs.Tests.{HasDualSize}
use Rattle.dual_check.specs.Answers.{IsWorthOf, AreWorths, worth_at}
use Rattle.dual_check.specs.declared.duals.DualWorth.{DualWorth}
use Rattle.dual_check.specs.declared.duals.DualWorth.TheVariants as worth
use Rattle.dual_check.proofs.PassLaws.{one_more}

-- The dual of task i, as contracts see it.
pub dual_seen_at : (duals : List Dual) (i : ℕ) (dual : Dual) → i < length duals → dual ≡ get_or duals i dual
    → dual_at (map dual_seen duals) i ≡ dual_seen dual
dual_seen_at duals i dual here is = get_or-map dual_seen duals i dual no_dual here ∙ ap dual_seen (sym is)

pub one_more_worth : (f : SourceDef) (c : CertificateDef) (n : ℕ) (worths : List DualWorth) (w : DualWorth) → AreWorths f c n worths
    → HasDualSize f c n → IsWorthOf f c n w → AreWorths f c (n + 1) (worths ++ w ∷ [])
one_more_worth f c n worths w are size is = record {
  one_each = omega (arith, length_push worths w, are.one_each);
  sizes = one_more n (HasDualSize f c) are.sizes size;
  each = λ i below. elim (cases_lt i n) [
    | inl earlier ↦
        let same : worth_at (worths ++ w ∷ []) i ≡ worth_at worths i =
        get_or_append_left worths (w ∷ []) (worth.Uncovered 0) i (omega (arith, are.one_each)) in
        subst (IsWorthOf f c i) (sym same) (are.each i earlier)
    | inr late ↦
        let last : n ≡ i = omega arith in
        let new : worth_at (worths ++ w ∷ []) n ≡ w = get_or_push worths w (worth.Uncovered 0) n are.one_each in
        subst (λ k. IsWorthOf f c k (worth_at (worths ++ w ∷ []) k)) last (subst (IsWorthOf f c n) (sym new) is)
  ];
}
