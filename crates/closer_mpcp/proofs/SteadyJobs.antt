-- Where equally many jobs of each task run in two spans, at the same bounds or at others, others hold a resource equally long in both.
use Rattle.std.proofs.Common.{◌≡◌, ℕ, zero, suc, ◌+◌, ◌*◌, ◌<◌, ◌≤◌, ◌&&◌, Bool, true, false, nat_lt, nat_le, length}
use Rattle.std.proofs.Common.{refl, sym, ap, subst, ◌∙◌, arith, inl, inr, Option, None, Some}
use Rattle.std.proofs.lemmas.Bool.{cases_lt, cases_Bool, leb-true}
use Rattle.std.specs.Option.{option_map_or}
use Rattle.number_laws.specs.Sums.{sum_below, only_if}
use Rattle.number_laws.specs.Tests.{found_below}
use Rattle.number_laws.proofs.SumLaws.{sum_below-agree}
use Rattle.number_laws.proofs.TestLaws.{found_below-is, found_below-first}
use Rattle.sporadic_model.specs.SetDef.{SetDef, task_at}
use Rattle.sporadic_model.specs.Users.{count_of, length_of}
use Rattle.blocking_columns.specs.Windows.{jobs_during, requests_during}
use Rattle.window_laws.proofs.Least.{found_least}
use Rattle.mpcp_window_laws.specs.MpcpWindows.{may_run_instead, holdings_beside, own_ticks, ticks_instead, ticks_held}
use Rattle.mpcp_window_laws.specs.MpcpWindows.{is_enough_wait, wait_window}
use Rattle.mpcp_window_laws.specs.KeptWindows.{KeepsWindow}
use Rattle.closer_mpcp.specs.Windows.{IsWindow}
use Rattle.closer_mpcp.specs.Steady.{JobsStay, IsCommonOf, AreCommon}

-- Do equally many jobs of each task run in v ticks at the bounds r, and in w ticks at the bounds s?
abbrev pub SameJobs : SetDef → (ℕ → ℕ) → (ℕ → ℕ) → ℕ → ℕ → Type 0
SameJobs set r s v w = (y : ℕ) → y < length set.tasks → jobs_during set r v y ≡ jobs_during set s w y

-- In each, q is the resource, and i the task that waits for it.
same_holdings : (set : SetDef) (r s : ℕ → ℕ) (i q v w x : ℕ) → i < length set.tasks → SameJobs set r s v w
    → holdings_beside set r i q v x ≡ holdings_beside set s i q w x
same_holdings set r s i q v w x here same =
    sum_below-agree i (λ y. only_if (may_run_instead set i y x) (requests_during set r v y q))
    (λ y. only_if (may_run_instead set i y x) (requests_during set s w y q))
    (λ y l. ap (λ n. only_if (may_run_instead set i y x) (count_of set y q * n)) (same y (omega (arith, l, here))))

same_instead : (set : SetDef) (r s : ℕ → ℕ) (i q v w x : ℕ) → i < length set.tasks → x < length set.tasks → SameJobs set r s v w
    → ticks_instead set r i q v x ≡ ticks_instead set s i q w x
same_instead set r s i q v w x here runner same =
    rw (same_holdings set r s i q v w x here same, same x runner) refl

pub same_held : (set : SetDef) (r s : ℕ → ℕ) (i q v w : ℕ) → i < length set.tasks → SameJobs set r s v w
    → ticks_held set r i q v ≡ ticks_held set s i q w
same_held set r s i q v w here same =
    let own : sum_below i (own_ticks set r q v) ≡ sum_below i (own_ticks set s q w) =
    sum_below-agree i (own_ticks set r q v) (own_ticks set s q w)
    (λ y l. ap (λ n. n * (count_of set y q * length_of set y q)) (same y (omega (arith, l, here)))) in
    let instead : sum_below (length set.tasks) (ticks_instead set r i q v) ≡ sum_below (length set.tasks) (ticks_instead set s i q w) =
    sum_below-agree (length set.tasks) (ticks_instead set r i q v) (ticks_instead set s i q w)
    (λ x l. same_instead set r s i q v w x here l same) in
    omega (arith, own, instead)

-- Up to so many ticks equally many jobs run at both bounds.
pub common_jobs : (set : SetDef) (r s : ℕ → ℕ) (ticks w x : ℕ) → AreCommon set r s ticks → 1 ≤ w → w ≤ ticks → x < length set.tasks
    → jobs_during set r w x ≡ jobs_during set s w x
common_jobs set r s ticks w x common some most here =
    let each = common x here in
    each.earlier w some most ∙ (each.one (omega (arith, some, most)) ∙ sym (each.now w some most))

-- What is found is found by each test that agrees up to there.
found_same : (n k : ℕ) (p t : ℕ → Bool) → found_below n p ≡ Some k → ((m : ℕ) → m ≤ k → t m ≡ p m) → found_below n t ≡ Some k
found_same n k p t found agree =
    let is_it : (k < n) × (p k ≡ true) = found_below-is n p k found in
    found_below-first n t k is_it.0 (agree k (omega arith) ∙ is_it.1) (λ m l. agree m (omega (arith, l)) ∙ elim (cases_Bool (p m)) [
      | inl passes ↦ absurd (omega (arith, found_least n p k m found passes, l))
      | inr fails ↦ fails
    ])

-- Equally many ticks are enough, up to so many.
same_enough : (set : SetDef) (r s : ℕ → ℕ) (i q ticks m : ℕ) → i < length set.tasks → AreCommon set r s ticks → m ≤ ticks
    → is_enough_wait set r i q m ≡ is_enough_wait set s i q m
same_enough set r s i q ticks zero here common most = refl
same_enough set r s i q ticks (suc m) here common most =
    ap (λ h. nat_lt 0 (suc m) && nat_le h (suc m))
    (same_held set r s i q (suc m) (suc m) here (λ y l. common_jobs set r s ticks (suc m) y common (omega arith) most l))

-- So a window within them is the window at both bounds.
pub same_window : (set : SetDef) (r s : ℕ → ℕ) (i q ticks w : ℕ) → i < length set.tasks → AreCommon set r s ticks → w ≤ ticks
    → wait_window set s i q ≡ Some w → wait_window set r i q ≡ wait_window set s i q
same_window set r s i q ticks w here common most found =
    found_same (suc (task_at set i).deadline) w (is_enough_wait set s i q) (is_enough_wait set r i q) found
    (λ m l. same_enough set r s i q ticks m here common (omega (arith, l, most))) ∙ sym found

-- What is true of each task up to some ticks, and of the next one, is true of all up to the fewer of these ticks.
pub one_more_to : (P : ℕ → ℕ → Type 0) (n a b t : ℕ) → ((x u v : ℕ) → P x u → v ≤ u → P x v) → ((x : ℕ) → x < n → P x a) → P n b
    → t ≤ a → t ≤ b → (x : ℕ) → x < n + 1 → P x t
one_more_to P n a b t falls each last few less x l = elim (cases_lt x n) [
  | inl before ↦ falls x a t (each x before) few
  | inr here ↦ let e : n ≡ x = omega (arith, here, l) in falls x b t (subst (λ (m : ℕ). P m b) e last) less
]

pub stays_less : (set : SetDef) (bounds : ℕ → ℕ) (x u v : ℕ) → JobsStay set bounds x u → v ≤ u → JobsStay set bounds x v
stays_less set bounds x u v stay less w some most = stay w some (omega (arith, most, less))

pub common_less : (set : SetDef) (r s : ℕ → ℕ) (x u v : ℕ) → IsCommonOf set r s x u → v ≤ u → IsCommonOf set r s x v
common_less set r s x u v common less = record {
  earlier = stays_less set r x u v common.earlier less;
  now = stays_less set s x u v common.now less;
  one = λ some. common.one (omega (arith, some, less));
}

-- A window within them is kept, and as many jobs can run in it.
pub keeps_common : (set : SetDef) (r s : ℕ → ℕ) (i q ticks : ℕ) (window : Option ℕ) → i < length set.tasks → AreCommon set r s ticks
    → IsWindow set s i q window → option_map_or (λ w. nat_le w ticks) window false ≡ true → KeepsWindow set r s i q
keeps_common set r s i q ticks None here common is most = absurd (cc)
keeps_common set r s i q ticks (Some w) here common is most =
    let found : wait_window set s i q ≡ Some w = sym is.value in
    let within : w ≤ ticks = leb-true w ticks most in
    record {
      same = same_window set r s i q ticks w here common within found;
      jobs = λ x v known user other.
          let e : Some w ≡ Some v = sym found ∙ other in
          let one : w ≡ v = cc in
          subst (λ (m : ℕ). jobs_during set r m x ≡ jobs_during set s m x) one
          (common_jobs set r s ticks w x common is.within.0 within known);
    }
