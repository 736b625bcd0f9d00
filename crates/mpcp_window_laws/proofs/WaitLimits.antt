-- How many requests can run while a job waits: the lesser of two numbers, neither of which falls when bounds rise.
use Rattle.std.proofs.Common.{◌≡◌, ℕ, zero, suc, ◌*◌, ◌<◌, ◌≤◌, true, false, length, refl, ap, ◌∙◌, arith, ◌⊎◌, inl, inr, Option, Some}
use Rattle.std.proofs.Common.{None, min}
use Rattle.std.specs.Prelude.{unwrap_or}
use Rattle.std.proofs.Math.Nat.{mul-le-mul_left, mul-le-mul_right}
use Rattle.std.proofs.lemmas.Bool.{cases_lt, cases_Bool, ltb-false}
use Rattle.number_laws.proofs.SumLaws.{sum_below-monotone}
use Rattle.number_laws.proofs.OnlyIfLaws.{only_if-rises}
use Rattle.number_laws.specs.Sums.{only_if}
use Rattle.sporadic_model.specs.SetDef.{SetDef}
use Rattle.sporadic_model.specs.Users.{count_of, is_user}
use Rattle.blocking_columns.specs.Windows.{jobs_during, jobs_in, requests_in, requests_during}
use Rattle.indirect_constraints.specs.Rows.{is_beside}
use Rattle.window_laws.proofs.Rising.{IsBelow}
use Rattle.mpcp_window_laws.specs.MpcpWindows.{wait_window}
use Rattle.mpcp_window_laws.specs.KeptWindows.{KeepsWindow}
use Rattle.mpcp_window_laws.specs.WaitRows.{requests_in_windows, requests_in_waits, direct_wait_row, held_in_waits}
use Rattle.mpcp_window_laws.proofs.Rising.{jobs_rise, window_rises}

-- What is at most s for each of two numbers is at most s for each of the lesser.
lesser_of : (c d s ticks : ℕ) → ticks ≤ s * c → ticks ≤ s * d → ticks ≤ s * min c d
lesser_of c d s ticks f g = elim (cases_lt c d) [
  | inl less ↦ let e : min c d ≡ c = omega (arith, less) in rw e f
  | inr most ↦ let e : min c d ≡ d = omega (arith, most) in rw e g
]

-- Where a task uses the resource, its number of requests is a factor that makes nothing less.
factor_of_user : (set : SetDef) (i q c : ℕ) → 0 < count_of set i q → c ≤ count_of set i q * c
factor_of_user set i q c some = let more : 1 * c ≤ count_of set i q * c = mul-le-mul_right c some in omega (arith, more)

-- What the requests pay that x makes while the job runs, and also those within its windows where it has one, those in its waits pay.
pub paid_in_each : (set : SetDef) (bounds : ℕ → ℕ) (i q x r s ticks : ℕ) → 0 < count_of set i q → ticks ≤ s * requests_in set bounds i x r
    → ((b : ℕ) → wait_window set bounds i q ≡ Some b → ticks ≤ s * (count_of set i q * requests_during set bounds b x r))
    → ticks ≤ s * requests_in_waits set bounds i q x r
paid_in_each set bounds i q x r s ticks some all within = go (wait_window set bounds i q) refl where
  go : (o : Option ℕ) → wait_window set bounds i q ≡ o → ticks ≤ s * requests_in_waits set bounds i q x r
  go (Some b) e =
      rw e (lesser_of (requests_in set bounds i x r) (count_of set i q * requests_during set bounds b x r) s ticks all (within b e))
  go None e =
      let more : s * requests_in set bounds i x r ≤ s * (count_of set i q * requests_in set bounds i x r) =
      mul-le-mul_left s (factor_of_user set i q (requests_in set bounds i x r) some) in
      rw e (lesser_of (requests_in set bounds i x r) (count_of set i q * requests_in set bounds i x r) s ticks all (omega (arith, all, more)))

requests_rise : (set : SetDef) (r s : ℕ → ℕ) (v w x p : ℕ) → v ≤ w → r x ≤ s x → requests_during set r v x p ≤ requests_during set s w x p
requests_rise set r s v w x p more h = mul-le-mul_left (count_of set x p) (jobs_rise set r s v w x more h)

-- Let a job make n requests. While it runs another task makes a, which is at most b. Within a window it makes v, which is at most w; or b
-- itself takes the place of w. Then no more of them run in waits.
pub lesser_rises : (n a b v w : ℕ) → a ≤ b → (v ≤ w) ⊎ (w ≡ b) → min a (n * v) ≤ min b (n * w)
lesser_rises n a b v w more (inl less) = omega (arith, more, mul-le-mul_left n less)
lesser_rises zero a b v w more (inr same) = omega arith
lesser_rises (suc n) a b v w more (inr same) =
    let once : 1 * w ≤ suc n * w = mul-le-mul_right w (omega arith) in
    omega (arith, more, same, once)

-- Their number doesn't fall.
pub waits_rise : (set : SetDef) (r s : ℕ → ℕ) (i q x p : ℕ) → i < length set.tasks → x < length set.tasks → IsBelow set r s
    → requests_in_waits set r i q x p ≤ requests_in_waits set s i q x p
waits_rise set r s i q x p known l below = go (wait_window set s i q) refl where
  all : requests_in set r i x p ≤ requests_in set s i x p
  all = requests_rise set r s (r i) (s i) x p (below i known) (below x l)

  within : ℕ → ℕ
  within b = requests_during set r b x p

  go : (o : Option ℕ) → wait_window set s i q ≡ o → requests_in_waits set r i q x p ≤ requests_in_waits set s i q x p
  go None e =
      rw e (lesser_rises (count_of set i q) (requests_in set r i x p) (requests_in set s i x p)
      (within (unwrap_or (wait_window set r i q) (r i))) (requests_in set s i x p) all (inr refl))
  go (Some c) e =
      let f = window_rises set r s i q c known below e in
      let there : wait_window set r i q ≡ Some f.least = f.is_it in
      rw (e, there) (lesser_rises (count_of set i q) (requests_in set r i x p) (requests_in set s i x p) (within f.least)
      (requests_during set s c x p) all (inl (requests_rise set r s f.least c x p f.at_most (below x l))))

-- So neither does the limit of a row, nor the number of requests that higher tasks can hold.
pub direct_wait_limit_rises : (set : SetDef) (r s : ℕ → ℕ) (i x q : ℕ) → i < length set.tasks → x < length set.tasks → IsBelow set r s
    → (direct_wait_row set i x q).limit r ≤ (direct_wait_row set i x q).limit s
direct_wait_limit_rises set r s i x q known l below = waits_rise set r s i q x q known l below

pub held_at_most : (set : SetDef) (r s : ℕ → ℕ) (i x q : ℕ)
    → ((y : ℕ) → y < i → requests_in_waits set r i q y q ≤ requests_in_waits set s i q y q)
    → held_in_waits set i r x q ≤ held_in_waits set i s x q
held_at_most set r s i x q most =
    sum_below-monotone i (λ y. only_if (is_beside set x y) (requests_in_waits set r i q y q))
    (λ y. only_if (is_beside set x y) (requests_in_waits set s i q y q))
    (λ y l. only_if-rises (is_beside set x y) (requests_in_waits set r i q y q) (requests_in_waits set s i q y q) (λ h. most y l))

pub held_rises : (set : SetDef) (r s : ℕ → ℕ) (i x q : ℕ) → i < length set.tasks → IsBelow set r s
    → held_in_waits set i r x q ≤ held_in_waits set i s x q
held_rises set r s i x q known below =
    held_at_most set r s i x q (λ y l. waits_rise set r s i q y q known (omega (arith, l, known)) below)

-- What doesn't use a resource makes no request of it.
pub none_by : (set : SetDef) (bounds : ℕ → ℕ) (w x q : ℕ) → is_user set q x ≡ false → requests_during set bounds w x q ≡ 0
none_by set bounds w x q unused =
    let none : count_of set x q ≡ 0 = omega (arith, ltb-false 0 (count_of set x q) unused) in
    let nothing : 0 * jobs_during set bounds w x ≡ 0 = omega arith in
    ap (λ n. n * jobs_during set bounds w x) none ∙ nothing

-- Where a window stays, and as many jobs can run in it and while the job runs, as many requests can run in the waits.
pub waits_stay : (set : SetDef) (r s : ℕ → ℕ) (i q x : ℕ) → x < length set.tasks → jobs_in set r i x ≡ jobs_in set s i x
    → (is_user set q i ≡ true → KeepsWindow set r s i q) → requests_in_waits set r i q x q ≡ requests_in_waits set s i q x q
waits_stay set r s i q x here same keeps = elim (cases_Bool (is_user set q i)) [
  | inl waits ↦ elim (cases_Bool (is_user set q x)) [
    | inl user ↦ go (keeps waits) user (wait_window set s i q) refl
    | inr unused ↦ omega (arith, none_by set r (r i) x q unused, none_by set s (s i) x q unused)
  ]
  | inr unused ↦ omega (arith, none_waited r unused, none_waited s unused)
] where
  none_waited : (bounds : ℕ → ℕ) → is_user set q i ≡ false → requests_in_windows set bounds i q x q ≡ 0
  none_waited bounds unused =
      let none : count_of set i q ≡ 0 = omega (arith, ltb-false 0 (count_of set i q) unused) in
      rw none (omega arith)

  all : requests_in set r i x q ≡ requests_in set s i x q
  all = ap (λ n. count_of set x q * n) same

  go : KeepsWindow set r s i q → is_user set q x ≡ true → (o : Option ℕ) → wait_window set s i q ≡ o
      → requests_in_waits set r i q x q ≡ requests_in_waits set s i q x q
  go kept user None e =
      let there : wait_window set r i q ≡ None = kept.same ∙ e in
      rw (e, there) (λ j. min (all j) (count_of set i q * all j))
  go kept user (Some w) e =
      let there : wait_window set r i q ≡ Some w = kept.same ∙ e in
      let jobs : jobs_during set r w x ≡ jobs_during set s w x = kept.jobs x w here user e in
      rw (e, there) (λ j. min (all j) (count_of set i q * (count_of set x q * jobs j)))
