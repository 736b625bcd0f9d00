-- A task's requests that go first are of the resources that it uses, which are a list.
use Rattle.std.proofs.Common.{◌≡◌, ℕ, ◌+◌, ◌*◌, ◌<◌, ◌≤◌, false, List, [], length, map, max, drop}
use Rattle.std.proofs.Common.{refl, ap, ◌∙◌, arith, Option, None, Some}
use Rattle.std.specs.List.{sum_by}
use Rattle.std.specs.Option.{option_map_or}
use Rattle.std.specs.Str.{bytes_eq}
use Rattle.std.proofs.lemmas.Bool.{ltb-false}
use Rattle.std.proofs.lemmas.List.{drop_all}
use Rattle.number_laws.specs.Sums.{only_if}
use Rattle.number_laws.proofs.OnlyIfLaws.{only_if-nothing}
use Rattle.sporadic_model.specs.SetDef.{SetDef, RequestDef, resource_at}
use Rattle.sporadic_model.specs.Users.{count_of, length_of, entry_of, is_user, used_by}
use Rattle.sporadic_model.specs.Accepted.{IsAccepted}
use Rattle.sporadic_model.specs.declared.ids.ResourceId.{ResourceId}
use Rattle.sporadic_model.proofs.Laws.{entry_of_accepted}
use Rattle.blocking_columns.proofs.KeptNumbers.{sum_where_kept}
use Rattle.window_laws.proofs.KeptGreatest.{greatest_of, greatest_where_kept}
use Rattle.closer_mpcp_laws.specs.CloserMpcpRows.{goes_first}
use Rattle.mpcp_window_laws.specs.MpcpWindows.{longest_first, time_first}

-- Every entry has requests, so what makes none has no length.
no_length : (set : SetDef) (x r : ℕ) → IsAccepted set → x < length set.tasks → is_user set r x ≡ false → length_of set x r ≡ 0
no_length set x r accepted here unused = go (entry_of set x r) refl (ltb-false 0 (count_of set x r) unused) where
  go : (o : Option RequestDef) → entry_of set x r ≡ o → option_map_or (λ e. e.count) o 0 ≤ 0 → option_map_or (λ e. e.length) o 0 ≡ 0
  go None same none = refl
  go (Some e) same none =
      absurd (omega (arith, (entry_of_accepted set x (λ a. bytes_eq a.resource (resource_at set r).name) e accepted here same).count_from))

-- The longest behind the last of them.
pub longest_of_used : (set : SetDef) (x q : ℕ) (rs : List ResourceId) (k longest : ℕ) → map (λ (r : ResourceId). r.0) rs ≡ used_by set x
    → IsAccepted set → x < length set.tasks → length rs ≤ k
    → max longest (greatest_of (map (λ (r : ResourceId). only_if (goes_first set x r.0 q) (length_of set x r.0)) (drop k rs)))
    ≡ greatest_of (map (λ (r : ResourceId). only_if (goes_first set x r.0 q) (length_of set x r.0)) rs)
    → longest ≡ longest_first set x q
longest_of_used set x q rs k longest same accepted here past greatest =
    let f : ResourceId → ℕ = λ r. only_if (goes_first set x r.0 q) (length_of set x r.0) in
    let whole : max longest (greatest_of (map f [])) ≡ greatest_of (map f rs) = rw (drop_all k rs past) at greatest in
    let all : greatest_of (map f rs) ≡ longest_first set x q = greatest_where_kept (λ (r : ResourceId). r.0) rs (λ r. is_user set r x)
    (λ r. only_if (goes_first set x r q) (length_of set x r)) (length set.resources) same
    (λ r unused. ap (only_if (goes_first set x r q)) (no_length set x r accepted here unused) ∙ only_if-nothing (goes_first set x r q)) in
    omega (arith, whole, all)

-- And what all of one job last.
pub time_of_used : (set : SetDef) (x q : ℕ) (rs : List ResourceId) (k total : ℕ) → map (λ (r : ResourceId). r.0) rs ≡ used_by set x
    → length rs ≤ k
    → total + sum_by (λ (r : ResourceId). only_if (goes_first set x r.0 q) (count_of set x r.0 * length_of set x r.0)) (drop k rs)
    ≡ sum_by (λ (r : ResourceId). only_if (goes_first set x r.0 q) (count_of set x r.0 * length_of set x r.0)) rs
    → total ≡ time_first set x q
time_of_used set x q rs k total same past sums =
    let f : ResourceId → ℕ = λ r. only_if (goes_first set x r.0 q) (count_of set x r.0 * length_of set x r.0) in
    let whole : total + sum_by f [] ≡ sum_by f rs = rw (drop_all k rs past) at sums in
    let all : sum_by f rs ≡ time_first set x q = sum_where_kept (λ (r : ResourceId). r.0) rs (λ r. is_user set r x)
    (λ r. only_if (goes_first set x r q) (count_of set x r * length_of set x r)) (length set.resources) same
    (λ r unused. let none : count_of set x r ≡ 0 = omega (arith, ltb-false 0 (count_of set x r) unused) in
    let nothing : count_of set x r * length_of set x r ≡ 0 = ap (λ n. n * length_of set x r) none ∙ omega arith in
    ap (only_if (goes_first set x r q)) nothing ∙ only_if-nothing (goes_first set x r q)) in
    omega (arith, whole, all)
