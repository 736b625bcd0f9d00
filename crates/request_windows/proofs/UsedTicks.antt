-- The requests of a task are of the resources that it uses: sums and greatest values over these.
use Rattle.std.proofs.Common.{◌≡◌, ℕ, ◌*◌, ◌==◌, false, List, map, length, refl, ap, ◌∙◌, arith}
use Rattle.std.specs.List.{flat_map, sum_by}
use Rattle.std.proofs.lemmas.Bool.{ltb-false}
use Rattle.number_laws.specs.Sums.{only_if}
use Rattle.number_laws.proofs.OnlyIfLaws.{only_if-nothing}
use Rattle.sporadic_model.specs.SetDef.{SetDef}
use Rattle.sporadic_model.specs.Users.{count_of, length_of, is_user, used_by}
use Rattle.sporadic_model.specs.Homes.{home_in}
use Rattle.sporadic_model.specs.declared.ids.ResourceId.{ResourceId}
use Rattle.schedule_model.specs.Measures.{greatest_below}
use Rattle.blocking_columns.proofs.KeptNumbers.{sum_where_kept, collected_of_kept}
use Rattle.window_laws.specs.Windows.{time_at, may_hold_up}
use Rattle.window_laws.proofs.KeptGreatest.{greatest_of, some_if, greatest_collected}

none_unused : (set : SetDef) (x q : ℕ) → is_user set q x ≡ false → count_of set x q ≡ 0
none_unused set x q unused = omega (arith, ltb-false 0 (count_of set x q) unused)

pub used_time : (set : SetDef) (x k : ℕ) (qs : List ResourceId) → map (λ q. q.0) qs ≡ used_by set x
    → sum_by (λ q. only_if (home_in set q.0 == k) (count_of set x q.0 * length_of set x q.0)) qs ≡ time_at set x k
used_time set x k qs same = sum_where_kept (λ (q : ResourceId). q.0) qs (λ q. is_user set q x)
    (λ q. only_if (home_in set q == k) (count_of set x q * length_of set x q)) (length set.resources) same
    (λ q unused. let none : count_of set x q * length_of set x q ≡ 0 =
    ap (λ n. n * length_of set x q) (none_unused set x q unused) ∙ omega arith in
    ap (only_if (home_in set q == k)) none ∙ only_if-nothing (home_in set q == k))

-- How long the requests last of these resources by task x that may hold up a request of i on processor k.
abbrev pub holding_up : SetDef → ℕ → ℕ → ℕ → List ResourceId → List ℕ
holding_up set i k x qs = flat_map (λ q. some_if (may_hold_up set i k x q.0) (length_of set x q.0)) qs

pub longest_used : (set : SetDef) (i k x : ℕ) (qs : List ResourceId) → map (λ q. q.0) qs ≡ used_by set x
    → greatest_of (holding_up set i k x qs)
    ≡ greatest_below (length set.resources) (λ q. only_if (may_hold_up set i k x q) (length_of set x q))
longest_used set i k x qs same =
    ap greatest_of (collected_of_kept (λ (q : ResourceId). q.0) qs (λ q. is_user set q x)
    (λ q. some_if (may_hold_up set i k x q) (length_of set x q)) (length set.resources) same
    (λ q unused. let fails : may_hold_up set i k x q ≡ false = grind (arith, unused) in rw fails refl))
    ∙ greatest_collected (length set.resources) (λ q. may_hold_up set i k x q) (λ q. length_of set x q)
