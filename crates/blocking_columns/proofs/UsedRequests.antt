-- The requests of a task are of the resources that it uses.
use Rattle.std.proofs.Common.{◌≡◌, ℕ, ◌==◌, List, map, length, false, ap, ◌∙◌, arith}
use Rattle.std.specs.List.{sum_by}
use Rattle.std.proofs.lemmas.Bool.{ltb-false}
use Rattle.number_laws.specs.Sums.{only_if}
use Rattle.number_laws.proofs.OnlyIfLaws.{only_if-nothing}
use Rattle.sporadic_model.specs.SetDef.{SetDef}
use Rattle.sporadic_model.specs.Users.{count_of, is_user, used_by}
use Rattle.sporadic_model.specs.Homes.{home_in}
use Rattle.sporadic_model.specs.declared.ids.ResourceId.{ResourceId}
use Rattle.blocking_columns.specs.Windows.{all_requests, requests_at}
use Rattle.blocking_columns.proofs.KeptNumbers.{sum_where_kept}

none_unused : (set : SetDef) (x q : ℕ) → is_user set q x ≡ false → count_of set x q ≡ 0
none_unused set x q unused = omega (arith, ltb-false 0 (count_of set x q) unused)

pub used_requests : (set : SetDef) (x : ℕ) (qs : List ResourceId) → map (λ q. q.0) qs ≡ used_by set x
    → sum_by (λ q. count_of set x q.0) qs ≡ all_requests set x
used_requests set x qs same = sum_where_kept (λ (q : ResourceId). q.0) qs (λ q. is_user set q x) (λ q. count_of set x q)
    (length set.resources) same (none_unused set x)

pub used_requests_at : (set : SetDef) (x k : ℕ) (qs : List ResourceId) → map (λ q. q.0) qs ≡ used_by set x
    → sum_by (λ q. only_if (home_in set q.0 == k) (count_of set x q.0)) qs ≡ requests_at set x k
used_requests_at set x k qs same = sum_where_kept (λ (q : ResourceId). q.0) qs (λ q. is_user set q x)
    (λ q. only_if (home_in set q == k) (count_of set x q)) (length set.resources) same
    (λ q unused. ap (only_if (home_in set q == k)) (none_unused set x q unused) ∙ only_if-nothing (home_in set q == k))
