-- When a program of the closer analysis of MPCP has the same windows at other bounds. In each, i is the analysed task.
use Rattle.std.specs.Prelude.{◌≡◌, ℕ, ◌<◌, true, List, length, Some, slice_index}
use Rattle.sporadic_model.specs.SetDef.{SetDef}
use Rattle.sporadic_model.specs.Users.{is_user}
use Rattle.blocking_columns.specs.Windows.{jobs_during}
use Rattle.mpcp_window_laws.specs.MpcpWindows.{wait_window}

-- Has a request of q by i the same window at the bounds r as at s? And can exactly as many jobs of each user of q run in it?
pub record KeepsWindow (set : SetDef) (r s : ℕ → ℕ) (i q : ℕ) : Type 0 where
  pub same : wait_window set r i q ≡ wait_window set s i q
  pub jobs : (x w : ℕ) → x < length set.tasks → is_user set q x ≡ true → wait_window set s i q ≡ Some w
      → jobs_during set r w x ≡ jobs_during set s w x

-- Is it so for each resource that i requests?
abbrev pub KeepsWindows : SetDef → ℕ → List ℕ → List ℕ → Type 0
KeepsWindows set i r s = (q : ℕ) → q < length set.resources → is_user set q i ≡ true → KeepsWindow set (slice_index r) (slice_index s) i q
