-- Tables of values that agree.
use Rattle.std.proofs.Common.{◌≡◌, ◌++◌, ℕ, ◌<◌, List, length, ap}
use Rattle.std.specs.Prelude.{slice_index}
use Rattle.number_laws.proofs.SumLaws.{collect_below-agree}
use Rattle.sporadic_model.specs.SetDef.{SetDef, task_at}
use Rattle.report.specs.Table.{load_lines}
use Rattle.report.specs.FullTable.{full_header, full_line, full_text}

pub full_text-agree : (set : SetDef) (bounds : List ℕ) (v w : ℕ → ℕ) → ((x : ℕ) → x < length set.tasks → v x ≡ w x)
    → full_text set bounds v ≡ full_text set bounds w
full_text-agree set bounds v w same =
    ap (λ lines. full_header ++ (lines ++ load_lines set))
    (collect_below-agree (length set.tasks) (λ x. full_line (task_at set x) (slice_index bounds x) (v x))
    (λ x. full_line (task_at set x) (slice_index bounds x) (w x))
    (λ x here. ap (λ n. full_line (task_at set x) (slice_index bounds x) n) (same x here)))
