-- Laws of the programs of the three protocols. The recurrence rises with its bounds, and a set that requests nothing has no columns.
use Rattle.std.proofs.Common.{◌≡◌, ℕ, Bool, true, false, ◌&&◌, not, List, [], ◌∷◌, length, refl, ◌∙◌, ap, nat_lt, ◌==◌}
use Rattle.std.specs.List.{All}
use Rattle.std.proofs.lemmas.List.{length-map}
use Rattle.std.proofs.lemmas.List.Elements.{All-head, filter_passes}
use Rattle.sporadic_model.specs.SetDef.{SetDef}
use Rattle.sporadic_model.specs.Users.{is_user, count_of}
use Rattle.sporadic_model.specs.declared.ids.Protocol.{Protocol}
use Rattle.blocking_columns.specs.ColumnDef.{ColumnDef, all_columns, IsKnown}
use Rattle.blocking_columns.specs.Columns.{columns_of, is_column, may_block}
use Rattle.blocking_columns.proofs.KnownColumns.{columns_known}
use Rattle.program_laws.specs.Programs.{cost_of, source_of}
use Rattle.program_laws.proofs.WrittenPrograms.{programs_rise}
use Rattle.program_sources.specs.Fitting.{NeverFalls, ComesUpAbove}
use Rattle.program_sources.proofs.RecurrenceLaws.{comes_up_above, never_falls}
use Rattle.response_fixpoint.specs.Runs.{HasNoColumns, RequestsNothing}

middle : (a b c : Bool) → ((a && b) && c) ≡ true → b ≡ true
middle true true c h = refl
middle true false c h = cc
middle false b c h = cc

none_kept : (p : Protocol) (set : SetDef) (i : ℕ) (cs : List ColumnDef) → RequestsNothing set
    → All (IsKnown (length set.tasks) (length set.resources)) cs → All (λ c. is_column p set i c ≡ true) cs → length cs ≡ 0
none_kept p set i [] nothing known kept = refl
none_kept p set i (c ∷ cs) nothing known kept =
    let here = All-head (IsKnown (length set.tasks) (length set.resources)) c cs known in
    let passes : is_column p set i c ≡ true = All-head (λ c. is_column p set i c ≡ true) c cs kept in
    let user : is_user set c.resource c.task ≡ true =
    middle (not (c.task == i)) (is_user set c.resource c.task) (may_block p set i c.task c.resource c.class) passes in
    let zero : count_of set c.task c.resource ≡ 0 = nothing c.task c.resource here.0 here.1 in
    let none : is_user set c.resource c.task ≡ false = ap (λ k. nat_lt 0 k) zero in
    cc

pub no_columns : (p : Protocol) (set : SetDef) → RequestsNothing set → HasNoColumns (source_of p set)
no_columns p set nothing i r here =
    length-map (columns_of p set i) (cost_of set)
    ∙ none_kept p set i (columns_of p set i) nothing (columns_known p set i)
    (filter_passes (is_column p set i) (all_columns (length set.tasks) (length set.resources)))

-- What comes up at greater bounds is no less.
pub written_above : (p : Protocol) (set : SetDef) → ComesUpAbove (source_of p set)
written_above p set = comes_up_above (source_of p set) (λ i r s here most. programs_rise p set i r s here most)

pub written_falls : (p : Protocol) (set : SetDef) → NeverFalls (source_of p set)
written_falls p set = never_falls (source_of p set) (λ i r s here most. programs_rise p set i r s here most)
