-- A task set that requests nothing has no columns, if the columns have to pass a test that asks for a user.
use Rattle.std.proofs.Common.{◌≡◌, Bool, true, false, ◌&&◌, not, List, [], ◌∷◌, length, map, refl, ◌∙◌, ap, nat_lt}
use Rattle.std.specs.List.{All}
use Rattle.std.proofs.lemmas.List.{length-map}
use Rattle.std.proofs.lemmas.List.Elements.{All-head}
use Rattle.sporadic_model.specs.SetDef.{SetDef}
use Rattle.sporadic_model.specs.Users.{is_user, count_of}
use Rattle.blocking_columns.specs.ColumnDef.{ColumnDef, IsKnown}
use Rattle.blocking_columns.specs.Columns.{columns_where}
use Rattle.blocking_columns.proofs.KnownColumns.{passing_known, passing_pass}
use Rattle.program_laws.specs.Programs.{cost_of}
use Rattle.response_fixpoint.specs.Runs.{RequestsNothing}

-- If three tests are passed, so is the second.
pub used_by : (a b c : Bool) → ((not a && b) && c) ≡ true → b ≡ true
used_by true b c h = cc
used_by false true c h = refl
used_by false false c h = cc

none_kept : (test : ColumnDef → Bool) (set : SetDef) (cs : List ColumnDef)
    → ((c : ColumnDef) → test c ≡ true → is_user set c.resource c.task ≡ true) → RequestsNothing set
    → All (IsKnown (length set.tasks) (length set.resources)) cs → All (λ c. test c ≡ true) cs → length cs ≡ 0
none_kept test set [] user nothing known kept = refl
none_kept test set (c ∷ cs) user nothing known kept =
    let here = All-head (IsKnown (length set.tasks) (length set.resources)) c cs known in
    let passes : test c ≡ true = All-head (λ c. test c ≡ true) c cs kept in
    let uses : is_user set c.resource c.task ≡ true = user c passes in
    let zero : count_of set c.task c.resource ≡ 0 = nothing c.task c.resource here.0 here.1 in
    let none : is_user set c.resource c.task ≡ false = ap (λ k. nat_lt 0 k) zero in
    cc

pub none_where : (test : ColumnDef → Bool) (set : SetDef)
    → ((c : ColumnDef) → test c ≡ true → is_user set c.resource c.task ≡ true) → RequestsNothing set
    → length (map (cost_of set) (columns_where test set)) ≡ 0
none_where test set user nothing =
    length-map (columns_where test set) (cost_of set)
    ∙ none_kept test set (columns_where test set) user nothing (passing_known test set) (passing_pass test set)
