-- Rows that are kept by their nonzero coefficients and were taken behind none, over the columns of a program, are the rows of that
-- program.
use Rattle.std.proofs.Common.{◌≡◌, ℕ, ◌<◌, ◌^◌, List, [], map, length, sym, ◌∙◌, ap, subst, arith}
use Rattle.std.proofs.lemmas.List.{length-map}
use Rattle.program_form.specs.Program.{IsProgram}
use Rattle.program_form.specs.RowBlock.{RowBlockDef, lists_of}
use Rattle.program_form.specs.SparseRows.{SparseRowsDef, AreListed, sparse_rows_seen}
use Rattle.sporadic_model.specs.SetDef.{SetDef}
use Rattle.blocking_columns.specs.ColumnDef.{ColumnDef}
use Rattle.fragments.specs.Constraints.{ConstraintDef, block_of}
use Rattle.fragments.specs.SparseTaking.{HasSparseBehind, takes_sparse}
use Rattle.program_laws.specs.Programs.{cost_of, program_with}

pub sparse_is_program : (set : SetDef) (seen cs : List ColumnDef) (rows : List ConstraintDef) (bounds costs : List ℕ) (start taken : SparseRowsDef)
    → seen ≡ cs → costs ≡ map (cost_of set) seen → start ≡ record { rows = []; limits = [] }
    → takes_sparse start seen rows bounds taken → IsProgram (program_with set cs rows bounds)
    → (AreListed (length costs) taken.rows) × IsProgram (lists_of costs (sparse_rows_seen (length costs) taken))
sparse_is_program set seen cs rows bounds costs start taken same worth none takes given =
    let is : IsProgram (program_with set seen rows bounds) = rw same given in
    let few : length seen < 2 ^ 32 = omega (arith, is.columns_to, length-map seen (cost_of set)) in
    let there : HasSparseBehind start seen rows bounds taken = takes few in
    let block : sparse_rows_seen (length seen) taken ≡ block_of seen rows bounds = rw none at there.seen in
    let many : length costs ≡ length seen = ap length worth ∙ length-map seen (cost_of set) in (
      rw many (there.listed (rw none (λ r l. absurd (omega arith)))),
      rw (many, worth) (subst (λ (b : RowBlockDef). IsProgram (lists_of (map (cost_of set) seen) b)) (sym block) is),
    )
