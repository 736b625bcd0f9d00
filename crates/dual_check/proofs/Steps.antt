-- The steps of judging, taken together.
use Rattle.std.proofs.Common.{◌≡◌, ◌∙◌, ℕ, ◌<◌, List, length, Err, Some, None, subst, arith}
use Rattle.std.proofs.lemmas.List.{length-map}
use Rattle.program_form.specs.Certificate.{CertificateDef, dual_seen, certificate_seen}
use Rattle.program_form.specs.declared.certificate.Certificate.{Certificate}
use Rattle.program_form.specs.Program.{columns}
use Rattle.program_sources.specs.Recurrence.{SourceDef}
use Rattle.program_sources.specs.Fitting.{tasks_of}
use Rattle.program_sources.specs.Valid.{IsValid}
use Rattle.schedule_answers.specs.Tests.{HasSizes, IsColumnCovered, IsCovered, IsEnough}
use Rattle.schedule_answers.specs.Failures.{AllPass, IsFirstFailing, PassesBounds, PassesCovers}
use Rattle.schedule_answers.specs.declared.checked.Invalid.{Invalid}
use Rattle.schedule_answers.specs.declared.checked.Invalid.TheVariants as invalid
use Rattle.dual_check.specs.declared.duals.DualWorth.{DualWorth}
use Rattle.dual_check.specs.declared.duals.DualWorth.TheVariants as worth
use Rattle.dual_check.specs.Answers.{HasDenominators, Judges, Weighs, Sums, FindsUncovered, AreWorths, IsCovering, IsWorthOf, worth_at}

-- The sizes of the lists are those of the certificate.
pub sizes_seen : (f : SourceDef) (c : Certificate) → length c.bounds.items ≡ tasks_of f → length c.duals.items ≡ tasks_of f
    → HasSizes f (certificate_seen c)
sizes_seen f c bounds duals = record { bound_each = bounds; dual_each = length-map c.duals.items dual_seen ∙ duals }

-- What ends the weighing ends the judging.
pub weighing_ends : (e : Invalid) (f : SourceDef) (c : CertificateDef) → PassesBounds f c → Weighs (Err e) f c → Judges (Err e) f c
weighing_ends invalid.Size f c passes weighs = absurd weighs
weighing_ends (invalid.Bound i) f c passes weighs = absurd weighs
weighing_ends (invalid.DualSize i) f c passes weighs = (passes, weighs)
weighing_ends (invalid.Cover i k) f c passes weighs = absurd weighs
weighing_ends (invalid.Small i) f c passes weighs = absurd weighs
weighing_ends invalid.Memory f c passes weighs = tt

-- A dual that has a value holds each column.
covers_where_covering : (f : SourceDef) (c : CertificateDef) (i : ℕ) (w : DualWorth) → IsWorthOf f c i w → IsCovering w → IsCovered f c i
covers_where_covering f c i (worth.Uncovered k) is covering = absurd covering
covers_where_covering f c i (worth.Covering value) is covering = is.0

covers_each : (f : SourceDef) (c : CertificateDef) (worths : List DualWorth) (i : ℕ) → AreWorths f c (tasks_of f) worths
    → i < tasks_of f → IsCovering (worth_at worths i) → IsCovered f c i
covers_each f c worths i are below covering = covers_where_covering f c i (worth_at worths i) (are.each i below) covering

-- All duals hold all columns if none is found that leaves one out.
pub all_cover : (f : SourceDef) (c : CertificateDef) (worths : List DualWorth) → AreWorths f c (tasks_of f) worths
    → FindsUncovered None worths → AllPass (tasks_of f) (IsCovered f c)
all_cover f c worths are found i below =
    covers_each f c worths i are below (found i (omega (arith, are.one_each, below)))

-- The first that leaves a column out is found with that column.
pub one_uncovered : (f : SourceDef) (c : CertificateDef) (worths : List DualWorth) (i k : ℕ) → PassesBounds f c
    → AreWorths f c (tasks_of f) worths → FindsUncovered (Some (i, k)) worths
    → IsFirstFailing (tasks_of f) (IsCovered f c) i × IsFirstFailing (columns (f.program i c.bounds)) (IsColumnCovered f c i) k
one_uncovered f c worths i k passes are (first, is) =
    let below : i < tasks_of f = omega (arith, are.one_each, first.below) in
    let column : IsWorthOf f c i (worth.Uncovered k) = subst (IsWorthOf f c i) is (are.each i below) in (
      record {
        below = below;
        fails = λ covered. column.fails (covered k column.below);
        earlier = λ j before. covers_each f c worths j are (omega (arith, before, below)) (first.earlier j before);
      },
      record { below = column.below; fails = column.fails; earlier = column.earlier },
    )

-- What ends the adding up ends the judging.
pub adding_ends : (e : Invalid) (f : SourceDef) (c : CertificateDef) → PassesCovers f c → Sums (Err e) f c → Judges (Err e) f c
adding_ends invalid.Size f c passes sums = absurd sums
adding_ends (invalid.Bound i) f c passes sums = absurd sums
adding_ends (invalid.DualSize i) f c passes sums = absurd sums
adding_ends (invalid.Cover i k) f c passes sums = absurd sums
adding_ends (invalid.Small i) f c passes sums = (passes, sums)
adding_ends invalid.Memory f c passes sums = tt

-- A certificate that passes all tests is valid.
pub valid_where_all_pass : (f : SourceDef) (c : CertificateDef) → PassesCovers f c → HasDenominators c
    → AllPass (tasks_of f) (IsEnough f c) → IsValid f c
valid_where_all_pass f c (((sizes, within), numerators), covers) denominators enough = record {
  bound_each = sizes.bound_each;
  dual_each = sizes.dual_each;
  proved = λ i below. record {
    within = within i below;
    feasible = record {
      number_each = numerators i below;
      covers = record { positive = denominators i (omega (arith, sizes.dual_each, below)); covered = covers i below };
    };
    enough = enough i below;
  };
}
