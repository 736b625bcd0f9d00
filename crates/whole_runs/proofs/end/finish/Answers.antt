use Rattle.std.proofs.Common.{rules, refl, ◌∙◌, arith}
use Rattle.std.proofs.lemmas.Result.{err_from_is_err_and}
use Rattle.program_form.specs.Certificate.{dual_seen}
use Rattle.program_form.specs.declared.certificate.Dual.{Dual}
use Rattle.exchange_runs.specs.Readings.{IsWrittenDual, IsWideEnd}
use Rattle.exchange_runs.specs.SmallRuns.{IsLowestOf}
use Rattle.whole_rows.specs.Rows.{limit_of}
use Rattle.whole_runs.proofs.Causes.{stop_of}
use Rattle.whole_runs.proofs.Ending.{stand_of, objective_lowest, value_lowest, is_primal}
use Rattle.whole_runs.proofs.end.finish.Goals as goal

pub dual_of-requires : goal.dual_of-requires
dual_of-requires c = record {
  read = record {
    places = c.objective-objective.ensures.places;
    stand_each = c.requires.1.stand_each;
    each = stand_of c.args.program.now c.requires.0 c.args.stands.now c.requires.2;
  };
  last = search rules;
}

pub returns-in_err-dual : goal.returns-in_err-dual
returns-in_err-dual c basis t are low =
    let stop = err_from_is_err_and c.from_residual.result c.from_residual.ensures.1 in
    let objective = c.objective-objective.result.now in
    rw (stop.1, stop.2)
    (stop_of c.in_err-dual.field-0.0 (λ (d : Dual). IsWrittenDual c.args.program.now t (dual_seen d)) _ (IsWideEnd c.args.program.now t)
    (IsWideEnd c.args.program.now t) (λ wide. wide)
    (c.in_err-dual.ensures t (objective_lowest c.args.program.now c.args.rows.now basis c.args.stands.now objective t
    c.objective-objective.ensures.row low)))

pub primal_of-requires : goal.primal_of-requires
primal_of-requires c = record {
  objective = omega (arith, c.requires.1.row_each);
  stand_each = c.requires.1.stand_each;
  each = stand_of c.args.program.now c.requires.0 c.args.stands.now c.requires.2;
}

pub returns : goal.returns
returns c basis t are low =
    let p = c.args.program.now in
    let rows = c.args.rows.now in
    let stands = c.args.stands.now in
    let objective = c.objective-objective.result.now in
    let row = c.objective-objective.ensures.row in
    let limit : IsLowestOf (limit_of c.objective-objective.result.now) c.lowest.result = search rules in (
      refl,
      record {
        is_value = c.neg-value.ensures ∙ value_lowest p rows basis stands objective t c.lowest.result row low limit;
        is_primal = is_primal p rows basis stands t c.in_ok-primal.primal.items c.in_ok-primal.ensures are low;
        is_dual = c.in_ok-dual.ensures t (objective_lowest p rows basis stands objective t row low);
      },
    )
