use Rattle.std.proofs.Common.{◌≡◌, ◌<◌, length, ◌∙◌, arith, sym, ap, get_or}
use Rattle.std.proofs.lemmas.List.{length-set}
use Rattle.schedule_model.specs.JobDef.{JobDef, job_of}
use Rattle.schedule_model.specs.LawfulJobs.{IsLawfulJob}
use Rattle.charge.specs.declared.item.ChargeItem.{ChargeItem}
use Rattle.audit_figures.proofs.Adding.{sums_begin, sums_step}
use Rattle.audit_figures.proofs.TableSums.{no_charge}
use Rattle.audit_figures.proofs.sums.add_items.Goals as goal

pub loop-item-init : goal.loop-item-init
loop-item-init c = record { size = c.requires.none.size; each = λ x l. c.requires.none.each x ∙ sums_begin c.args.jobs.now.jobs x }

pub loop-item-preserved : goal.loop-item-preserved
loop-item-preserved c =
    let item : ChargeItem = get_or c.args.items.now c.loop-item.item-index no_charge in
    let own : c.job.result.task.0 ≡ (job_of c.args.jobs.now.jobs item.blocked.0).task =
    ap (λ (j : JobDef). j.task) c.job.ensures.value in
    let listed : IsLawfulJob c.args.jobs.now.set (job_of c.args.jobs.now.jobs item.blocked.0) =
    c.job.ensures.lawful.each item.blocked.0 (c.requires.listed c.loop-item.item-index no_charge c.loop-item-test.true) in
    let below : c.job.result.task.0 < length c.loop-item.sums =
    omega (arith, own, listed.task, c.loop-item.invariant.size) in
    record {
      size = ap length c.add_item.ensures ∙ length-set c.loop-item.sums c.job.result.task.0 _ ∙ c.loop-item.invariant.size;
      each = λ x l. rw c.add_item.ensures (sums_step c.args.jobs.now.jobs x c.job.result.task.0 c.args.items.now c.loop-item.item-index
          no_charge c.loop-item.sums c.loop-item-test.true (sym own) below (c.loop-item.invariant.each x l));
    }
