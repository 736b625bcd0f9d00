use Rattle.std.proofs.Common.{refl, ◌≡◌, ◌+◌, ◌≤◌, length}
use Rattle.std.specs.Io.KnownBytes.{Appends}
use Rattle.outside_ports.specs.Prefix.{AppendsPart}
use Rattle.command_words.specs.Words.{words_seen}
use Rattle.command_inputs.specs.Halts.{reply_seen}
use Rattle.command_inputs.specs.Statuses.{number_of}
use Rattle.run_plans.specs.Headline.{Call}
use Rattle.run_plans.proofs.RunLaws.{run_written, run_cut}
use Rattle.block_top.proofs.top.run.Goals as goal

pub returns-in-Ok-put_all-clause-run : goal.returns-in-Ok-put_all-clause-run
returns-in-Ok-put_all-clause-run g c =
    let call : Call = record {
      words = words_seen c.args.words.now;
      shelf_before = g.S.Shelf.seen c.args.shelf.now;
      shelf_now = g.S.Shelf.seen c.reply_to.new.shelf;
      sink_before = g.K.Sink.seen c.args.sink.now;
      sink_now = g.K.Sink.seen c.put_all.new.sink;
      status = number_of c.in-Ok.reply.status;
    } in
    let whole : Appends call.sink_before.written call.sink_now.written c.in-Ok.reply.text.items =
    rw c.deref.ensures.value at c.in-Ok-put_all.ensures.whole in
    let takes : length c.in-Ok.reply.text.items ≤ call.sink_before.room
    → (call.sink_before.room ≤ call.sink_now.room + length c.in-Ok.reply.text.items) × (call.sink_now.faults ≡ call.sink_before.faults) =
    λ fits. (let kept = (rw c.deref.ensures.value at c.in-Ok-put_all.ensures.takes) fits in (kept.1, kept.2)) in
    run_written call (reply_seen c.in-Ok.reply) c.in-Ok.ensures.reply (refl, whole) takes

pub returns-clause-run : goal.returns-clause-run
returns-clause-run g c =
    let call : Call = record {
      words = words_seen c.args.words.now;
      shelf_before = g.S.Shelf.seen c.args.shelf.now;
      shelf_now = g.S.Shelf.seen c.reply_to.new.shelf;
      sink_before = g.K.Sink.seen c.args.sink.now;
      sink_now = g.K.Sink.seen c.put_all.new.sink;
      status = 4;
    } in
    let part : AppendsPart call.sink_before.written call.sink_now.written c.in-Ok.reply.text.items =
    rw c.deref.ensures.value at c.in-Err-put_all.ensures.part in
    let none : length c.in-Ok.reply.text.items ≤ call.sink_before.room → ⊥ =
    λ fits. (let kept = (rw c.deref.ensures.value at c.in-Err-put_all.ensures.takes) fits in let no = kept.0 in cc) in
    run_cut call (reply_seen c.in-Ok.reply) c.in-Ok.ensures.reply
    (record { rose = c.in-Err-put_all.ensures.failed; part = part; status = refl }) none
