use Rattle.std.proofs.Common.{◌+◌, ◌∷◌, [], ℕ, drop, sym, refl, arith}
use Rattle.std.specs.declared.vec.Vec.{Vec}
use Rattle.std.specs.Global.{Global}
use Rattle.std.proofs.lemmas.List.{length-map, map-append}
use Rattle.trace_csv.specs.Places.{place_seen, effect_seen}
use Rattle.trace_csv.specs.Records.{fields_seen}
use Rattle.trace_csv.proofs.Stepping.{read_on, read_end, read_none, read_last, long_record}
use Rattle.trace_csv.proofs.records.read_record.Goals as goal

pub returns-then-is_end : goal.returns-then-is_end
returns-then-is_end c = (
  omega (arith, c.loop-i-test.true),
  read_end (place_seen c.args.from) c.args.text.now c.loop-i.i (place_seen c.loop-i.place) (fields_seen c.loop-i.fields.items)
      c.loop-i.field.items c.loop-i.invariant (place_seen c.step-next.result.0) (effect_seen c.step-next.result.1)
      (fields_seen c.take_byte.new.fields.items) c.loop-i-test.true c.step-next.ensures.place c.step-next.ensures.effect
      (sym c.if-is_end.ensures) c.in_ok-take_byte.ensures.fields,
)

pub returns-then-is_inside : goal.returns-then-is_inside
returns-then-is_inside c =
    let on = read_on (place_seen c.args.from) c.args.text.now c.loop-i.i (place_seen c.loop-i.place) (fields_seen c.loop-i.fields.items)
    c.loop-i.field.items c.loop-i.invariant (place_seen c.step-next.result.0) (effect_seen c.step-next.result.1)
    (fields_seen c.take_byte.new.fields.items) c.take_byte.new.field.items c.loop-i-test.true c.step-next.ensures.place
    c.step-next.ensures.effect (sym c.if-is_end.ensures) c.in_ok-take_byte.ensures.fields c.in_ok-take_byte.ensures.field in
    long_record (place_seen c.args.from) c.args.text.now c.step-next.result.0 (fields_seen c.take_byte.new.fields.items)
    c.take_byte.new.field.items (drop (c.loop-i.i + 1) c.args.text.now) c.args.most on (sym c.if-is_inside.ensures)
    (omega (arith, length-map c.take_byte.new.fields.items (λ (f : Vec ℕ Global). f.items), c.if-len-most.true, c.len.ensures))

pub loop-i-preserved : goal.loop-i-preserved
loop-i-preserved c =
    read_on (place_seen c.args.from) c.args.text.now c.loop-i.i (place_seen c.loop-i.place) (fields_seen c.loop-i.fields.items)
    c.loop-i.field.items c.loop-i.invariant (place_seen c.step-next.result.0) (effect_seen c.step-next.result.1)
    (fields_seen c.take_byte.new.fields.items) c.take_byte.new.field.items c.loop-i-test.true c.step-next.ensures.place
    c.step-next.ensures.effect (sym c.if-is_end.ensures) c.in_ok-take_byte.ensures.fields c.in_ok-take_byte.ensures.field

pub returns-then-not-is_inside : goal.returns-then-not-is_inside
returns-then-not-is_inside c =
    read_none (place_seen c.args.from) c.args.text.now c.loop-i.i (place_seen c.loop-i.place) (fields_seen c.loop-i.fields.items)
    c.loop-i.field.items c.loop-i.invariant (omega (arith, c.loop-i-test.false)) (sym c.if-not-is_inside.ensures)

pub returns : goal.returns
returns c = (
  omega arith,
  read_last (place_seen c.args.from) c.args.text.now c.loop-i.i (place_seen c.loop-i.place) (fields_seen c.loop-i.fields.items)
      c.loop-i.field.items c.loop-i.invariant (fields_seen c.push.new.self.items) (omega (arith, c.loop-i-test.false))
      (sym c.if-not-is_inside.ensures)
      (rw (c.in_ok-push.ensures.items, map-append (λ (f : Vec ℕ Global). f.items) c.loop-i.fields.items (c.loop-i.field ∷ [])) refl),
)
