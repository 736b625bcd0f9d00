use Rattle.std.proofs.Common.{rules, ◌≡◌, ◌<◌, ◌∙◌, ◌++◌, length, take, refl, arith, vec_len, Err}
use Rattle.outside_ports.specs.Past.{partly}
use Rattle.outside_ports.specs.declared.whole.LoadFault.TheVariants.{Memory}
use Rattle.outside_ports.proofs.Parts.{extended-part, extended-end, length-part, Consumes-next}
use Rattle.outside_ports.proofs.whole.read_all.Goals as goal

pub returns-in-Err-clause-leaves : goal.returns-in-Err-clause-leaves
returns-in-Err-clause-leaves g c name earlier is =
    (partly name c.loop-count.bytes.items, c.in-Err.ensures.reads.reads ∙ c.loop-count.invariant.parts name earlier is, refl)

pub returns-then-count-eq0-clause-leaves : goal.returns-then-count-eq0-clause-leaves
returns-then-count-eq0-clause-leaves g c name earlier is =
    extended-end name c.loop-count.bytes.items earlier _ _ c.in-Ok.count c.read.new.buffer c.if-count-eq0.true
    (c.loop-count.invariant.parts name earlier is) c.in-Ok.ensures.reads.reads

pub returns-then-count-len-clause-leaves : goal.returns-then-count-len-clause-leaves
returns-then-count-len-clause-leaves g c name earlier is =
    let some : 0 < c.in-Ok.count = omega (arith, c.if-count-eq0.false) in
    let size : vec_len c.loop-count.bytes ≡ length c.loop-count.bytes.items = search rules in (
      c.loop-count.bytes.items ++ take c.in-Ok.count c.read.new.buffer,
      extended-part name c.loop-count.bytes.items earlier _ _ c.in-Ok.count c.read.new.buffer some c.in-Ok.ensures.reads.bound.1
          (c.loop-count.invariant.parts name earlier is) c.in-Ok.ensures.reads.reads,
      omega (arith, length-part c.loop-count.bytes.items c.in-Ok.count c.read.new.buffer c.in-Ok.ensures.reads.bound.1, size, c.if-count-len.true, c.len.ensures),
    )

pub returns-in_err-extend_from_slice-clause-leaves : goal.returns-in_err-extend_from_slice-clause-leaves
returns-in_err-extend_from_slice-clause-leaves g c name earlier is =
    let some : 0 < c.in-Ok.count = omega (arith, c.if-count-eq0.false) in
    let want : c.from_residual.result ≡ Err Memory = search rules in
    rw want (
      partly name (c.loop-count.bytes.items ++ take c.in-Ok.count c.read.new.buffer),
      extended-part name c.loop-count.bytes.items earlier _ _ c.in-Ok.count c.read.new.buffer some c.in-Ok.ensures.reads.bound.1
          (c.loop-count.invariant.parts name earlier is) c.in-Ok.ensures.reads.reads,
      refl,
    )

pub loop-count-preserved : goal.loop-count-preserved
loop-count-preserved g c = record {
  names = search rules;
  tells = search rules;
  most = search rules;
  given = search rules;
  calm = search rules;
  calls = search rules;
  steady = search rules;
  parts = λ name earlier is.
      let some : 0 < c.in-Ok.count = omega (arith, c.if-count-eq0.false) in
      rw (c.in_ok-extend_from_slice.ensures.items) (extended-part name c.loop-count.bytes.items earlier _ _ c.in-Ok.count c.read.new.buffer some
      c.in-Ok.ensures.reads.bound.1 (c.loop-count.invariant.parts name earlier is) c.in-Ok.ensures.reads.reads);
  taken = rw (c.in_ok-extend_from_slice.ensures.items) (Consumes-next _ _ _ _ _ c.loop-count.invariant.taken c.in-Ok.ensures.reads.bytes.0);
}
