use Rattle.std.proofs.Common.{◌≡◌, ◌++◌, [], ◌∷◌, refl, sym, ◌∙◌, arith, true, false, length-append}
use Rattle.trace_csv.specs.Scripts.{script_in, with_front, parts_of}
use Rattle.trace_csv.specs.PartsSeen.{part_seen, rest_seen, tokens_left}
use Rattle.trace_csv.specs.JobLines.{has_known_resource}
use Rattle.trace_csv.proofs.ScriptWalks.{one_further, all_further}
use Rattle.trace_csv.proofs.segments.outline_of.Goals as goal

pub loop-rest-preserved-then-is_known : goal.loop-rest-preserved-then-is_known
loop-rest-preserved-then-is_known c =
    let inv = c.loop-rest.invariant in
    let front = inv.front.0 in
    let part = part_seen c.in_ok-part.part in
    let left = parts_of (tokens_left (rest_seen c.in_ok-part.after)) in
    let known = has_known_resource c.args.set.now in
    let held : with_front front (script_in c.in-Some.text.now) ≡ script_in c.args.text.now = rw c.in-Some.is at inv.front.1 in
    record {
      front = (
        front ++ part ∷ [],
        one_further front part left (script_in c.in-Some.text.now) (script_in c.args.text.now) held c.in_ok-part.ensures.0,
        omega (arith, inv.front.2, length-append front (part ∷ [])),
        sym (all_further known front part true c.has_known_resource-is_known.result
            (sym inv.front.3 ∙ c.if-is_known.true) (sym c.has_known_resource-is_known.ensures)),
      );
      fewer = omega (arith, rw c.in-Some.is at inv.fewer, c.in_ok-part.ensures.1);
    }

pub loop-rest-preserved : goal.loop-rest-preserved
loop-rest-preserved c =
    let inv = c.loop-rest.invariant in
    let front = inv.front.0 in
    let part = part_seen c.in_ok-part.part in
    let left = parts_of (tokens_left (rest_seen c.in_ok-part.after)) in
    let known = has_known_resource c.args.set.now in
    let held : with_front front (script_in c.in-Some.text.now) ≡ script_in c.args.text.now = rw c.in-Some.is at inv.front.1 in
    record {
      front = (
        front ++ part ∷ [],
        one_further front part left (script_in c.in-Some.text.now) (script_in c.args.text.now) held c.in_ok-part.ensures.0,
        omega (arith, inv.front.2, length-append front (part ∷ [])),
        c.if-is_known.false
            ∙ sym (all_further known front part false (known part) (sym inv.front.3 ∙ c.if-is_known.false) refl),
      );
      fewer = omega (arith, rw c.in-Some.is at inv.fewer, c.in_ok-part.ensures.1);
    }
