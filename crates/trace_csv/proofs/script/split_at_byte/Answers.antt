use Rattle.std.proofs.Common.{◌+◌, ◌==◌, ℕ, Bool, take, drop, sym, ap, ◌∙◌, arith}
use Rattle.std.proofs.lemmas.List.{length-drop, take_rest}
use Rattle.trace_csv.proofs.Dividing.{none_passes, first_passes}
use Rattle.trace_csv.proofs.script.split_at_byte.Goals as goal

pub returns-in-Some : goal.returns-in-Some
returns-in-Some c =
    let xs = c.args.text.now in
    let i = c.in-Some.i in
    let p : ℕ → Bool = λ b. b == c.args.byte in
    let h = first_passes p xs i (sym c.place_of.ensures ∙ c.in-Some.is) in (
      ap (λ n. take n xs) (sym h.place),
      take_rest xs (i + 1) ∙ ap (λ n. drop (n + 1) xs) (sym h.place),
      rw (take_rest xs (i + 1)) (omega (arith, length-drop (i + 1) xs, h.within)),
      h.any,
    )

pub returns-in-None : goal.returns-in-None
returns-in-None c = none_passes (λ b. b == c.args.byte) c.args.text.now (sym c.place_of.ensures ∙ c.in-None.is)
