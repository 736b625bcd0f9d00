use Rattle.std.proofs.Common.{ℕ, List, Ok, subst, ap, ◌∙◌}
use Rattle.sha2.specs.Sha256.{sha256}
use Rattle.command_inputs.specs.Inputs.{ReadsSet}
use Rattle.command_inputs.proofs.input.get_tied_set.Goals as goal

pub returns-clause-got : goal.returns-clause-got
returns-clause-got g c =
    let bytes : List ℕ = c.in_ok-bytes.bytes.items in
    let reads : ReadsSet c.args.protocol bytes (Ok c.in_ok-set.set) =
    subst (λ (b : List ℕ). ReadsSet c.args.protocol b (Ok c.in_ok-set.set)) c.deref.ensures.value c.in_ok-set.ensures.taken in (
      (bytes, (c.in_ok-bytes.ensures.loaded.0, reads), c.in_ok-bytes.ensures.loaded.1, c.in_ok-bytes.ensures.loaded.2),
      c.set_digest-digest.ensures ∙ ap sha256 c.deref-2.ensures.value,
    )
