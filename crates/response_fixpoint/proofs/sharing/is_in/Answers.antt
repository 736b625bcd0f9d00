use Rattle.std.proofs.Common.{◌%◌}
use Rattle.std.proofs.lemmas.Bool.{eqb-true, eq-eqb}
use Rattle.response_fixpoint.proofs.SharingLaws.{left_shared, shared_left}
use Rattle.response_fixpoint.proofs.sharing.is_in.Goals as goal

pub returns : goal.returns
returns c =
    let n = c.args.number in
    let thread = c.args.share.thread in
    let threads = c.args.share.threads in (
      λ is. left_shared n thread threads (eqb-true (n % threads) thread is),
      λ shared. eq-eqb (n % threads) thread (shared_left n thread threads shared.0 c.requires shared.1),
    )
