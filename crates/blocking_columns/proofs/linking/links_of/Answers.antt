use Rattle.std.proofs.Common.{◌≡◌, ◌+◌, ℕ, List}
use Rattle.std.specs.Prelude.{Result, Ok, Err, IfOk}
use Rattle.sporadic_model.specs.SetDef.{SetDef}
use Rattle.sporadic_model.specs.declared.ids.Protocol.{Protocol}
use Rattle.sporadic_model.specs.declared.ids.Protocol.TheVariants as protocol
use Rattle.blocking_columns.specs.declared.linking.Rival.{Rival}
use Rattle.blocking_columns.specs.declared.linking.Links.{Links}
use Rattle.blocking_columns.specs.Links.{AreKnownRivals, AreRivals, AreParted, HaveLinks}
use Rattle.blocking_columns.proofs.Parts.{have_links}
use Rattle.blocking_columns.proofs.linking.links_of.Goals as goal

parts_have_links : {E : Type 0} (p : Protocol) (set : SetDef) (i : ℕ) (rivals : List Rival) → (p ≡ protocol.Dpcp → ⊥)
    → AreRivals set i rivals → AreKnownRivals p set rivals → (r : Result Links E)
    → IfOk r (λ l. AreParted (set.processors + 1) rivals l.rivals.items l.begins.items)
    → IfOk r (λ l. HaveLinks p set i l.rivals.items l.begins.items)
parts_have_links p set i rivals sharing are known (Ok l) parted =
    have_links p set i rivals l.rivals.items l.begins.items sharing are known parted
parts_have_links p set i rivals sharing are known (Err e) parted = parted

pub returns : goal.returns
returns c =
    let p = c.args.protocol in
    let set = c.args.set.now in
    let rivals = c.deref.result.now in
    let known : AreKnownRivals p set rivals = rw c.deref.ensures.value c.in_ok-rivals.ensures.known in
    let are : AreRivals set c.args.i.0 rivals = rw c.deref.ensures.value c.in_ok-rivals.ensures.are in
    parts_have_links p set c.args.i.0 rivals c.requires.sharing are known c.links_by_processor.result c.links_by_processor.ensures
