use Rattle.std.proofs.Common.{◌≡◌, ℕ, [], ◌∷◌, ◌++◌, length, ap, ◌∙◌, arith}
use Rattle.blocking_columns.proofs.Parts.{next_part}
use Rattle.blocking_columns.proofs.linking.links_by_processor.Goals as goal

pub loop-k-preserved : goal.loop-k-preserved
loop-k-preserved c =
    let size : c.len.result ≡ length c.add_links.new.links.items = omega (arith, c.len.ensures) in
    next_part c.loop-k.k c.args.rivals.now c.loop-k.links.items c.add_links.new.links.items c.loop-k.begins.items
    c.push-in-loop-k.new.self.items c.loop-k.invariant c.in_ok-add_links.ensures
    (c.in_ok-push-2.ensures.items ∙ ap (λ (n : ℕ). c.loop-k.begins.items ++ n ∷ []) size)
