use Rattle.std.specs.Prelude.{unwrap_or}
use Rattle.std.proofs.Common.{◌≡◌, ap, ◌∙◌, arith}
use Rattle.charge.specs.Tally.{count_at}
use Rattle.charge.proofs.TallyLaws.{counted_there}
use Rattle.charge.proofs.tally.add_ticks.Goals as goal

pub overflow_add-before : goal.overflow_add-before
overflow_add-before c =
    let before : c.unwrap_or-before.result ≡ count_at c.args.ticks.now c.args.place =
    c.unwrap_or-before.ensures ∙ ap (λ o. unwrap_or o 0) (c.copied.ensures ∙ c.get.ensures.value) in
    omega (arith, before, c.requires.room c.args.place, c.requires.most)

pub returns : goal.returns
returns c = λ count tally p.
    counted_there c.args.ticks.now c.insert.new.self c.args.place c.unwrap_or-before.result c.args.more count p c.requires.some
    (c.unwrap_or-before.ensures ∙ ap (λ o. unwrap_or o 0) (c.copied.ensures ∙ c.get.ensures.value)) tally
    (c.in_ok-insert.ensures.updates.0 p)
