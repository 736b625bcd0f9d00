use Rattle.std.proofs.Common.{◌≡◌, ◌<◌, ◌-◌, ◌==◌, ◌&&◌, not, length, refl, arith, ◌∙◌}
use Rattle.std.proofs.lemmas.List.{get_or_default}
use Rattle.number_laws.specs.Sums.{only_if}
use Rattle.sporadic_model.specs.Users.{count_of}
use Rattle.fragments.proofs.RowStretches.{row_over_requests}
use Rattle.closer_laws.specs.CloserRows.{other_holder_row, requests_where, is_held_beside}
use Rattle.shared_requests.proofs.HeldUp.{others_than}
use Rattle.closer_fmlp.proofs.rows.OtherHolderRowsPerRequest.add.Goals as goal

pub overflow_sub-others : goal.overflow_sub-others
overflow_sub-others g c =
    let set = c.args.set.now in
    let i = c.args.i.0 in
    let x = c.args.x.0 in
    let q = c.args.q.0 in
    let counts = c.args.self.now.counts.items in
    let within : x < length counts = omega (arith, c.requires.fits.0.one_each, c.requires.columns.counted.other) in
    let total : c.index.result.now ≡ requests_where set i (is_held_beside set i x) =
    c.index.ensures ∙ (get_or_default counts x c.index.result.now 0 within ∙ c.requires.fits.0.each x c.requires.columns.counted.other) in
    let own : c.held_up_of-own.result ≡ only_if (is_held_beside set i x q) (count_of set i q) = c.held_up_of-own.ensures.value in
    omega (arith, total, own, others_than set i x q c.requires.columns.resource)

pub add_row_limited-requires-clause-row : goal.add_row_limited-requires-clause-row
add_row_limited-requires-clause-row g c =
    row_over_requests (other_holder_row c.args.set.now c.args.i.0 c.args.x.0 c.args.q.0) c.requires.columns
    (omega (arith, c.resources-resources.ensures.most, c.resources-resources.ensures.value)) (λ column other. rw other refl)

pub add_row_limited-requires-clause-limit : goal.add_row_limited-requires-clause-limit
add_row_limited-requires-clause-limit g c =
    let set = c.args.set.now in
    let i = c.args.i.0 in
    let x = c.args.x.0 in
    let q = c.args.q.0 in
    let counts = c.args.self.now.counts.items in
    let within : x < length counts = omega (arith, c.requires.fits.0.one_each, c.requires.columns.counted.other) in
    let total : c.index.result.now ≡ requests_where set i (is_held_beside set i x) =
    c.index.ensures ∙ (get_or_default counts x c.index.result.now 0 within ∙ c.requires.fits.0.each x c.requires.columns.counted.other) in
    let own : c.held_up_of-own.result ≡ only_if (is_held_beside set i x q) (count_of set i q) = c.held_up_of-own.ensures.value in
    let left : c.index.result.now - c.held_up_of-own.result ≡ requests_where set i (λ r. not (r == q) && is_held_beside set i x r) =
    omega (arith, total, own, others_than set i x q c.requires.columns.resource) in
    left
