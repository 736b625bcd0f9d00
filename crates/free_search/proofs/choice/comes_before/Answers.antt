use Rattle.std.proofs.Common.{◌≡◌, ℕ, ◌*◌, ℤ, unsigned_abs, [], pos, ap, ◌∙◌}
use Rattle.std.proofs.lemmas.List.{get_or_read}
use Rattle.whole_rows.specs.Rows.{RowDef}
use Rattle.free_search.specs.Tables.{row_at}
use Rattle.free_search.proofs.LeastRows.{AreCompared, are_compared, turned, lesser_comes, equal_comes}
use Rattle.free_search.proofs.choice.comes_before.Goals as goal
use Rattle.free_search.proofs.choice.comes_before.Goals.{in-Less, in-Equal, in-Greater}

-- the product of the sizes of two numbers that were read
product_is : (ratio s t : ℕ) (x y limit num : ℤ) → ratio ≡ s * t → s ≡ unsigned_abs x → x ≡ limit → t ≡ unsigned_abs y → y ≡ num
    → ratio ≡ unsigned_abs limit * unsigned_abs num
product_is ratio s t x y limit num is first read second other = cc

pub returns : goal.returns
returns c =
    let rows = c.args.rows.now in
    let basis = c.args.basis.now in
    let k = c.args.k in
    let i = c.args.i in
    let j = c.args.j in
    let ratio = c.in_ok-ratio.ratio in
    let other = c.in_ok-other.other in
    let none : RowDef = record { nums = []; limit = pos 0; den = pos 1 } in
    let limit_i : c.index-rows-i.result.limit ≡ (row_at rows i).limit
    = ap (λ (r : RowDef). r.limit) (get_or_read rows i c.index-rows-i.result c.requires.one.row c.index-rows-i.is none) in
    let limit_j : c.index-rows-j.result.limit ≡ (row_at rows j).limit
    = ap (λ (r : RowDef). r.limit) (get_or_read rows j c.index-rows-j.result c.requires.other.row c.index-rows-j.is none) in
    let compared : AreCompared rows k i j ratio other
    = are_compared rows k i j ratio other c.requires.rows.limits c.requires.one.row c.requires.other.row
    c.requires.one.above c.requires.other.above
    (product_is ratio _ _ _ _ _ _ c.in_ok-ratio.ensures c.size.ensures (c.limit.ensures ∙ limit_i) c.size-2.ensures c.num_of.ensures)
    (product_is other _ _ _ _ _ _ c.in_ok-other.ensures c.size-3.ensures (c.limit-2.ensures ∙ limit_j) c.size-4.ensures
    c.num_of-2.ensures) in
    elim c.match-compare.branch [
      | in-Less w ↦ rw w.result-is (lesser_comes rows basis k i j ratio other compared w.in-Less.ensures)
      | in-Equal w ↦ rw w.result-is (equal_comes rows basis k i j ratio other compared w.in-Equal.ensures)
      | in-Greater w ↦
          rw w.result-is (lesser_comes rows basis k j i other ratio (turned rows k i j ratio other compared) w.in-Greater.ensures)
    ]
