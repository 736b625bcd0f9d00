use Rattle.std.proofs.Common.{◌≡◌, ℕ, ◌<◌, ◌^◌, All, vec_len, slice_index}
use Rattle.fraction128.specs.Scaling.{IsScaled, fraction_at}
use Rattle.fraction128.proofs.scaling.scale.Given as goal

abbrev pub invariant-loop-value : goal.invariant-loop-value
invariant-loop-value l = record {
  len : vec_len l.num ≡ l.value-index;
  each : (i : ℕ) → i < l.value-index → IsScaled l.den (fraction_at l.values i) (slice_index l.num.items i);
  small : All (λ k. k < 2 ^ 63) l.num.items;
}
