-- Ceilings as positions of tasks.
use Rattle.std.specs.Prelude.{ℕ, Bool, true, false, nat_le, length, unwrap_or}
use Rattle.sporadic_model.specs.SetDef.{SetDef}
use Rattle.sporadic_model.specs.Users.{ceiling_of, remote_ceiling_of}
use Rattle.sporadic_model.specs.declared.ids.Protocol.{Protocol}
use Rattle.sporadic_model.specs.declared.ids.Protocol.TheVariants as protocol

-- The position of resource q's highest user; the number of tasks where it has none. A ceiling of a lower number is higher.
abbrev pub ceiling_rank : SetDef → ℕ → ℕ
ceiling_rank set q = unwrap_or (ceiling_of set q) (length set.tasks)

-- The position of q's ceiling as processor k sees it: of its highest user that isn't on k, or of its highest user.
abbrev pub remote_ceiling_rank : SetDef → ℕ → ℕ → ℕ
remote_ceiling_rank set q k = unwrap_or (remote_ceiling_of set q k) (length set.tasks)

-- The place of q by which it is told whether a holder of it may run before another one's on processor k: that position under MPCP.
abbrev pub place_in : Protocol → SetDef → ℕ → ℕ → ℕ
place_in protocol.Mpcp set k q = remote_ceiling_rank set q k
place_in protocol.FmlpPlus set k q = 0
place_in protocol.Dpcp set k q = 0

-- May a holder with the first place run while one with the second is ready?
abbrev pub may_precede : Protocol → ℕ → ℕ → Bool
may_precede protocol.Mpcp a b = nat_le a b
may_precede protocol.FmlpPlus a b = true
may_precede protocol.Dpcp a b = false
