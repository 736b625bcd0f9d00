-- The homes of resources: the processors that run their requests, under a protocol that needs homes.
use Rattle.std.specs.Prelude.{ℕ, ◌<◌, length, IsSome, unwrap_or}
use Rattle.sporadic_model.specs.SetDef.{SetDef, resource_at}
use Rattle.sporadic_model.specs.declared.ids.Protocol.{Protocol}
use Rattle.sporadic_model.specs.declared.ids.Protocol.TheVariants as protocol

-- The home of resource q, or 0 if it has none. No processor has the number 0.
abbrev pub home_in : SetDef → ℕ → ℕ
home_in set q = unwrap_or (resource_at set q).home 0

-- Has each resource a home?
abbrev pub EachHasHome : SetDef → Type 0
EachHasHome set = (q : ℕ) → q < length set.resources → IsSome (resource_at set q).home

-- Has the set the homes that the protocol needs? Of these protocols only DPCP needs any.
abbrev pub HasHomesFor : Protocol → SetDef → Type 0
HasHomesFor protocol.Dpcp set = EachHasHome set
HasHomesFor _ set = Unit {0}
