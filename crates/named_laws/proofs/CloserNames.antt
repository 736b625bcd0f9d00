-- What fits under a protocol fits under each closer analysis of it, name by name.
use Rattle.std.proofs.Common.{◌≡◌, List, ℕ, Some, sym, subst, inl, inr}
use Rattle.std.proofs.lemmas.Option.{none-some, same_Some}
use Rattle.sporadic_model.specs.SetDef.{SetDef}
use Rattle.sporadic_model.specs.declared.ids.Protocol.TheVariants as protocol
use Rattle.program_sources.specs.Fitting.{AreFitting}
use Rattle.window_laws.proofs.MoreRows.{fitting_with_windows}
use Rattle.closer_laws.proofs.Sound.{fmlp_closer_fitting}
use Rattle.closer_spin_laws.proofs.Sound.{spin_closer_fitting}
use Rattle.closer_distributed_laws.proofs.Sound.{dpcp_closer_fitting, dflp_closer_fitting}
use Rattle.mpcp_window_laws.proofs.Sound.{mpcp_closer_fitting}
use Rattle.protocol_names.specs.declared.ProtocolName.{ProtocolName}
use Rattle.protocol_names.specs.declared.ProtocolName.TheVariants as name
use Rattle.named_laws.specs.Named.{source_of, plain_of, IsCloserThan}

-- The plain protocol is the one that the name says.
fits_as : (a b : ProtocolName) (set : SetDef) (s : List ℕ) → Some a ≡ Some b → AreFitting (source_of b set) s → AreFitting (source_of a set) s
fits_as a b set s same fits = subst (λ n. AreFitting (source_of n set) s) (sym (same_Some a b same)) fits

step_fits : (closer plain : ProtocolName) (set : SetDef) (s : List ℕ) → plain_of closer ≡ Some plain
    → AreFitting (source_of plain set) s → AreFitting (source_of closer set) s
step_fits (name.Base p) plain set s is fits = absurd (none-some plain is)
step_fits name.Dflp plain set s is fits = absurd (none-some plain is)
step_fits name.Spin plain set s is fits = absurd (none-some plain is)
step_fits name.DpcpWindows plain set s is fits = fitting_with_windows set s (fits_as (name.Base protocol.Dpcp) plain set s is fits)
step_fits name.FmlpPlusCloser plain set s is fits = fmlp_closer_fitting set s (fits_as (name.Base protocol.FmlpPlus) plain set s is fits)
step_fits name.DpcpCloser plain set s is fits = dpcp_closer_fitting set s (fits_as name.DpcpWindows plain set s is fits)
step_fits name.DflpCloser plain set s is fits = dflp_closer_fitting set s (fits_as name.Dflp plain set s is fits)
step_fits name.SpinCloser plain set s is fits = spin_closer_fitting set s (fits_as name.Spin plain set s is fits)
step_fits name.MpcpCloser plain set s is fits = mpcp_closer_fitting set s (fits_as (name.Base protocol.Mpcp) plain set s is fits)

pub named_closer_fits : (closer plain : ProtocolName) (set : SetDef) (s : List ℕ) → IsCloserThan closer plain
    → AreFitting (source_of plain set) s → AreFitting (source_of closer set) s
named_closer_fits closer plain set s (inl is) fits = step_fits closer plain set s is fits
named_closer_fits closer plain set s (inr is) fits = step_fits closer is.0 set s is.1 (step_fits is.0 plain set s is.2 fits)
