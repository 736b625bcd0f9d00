-- The words of protocols.
use Rattle.std.specs.Prelude.{ℕ, List, Option, Some, None, codes, if◌then◌else◌}
use Rattle.std.specs.Str.{bytes_eq}
use Rattle.sporadic_model.specs.declared.ids.Protocol.{Protocol}
use Rattle.sporadic_model.specs.declared.ids.Protocol.TheVariants as protocol
use Rattle.protocol_names.specs.declared.ProtocolName.{ProtocolName}
use Rattle.protocol_names.specs.declared.ProtocolName.TheVariants as name

abbrev pub word_of : ProtocolName → List ℕ
word_of (name.Base protocol.Mpcp) = codes "mpcp"
word_of (name.Base protocol.FmlpPlus) = codes "fmlp+"
word_of (name.Base protocol.Dpcp) = codes "dpcp"
word_of name.Dflp = codes "dflp"
word_of name.Spin = codes "spin"
word_of name.DpcpWindows = codes "dpcp-w"
word_of name.FmlpPlusCloser = codes "fmlp+-c"
word_of name.SpinCloser = codes "spin-c"
word_of name.DpcpCloser = codes "dpcp-c"
word_of name.DflpCloser = codes "dflp-c"
word_of name.MpcpCloser = codes "mpcp-c"

-- Which protocol does this word name?
abbrev pub name_of : List ℕ → Option ProtocolName
name_of word = if bytes_eq word (codes "mpcp") then Some (name.Base protocol.Mpcp)
    else if bytes_eq word (codes "fmlp+") then Some (name.Base protocol.FmlpPlus)
    else if bytes_eq word (codes "dpcp") then Some (name.Base protocol.Dpcp)
    else if bytes_eq word (codes "dflp") then Some name.Dflp
    else if bytes_eq word (codes "spin") then Some name.Spin
    else if bytes_eq word (codes "dpcp-w") then Some name.DpcpWindows
    else if bytes_eq word (codes "fmlp+-c") then Some name.FmlpPlusCloser
    else if bytes_eq word (codes "spin-c") then Some name.SpinCloser
    else if bytes_eq word (codes "dpcp-c") then Some name.DpcpCloser
    else if bytes_eq word (codes "dflp-c") then Some name.DflpCloser
    else if bytes_eq word (codes "mpcp-c") then Some name.MpcpCloser
    else None

-- The protocol that asks a set for the same homes.
abbrev pub homes_as : ProtocolName → Protocol
homes_as (name.Base protocol) = protocol
homes_as name.Dflp = protocol.Dpcp
homes_as name.Spin = protocol.Mpcp
homes_as name.DpcpWindows = protocol.Dpcp
homes_as name.FmlpPlusCloser = protocol.FmlpPlus
homes_as name.SpinCloser = protocol.Mpcp
homes_as name.DpcpCloser = protocol.Dpcp
homes_as name.DflpCloser = protocol.Dpcp
homes_as name.MpcpCloser = protocol.Mpcp
