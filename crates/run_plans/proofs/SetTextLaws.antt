-- A text of a set is what the input of a set reads.
use Rattle.std.proofs.Common.{◌≡◌, ℕ, ◌≤◌, length, Bool, true, false, not, refl, sym, arith, List, Option, None, Some, Ok, subst}
use Rattle.std.specs.Prelude.{IsSome, position, if◌then◌else◌, nat_lt}
use Rattle.std.specs.List.{position_or_len}
use Rattle.std.proofs.lemmas.List.Sums.{prefix_len_passes}
use Rattle.std.proofs.lemmas.Bool.{ltb-false}
use Rattle.std.specs.Option.{is_none}
use Rattle.sporadic_model.specs.SetDef.{SetDef, resource_at, no_resource}
use Rattle.sporadic_model.specs.Accepted.{IsAccepted}
use Rattle.sporadic_model.specs.Homes.{EachHasHome, HasHomesFor}
use Rattle.sporadic_model.specs.declared.ids.Protocol.{Protocol}
use Rattle.protocol_names.specs.Names.{homes_as}
use Rattle.protocol_names.specs.declared.ProtocolName.{ProtocolName}
use Rattle.sporadic_model.specs.declared.ids.Protocol.TheVariants as protocol
use Rattle.taskset_json.specs.Answers.{first_homeless}
use Rattle.taskset_json.proofs.Lists.{position_none}
use Rattle.outside_ports.specs.Names.{Inputs, bytes_of}
use Rattle.command_inputs.specs.Known.{IsRead, told}
use Rattle.command_inputs.specs.Inputs.{ReadsSet, set_input}
use Rattle.run_plans.specs.Headline.{Call, IsSetText, ReadsSome}

not_missing : (o : Option ℕ) → IsSome o → is_none o ≡ false
not_missing None some = sym some
not_missing (Some k) some = refl

-- If the homes are there, none is missing.
none_homeless : (p : Protocol) (set : SetDef) → HasHomesFor p set → first_homeless set p ≡ None
none_homeless protocol.Mpcp set homes = refl
none_homeless protocol.FmlpPlus set homes = refl
none_homeless protocol.Dpcp set homes =
    position_none (λ r. is_none r.home) set.resources no_resource (λ q below. not_missing (resource_at set q).home (homes q below))

pub reads_text : (p : ProtocolName) (bytes : List ℕ) (set : SetDef) → IsSetText p bytes set → ReadsSet p bytes (Ok set)
reads_text p bytes set t =
    ((t.value, t.is_value, (t.form, subst IsAccepted t.set_is t.accepted, t.set_is)), none_homeless (homes_as p) set t.homes)

-- So what a call read under a name is what its inputs hold, if these are the bytes of the name.
pub told_reads : (call : Call) (inputs : Inputs) (p : ProtocolName) (name : List ℕ) (set : SetDef) (read : ReadsSome call p name set)
    → bytes_of inputs name ≡ Some read.bytes → IsRead (told inputs) (set_input p) name read.bytes set
told_reads call inputs p name set read named = ((named, read.short), reads_text p read.bytes set read.text)

-- If no home is missing, all are there.
no_place : (b : Bool) (n : ℕ) → (if b then Some n else None) ≡ None → b ≡ false
no_place true n e = cc
no_place false n e = refl

is_home : (o : Option ℕ) → not (is_none o) ≡ true → IsSome o
is_home None e = cc
is_home (Some k) e = refl

each_home : (set : SetDef) → position (λ r. is_none r.home) set.resources ≡ None → EachHasHome set
each_home set none q below =
    let n = position_or_len (λ r. is_none r.home) set.resources in
    let all : length set.resources ≤ n = ltb-false n (length set.resources) (no_place (nat_lt n (length set.resources)) n none) in
    is_home (resource_at set q).home (prefix_len_passes (λ r. not (is_none r.home)) set.resources q no_resource (omega (arith, below, all)))

homes_there : (p : Protocol) (set : SetDef) → first_homeless set p ≡ None → HasHomesFor p set
homes_there protocol.Mpcp set none = tt
homes_there protocol.FmlpPlus set none = tt
homes_there protocol.Dpcp set none = each_home set none

-- Bytes that are read as a set are the text of this set.
pub is_text : (p : ProtocolName) (bytes : List ℕ) (set : SetDef) → ReadsSet p bytes (Ok set) → IsSetText p bytes set
is_text p bytes set ((value, is_value, (form, accepted, same)), none) = record {
  value = value;
  is_value = is_value;
  form = form;
  set_is = same;
  accepted = subst IsAccepted (sym same) accepted;
  homes = homes_there (homes_as p) set none;
}
