-- The words as they are typed, of the commands with the strongest claims.
use Rattle.std.specs.Prelude.{◌≡◌, ℕ, List, [], ◌∷◌, Option, Some, None, codes}
use Rattle.protocol_names.specs.Names.{word_of}
use Rattle.protocol_names.specs.declared.ProtocolName.{ProtocolName}
use Rattle.text_pieces.specs.Numbers.{number_between}
use Rattle.command_words.specs.declared.words.TheConstants.{DEFAULT_ALLOWANCE, GREATEST_ALLOWANCE}
use Rattle.command_words.specs.Words.{Form, Analyse, Refute, Settle, Check, Confirm, Upgrade, Audit}

-- The words of `analyse` for a protocol and the set of this name, and any further words.
abbrev pub analyse_words : ProtocolName → List ℕ → List (List ℕ) → List (List ℕ)
analyse_words protocol set more = codes "analyse" ∷ word_of protocol ∷ set ∷ more

-- The words of `refute`, in the same way.
abbrev pub refute_words : ProtocolName → List ℕ → List (List ℕ) → List (List ℕ)
refute_words protocol set more = codes "refute" ∷ word_of protocol ∷ set ∷ more

-- The words of `settle`, in the same way.
abbrev pub settle_words : ProtocolName → List ℕ → List (List ℕ) → List (List ℕ)
settle_words protocol set more = codes "settle" ∷ word_of protocol ∷ set ∷ more

-- The allowance of the further words, or the default one if there are none. Any other further words have no form.
abbrev pub allowance_of : List (List ℕ) → Option ℕ
allowance_of [] = Some DEFAULT_ALLOWANCE
allowance_of (last ∷ []) = number_between 1 GREATEST_ALLOWANCE last
allowance_of _ = None

abbrev pub check_words : ProtocolName → List ℕ → List ℕ → List (List ℕ)
check_words protocol set cert = codes "check" ∷ word_of protocol ∷ set ∷ cert ∷ []

abbrev pub confirm_words : ProtocolName → List ℕ → List ℕ → List (List ℕ)
confirm_words protocol set cert = codes "confirm" ∷ word_of protocol ∷ set ∷ cert ∷ []

abbrev pub upgrade_words : ProtocolName → List ℕ → List ℕ → List (List ℕ)
upgrade_words protocol set cert = codes "upgrade" ∷ word_of protocol ∷ set ∷ cert ∷ []

abbrev pub audit_words : ProtocolName → List ℕ → List ℕ → List ℕ → List ℕ → List (List ℕ)
audit_words protocol set cert jobs rows = codes "audit" ∷ word_of protocol ∷ set ∷ cert ∷ jobs ∷ rows ∷ []

-- Are these the words of the form? It says nothing of other commands.
abbrev pub IsSpelled : Form → List (List ℕ) → Type 0
IsSpelled (Analyse protocol set allowance) words =
    (more : List (List ℕ)) × (words ≡ analyse_words protocol set more) × (allowance_of more ≡ Some allowance)
IsSpelled (Refute protocol set allowance) words =
    (more : List (List ℕ)) × (words ≡ refute_words protocol set more) × (allowance_of more ≡ Some allowance)
IsSpelled (Settle protocol set allowance) words =
    (more : List (List ℕ)) × (words ≡ settle_words protocol set more) × (allowance_of more ≡ Some allowance)
IsSpelled (Check protocol set cert) words = words ≡ check_words protocol set cert
IsSpelled (Confirm protocol set cert) words = words ≡ confirm_words protocol set cert
IsSpelled (Upgrade protocol set cert) words = words ≡ upgrade_words protocol set cert
IsSpelled (Audit protocol set cert jobs rows) words = words ≡ audit_words protocol set cert jobs rows
IsSpelled _ words = Unit {0}
