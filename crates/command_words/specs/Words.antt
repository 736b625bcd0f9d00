-- The forms of words that the program takes.
use Rattle.std.specs.Prelude.{◌≡◌, refl, ℕ, ◌-◌, ◌^◌, List, [], ◌∷◌, map, Option, Some, None, if◌then◌else◌, option_map}
use Rattle.std.specs.Prelude.{String, string_bytes, codes}
use Rattle.std.specs.Global.{Global}
use Rattle.std.specs.Str.{bytes_eq}
use Rattle.protocol_names.specs.Names.{name_of}
use Rattle.protocol_names.specs.declared.ProtocolName.{ProtocolName}
use Rattle.sporadic_model.specs.declared.limits.TheConstants.{MOST_TICKS}
use Rattle.text_pieces.specs.Numbers.{number_between}
use Rattle.command_words.specs.declared.words.TheConstants.{DEFAULT_ALLOWANCE, GREATEST_ALLOWANCE, MOST_SETS}

-- What the words ask for: a command, with its protocol, the names of its inputs and its numbers.
pub data Form : Type 0 where
  -- the protocol, the set, the allowance
  Analyse : ProtocolName → List ℕ → ℕ → Form
  -- the protocol, the set, the allowance
  Refute : ProtocolName → List ℕ → ℕ → Form
  -- the protocol, the set, the allowance
  Settle : ProtocolName → List ℕ → ℕ → Form
  -- the protocol, the set, the certificate
  Check : ProtocolName → List ℕ → List ℕ → Form
  -- the protocol, the set, the certificate of refusal
  Confirm : ProtocolName → List ℕ → List ℕ → Form
  -- the protocol, the set, the certificate of the version before
  Upgrade : ProtocolName → List ℕ → List ℕ → Form
  -- the protocol, the set
  Report : ProtocolName → List ℕ → Form
  -- the protocol, the set, the certificate
  FullReport : ProtocolName → List ℕ → List ℕ → Form
  -- the protocol, the set, the jobs, the rows
  Conform : ProtocolName → List ℕ → List ℕ → List ℕ → Form
  -- the protocol, the set, the jobs, the ticks
  Simulate : ProtocolName → List ℕ → List ℕ → ℕ → Form
  -- the seed, the number of sets
  Study : ℕ → ℕ → Form
  -- the protocol, the set, the certificate, the jobs, the rows
  Audit : ProtocolName → List ℕ → List ℕ → List ℕ → List ℕ → Form

-- Which form do these words of `study` have, given how their numbers were read?
abbrev pub study_form : Option ℕ → Option ℕ → Option Form
study_form (Some seed) (Some sets) = Some (Study seed sets)
study_form _ _ = None

-- Which form do these three words have?
abbrev pub form_of_three : List ℕ → List ℕ → List ℕ → Option Form
form_of_three command second last =
    if bytes_eq command (codes "analyse") then option_map (λ p. Analyse p last DEFAULT_ALLOWANCE) (name_of second)
    else if bytes_eq command (codes "refute") then option_map (λ p. Refute p last DEFAULT_ALLOWANCE) (name_of second)
    else if bytes_eq command (codes "settle") then option_map (λ p. Settle p last DEFAULT_ALLOWANCE) (name_of second)
    else if bytes_eq command (codes "report") then option_map (λ p. Report p last) (name_of second)
    else if bytes_eq command (codes "study") then study_form (number_between 0 (2 ^ 64 - 1) second) (number_between 1 MOST_SETS last)
    else None

-- The protocol and the allowance that two words give, if both do.
abbrev pub both : Option ProtocolName → Option ℕ → Option (ProtocolName × ℕ)
both (Some protocol) (Some allowance) = Some (protocol, allowance)
both _ _ = None

abbrev pub allowed : List ℕ → List ℕ → Option (ProtocolName × ℕ)
allowed protocol allowance = both (name_of protocol) (number_between 1 GREATEST_ALLOWANCE allowance)

-- Which form do these four words have?
abbrev pub form_of_four : List ℕ → List ℕ → List ℕ → List ℕ → Option Form
form_of_four command protocol name last =
    if bytes_eq command (codes "analyse") then option_map (λ a. Analyse a.0 name a.1) (allowed protocol last)
    else if bytes_eq command (codes "refute") then option_map (λ a. Refute a.0 name a.1) (allowed protocol last)
    else if bytes_eq command (codes "settle") then option_map (λ a. Settle a.0 name a.1) (allowed protocol last)
    else if bytes_eq command (codes "check") then option_map (λ p. Check p name last) (name_of protocol)
    else if bytes_eq command (codes "confirm") then option_map (λ p. Confirm p name last) (name_of protocol)
    else if bytes_eq command (codes "upgrade") then option_map (λ p. Upgrade p name last) (name_of protocol)
    else if bytes_eq command (codes "report") then option_map (λ p. FullReport p name last) (name_of protocol)
    else None

-- Which form do these words of `simulate` have, given how their protocol and their ticks were read?
abbrev pub simulate_form : Option ProtocolName → List ℕ → List ℕ → Option ℕ → Option Form
simulate_form (Some protocol) set jobs (Some ticks) = Some (Simulate protocol set jobs ticks)
simulate_form _ set jobs _ = None

-- Which form do these five words have?
abbrev pub form_of_five : List ℕ → List ℕ → List ℕ → List ℕ → List ℕ → Option Form
form_of_five command protocol set jobs last =
    if bytes_eq command (codes "conform") then option_map (λ p. Conform p set jobs last) (name_of protocol)
    else if bytes_eq command (codes "simulate") then simulate_form (name_of protocol) set jobs (number_between 1 MOST_TICKS last)
    else None

-- Which form do these six words have?
abbrev pub form_of_six : List ℕ → List ℕ → List ℕ → List ℕ → List ℕ → List ℕ → Option Form
form_of_six command protocol set cert jobs rows =
    if bytes_eq command (codes "audit") then option_map (λ p. Audit p set cert jobs rows) (name_of protocol)
    else None

-- Which form do the words have, if any?
abbrev pub form_of : List (List ℕ) → Option Form
form_of (command ∷ second ∷ last ∷ []) = form_of_three command second last
form_of (command ∷ protocol ∷ name ∷ last ∷ []) = form_of_four command protocol name last
form_of (command ∷ protocol ∷ set ∷ jobs ∷ last ∷ []) = form_of_five command protocol set jobs last
form_of (command ∷ protocol ∷ set ∷ cert ∷ jobs ∷ rows ∷ []) = form_of_six command protocol set cert jobs rows
form_of _ = None

-- the allowance of units if the words give none
pub default_allowance : DEFAULT_ALLOWANCE ≡ 1000000
default_allowance = refl

-- the greatest allowance that they may give
pub greatest_allowance : GREATEST_ALLOWANCE ≡ 1000000000
greatest_allowance = refl

-- the most sets of a step
pub most_sets : MOST_SETS ≡ 1000
most_sets = refl

-- What a contract sees of words: their bytes.
abbrev pub words_seen : List (String Global) → List (List ℕ)
words_seen words = map string_bytes words
