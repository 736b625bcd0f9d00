-- What follows from each answer of the system, for a shelf of its files and for standard output.
use Rattle.std.specs.Prelude.{◌≡◌, ℕ, ◌≤◌, suc, zero, List, Option, Some, None, Result, Ok, Err, IsErr}
use Rattle.std.specs.Io.KnownBytes.{ReadConsumes}
use Rattle.std.specs.IoError.{error_kind}
use Rattle.std.specs.declared.io.Error.{Error}
use Rattle.std.specs.declared.io.ErrorKind.{ErrorKind}
use Rattle.std.specs.declared.io.ErrorKind.TheVariants as kind
use Rattle.outside_ports.specs.Counts.{counted}
use Rattle.outside_ports.specs.declared.shelf.ShelfFault.{ShelfFault}
use Rattle.outside_ports.specs.declared.shelf.ShelfFault.TheVariants as shelf

-- The fault for a refused opening of this kind. A missing file and want of memory have faults of their own.
abbrev pub fault_by : ErrorKind → ShelfFault
fault_by kind.NotFound = shelf.Absent
fault_by kind.OutOfMemory = shelf.Memory
fault_by _ = shelf.Failed

-- What does `start` answer if the system's opening had this answer?
abbrev pub opening_answer : {F : Type 0} → Result F Error → Result (Unit {0}) ShelfFault
opening_answer (Ok file) = Ok tt
opening_answer (Err error) = Err (fault_by (error_kind error))

-- Which file is started then? None after an error.
abbrev pub opened_file : {F : Type 0} → Result F Error → Option F
opened_file (Ok file) = Some file
opened_file (Err error) = None

-- The count of faults after such an answer of `start`. Each error is counted, except for want of memory.
abbrev pub faults_started : ℕ → Result (Unit {0}) ShelfFault → ℕ
faults_started faults (Ok _) = faults
faults_started faults (Err shelf.Memory) = faults
faults_started faults (Err fault) = counted faults

-- Do this answer of `start`, this file and this count of faults follow from the system's answer? The count never falls.
pub record IsTaken {F : Type 0} (opening : Result F Error) (told : Result (Unit {0}) ShelfFault) (started : Option F) (before after : ℕ) : Type 0 where
  pub answer : told ≡ opening_answer opening
  pub file : started ≡ opened_file opening
  pub faults : after ≡ faults_started before told
  pub later : before ≤ after

-- Do this answer of `start`, this file and this count of faults follow from an answer of the opener to this name? `opens` says which
-- answers the opener may give.
abbrev pub FollowsOpening : {F : Type 0} → (Result F Error → Type 0) → ℕ → Result (Unit {0}) ShelfFault → Option F → ℕ → Type 0
FollowsOpening {F} opens before answer file after =
    ((opening : Result F Error) × opens opening × (answer ≡ opening_answer opening) × (file ≡ opened_file opening))
    × (after ≡ faults_started before answer)

-- Is this what a read of the started file gives? Its bytes go where the file's own reads say, and an error is no end. If no file is
-- started, there is nothing to read.
abbrev pub FollowsRead : {F : Type 0} → (F → Option (List ℕ)) → Option F → Option F → Result ℕ ShelfFault → List ℕ → Type 0
FollowsRead remaining None new answer buffer = (new ≡ None) × (answer ≡ Ok 0)
FollowsRead remaining (Some old) None answer buffer = ⊥
FollowsRead remaining (Some old) (Some new) answer buffer = ReadConsumes (remaining old) (remaining new) answer buffer

-- The count of faults after a call with this answer, if each error is counted.
abbrev pub faults_called : {A E : Type 0} → ℕ → Result A E → ℕ
faults_called faults (Ok _) = faults
faults_called faults (Err _) = counted faults

-- Is this what a write answers if the system's write had this answer? One that took no byte is a fault.
abbrev pub FollowsWrite : {E : Type 0} → Result ℕ Error → Result ℕ E → Type 0
FollowsWrite (Ok zero) answer = IsErr answer
FollowsWrite (Ok (suc count)) answer = answer ≡ Ok (suc count)
FollowsWrite (Err error) answer = IsErr answer
