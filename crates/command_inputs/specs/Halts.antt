-- What contracts see of a reply, and of what ends a command before its work.
use Rattle.std.specs.Prelude.{◌≡◌, Result, Ok, Err}
use Rattle.std.specs.declared.alloc.AllocError.{AllocError}
use Rattle.command_inputs.specs.Statuses.{number_of}
use Rattle.command_inputs.specs.Known.{Answer}
use Rattle.command_inputs.specs.declared.halt.Reply.{Reply}
use Rattle.command_inputs.specs.declared.halt.Halt.{Halt}
use Rattle.command_inputs.specs.declared.halt.Halt.TheVariants as halt

-- What a contract sees of a reply.
abbrev pub reply_seen : Reply → Answer
reply_seen r = record { status = number_of r.status; text = r.text.items }

-- Does the halt reply in this way? Running out of memory says nothing.
abbrev pub HaltsWith : Halt → (Answer → Type 0) → Type 0
HaltsWith (halt.Reply r) says = says (reply_seen r)
HaltsWith halt.Memory says = Unit {0}

-- Is the answer, of the work or of a halt, one that is given out?
abbrev pub Answered : Result Reply Halt → (Answer → Type 0) → Type 0
Answered (Ok r) says = says (reply_seen r)
Answered (Err h) says = HaltsWith h says

-- Is this the reply, or did memory run out?
abbrev pub IsSettled : Result Reply Halt → Result Reply AllocError → Type 0
IsSettled (Ok r) settled = settled ≡ Ok r
IsSettled (Err (halt.Reply r)) settled = settled ≡ Ok r
IsSettled (Err halt.Memory) settled = (r : Reply) → settled ≡ Ok r → ⊥
