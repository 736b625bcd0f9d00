-- Worked examples of the definitions.
use Rattle.std.proofs.Common.{◌≡◌, true, false, [], ◌∷◌, None, Some, refl}
use Rattle.std.specs.Prelude.{codes}
use Rattle.csv.specs.Machine.{next_record}
use Rattle.csv.specs.Reading.{records_from, strip_bom}
use Rattle.text_pieces.specs.Numbers.{number_in, number_between}
use Rattle.trace_csv.specs.Records.{records_in}
use Rattle.trace_csv.specs.Scripts.{script_in}
use Rattle.trace_csv.specs.JobLines.{completed}
use Rattle.trace_csv.specs.JobsFile.{jobs_header, arrivals_header, job_lines}
use Rattle.trace_csv.specs.RowLines.{is_cell, job_in}

-- Numbers have no sign and no leading zero, and none is the empty text.
zero_alone : number_in (codes "0") ≡ Some 0
zero_alone = refl

no_leading_zero : number_in (codes "01") ≡ None
no_leading_zero = refl

no_sign : number_in (codes "+1") ≡ None
no_sign = refl

no_digit : number_in [] ≡ None
no_digit = refl

past_the_range : number_between 1 9 (codes "10") ≡ None
past_the_range = refl

-- A script may end with a request, and a request has one colon.
two_parts : script_in (codes "1 q:2 30")
    ≡ Some (record { local = 1; request = Some (record { resource = codes "q"; ticks = 2 }) }
    ∷ record { local = 30; request = None } ∷ [])
two_parts = refl

ends_with_request : script_in (codes "1 q:2")
    ≡ Some (record { local = 1; request = Some (record { resource = codes "q"; ticks = 2 }) } ∷ [])
ends_with_request = refl

second_colon : script_in (codes "1 q:1:1") ≡ None
second_colon = refl

two_spaces : script_in (codes "1  q:1") ≡ None
two_spaces = refl

no_token : script_in [] ≡ None
no_token = refl

-- Under the header without arrivals a job arrives as it is released, and no line has four fields.
released_as_it_arrives : job_lines (jobs_header ∷ (codes "t1" ∷ codes "4" ∷ codes "2" ∷ []) ∷ [])
    ≡ (codes "t1" ∷ codes "4" ∷ codes "4" ∷ codes "2" ∷ []) ∷ []
released_as_it_arrives = refl

released_late : job_lines (arrivals_header ∷ (codes "t1" ∷ codes "0" ∷ codes "4" ∷ codes "2" ∷ []) ∷ [])
    ≡ (codes "t1" ∷ codes "0" ∷ codes "4" ∷ codes "2" ∷ []) ∷ []
released_late = refl

one_field_too_many : completed false (codes "t1" ∷ codes "0" ∷ codes "4" ∷ codes "2" ∷ []) ≡ []
one_field_too_many = refl

-- Jobs are numbered from 1. A number past the last job is a cell all the same.
last_job : job_in 2 (codes "2") ≡ Some 1
last_job = refl

past_the_last_job : job_in 2 (codes "3") ≡ None
past_the_last_job = refl

long_cell : is_cell (codes "111111111111111111111111111111") ≡ true
long_cell = refl

-- A blank line is no record, a quoted field may hold a line break, and the last line may lack its end.
blank_line : records_in (codes "a,b\r\n\r\n\"c\nd\",") ≡ (codes "a" ∷ codes "b" ∷ []) ∷ (codes "c\nd" ∷ [] ∷ []) ∷ []
unfolding next_record records_from strip_bom
blank_line = refl
