-- Lines of a file of jobs: the job of a line, and when the line is refused.
use Rattle.std.specs.Prelude.{ℕ, ◌+◌, not, Bool, true, false, List, [], ◌∷◌, map, take, Option, None, Some, option_map}
use Rattle.std.specs.Prelude.{is_some, is_none, unwrap_or, if◌then◌else◌}
use Rattle.std.specs.Option.{option_or, option_map_or}
use Rattle.std.specs.List.{list_all}
use Rattle.sporadic_model.specs.SetDef.{SetDef}
use Rattle.sporadic_model.specs.Users.{task_with_name, resource_with_name}
use Rattle.sporadic_model.specs.declared.limits.TheConstants.{MOST_TICKS}
use Rattle.schedule_model.specs.JobDef.{SegmentDef, JobDef, JobsDef, no_job}
use Rattle.schedule_model.specs.JobLists.{first_refusal}
use Rattle.schedule_model.specs.declared.refusal.JobRefusal.{JobRefusal}
use Rattle.schedule_model.specs.declared.refusal.JobRefusal.TheVariants as push
use Rattle.trace_csv.specs.declared.refusal.JobsRefusal.{JobsRefusal}
use Rattle.trace_csv.specs.declared.refusal.JobsRefusal.TheVariants as refusal
use Rattle.text_pieces.specs.Numbers.{number_between}
use Rattle.trace_csv.specs.Records.{Fields, line_at}
use Rattle.trace_csv.specs.Scripts.{NamedRequest, PartDef, script_in}

-- A line in the form with arrivals: the name of a task, an arrival, a release and a script. Under the header without arrivals a line has
-- three fields, and its release becomes the arrival too. A line that has another number of fields there gets no field, so it hasn't four.
abbrev pub completed : Bool → Fields → Fields
completed true line = line
completed false (name ∷ release ∷ script ∷ []) = name ∷ release ∷ release ∷ script ∷ []
completed false _ = []

-- The tick of a field, of an arrival or a release: a number from 0 to 10^9.
abbrev pub tick_in : List ℕ → Option ℕ
tick_in field = number_between 0 MOST_TICKS field

-- The segment of a part of a script, if its resource is one of the set's.
abbrev pub resource_written : SetDef → NamedRequest → ℕ
resource_written set r = unwrap_or (resource_with_name set r.resource) 0

abbrev pub segment_written : SetDef → PartDef → SegmentDef
segment_written set part = record { local = part.local; request = option_map (λ r. (resource_written set r, r.ticks)) part.request }

-- If the part requests a resource: is it one of the set's?
abbrev pub has_known_resource : SetDef → PartDef → Bool
has_known_resource set part = option_map_or (λ r. is_some (resource_with_name set r.resource)) part.request true

-- The job of a line: the name of its task, its arrival, its release and its script.
abbrev pub job_of_fields : SetDef → List ℕ → List ℕ → List ℕ → List ℕ → JobDef
job_of_fields set name arrival release script = record {
  task = unwrap_or (task_with_name set name) 0;
  arrival = unwrap_or (tick_in arrival) 0;
  release = unwrap_or (tick_in release) 0;
  script = map (segment_written set) (unwrap_or (script_in script) []);
}

abbrev pub job_written : SetDef → Fields → JobDef
job_written set (name ∷ arrival ∷ release ∷ script ∷ []) = job_of_fields set name arrival release script
job_written set _ = no_job

-- Why line number k is refused for its form and its names, if it is. The reasons are tried in this order.
abbrev pub fields_refusal : SetDef → List ℕ → List ℕ → List ℕ → List ℕ → ℕ → Option JobsRefusal
fields_refusal set name arrival release script k =
    if is_none (tick_in arrival) then Some (refusal.Number k)
    else if is_none (tick_in release) then Some (refusal.Number k)
    else if is_none (task_with_name set name) then Some (refusal.UnknownName k)
    else if is_none (script_in script) then Some (refusal.Script k)
    else if not (list_all (has_known_resource set) (unwrap_or (script_in script) [])) then Some (refusal.UnknownName k)
    else None

abbrev pub form_refusal : SetDef → Fields → ℕ → Option JobsRefusal
form_refusal set (name ∷ arrival ∷ release ∷ script ∷ []) k = fields_refusal set name arrival release script k
form_refusal set _ k = Some (refusal.Fields k)

-- The refusal of the line of this number, for a refusal by the list of jobs.
abbrev pub at_line : ℕ → JobRefusal → JobsRefusal
at_line k push.Script = refusal.Script k
at_line k push.OverBudget = refusal.OverBudget k
at_line k push.TooClose = refusal.TooClose k
at_line k push.TooMany = refusal.TooMany k
at_line k push.Late = refusal.Late k
at_line k push.Memory = refusal.Memory

-- Why a line is refused after the listed jobs, if it is. First its form and names are tried. Then the list judges its job.
abbrev pub line_refusal : JobsDef → Fields → ℕ → Option JobsRefusal
line_refusal before line k =
    option_or (form_refusal before.set line k) (option_map (at_line k) (first_refusal before (job_written before.set line)))

-- The jobs of the lines.
abbrev pub jobs_written : SetDef → List Fields → JobsDef
jobs_written set lines = record { set = set; jobs = map (job_written set) lines }

-- Why line i is refused after the lines before it, if it is. Here lines are counted from 0, and their numbers from 1.
abbrev pub refusal_at : SetDef → List Fields → ℕ → Option JobsRefusal
refusal_at set lines i = line_refusal (jobs_written set (take i lines)) (line_at lines i) (i + 1)
