-- What do the calls that read the segments of a script say?
use Rattle.std.specs.Prelude.{◌≡◌, ◌<◌, ℕ, true, false, List, map, length, Option, None, Some, Result, Ok, Err}
use Rattle.std.specs.List.{list_all}
use Rattle.std.specs.declared.vec.Vec.{Vec}
use Rattle.std.specs.Global.{Global}
use Rattle.sporadic_model.specs.SetDef.{SetDef}
use Rattle.schedule_model.specs.LawfulJobs.{is_resource_in}
use Rattle.schedule_model.specs.Seen.{segment_seen}
use Rattle.schedule_model.specs.declared.job.Segment.{Segment}
use Rattle.trace_csv.specs.declared.segments.TheConstants.{MOST_WITHIN_BUDGET}
use Rattle.trace_csv.specs.declared.segments.Outline.{Outline}
use Rattle.trace_csv.specs.declared.segments.ScriptFault.{ScriptFault}
use Rattle.trace_csv.specs.declared.segments.ScriptFault.TheVariants as fault
use Rattle.trace_csv.specs.Scripts.{PartDef, script_in}
use Rattle.trace_csv.specs.JobLines.{segment_written, has_known_resource}

-- Either this is the segment of the part. Or the part requests no resource of the set.
abbrev pub SegmentOf : Option Segment → SetDef → PartDef → Type 0
SegmentOf None set part = has_known_resource set part ≡ false
SegmentOf (Some s) set part =
    (has_known_resource set part ≡ true) × (segment_seen s ≡ segment_written set part)
    × (is_resource_in (length set.resources) (segment_seen s) ≡ true)

-- Either the text is no script. Or this says how many parts it has, and whether all resources that they request are of the set.
abbrev pub IsOutline : Option Outline → SetDef → List ℕ → Type 0
IsOutline None set text = script_in text ≡ None
IsOutline (Some o) set text =
    (parts : List PartDef) × (script_in text ≡ Some parts) × (o.segments ≡ length parts)
    × (o.is_known ≡ list_all (has_known_resource set) parts)

-- Either the text is a script of known resources, and these are its segments. Or this is why it isn't one.
abbrev pub SegmentsRead : Result (Vec Segment Global) ScriptFault → SetDef → List ℕ → Type 0
SegmentsRead (Ok segments) set text =
    (parts : List PartDef) × (script_in text ≡ Some parts) × (list_all (has_known_resource set) parts ≡ true)
    × (map segment_seen segments.items ≡ map (segment_written set) parts)
    × (list_all (is_resource_in (length set.resources)) (map segment_seen segments.items) ≡ true)
SegmentsRead (Err fault.Form) set text = script_in text ≡ None
SegmentsRead (Err fault.UnknownName) set text =
    (parts : List PartDef) → script_in text ≡ Some parts → list_all (has_known_resource set) parts ≡ false
SegmentsRead (Err fault.TooLong) set text = ⊥
SegmentsRead (Err fault.Memory) set text = Unit {0}

-- The same for a script that is no longer than a budget allows. Or the text is no script. Or it requests a resource that the set doesn't
-- have. Or it requests only known ones, and is longer.
abbrev pub ScriptRead : Result (Vec Segment Global) ScriptFault → SetDef → List ℕ → Type 0
ScriptRead (Err fault.UnknownName) set text =
    (parts : List PartDef) × (script_in text ≡ Some parts) × (list_all (has_known_resource set) parts ≡ false)
ScriptRead (Err fault.TooLong) set text =
    (parts : List PartDef) × (script_in text ≡ Some parts) × (list_all (has_known_resource set) parts ≡ true)
    × (MOST_WITHIN_BUDGET < length parts)
ScriptRead answer set text = SegmentsRead answer set text
