-- What a contract sees of the script of a listed job: the segments between two places.
use Rattle.std.specs.Prelude.{List}
use Rattle.schedule_model.specs.JobDef.{SegmentDef}
use Rattle.schedule_model.specs.Kept.{between, HasBetween}
use Rattle.schedule_model.specs.declared.listed.ListedScript.TheInside.{Inside}

abbrev pub script_view : Inside → List SegmentDef
script_view s = between s.from s.end s.segments.now

abbrev pub IsScriptListed : Inside → Type 0
IsScriptListed s = HasBetween s.from s.end s.segments.now
