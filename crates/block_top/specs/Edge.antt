-- What the edge of the program makes of what the system gives, and of what a run ends with.
use Rattle.std.specs.Prelude.{◌≡◌, ◌≢◌, ℕ, [], drop, Vec, String, Result, Ok, Err}
use Rattle.std.specs.Global.{Global}
use Rattle.std.specs.Vec.Iter.{into_iter_items}
use Rattle.std.specs.IoError.{error_kind}
use Rattle.std.specs.declared.alloc.AllocError.{AllocError}
use Rattle.std.specs.declared.vec.IntoIter.{IntoIter}
use Rattle.std.specs.declared.io.Error.{Error}
use Rattle.std.specs.declared.io.ErrorKind.TheVariants.{OutOfMemory}
use Rattle.outside_ports.specs.Ports.{ShelfDef, SinkDef}
use Rattle.command_words.specs.Words.{words_seen}
use Rattle.run_plans.specs.Run.{IsRun}

-- What std gives when it is asked for the words: all of them, the program's name first, or why there are none.
abbrev pub GivenWords : Type 0
GivenWords = Result (IntoIter (String Global) Global) Error

-- The words after the program's name. If std has none for another reason than running out of memory, such as a word that isn't UTF-8, there
-- are none.
abbrev pub GivesWords : GivenWords → Result (Vec (String Global) Global) AllocError → Type 0
GivesWords (Ok args) (Ok words) = words.items ≡ drop 1 (into_iter_items args)
GivesWords (Ok args) (Err e) = Unit {0}
GivesWords (Err error) (Ok words) = (words.items ≡ []) × (error_kind error ≢ OutOfMemory)
GivesWords (Err error) (Err e) = error_kind error ≡ OutOfMemory

-- Does the program run with these words, over this shelf and this sink, and end with this status? If memory ran out before it had the
-- words, nothing was read or written.
abbrev pub Runs : ShelfDef → ShelfDef → SinkDef → SinkDef → ℕ → Result (Vec (String Global) Global) AllocError → Type 0
Runs shelf_before shelf_now sink_before sink_now status (Ok words) = IsRun (record {
  words = words_seen words.items;
  shelf_before = shelf_before;
  shelf_now = shelf_now;
  sink_before = sink_before;
  sink_now = sink_now;
  status = status;
})
Runs shelf_before shelf_now sink_before sink_now status (Err e) = (status ≡ 7) × (shelf_now ≡ shelf_before) × (sink_now ≡ sink_before)

-- Does it run in this way with the words that were given? `gives` says which these may be.
pub record Answers (gives : GivenWords → Type 0) (shelf_before shelf_now : ShelfDef)
    (sink_before sink_now : SinkDef) (status : ℕ) : Type 0 where
  pub given : GivenWords
  pub words : Result (Vec (String Global) Global) AllocError
  pub asked : gives given
  pub taken : GivesWords given words
  pub runs : Runs shelf_before shelf_now sink_before sink_now status words
