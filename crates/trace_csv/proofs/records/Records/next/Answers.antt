use Rattle.std.proofs.Common.{◌∷◌, ap, ◌∙◌, sym, List, ℕ, drop}
use Rattle.std.proofs.lemmas.List.{take_rest}
use Rattle.trace_csv.specs.Places.{place_seen}
use Rattle.trace_csv.specs.Records.{fields_seen}
use Rattle.trace_csv.specs.RecordAnswers.{records_left}
use Rattle.trace_csv.proofs.Reading.{left_more, left_none, left_between}
use Rattle.trace_csv.proofs.records.Records.next.Goals as goal

pub invariant_of-self : goal.invariant_of-self
invariant_of-self c =
    let read = rw c.in-Record.is at c.in_ok-fields.ensures in
    left_between (place_seen c.self.inside.place) c.self.inside.rest.now
    (fields_seen c.in-Record.fields.items, place_seen c.in-Record.place, drop c.in-Record.taken c.self.inside.rest.now) read.1

pub returns-in-Record : goal.returns-in-Record
returns-in-Record c =
    let text = c.self.inside.rest.now in
    let taken = c.in-Record.taken in
    let read = rw c.in-Record.is at c.in_ok-fields.ensures in
    sym c.self.view_is
    ∙ left_more (place_seen c.self.inside.place) text (fields_seen c.in-Record.fields.items, place_seen c.in-Record.place, drop taken text)
    c.self.invariant read.1
    ∙ ap (λ (rest : List ℕ). fields_seen c.in-Record.fields.items ∷ records_left (place_seen c.in-Record.place) rest)
    (sym (take_rest text taken))

pub returns-in-Long : goal.returns-in-Long
returns-in-Long c =
    let read = rw c.in-Long.is at c.in_ok-fields.ensures in (
      read.0.0,
      records_left read.0.1 read.0.2,
      sym c.self.view_is ∙ left_more (place_seen c.self.inside.place) c.self.inside.rest.now read.0 c.self.invariant read.1,
      read.2,
    )

pub returns-in-End : goal.returns-in-End
returns-in-End c =
    let read = rw c.in-End.is at c.in_ok-fields.ensures in
    let none = sym c.self.view_is ∙ left_none (place_seen c.self.inside.place) c.self.inside.rest.now read in
    (none, none)
