-- What a note adds to the history.
use Rattle.std.specs.Prelude.{◌∷◌, ◌++◌}
use Rattle.outside_ports.specs.Past.{Past, begun, unbegun, extended}
use Rattle.outside_ports.specs.declared.history.Note.{Note}
use Rattle.outside_ports.specs.declared.history.Note.TheVariants.{Started, Refused, Gave, Took}

abbrev pub noted : Past → Note → Past
noted past (Started name) = record past { readings = begun name.now ∷ past.readings }
noted past (Refused name fault) = record past { readings = unbegun name.now fault ∷ past.readings }
noted past (Gave bytes) = record past { readings = extended past.readings bytes.now }
noted past (Took bytes) = record past { written = past.written ++ bytes.now }
