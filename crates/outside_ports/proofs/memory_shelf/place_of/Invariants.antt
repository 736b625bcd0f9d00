-- No file before this place has the name.
use Rattle.std.proofs.Common.{◌≡◌, drop}
use Rattle.outside_ports.specs.Names.{bytes_of}
use Rattle.outside_ports.specs.MemoryShelfView.{inputs_of}
use Rattle.outside_ports.proofs.memory_shelf.place_of.Given as goal

abbrev pub invariant-loop-place : goal.invariant-loop-place
invariant-loop-place l = bytes_of (inputs_of (drop l.place l.files)) l.name ≡ bytes_of (inputs_of l.files) l.name
