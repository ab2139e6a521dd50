use Rattle.std.proofs.Common.{◌≡◌, ◌-◌, ◌≤◌, length}
use Rattle.std.specs.Io.KnownBytes.{Consumes}
use Rattle.sch_io.specs.declared.reading.TheConstants.{MAX_FILE_BYTES}
use Rattle.sch_io.proofs.reading.read_rest.Given as goal

abbrev pub invariant-reading : goal.invariant-reading
invariant-reading g l = record {
  within : length l.bytes.items ≤ MAX_FILE_BYTES;
  given : Consumes (g.S.Shelf.state l.initial.shelf).rest (g.S.Shelf.state l.shelf).rest l.bytes.items;
  counted : (g.S.Shelf.state l.shelf).taken ≡ length l.bytes.items;
  ends : (g.S.Shelf.state l.shelf).ends ≡ (g.S.Shelf.state l.initial.shelf).ends;
  held : (g.S.Shelf.state l.shelf).files ≡ (g.S.Shelf.state l.initial.shelf).files;
  noted : (g.S.Shelf.state l.shelf).opened ≡ (g.S.Shelf.state l.initial.shelf).opened;
  faults : (g.S.Shelf.state l.shelf).faults ≡ (g.S.Shelf.state l.initial.shelf).faults;
  misses : (g.S.Shelf.state l.shelf).misses ≡ (g.S.Shelf.state l.initial.shelf).misses;
}

abbrev pub decreases-reading : goal.decreases-reading
decreases-reading g l = MAX_FILE_BYTES - length l.bytes.items
