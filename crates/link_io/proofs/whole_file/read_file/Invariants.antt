-- What was read is the beginning of the file, and the files tell the same as before.
use Rattle.std.proofs.Common.{◌≡◌, ℕ, ◌+◌, ◌-◌, ◌≤◌, List, length}
use Rattle.link_io.proofs.Pieces.{IsBeginning}
use Rattle.link_io.proofs.whole_file.read_file.Given as goal

abbrev pub invariant-loop-buffer : goal.invariant-loop-buffer
invariant-loop-buffer g l = record {
  beginning : IsBeginning (g.F.Files.holds l.fn.files l.name) l.bytes.items;
  short : length l.bytes.items ≤ l.limit + 1;
  same : (other : List ℕ) → g.F.Files.holds l.files other ≡ g.F.Files.holds l.fn.files other;
  later : g.F.Files.faults l.fn.files ≤ g.F.Files.faults l.files;
}

abbrev pub decreases-loop-buffer : goal.decreases-loop-buffer
decreases-loop-buffer g l = l.limit + 1 - length l.bytes.items
