-- The lines so far, that a whole body which the bytes begin with goes on with what is left, and that no line stands beside one that
-- stands alone.
use Rattle.thin_form.specs.SliderNames.{as_elements}
use Rattle.thin_form.specs.FileParts.{HasBody}
use Rattle.thin_form.proofs.Bodies.{Continues, IsKept}
use Rattle.py_tree.specs.View.{view_stmts}
use Rattle.thin_form.proofs.cells.read_body.Given as goal

abbrev pub invariant-loop-stmts : goal.invariant-loop-stmts
invariant-loop-stmts l = record {
  found : HasBody (as_elements l.elements) l.fn.reader l.reader (view_stmts l.stmts.items);
  continues : Continues (as_elements l.elements) l.fn.reader l.reader (view_stmts l.stmts.items);
  kept : IsKept (view_stmts l.stmts.items) l.reader.bytes;
}

abbrev pub decreases-loop-stmts : goal.decreases-loop-stmts
decreases-loop-stmts l = l.reader.room
