-- The cells so far, that cells which the bytes begin with go on with what is left of them, and the place after the cells.
use Rattle.std.specs.Prelude.{flat_map}
use Rattle.thin_form.specs.SliderNames.{as_elements}
use Rattle.thin_form.specs.FileParts.{HasCells}
use Rattle.thin_form.proofs.Stops.{Led}
use Rattle.thin_form.proofs.WholeCells.{Continues}
use Rattle.form_meaning.specs.Thin.{cell_lines}
use Rattle.py_tree.specs.View.{view_cells}
use Rattle.thin_form.proofs.cells.read_cells.Given as goal

abbrev pub invariant-loop-cells : goal.invariant-loop-cells
invariant-loop-cells l = record {
  found : HasCells (as_elements l.elements) l.fn.reader l.reader (view_cells l.cells.items);
  continues : Continues (as_elements l.elements) l.fn.reader l.reader (view_cells l.cells.items);
  led : Led (as_elements l.elements) (flat_map cell_lines (view_cells l.cells.items)) l.reader.bytes;
}

abbrev pub decreases-loop-cells : goal.decreases-loop-cells
decreases-loop-cells l = l.reader.room
