-- Why the bytes of a file are no notebook, from what the reader of the form and the graph answer.
use Rattle.cell_graph.specs.declared.fault.GraphFault.{GraphFault}
use Rattle.cell_graph.specs.declared.fault.GraphFault.TheVariants as graph
use Rattle.thin_form.specs.declared.thin_file.ThinFault.{ThinFault}
use Rattle.thin_form.specs.declared.thin_file.ThinFault.TheVariants as form
use Rattle.nbserve.specs.declared.refusal.Refusal.TheVariants as refusal
use Rattle.nbserve.specs.declared.command_fault.CommandFault.{CommandFault}
use Rattle.nbserve.specs.declared.command_fault.CommandFault.TheVariants as stop

-- why, where the file isn't of the form, and where its cells are no notebook
abbrev pub of_form : ThinFault → CommandFault
of_form (form.Thin line) = stop.Refused (refusal.Thin line)
of_form form.Memory = stop.Memory

abbrev pub of_graph : GraphFault → CommandFault
of_graph (graph.Doubly x first second) = stop.Refused (refusal.Doubly x first second)
of_graph (graph.Cycle cells) = stop.Refused (refusal.Cycle cells)
of_graph graph.Memory = stop.Memory
