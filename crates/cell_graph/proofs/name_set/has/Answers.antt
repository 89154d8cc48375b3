-- A test of the references is one of the names behind them.
use Rattle.std.proofs.Common.{◌∙◌}
use Rattle.cell_graph.proofs.Names.{any_text}
use Rattle.cell_graph.proofs.name_set.has.Goals as goal

pub returns : goal.returns
returns c = c.contains.ensures ∙ any_text c.args.name.now c.args.set.now.keys
