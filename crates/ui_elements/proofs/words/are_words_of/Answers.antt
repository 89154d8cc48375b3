-- The first test passes, or it doesn't.
use Rattle.std.proofs.Common.{sym, ◌∙◌}
use Rattle.ui_elements.proofs.Names.{fit, unfit}
use Rattle.ui_elements.proofs.words.are_words_of.Goals as goal

pub returns-then-are_parameters : goal.returns-then-are_parameters
returns-then-are_parameters c = c.are_distinct.ensures ∙ sym (fit c.args.parameters.now c.args.words.now (sym c.are_parameters.ensures ∙ c.if-are_parameters.true))

pub returns-else-are_parameters : goal.returns-else-are_parameters
returns-else-are_parameters c = c.if-are_parameters.false ∙ sym (unfit c.args.parameters.now c.args.words.now (sym c.are_parameters.ensures ∙ c.if-are_parameters.false))
