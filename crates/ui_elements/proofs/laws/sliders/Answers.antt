-- Each law, as it is proved of the definitions.
use Rattle.ui_elements.proofs.SliderLaws.{ordered, begun, kept}
use Rattle.ui_elements.proofs.laws.sliders.Goals as goal

pub returns-clause-order : goal.returns-clause-order
returns-clause-order c = ordered

pub returns-clause-begins : goal.returns-clause-begins
returns-clause-begins c = begun

pub returns-clause-keeps : goal.returns-clause-keeps
returns-clause-keeps c = kept
