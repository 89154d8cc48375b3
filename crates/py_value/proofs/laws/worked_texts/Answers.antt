-- Each worked text is computed.
use Rattle.std.specs.Fmt.{digits}
use Rattle.py_value.proofs.TextLevels.{repr-None, repr-Bool, repr-Int, repr-Text, repr-List, repr-Tuple, repr-Dict, repr-Element, str-Text}
use Rattle.py_value.proofs.laws.worked_texts.Goals as goal

pub returns-clause-apostrophe : goal.returns-clause-apostrophe
returns-clause-apostrophe c = repr-Text _

pub returns-clause-apostrophe_str : goal.returns-clause-apostrophe_str
returns-clause-apostrophe_str c = str-Text _

pub returns-clause-mixed : goal.returns-clause-mixed
returns-clause-mixed c = repr-Text _

pub returns-clause-one_item : goal.returns-clause-one_item
unfolding digits
returns-clause-one_item c = simp (repr-Tuple, repr-Int)

pub returns-clause-one_pair : goal.returns-clause-one_pair
returns-clause-one_pair c = simp (repr-Dict, repr-Text, repr-List, repr-Bool, repr-None)

pub returns-clause-slider : goal.returns-clause-slider
unfolding digits
returns-clause-slider c = simp (repr-Element, repr-Int, repr-Text, str-Text)
