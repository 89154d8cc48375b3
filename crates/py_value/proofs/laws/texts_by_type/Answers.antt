-- Each type's texts are a level of the definitions.
use Rattle.std.proofs.Common.{◌∙◌, ap, ◌++◌, length}
use Rattle.std.specs.Prelude.{codes}
use Rattle.py_value.specs.Texts.{tuple_end}
use Rattle.py_value.proofs.TextLevels.{repr-None, repr-Bool, repr-Int, repr-Text, repr-List, repr-Tuple, repr-Dict, repr-Element, repr-Html, items_are, pairs_are, str-Text, str_of_others}
use Rattle.py_value.proofs.laws.texts_by_type.Goals as goal

pub returns-clause-none : goal.returns-clause-none
returns-clause-none c = repr-None

pub returns-clause-truth : goal.returns-clause-truth
returns-clause-truth c = repr-Bool

pub returns-clause-number : goal.returns-clause-number
returns-clause-number c = repr-Int

pub returns-clause-text : goal.returns-clause-text
returns-clause-text c = repr-Text

pub returns-clause-list : goal.returns-clause-list
returns-clause-list c ds = repr-List ds ∙ ap (λ z. codes "[" ++ (z ++ codes "]")) (items_are ds)

pub returns-clause-tuple : goal.returns-clause-tuple
returns-clause-tuple c ds = repr-Tuple ds ∙ ap (λ z. codes "(" ++ (z ++ tuple_end (length ds))) (items_are ds)

pub returns-clause-dictionary : goal.returns-clause-dictionary
returns-clause-dictionary c ps = repr-Dict ps ∙ ap (λ z. codes "{" ++ (z ++ codes "}")) (pairs_are ps)

pub returns-clause-element : goal.returns-clause-element
returns-clause-element c e = repr-Element e.kind e.name e.params e.initial e.present

pub returns-clause-html : goal.returns-clause-html
returns-clause-html c = repr-Html

pub returns-clause-str_of_text : goal.returns-clause-str_of_text
returns-clause-str_of_text c = str-Text

pub returns-clause-str_of_others : goal.returns-clause-str_of_others
returns-clause-str_of_others c = str_of_others
