-- Each worked call is computed.
use Rattle.py_value.proofs.Computes.{same_text, a_number, a_truth, a_text}
use Rattle.ui_elements.proofs.laws.worked_calls.Goals as goal

pub returns-clause-two : goal.returns-clause-two
returns-clause-two c = simp (same_text, a_number, a_text)

pub returns-clause-ten : goal.returns-clause-ten
returns-clause-ten c = simp (same_text, a_number)

pub returns-clause-eleven : goal.returns-clause-eleven
returns-clause-eleven c = simp (same_text, a_number)

pub returns-clause-truth : goal.returns-clause-truth
returns-clause-truth c = simp (same_text, a_number, a_truth)

pub returns-clause-downwards : goal.returns-clause-downwards
returns-clause-downwards c = simp (same_text, a_number, a_text)

pub returns-clause-types_first : goal.returns-clause-types_first
returns-clause-types_first c = simp (same_text, a_number, a_text)
