use Rattle.std.proofs.Common.{refl}
use Rattle.std.specs.Str.{chars, is_utf8}
use Rattle.message_meaning.proofs.Computing.{computed}
use Rattle.message_meaning.proofs.worked.worked_values.Goals as goal
use Rattle.serde_json.proofs.OnLiterals.{serde_json_on_literals}

pub returns-clause-null : goal.returns-clause-null
unfolding serde_json_on_literals is_utf8 chars
returns-clause-null c = computed _ _ refl refl refl

pub returns-clause-truth : goal.returns-clause-truth
unfolding serde_json_on_literals is_utf8 chars
returns-clause-truth c = computed _ _ refl refl refl

pub returns-clause-falsehood : goal.returns-clause-falsehood
unfolding serde_json_on_literals is_utf8 chars
returns-clause-falsehood c = computed _ _ refl refl refl

pub returns-clause-text : goal.returns-clause-text
unfolding serde_json_on_literals is_utf8 chars
returns-clause-text c = computed _ _ refl refl refl

pub returns-clause-texts : goal.returns-clause-texts
unfolding serde_json_on_literals is_utf8 chars
returns-clause-texts c = computed _ _ refl refl refl

pub returns-clause-no_texts : goal.returns-clause-no_texts
unfolding serde_json_on_literals is_utf8 chars
returns-clause-no_texts c = computed _ _ refl refl refl

pub returns-clause-mixed : goal.returns-clause-mixed
unfolding serde_json_on_literals is_utf8 chars
returns-clause-mixed c = computed _ _ refl refl refl

pub returns-clause-numbers : goal.returns-clause-numbers
unfolding serde_json_on_literals is_utf8 chars
returns-clause-numbers c = computed _ _ refl refl refl

pub returns-clause-nested : goal.returns-clause-nested
unfolding serde_json_on_literals is_utf8 chars
returns-clause-nested c = computed _ _ refl refl refl

pub returns-clause-nested_numbers : goal.returns-clause-nested_numbers
unfolding serde_json_on_literals is_utf8 chars
returns-clause-nested_numbers c = computed _ _ refl refl refl

pub returns-clause-members : goal.returns-clause-members
unfolding serde_json_on_literals is_utf8 chars
returns-clause-members c = computed _ _ refl refl refl
