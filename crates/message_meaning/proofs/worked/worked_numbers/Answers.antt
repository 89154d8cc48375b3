use Rattle.std.proofs.Common.{refl}
use Rattle.std.specs.Str.{chars, is_utf8}
use Rattle.message_meaning.proofs.Computing.{computed, refused}
use Rattle.message_meaning.proofs.worked.worked_numbers.Goals as goal
use Rattle.serde_json.proofs.OnLiterals.{serde_json_on_literals}

pub returns-clause-zero : goal.returns-clause-zero
unfolding serde_json_on_literals is_utf8 chars
returns-clause-zero c = computed _ _ refl refl refl

pub returns-clause-below_zero : goal.returns-clause-below_zero
unfolding serde_json_on_literals is_utf8 chars
returns-clause-below_zero c = computed _ _ refl refl refl

pub returns-clause-greatest : goal.returns-clause-greatest
unfolding serde_json_on_literals is_utf8 chars
returns-clause-greatest c = computed _ _ refl refl refl

pub returns-clause-least : goal.returns-clause-least
unfolding serde_json_on_literals is_utf8 chars
returns-clause-least c = computed _ _ refl refl refl

pub returns-clause-above : goal.returns-clause-above
unfolding serde_json_on_literals is_utf8 chars
returns-clause-above c = computed _ _ refl refl refl

pub returns-clause-below : goal.returns-clause-below
unfolding serde_json_on_literals is_utf8 chars
returns-clause-below c = computed _ _ refl refl refl

pub returns-clause-huge : goal.returns-clause-huge
unfolding serde_json_on_literals is_utf8 chars
returns-clause-huge c = computed _ _ refl refl refl

pub returns-clause-minus_zero : goal.returns-clause-minus_zero
unfolding serde_json_on_literals is_utf8 chars
returns-clause-minus_zero c = computed _ _ refl refl refl

pub returns-clause-fraction : goal.returns-clause-fraction
unfolding serde_json_on_literals is_utf8 chars
returns-clause-fraction c = computed _ _ refl refl refl

pub returns-clause-whole_fraction : goal.returns-clause-whole_fraction
unfolding serde_json_on_literals is_utf8 chars
returns-clause-whole_fraction c = computed _ _ refl refl refl

pub returns-clause-exponent : goal.returns-clause-exponent
unfolding serde_json_on_literals is_utf8 chars
returns-clause-exponent c = computed _ _ refl refl refl

pub returns-clause-no_exponent : goal.returns-clause-no_exponent
unfolding serde_json_on_literals is_utf8 chars
returns-clause-no_exponent c = computed _ _ refl refl refl

pub returns-clause-small : goal.returns-clause-small
unfolding serde_json_on_literals is_utf8 chars
returns-clause-small c = computed _ _ refl refl refl

pub returns-clause-great_float : goal.returns-clause-great_float
unfolding serde_json_on_literals is_utf8 chars
returns-clause-great_float c = computed _ _ refl refl refl

pub returns-clause-past_floats : goal.returns-clause-past_floats
unfolding serde_json_on_literals
returns-clause-past_floats c = refused _ refl

pub returns-clause-minus_past_floats : goal.returns-clause-minus_past_floats
unfolding serde_json_on_literals
returns-clause-minus_past_floats c = refused _ refl

pub returns-clause-digits_past_floats : goal.returns-clause-digits_past_floats
unfolding serde_json_on_literals
returns-clause-digits_past_floats c = refused _ refl
