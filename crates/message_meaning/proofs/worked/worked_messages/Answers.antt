use Rattle.std.proofs.Common.{refl}
use Rattle.std.specs.Str.{chars, is_utf8}
use Rattle.message_meaning.proofs.Computing.{computed}
use Rattle.message_meaning.proofs.worked.worked_messages.Goals as goal
use Rattle.serde_json.proofs.OnLiterals.{serde_json_on_literals}

pub returns-clause-open : goal.returns-clause-open
unfolding serde_json_on_literals is_utf8 chars
returns-clause-open c = computed _ _ refl refl refl

pub returns-clause-close : goal.returns-clause-close
unfolding serde_json_on_literals is_utf8 chars
returns-clause-close c = computed _ _ refl refl refl

pub returns-clause-nothing : goal.returns-clause-nothing
unfolding serde_json_on_literals is_utf8 chars
returns-clause-nothing c = computed _ _ refl refl refl

pub returns-clause-blanks : goal.returns-clause-blanks
unfolding serde_json_on_literals is_utf8 chars
returns-clause-blanks c = computed _ _ refl refl refl

pub returns-clause-order : goal.returns-clause-order
unfolding serde_json_on_literals is_utf8 chars
returns-clause-order c = computed _ _ refl refl refl

pub returns-clause-repeated : goal.returns-clause-repeated
unfolding serde_json_on_literals is_utf8 chars
returns-clause-repeated c = computed _ _ refl refl refl

pub returns-clause-spelled_twice : goal.returns-clause-spelled_twice
unfolding serde_json_on_literals is_utf8 chars
returns-clause-spelled_twice c = computed _ _ refl refl refl

pub returns-clause-set_twice : goal.returns-clause-set_twice
unfolding serde_json_on_literals is_utf8 chars
returns-clause-set_twice c = computed _ _ refl refl refl

pub returns-clause-open_at_last : goal.returns-clause-open_at_last
unfolding serde_json_on_literals is_utf8 chars
returns-clause-open_at_last c = computed _ _ refl refl refl

pub returns-clause-escaped : goal.returns-clause-escaped
unfolding serde_json_on_literals is_utf8 chars
returns-clause-escaped c = computed _ _ refl refl refl

pub returns-clause-no_name : goal.returns-clause-no_name
unfolding serde_json_on_literals is_utf8 chars
returns-clause-no_name c = computed _ _ refl refl refl
