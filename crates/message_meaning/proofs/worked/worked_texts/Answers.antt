use Rattle.std.proofs.Common.{refl}
use Rattle.std.specs.Char.{encode_utf8}
use Rattle.std.specs.Str.{chars, is_utf8}
use Rattle.message_meaning.proofs.Computing.{computed, refused, no_text}
use Rattle.message_meaning.proofs.worked.worked_texts.Goals as goal
use Rattle.serde_json.proofs.OnLiterals.{serde_json_on_literals}

pub returns-clause-escapes : goal.returns-clause-escapes
unfolding serde_json_on_literals is_utf8 chars
returns-clause-escapes c = computed _ _ refl refl refl

pub returns-clause-control : goal.returns-clause-control
unfolding serde_json_on_literals is_utf8 chars
returns-clause-control c = computed _ _ refl refl refl

pub returns-clause-two_bytes : goal.returns-clause-two_bytes
unfolding serde_json_on_literals is_utf8 chars
returns-clause-two_bytes c = computed _ _ refl refl refl

pub returns-clause-three_bytes : goal.returns-clause-three_bytes
unfolding serde_json_on_literals is_utf8 chars
returns-clause-three_bytes c = computed _ _ refl refl refl

pub returns-clause-pair : goal.returns-clause-pair
unfolding serde_json_on_literals is_utf8 chars
returns-clause-pair c = computed _ _ refl refl refl

pub returns-clause-unescaped : goal.returns-clause-unescaped
unfolding serde_json_on_literals is_utf8 chars
returns-clause-unescaped c = computed _ _ refl refl refl

pub returns-clause-high_surrogate : goal.returns-clause-high_surrogate
unfolding serde_json_on_literals
returns-clause-high_surrogate c = refused _ refl

pub returns-clause-low_surrogate : goal.returns-clause-low_surrogate
unfolding serde_json_on_literals
returns-clause-low_surrogate c = refused _ refl

pub returns-clause-two_high_surrogates : goal.returns-clause-two_high_surrogates
unfolding serde_json_on_literals
returns-clause-two_high_surrogates c = refused _ refl

pub returns-clause-surrogate_and_letter : goal.returns-clause-surrogate_and_letter
unfolding serde_json_on_literals
returns-clause-surrogate_and_letter c = refused _ refl

pub returns-clause-surrogate_in_name : goal.returns-clause-surrogate_in_name
unfolding serde_json_on_literals
returns-clause-surrogate_in_name c = refused _ refl

pub returns-clause-surrogate_in_list : goal.returns-clause-surrogate_in_list
unfolding serde_json_on_literals
returns-clause-surrogate_in_list c = refused _ refl

pub returns-clause-line_end : goal.returns-clause-line_end
unfolding serde_json_on_literals
returns-clause-line_end c = refused _ refl

pub returns-clause-unknown_escape : goal.returns-clause-unknown_escape
unfolding serde_json_on_literals
returns-clause-unknown_escape c = refused _ refl

pub returns-clause-no_text : goal.returns-clause-no_text
unfolding is_utf8 chars encode_utf8
returns-clause-no_text c = no_text _ refl

pub returns-clause-half_character : goal.returns-clause-half_character
unfolding is_utf8 chars encode_utf8
returns-clause-half_character c = no_text _ refl

pub returns-clause-surrogate_bytes : goal.returns-clause-surrogate_bytes
unfolding is_utf8 chars encode_utf8
returns-clause-surrogate_bytes c = no_text _ refl
