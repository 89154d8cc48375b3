-- What texts are that worked scripts, and `once`, send.
use Rattle.std.proofs.Common.{refl, []}
use Rattle.std.specs.Prelude.{codes}
use Rattle.std.specs.Str.{chars, is_utf8}
use Rattle.messages.specs.declared.message.Message.TheVariants.{Open, Close}
use Rattle.message_meaning.proofs.Computing.{computed, refused}
use Rattle.message_meaning.specs.Messages.{IsMessage, IsNoMessage}
use Rattle.serde_json.proofs.OnLiterals.{serde_json_on_literals}
use Rattle.program_meaning.specs.Samples.{sets_s}

pub opening : IsMessage (codes "{\"open\":{}}") Open
unfolding serde_json_on_literals is_utf8 chars
opening = computed _ _ refl refl refl

pub to_4 : IsMessage (codes "{\"set\":{\"s\":4}}") (sets_s 4)
unfolding serde_json_on_literals is_utf8 chars
to_4 = computed _ _ refl refl refl

pub to_4_with_blanks : IsMessage (codes "{ \"set\": {\"s\": 4} }") (sets_s 4)
unfolding serde_json_on_literals is_utf8 chars
to_4_with_blanks = computed _ _ refl refl refl

pub to_11 : IsMessage (codes "{\"set\":{\"s\":11}}") (sets_s 11)
unfolding serde_json_on_literals is_utf8 chars
to_11 = computed _ _ refl refl refl

pub closing : IsMessage (codes "{\"close\":{}}") Close
unfolding serde_json_on_literals is_utf8 chars
closing = computed _ _ refl refl refl

pub nothing : IsNoMessage []
unfolding serde_json_on_literals
nothing = refused _ refl

pub letter : IsNoMessage (codes "x")
unfolding serde_json_on_literals
letter = refused _ refl
