use Rattle.std.proofs.Common.{refl}
use Rattle.std.specs.Str.{chars, is_utf8}
use Rattle.message_meaning.proofs.Computing.{computed, refused}
use Rattle.message_meaning.proofs.worked.worked_depths.Goals as goal
use Rattle.serde_json.proofs.OnLiterals.{serde_json_on_literals}

pub returns-clause-deepest : goal.returns-clause-deepest
unfolding serde_json_on_literals is_utf8 chars
returns-clause-deepest c = computed _ _ refl refl refl

pub returns-clause-too_deep : goal.returns-clause-too_deep
unfolding serde_json_on_literals
returns-clause-too_deep c = refused _ refl
