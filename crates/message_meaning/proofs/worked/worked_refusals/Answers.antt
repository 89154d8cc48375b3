use Rattle.std.proofs.Common.{refl}
use Rattle.message_meaning.proofs.Computing.{refused}
use Rattle.message_meaning.proofs.worked.worked_refusals.Goals as goal
use Rattle.serde_json.proofs.OnLiterals.{serde_json_on_literals}

pub returns-clause-empty : goal.returns-clause-empty
unfolding serde_json_on_literals
returns-clause-empty c = refused _ refl

pub returns-clause-blank : goal.returns-clause-blank
unfolding serde_json_on_literals
returns-clause-blank c = refused _ refl

pub returns-clause-no_member : goal.returns-clause-no_member
unfolding serde_json_on_literals
returns-clause-no_member c = refused _ refl

pub returns-clause-number_set : goal.returns-clause-number_set
unfolding serde_json_on_literals
returns-clause-number_set c = refused _ refl

pub returns-clause-null_set : goal.returns-clause-null_set
unfolding serde_json_on_literals
returns-clause-null_set c = refused _ refl

pub returns-clause-list_set : goal.returns-clause-list_set
unfolding serde_json_on_literals
returns-clause-list_set c = refused _ refl

pub returns-clause-open_with_member : goal.returns-clause-open_with_member
unfolding serde_json_on_literals
returns-clause-open_with_member c = refused _ refl

pub returns-clause-close_with_member : goal.returns-clause-close_with_member
unfolding serde_json_on_literals
returns-clause-close_with_member c = refused _ refl

pub returns-clause-open_list : goal.returns-clause-open_list
unfolding serde_json_on_literals
returns-clause-open_list c = refused _ refl

pub returns-clause-two : goal.returns-clause-two
unfolding serde_json_on_literals
returns-clause-two c = refused _ refl

pub returns-clause-further_member : goal.returns-clause-further_member
unfolding serde_json_on_literals
returns-clause-further_member c = refused _ refl

pub returns-clause-number_at_last : goal.returns-clause-number_at_last
unfolding serde_json_on_literals
returns-clause-number_at_last c = refused _ refl

pub returns-clause-capital : goal.returns-clause-capital
unfolding serde_json_on_literals
returns-clause-capital c = refused _ refl

pub returns-clause-longer_name : goal.returns-clause-longer_name
unfolding serde_json_on_literals
returns-clause-longer_name c = refused _ refl

pub returns-clause-nameless : goal.returns-clause-nameless
unfolding serde_json_on_literals
returns-clause-nameless c = refused _ refl

pub returns-clause-list : goal.returns-clause-list
unfolding serde_json_on_literals
returns-clause-list c = refused _ refl

pub returns-clause-text : goal.returns-clause-text
unfolding serde_json_on_literals
returns-clause-text c = refused _ refl

pub returns-clause-behind : goal.returns-clause-behind
unfolding serde_json_on_literals
returns-clause-behind c = refused _ refl

pub returns-clause-second : goal.returns-clause-second
unfolding serde_json_on_literals
returns-clause-second c = refused _ refl

pub returns-clause-comma : goal.returns-clause-comma
unfolding serde_json_on_literals
returns-clause-comma c = refused _ refl

pub returns-clause-apostrophes : goal.returns-clause-apostrophes
unfolding serde_json_on_literals
returns-clause-apostrophes c = refused _ refl

pub returns-clause-unquoted : goal.returns-clause-unquoted
unfolding serde_json_on_literals
returns-clause-unquoted c = refused _ refl

pub returns-clause-comment : goal.returns-clause-comment
unfolding serde_json_on_literals
returns-clause-comment c = refused _ refl

pub returns-clause-leading_zero : goal.returns-clause-leading_zero
unfolding serde_json_on_literals
returns-clause-leading_zero c = refused _ refl

pub returns-clause-plus : goal.returns-clause-plus
unfolding serde_json_on_literals
returns-clause-plus c = refused _ refl

pub returns-clause-point_behind : goal.returns-clause-point_behind
unfolding serde_json_on_literals
returns-clause-point_behind c = refused _ refl

pub returns-clause-point_before : goal.returns-clause-point_before
unfolding serde_json_on_literals
returns-clause-point_before c = refused _ refl

pub returns-clause-not_a_number : goal.returns-clause-not_a_number
unfolding serde_json_on_literals
returns-clause-not_a_number c = refused _ refl

pub returns-clause-cut : goal.returns-clause-cut
unfolding serde_json_on_literals
returns-clause-cut c = refused _ refl

pub returns-clause-mark : goal.returns-clause-mark
unfolding serde_json_on_literals
returns-clause-mark c = refused _ refl
