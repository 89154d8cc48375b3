-- Lines whose parts stand where they may, as `Shaped` says it of expressions.
use Rattle.std.specs.Prelude.{ℕ, Bool}
use Rattle.py_tree.specs.declared.token.Token as literals
use Rattle.py_tree.specs.Trees.{Tree, Arguments, Head}
use Rattle.syntax_form.specs.LineGrouping.{IsTextKind, GroupedAt, ArgumentListGrouped, HeadGrouped}
use Rattle.syntax_reading.proofs.Shaped.{IsFree, MayBeLiteral, AnyFText}

abbrev pub ShapedAt : ℕ → Tree → Type 0
ShapedAt = GroupedAt IsFree MayBeLiteral AnyFText

abbrev pub ArgumentListShaped : Arguments → Bool → Type 0
ArgumentListShaped = ArgumentListGrouped IsFree MayBeLiteral AnyFText

abbrev pub TextShaped : literals.Token → Type 0
TextShaped t = IsTextKind t.kind × MayBeLiteral t.kind t.spelling

abbrev pub HeadShaped : Head → Type 0
HeadShaped = HeadGrouped IsFree MayBeLiteral AnyFText
