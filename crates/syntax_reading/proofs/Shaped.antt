-- Expressions whose operands stand where they may, whatever numbers, texts and f-texts are spelled like, and of whose names only that they are
-- no keywords is known. That is what readers see, since they take tokens as words.
use Rattle.std.specs.Prelude.{ℕ, IsTrue, List, ⊤}
use Rattle.py_tree.specs.Names.{Name}
use Rattle.py_tree.specs.declared.token.TokenKind.{TokenKind}
use Rattle.py_tree.specs.Expressions.{Tree, Trees, Links, Arguments, Pairs, Bound, Pieces}
use Rattle.lexical_form.specs.Tokens as token
use Rattle.syntax_form.specs.Grouping.{Grouped, AllGrouped, LinksGrouped, ArgumentsGrouped, PairsGrouped, BoundGrouped, PiecesGrouped}
use Rattle.syntax_form.specs.Shapes.{AreEach, AreTargets}
use Rattle.syntax_reading.specs.Words.{is_free, may_be_literal}

-- the name is no keyword
abbrev pub IsFree : Name → Type 0
IsFree x = IsTrue (is_free x)

abbrev pub AreFree : List Name → Type 0
AreFree = AreEach IsFree

abbrev pub AreFreeTargets : List Name → Type 0
AreFreeTargets = AreTargets IsFree

abbrev pub MayBeLiteral : TokenKind → List ℕ → Type 0
MayBeLiteral k cs = IsTrue (may_be_literal k cs)

abbrev pub AnyFText : List ℕ → token.Pieces → Type 0
AnyFText cs ps = ⊤

abbrev pub Shaped : Tree → Type 0
Shaped = Grouped IsFree MayBeLiteral AnyFText

abbrev pub AllShaped : ℕ → Trees → Type 0
AllShaped = AllGrouped IsFree MayBeLiteral AnyFText

abbrev pub LinksShaped : Links → Type 0
LinksShaped = LinksGrouped IsFree MayBeLiteral AnyFText

abbrev pub ArgumentsShaped : Arguments → Type 0
ArgumentsShaped = ArgumentsGrouped IsFree MayBeLiteral AnyFText

abbrev pub PairsShaped : Pairs → Type 0
PairsShaped = PairsGrouped IsFree MayBeLiteral AnyFText

abbrev pub BoundShaped : Bound → Type 0
BoundShaped = BoundGrouped IsFree MayBeLiteral AnyFText

abbrev pub PiecesShaped : Pieces → Type 0
PiecesShaped = PiecesGrouped IsFree MayBeLiteral AnyFText
