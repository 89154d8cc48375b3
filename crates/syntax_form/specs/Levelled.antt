-- The expressions of the grammar: they are grouped as their operators bind, each name is one and no keyword, and each literal and f-text is
-- spelled as one.
use Rattle.std.specs.Prelude.{ℕ}
use Rattle.py_tree.specs.Expressions.{Tree, Trees, Links, Arguments, Pairs, Bound, Pieces}
use Rattle.syntax_form.specs.Grouping.{Grouped, AllGrouped, LinksGrouped, ArgumentsGrouped, PairsGrouped, BoundGrouped, PiecesGrouped}
use Rattle.syntax_form.specs.Literals.{IsName, IsLiteral, IsFTextSpelling}

abbrev pub Levelled : Tree → Type 0
Levelled = Grouped IsName IsLiteral IsFTextSpelling

-- all of them, at this level or a tighter one
abbrev pub AllLevelled : ℕ → Trees → Type 0
AllLevelled = AllGrouped IsName IsLiteral IsFTextSpelling

abbrev pub LinksLevelled : Links → Type 0
LinksLevelled = LinksGrouped IsName IsLiteral IsFTextSpelling

abbrev pub ArgumentsLevelled : Arguments → Type 0
ArgumentsLevelled = ArgumentsGrouped IsName IsLiteral IsFTextSpelling

abbrev pub PairsLevelled : Pairs → Type 0
PairsLevelled = PairsGrouped IsName IsLiteral IsFTextSpelling

abbrev pub BoundLevelled : Bound → Type 0
BoundLevelled = BoundGrouped IsName IsLiteral IsFTextSpelling

-- the expressions of the fields
abbrev pub PiecesLevelled : Pieces → Type 0
PiecesLevelled = PiecesGrouped IsName IsLiteral IsFTextSpelling
