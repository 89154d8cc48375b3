-- Which expression may stand where: an operand binds as tightly as its place asks for, or more tightly (Python language reference, section 6).
-- A tuple without brackets is no operand. The parameters say what names, literals and f-texts have to be.
use Rattle.std.specs.Prelude.{ℕ, ◌+◌, ◌≤◌, List, ⊤}
use Rattle.py_tree.specs.Names.{Name}
use Rattle.py_tree.specs.declared.token.TokenKind.{TokenKind}
use Rattle.py_tree.specs.Expressions.{Tree, conditional, binary, prefixed, chain, is_none, power, call, index, slice, attribute, literal, f_text, name, paren, tuple, list, dict, list_of, dict_of, bare}
use Rattle.py_tree.specs.Expressions.{Trees, none, more, Links, done, link, Arguments, no_argument, positional, keyword, Pairs, no_pair, pair, Bound, left_out, at, Pieces, no_piece, characters, field}
use Rattle.lexical_form.specs.Tokens as token
use Rattle.syntax_form.specs.Levels.{operator_level, prefix_level, level}
use Rattle.syntax_form.specs.Printing.{token_pieces}
use Rattle.syntax_form.specs.Shapes.{CommaBehind, CommaBehindPairs, CommaBehindArguments, IsTuple, IsBare, NamedLast, AreTargets}

module _ (AsName : Name → Type 0) (AsLiteral : TokenKind → List ℕ → Type 0) (AsFText : List ℕ → token.Pieces → Type 0) where
  -- Operators group to the left, so the right operand binds more tightly than its operator; the exponent of a power may have a sign.
  abbrev mutual
    pub Grouped : Tree → Type 0
    Grouped (conditional value test other) =
        (2 ≤ level value) × Grouped value × (2 ≤ level test) × Grouped test × (1 ≤ level other) × Grouped other
    Grouped (binary op left right) = (operator_level op ≤ level left) × Grouped left × (operator_level op + 1 ≤ level right) × Grouped right
    Grouped (prefixed op t) = (prefix_level op ≤ level t) × Grouped t
    Grouped (chain t c u links) = (6 ≤ level t) × Grouped t × (6 ≤ level u) × Grouped u × LinksGrouped links
    Grouped (is_none negated t) = (6 ≤ level t) × Grouped t
    Grouped (power base exponent) = (10 ≤ level base) × Grouped base × (8 ≤ level exponent) × Grouped exponent
    Grouped (call callee args comma) =
        (10 ≤ level callee) × Grouped callee × ArgumentsGrouped args × NamedLast args × CommaBehindArguments args comma
    Grouped (index base position) = (10 ≤ level base) × Grouped base × (1 ≤ level position) × Grouped position
    Grouped (slice base from until) = (10 ≤ level base) × Grouped base × BoundGrouped from × BoundGrouped until
    Grouped (attribute base x) = (10 ≤ level base) × Grouped base × AsName x
    Grouped (literal t) = AsLiteral t.kind t.spelling
    Grouped (f_text spelling pieces) = AsFText spelling (token_pieces pieces) × PiecesGrouped pieces
    Grouped (name x) = AsName x
    Grouped (paren t) = (1 ≤ level t) × Grouped t
    Grouped (tuple ts comma) = AllGrouped 1 ts × IsTuple ts comma
    Grouped (list ts comma) = AllGrouped 1 ts × CommaBehind ts comma
    Grouped (dict ps comma) = PairsGrouped ps × CommaBehindPairs ps comma
    Grouped (list_of item targets from tests) =
        (1 ≤ level item) × Grouped item × AreTargets AsName targets × (2 ≤ level from) × Grouped from × AllGrouped 2 tests
    Grouped (dict_of key item targets from tests) =
        (1 ≤ level key) × Grouped key × (1 ≤ level item) × Grouped item × AreTargets AsName targets × (2 ≤ level from) × Grouped from
        × AllGrouped 2 tests
    Grouped (bare ts comma) = AllGrouped 1 ts × IsBare ts comma

    -- all of them, at this level or a tighter one
    pub AllGrouped : ℕ → Trees → Type 0
    AllGrouped k none = ⊤
    AllGrouped k (more t ts) = (k ≤ level t) × Grouped t × AllGrouped k ts

    pub LinksGrouped : Links → Type 0
    LinksGrouped done = ⊤
    LinksGrouped (link c t links) = (6 ≤ level t) × Grouped t × LinksGrouped links

    pub ArgumentsGrouped : Arguments → Type 0
    ArgumentsGrouped no_argument = ⊤
    ArgumentsGrouped (positional t args) = (1 ≤ level t) × Grouped t × ArgumentsGrouped args
    ArgumentsGrouped (keyword x t args) = AsName x × (1 ≤ level t) × Grouped t × ArgumentsGrouped args

    pub PairsGrouped : Pairs → Type 0
    PairsGrouped no_pair = ⊤
    PairsGrouped (pair key item ps) = (1 ≤ level key) × Grouped key × (1 ≤ level item) × Grouped item × PairsGrouped ps

    pub BoundGrouped : Bound → Type 0
    BoundGrouped left_out = ⊤
    BoundGrouped (at t) = (1 ≤ level t) × Grouped t

    -- the expressions of the fields
    pub PiecesGrouped : Pieces → Type 0
    PiecesGrouped no_piece = ⊤
    PiecesGrouped (characters cs ps) = PiecesGrouped ps
    PiecesGrouped (field t convert spec ps) = (1 ≤ level t) × Grouped t × PiecesGrouped ps
