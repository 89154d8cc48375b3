-- The words of worked examples: texts with the expressions and lines that they are. No definition speaks of them.
use Prim.Native.String.{String}
use Rattle.std.specs.Prelude.{ℕ, List, [], ◌∷◌, map, codes, ⊤, Option, Some, None}
use Rattle.py_tree.specs.declared.token.Token as literals
use Rattle.py_tree.specs.declared.token.TokenKind.{TokenKind}
use Rattle.py_tree.specs.declared.token.TokenKind.TheVariants as kind
use Rattle.py_tree.specs.Expressions as form
use Rattle.py_tree.specs.Trees.{Tree, Pieces, Head}
use Rattle.lexical_form.specs.Answer.{IsAnswer, accepted}
use Rattle.lexical_form.specs.Tokens.{Token}
use Rattle.syntax_form.specs.Depth.{depth_limit}
use Rattle.syntax_form.specs.Expressions.{IsExpression}
use Rattle.syntax_form.specs.Lines.{SpellsLine, IsLine}

-- the text is one logical line of these tokens
abbrev pub IsOneLine : List ℕ → List Token → Type 0
IsOneLine text ts = IsAnswer text (accepted (record { line = 1; indent = 0; tokens = ts } ∷ []))

-- the tokens are this one, or spell none
abbrev pub Says : {A : Type 0} → (Is Spells : List Token → A → Type 0) → List Token → Option A → Type 0
Says Is Spells ts (Some x) = Is ts x
Says {A} Is Spells ts None = (x : A) → Spells ts x → ⊥

-- each text of a table is one logical line, whose tokens are what stands beside it
abbrev pub AreRows : {A : Type 0} → (Is Spells : List Token → A → Type 0) → List (List ℕ × Option A) → Type 0
AreRows Is Spells [] = ⊤
AreRows Is Spells (row ∷ rows) = ((ts : List Token) × IsOneLine row.0 ts × Says Is Spells ts row.1) × AreRows Is Spells rows

abbrev pub AreExpressions : List (List ℕ × Option Tree) → Type 0
AreExpressions = AreRows (IsExpression depth_limit) (IsExpression depth_limit)

abbrev pub AreLines : List (List ℕ × Option Head) → Type 0
AreLines = AreRows IsLine SpellsLine

-- ---- rows
abbrev pub row : {A : Type 0} → String → A → List ℕ × Option A
row x t = (codes x, Some t)

abbrev pub all_refused : {A : Type 0} → List String → List (List ℕ × Option A)
all_refused xs = map (λ x. (codes x, None)) xs

-- ---- leaves by their spellings
abbrev pub named : String → Tree
named x = form.name (codes x)

abbrev pub literal_of : TokenKind → String → literals.Token
literal_of k x = record { kind = k; spelling = codes x }

abbrev pub a_text : String → literals.Token
a_text x = literal_of kind.Text x

abbrev pub constant : String → Tree
constant x = form.literal (literal_of kind.Name x)

abbrev pub number : String → Tree
number x = form.literal (literal_of kind.Number x)

abbrev pub text : String → Tree
text x = form.literal (a_text x)

abbrev pub f_text : String → Pieces → Tree
f_text x ps = form.f_text (codes x) ps
