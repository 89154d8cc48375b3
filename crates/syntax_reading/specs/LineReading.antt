-- Reading of lines: the latest form that fits is taken.
use Rattle.std.specs.Prelude.{ℕ, pred, List, [], ◌∷◌, Option, Some, None}
use Rattle.py_tree.specs.Trees.{Head}
use Rattle.lexical_form.specs.Tokens.{Token}
use Rattle.syntax_form.specs.Depth.{depth_limit}
use Rattle.syntax_reading.specs.Words.{Word, words}
use Rattle.syntax_reading.specs.LinePieces.{Slot, pieces}
use Rattle.syntax_reading.specs.LineForms.{Form, Value, Assign, AugmentName, PutItem, AugmentItem, Append, Extend, IfLine, ElifLine, ElseLine, WhileLine, ForLine, DefLine, Return, ReturnValue, Pass, Break, Continue, ImportMarimo, ImportMo, WithCache, WithNamedCache, CacheDecorator, CellDecorator, CellDecoratorWith, App, template, make}

-- the greatest depth of the parts of a tree
abbrev pub part_limit : ℕ
part_limit = pred depth_limit

-- from the latest to the first
abbrev pub forms : List Form
forms =
    App ∷ CellDecoratorWith ∷ CellDecorator ∷ CacheDecorator ∷ WithNamedCache ∷ WithCache ∷ ImportMo ∷ ImportMarimo ∷ Continue ∷ Break ∷ Pass ∷
    ReturnValue ∷ Return ∷ DefLine ∷ ForLine ∷ WhileLine ∷ ElseLine ∷ ElifLine ∷ IfLine ∷ Extend ∷ Append ∷ AugmentItem ∷ PutItem ∷ AugmentName ∷ Assign ∷ Value ∷ []

abbrev pub made : Form → Option (List Slot) → Option Head
made f None = None
made f (Some ss) = make f ss

-- a line of this form
abbrev pub one_form : ℕ → Form → List Word → Option Head
one_form below f ts = made f (pieces below (template f) ts)

abbrev pub or_else : Option Head → Option Head → Option Head
or_else (Some h) other_way = Some h
or_else None other_way = other_way

unfoldable pub first_form : List Form → List Word → Option Head
first_form [] ts = None
first_form (f ∷ fs) ts = or_else (one_form part_limit f ts) (first_form fs ts)

-- the line that all these tokens are, if they are one
abbrev pub read_line : List Token → Option Head
read_line ts = first_form forms (words ts)
