-- What parts of an expression stand for.
use Rattle.std.specs.Prelude.{◌≡◌, ℕ, ◌+◌, max, List, [], ◌∷◌}
use Rattle.std.specs.List.{flat_map}
use Rattle.lexical_form.specs.Tokens.{Token, token, name, mark, f_text}
use Rattle.py_tree.specs.ExprView.{view, view_pieces}
use Rattle.py_tree.specs.Expressions.{Tree}
use Rattle.syntax_form.specs.Depth.{depth, piece_depth}
use Rattle.syntax_form.specs.Printing.{tokens, literal_token, token_pieces}
use Rattle.expr_tokens.specs.declared.part.Part.{Part}
use Rattle.expr_tokens.specs.declared.part.Part.TheVariants as part

-- the tokens that a part stands for, and those of parts
abbrev pub part_tokens : Part → List Token
part_tokens (part.Word x) = token name x.now ∷ []
part_tokens (part.Mark x) = token mark x.now ∷ []
part_tokens (part.Name x) = token name x.now ∷ []
part_tokens (part.Literal t) = literal_token t.now ∷ []
part_tokens (part.FText x pieces) = token (f_text (token_pieces (view_pieces pieces.now))) x.now ∷ []
part_tokens (part.Inner e) = tokens (view e.now)

abbrev pub parts_tokens : List Part → List Token
parts_tokens = flat_map part_tokens

-- the depth of the deepest expression in a part, 0 where there is none, and of the deepest in parts
abbrev pub part_depth : Part → ℕ
part_depth (part.FText x pieces) = piece_depth (view_pieces pieces.now)
part_depth (part.Inner e) = depth (view e.now)
part_depth _ = 0

abbrev pub parts_depth : List Part → ℕ
parts_depth [] = 0
parts_depth (p ∷ ps) = max (part_depth p) (parts_depth ps)

-- the parts stand for the tree
pub record Spell (ps : List Part) (t : Tree) : Type 0 where
  pub tokens : parts_tokens ps ≡ tokens t
  pub depth : depth t ≡ parts_depth ps + 1
