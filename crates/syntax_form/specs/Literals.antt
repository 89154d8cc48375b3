-- Names, literals and f-texts, spelled as such (Python language reference, sections 2.3 and 2.4).
use Rattle.std.specs.Prelude.{◌≡◌, ℕ, IsTrue, List, [], ◌∷◌, codes}
use Rattle.py_tree.specs.Names.{Name, is_among, is_identifier}
use Rattle.py_tree.specs.declared.token.TokenKind.{TokenKind}
use Rattle.py_tree.specs.declared.token.TokenKind.TheVariants as kind
use Rattle.lexical_form.specs.FTexts.{FText, IsFText, f_text_spelling, f_text_pieces}
use Rattle.lexical_form.specs.Numbers.{is_number}
use Rattle.lexical_form.specs.Texts.{Text, is_text, text_spelling}
use Rattle.lexical_form.specs.Tokens.{Pieces, pieces_of}

-- a name that is no keyword
abbrev pub IsName : Name → Type 0
IsName x = IsTrue (is_identifier x)

-- the literals that are spelled as names
abbrev pub constants : List Name
constants = codes "None" ∷ codes "True" ∷ codes "False" ∷ []

abbrev pub IsTextSpelling : List ℕ → Type 0
IsTextSpelling cs = (t : Text) × IsTrue (is_text t) × (cs ≡ text_spelling t)

-- `None`, `True`, `False`, a number or a text
abbrev pub IsLiteral : TokenKind → List ℕ → Type 0
IsLiteral kind.Name cs = IsTrue (is_among cs constants)
IsLiteral kind.Number cs = IsTrue (is_number cs)
IsLiteral kind.Text cs = IsTextSpelling cs
IsLiteral kind.Mark cs = ⊥

-- an f-text that is made of these pieces
abbrev pub IsFTextSpelling : List ℕ → Pieces → Type 0
IsFTextSpelling cs ps = (t : FText) × IsFText t × (cs ≡ f_text_spelling t) × (ps ≡ pieces_of (f_text_pieces t))
