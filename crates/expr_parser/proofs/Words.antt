-- Words of the code, and readers over them.
use Rattle.std.proofs.Common.{◌≡◌, suc, List, [], ◌∷◌, ◌++◌, length, refl, sym, ap, ◌∙◌}
use Rattle.py_tree.specs.Expressions.{Tree, more, trees_of}
use Rattle.lexical_form.specs.Tokens.{Token, Tokens, tokens_of}
use Rattle.syntax_reading.specs.Parts.{tests_of}
use Rattle.syntax_reading.specs.Readers.{Read, Reader}
use Rattle.syntax_reading.specs.Reading.{alone}
use Rattle.syntax_reading.specs.Words as reading
use Rattle.syntax_reading.specs.Words.{token_list, words}
use Rattle.expr_parser.specs.Forms.{field_tree}
use Rattle.expr_parser.proofs.Depths.{seen_behind}
use Rattle.expr_parser.specs.ListView.{tests_on}
use Rattle.syntax_words.specs.WordView.{view_words}
use Rattle.syntax_words.specs.declared.word.Word.{Word}

pub as_many_words : (ws : List Word) → length (view_words ws) ≡ length ws
as_many_words [] = refl
as_many_words (w ∷ ws) = ap suc (as_many_words ws)

pub tests_are : (ts : List Tree) → tests_of (tests_on ts) ≡ trees_of ts
tests_are [] = refl
tests_are (t ∷ ts) = ap (more t) (tests_are ts)

pub tests_behind : (all ts : List Tree) (t : Tree) → all ≡ ts ++ t ∷ [] → tests_on all ≡ tests_on ts ++ (tt, t) ∷ []
tests_behind all ts t is = seen_behind (λ u. (tt, u)) all ts t is

token_list_is : (ts : List Token) → token_list (tokens_of ts) ≡ ts
token_list_is [] = refl
token_list_is (t ∷ ts) = ap (λ us. t ∷ us) (token_list_is ts)

-- the expression of a field, by the words of its tokens
pub field_is : (whole : Reader Tree) (tokens : Tokens) (ts : List Token) (ws : List reading.Word) (r : Read Tree) → tokens ≡ tokens_of ts → ws ≡ words ts → whole ws ≡ r →
    alone r ≡ field_tree whole tokens
field_is whole tokens ts ws r e f g =
    ap alone (sym g) ∙ (ap (λ us. alone (whole us)) f ∙ ap (λ us. alone (whole (words us))) (sym (ap token_list e ∙ token_list_is ts)))
