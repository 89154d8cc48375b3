-- Loops over arguments and over pieces, and what begins an atom.
use Rattle.std.proofs.Common.{◌≡◌, ℕ, suc, ◌+◌, ◌<◌, Bool, true, false, List, [], ◌∷◌, ◌++◌, length, get_or, drop, Option, Some, None, option_map, refl, sym, ap, ◌∙◌, add-one}
use Rattle.std.proofs.Math.Seq.{drop-cons}
use Rattle.lexical_form.specs.Tokens as token
use Rattle.py_tree.specs.Expressions.{Tree, Pieces, characters}
use Rattle.py_tree.specs.FieldFormats.{Convert, Spec}
use Rattle.syntax_reading.specs.Parts.{Argument, plain, named, named_last, all_named}
use Rattle.syntax_reading.specs.Readers.{Reader, ◌>>=◌}
use Rattle.syntax_reading.specs.Reading.{atom, parts, with_field}
use Rattle.syntax_reading.specs.Tables.{Level, E1}
use Rattle.syntax_reading.specs.Words.{Word}
use Rattle.syntax_words.proofs.Beginnings.{operand, atom_by_first}
use Rattle.syntax_words.specs.Beginnings.{Atom, first_atom}
use Rattle.expr_parser.specs.Forms.{field_tree, with_value, with_piece}
use Rattle.expr_parser.specs.ListView.{named_behind}
use Rattle.expr_parser.specs.TextView.{Text, put, put_all, filled, plain as characters_of}

-- what is left of a list begins with the next item
pub dropped : {A : Type 0} (xs : List A) (i : ℕ) (x : A) → i < length xs → x ≡ get_or xs i x → drop i xs ≡ x ∷ drop (i + 1) xs
dropped xs i x lt is = drop-cons xs i x lt ∙ (λ j. sym is j ∷ drop (suc i) xs) ∙ ap (λ n. x ∷ drop n xs) (sym (add-one i))

-- those with names stand behind the others, where one with a name may have been before
abbrev pub after_named : Bool → List Argument → Bool
after_named false args = named_last args
after_named true args = all_named args

abbrev pub on_named : Option Bool → List Argument → Bool
on_named None args = false
on_named (Some given) args = after_named given args

pub named_on : (given : Bool) (a : Argument) (args : List Argument) → after_named given (a ∷ args) ≡ on_named (named_behind given a) args
named_on false (plain t) args = refl
named_on false (named x t) args = refl
named_on true (plain t) args = refl
named_on true (named x t) args = refl

-- ---- pieces

put_behind : (ts : List Text) (t : Text) (rest : Pieces) → put_all (ts ++ t ∷ []) rest ≡ put_all ts (put t rest)
put_behind [] t rest = refl
put_behind (u ∷ ts) t rest = ap (put u) (put_behind ts t rest)

abbrev pub on_texts : Option (List Text) → Option Pieces → Option Pieces
on_texts None rest = None
on_texts (Some ts) rest = option_map (put_all ts) rest

with_characters : (before : List Text) (cs : List ℕ) (rest : Option Pieces) →
    option_map (put_all before) (option_map (characters cs) rest) ≡ option_map (put_all (before ++ characters_of cs ∷ [])) rest
with_characters before cs None = refl
with_characters before cs (Some ps) = ap Some (sym (put_behind before (characters_of cs) ps))

with_fields : (before : List Text) (t : Option Tree) (convert : Convert) (spec : Option Spec) (rest : Option Pieces) →
    option_map (put_all before) (with_field convert spec t rest) ≡ on_texts (with_value before t convert spec) rest
with_fields before None convert spec rest = refl
with_fields before (Some t) convert spec None = refl
with_fields before (Some t) convert spec (Some ps) = ap Some (sym (put_behind before (filled t convert spec) ps))

module _ (inner : Level → Reader Tree) (room : ℕ) where
  pub piece_on : (before : List Text) (p : token.Piece) (ps : token.Pieces) →
      option_map (put_all before) (parts inner room (token.piece p ps)) ≡ on_texts (with_piece (inner E1) before p) (parts inner room ps)
  unfolding parts
  piece_on before (token.characters cs) ps = with_characters before cs (parts inner room ps)
  piece_on before (token.field ts convert spec) ps = with_fields before (field_tree (inner E1) ts) convert spec (parts inner room ps)

  -- the atom that begins so
  pub atom_none : (ts : List Word) → first_atom ts ≡ None → atom inner room ts ≡ None
  atom_none ts e = atom_by_first inner room ts ∙ ap (λ r. r >>= operand inner room) e

  pub atom_on : (ts us : List Word) (a : Atom) → first_atom ts ≡ Some (a, us) → atom inner room ts ≡ operand inner room a us
  atom_on ts us a e = atom_by_first inner room ts ∙ ap (λ r. r >>= operand inner room) e
