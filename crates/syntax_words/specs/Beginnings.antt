-- What begins an operand, and `None`, as readers: by these the reading's `atom` and `on_none` are known (proofs/Beginnings).
use Rattle.std.specs.Prelude.{ℕ, List, [], ◌∷◌, Some, None, option_map}
use Rattle.lexical_form.specs.Tokens.{Pieces}
use Rattle.py_tree.specs.Names.{Name}
use Rattle.py_tree.specs.declared.token.Token as literals
use Rattle.syntax_reading.specs.Words as word
use Rattle.syntax_reading.specs.Words.{Word, is_free, may_be_literal}
use Rattle.syntax_reading.specs.Parts.{on_none}
use Rattle.syntax_reading.specs.Readers.{Reader, guarded, with_rest}
use Rattle.syntax_reading.specs.Tables.{Bracket, bracket_of}

-- what an operand begins with
pub data Atom : Type 0 where
  name : Name → Atom
  literal : literals.Token → Atom
  f_text : (spelling : List ℕ) → Pieces → Atom
  bracket : Bracket → Atom

abbrev pub first_atom : Reader Atom
first_atom [] = None
first_atom (word.name x ∷ ts) = guarded (is_free x) (Some (name x, ts))
first_atom (word.literal t ∷ ts) = guarded (may_be_literal t.kind t.spelling) (Some (literal t, ts))
first_atom (word.f_text cs ps ∷ ts) = Some (f_text cs ps, ts)
first_atom (word.fixed f ∷ ts) = with_rest ts (option_map bracket (bracket_of f))
first_atom (word.other t ∷ ts) = None

-- `None` in front
abbrev pub first_none : Reader (Unit {0})
first_none ts = on_none (λ us. Some (tt, us)) ts
