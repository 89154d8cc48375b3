-- What begins a list of words, by parts.
use Rattle.std.proofs.Common.{◌≡◌, ℕ, Bool, true, false, List, [], ◌∷◌, Option, Some, None, refl}
use Rattle.std.specs.Prelude.{if◌then◌else◌, option_map}
use Rattle.py_tree.specs.Expressions as form
use Rattle.py_tree.specs.Expressions.{Tree}
use Rattle.syntax_reading.specs.Words as word
use Rattle.syntax_reading.specs.Words.{Word, is_free, may_be_literal, is_none_literal}
use Rattle.syntax_reading.specs.Readers.{Reader, ◌>>=◌, choose, guarded, with_rest}
use Rattle.syntax_reading.specs.Parts.{first_name, first_keyword, then_assign, on_none}
use Rattle.syntax_reading.specs.Tables.{Level, Bracket, bracket_of}
use Rattle.syntax_reading.specs.Reading.{atom, bracketed, parts, with_parts}
use Rattle.syntax_words.specs.Beginnings.{Atom, name, literal, f_text, bracket, first_atom, first_none}

-- what was read under a condition, and what goes on from there
guarded_first : {A B : Type 0} (b : Bool) (x : A) (ts : List Word) (go : A → Reader B) → guarded b (go x ts) ≡ (guarded b (Some (x, ts)) >>= go)
guarded_first true x ts go = refl
guarded_first false x ts go = refl

-- a keyword of an argument is a name, and `=` behind it
pub keyword_by_name : (ts : List Word) → first_keyword ts ≡ (first_name ts >>= then_assign)
keyword_by_name [] = refl
keyword_by_name (word.name x ∷ ts) = guarded_first (is_free x) x ts then_assign
keyword_by_name (word.literal t ∷ ts) = refl
keyword_by_name (word.f_text cs ps ∷ ts) = refl
keyword_by_name (word.fixed f ∷ ts) = refl
keyword_by_name (word.other t ∷ ts) = refl

-- what goes on behind `None`
pub on_none_by_first : {A : Type 0} (take : Reader A) (ts : List Word) → on_none take ts ≡ (first_none ts >>= λ u. take)
on_none_by_first take [] = refl
on_none_by_first take (word.name x ∷ ts) = refl
on_none_by_first {A} take (word.literal t ∷ ts) = by_test (is_none_literal t)
  where
    by_test : (b : Bool) → (if b then take ts else None) ≡ ◌>>=◌ {A = Unit {0}} {B = A} (if b then Some (tt, ts) else None) (λ u. take)
    by_test true = refl
    by_test false = refl
on_none_by_first take (word.f_text cs ps ∷ ts) = refl
on_none_by_first take (word.fixed f ∷ ts) = refl
on_none_by_first take (word.other t ∷ ts) = refl

module _ (inner : Level → Reader Tree) (room : ℕ) where
  -- the operand that begins so
  abbrev pub operand : Atom → Reader Tree
  operand (name x) ts = Some (form.name x, ts)
  operand (literal t) ts = Some (form.literal t, ts)
  operand (f_text cs ps) ts = with_parts inner room cs ts (parts inner room ps)
  operand (bracket b) ts = bracketed inner room b ts

  by_bracket : (o : Option Bracket) (ts : List Word) →
      choose None (bracketed inner room) (with_rest ts o) ≡ (with_rest ts (option_map bracket o) >>= operand)
  by_bracket None ts = refl
  by_bracket (Some b) ts = refl

  pub atom_by_first : (ts : List Word) → atom inner room ts ≡ (first_atom ts >>= operand)
  unfolding atom
  atom_by_first [] = refl
  atom_by_first (word.name x ∷ ts) = guarded_first (is_free x) (name x) ts operand
  atom_by_first (word.literal t ∷ ts) = guarded_first (may_be_literal t.kind t.spelling) (literal t) ts operand
  atom_by_first (word.f_text cs ps ∷ ts) = refl
  atom_by_first (word.fixed f ∷ ts) = by_bracket (bracket_of f) ts
  atom_by_first (word.other t ∷ ts) = refl
