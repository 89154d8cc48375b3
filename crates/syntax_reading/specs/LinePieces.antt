-- Reading of what lines are made of: words, names, expressions, targets, parameters, arguments.
use Rattle.std.specs.Prelude.{ℕ, suc, ◌+◌, Bool, true, false, if◌then◌else◌, List, [], ◌∷◌, length, Option, Some, None, nat_lt}
use Rattle.std.specs.Str.{bytes_eq}
use Rattle.py_tree.specs.Names.{Name}
use Rattle.py_tree.specs.declared.token.Token as literals
use Rattle.py_tree.specs.declared.token.TokenKind.{TokenKind}
use Rattle.py_tree.specs.declared.token.TokenKind.TheVariants as kind
use Rattle.py_tree.specs.Trees.{Tree, bare, trees_of, Arguments, Augment, AddTo, SubtractFrom, MultiplyBy, FloorBy, RemainderBy}
use Rattle.syntax_form.specs.Depth.{depth}
use Rattle.syntax_reading.specs.Words as is
use Rattle.syntax_reading.specs.Words.{Fixed, Word, name, literal}
use Rattle.syntax_reading.specs.Readers.{Read, Reader, ◌>>=◌, on_table, on, guarded, Closing, by, on_closing}
use Rattle.syntax_reading.specs.Items.{items}
use Rattle.syntax_reading.specs.Tables.{E1}
use Rattle.syntax_reading.specs.Parts.{first_name, targets, arguments_of, named_last}
use Rattle.syntax_reading.specs.Reading.{argument, read}

-- what a form is made of
pub data Piece : Type 0 where
  word : Fixed → Piece
  -- this very name
  exact : Name → Piece
  any_name : Piece
  tree : Piece
  -- an expression or a tuple without brackets, and what closes it
  values_to : Closing → Piece
  -- one or more names, and the word after them
  names_to : Fixed → Piece
  -- names, perhaps a comma, and a closing bracket
  parameters : Piece
  -- arguments, perhaps a comma, and a closing bracket
  arguments : Piece
  text : Piece
  augment_mark : Piece

-- what was read there
pub data Slot : Type 0 where
  nothing : Slot
  a_name : Name → Slot
  a_tree : Tree → Slot
  some_names : List Name → (comma : Bool) → Slot
  some_arguments : Arguments → (comma : Bool) → Slot
  a_text : literals.Token → Slot
  an_augment : Augment → Slot

abbrev pub augment_of : Fixed → Option Augment
augment_of is.add_to = Some AddTo
augment_of is.subtract_from = Some SubtractFrom
augment_of is.multiply_by = Some MultiplyBy
augment_of is.floor_by = Some FloorBy
augment_of is.remainder_by = Some RemainderBy
augment_of f = None

abbrev pub first_exact : Name → Reader Slot
first_exact x [] = None
first_exact x (name y ∷ ts) = if bytes_eq x y then Some (nothing, ts) else None
first_exact x (w ∷ ts) = None

abbrev pub is_text_kind : TokenKind → Bool
is_text_kind kind.Text = true
is_text_kind k = false

abbrev pub first_text : Reader Slot
first_text [] = None
first_text (literal t ∷ ts) = if is_text_kind t.kind then Some (a_text t, ts) else None
first_text (w ∷ ts) = None

module _ (below : ℕ) where
  -- trees of a depth of at most one more
  unfoldable pub closed_values : Closing → Reader Tree
  closed_values c ts = read (suc below) E1 ts >>= λ t us. on is.comma
      (on_closing c None (λ vs. Some (t, vs)) us)
      (λ vs. guarded (nat_lt (depth t) (suc below)) (items (read below E1) c (length vs + 1) (t ∷ []) vs >>= λ a ws. Some (bare (trees_of a.0) a.1, ws))) us

  unfoldable pub piece : Piece → Reader Slot
  piece (word f) ts = on f None (λ us. Some (nothing, us)) ts
  piece (exact x) ts = first_exact x ts
  piece any_name ts = first_name ts >>= λ x us. Some (a_name x, us)
  piece tree ts = read (suc below) E1 ts >>= λ t us. Some (a_tree t, us)
  piece (values_to c) ts = closed_values c ts >>= λ t us. Some (a_tree t, us)
  piece (names_to f) ts = targets f ts >>= λ xs us. Some (some_names xs false, us)
  piece parameters ts = items first_name (by is.round_close) (length ts + 1) [] ts >>= λ a us. Some (some_names a.0 a.1, us)
  piece arguments ts = items (argument (read (suc below)) (suc below)) (by is.round_close) (length ts + 1) [] ts >>= λ a us.
      guarded (named_last a.0) (Some (some_arguments (arguments_of a.0) a.1, us))
  piece text ts = first_text ts
  piece augment_mark ts = on_table augment_of None (λ op us. Some (an_augment op, us)) ts

  abbrev pub with_slot : Slot → Option (List Slot) → Option (List Slot)
  with_slot s None = None
  with_slot s (Some ss) = Some (s ∷ ss)

  abbrev pub on_slot : (List Word → Option (List Slot)) → Read Slot → Option (List Slot)
  on_slot further None = None
  on_slot further (Some q) = with_slot q.0 (further q.1)

  -- all pieces, up to the end of the line
  unfoldable pub pieces : List Piece → List Word → Option (List Slot)
  pieces [] [] = Some []
  pieces [] (w ∷ ts) = None
  pieces (p ∷ ps) ts = on_slot (pieces ps) (piece p ts)
