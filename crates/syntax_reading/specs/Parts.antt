-- Reading of comparisons, names and targets; and items as the lists of a tree.
use Rattle.std.specs.Prelude.{◌+◌, Bool, true, false, if◌then◌else◌, not, ◌&&◌, List, [], ◌∷◌, length, Some, None}
use Rattle.py_tree.specs.Names.{Name}
use Rattle.py_tree.specs.Expressions as form
use Rattle.py_tree.specs.Expressions.{Comparison, Tree, Trees, none, more, Links, done, link, Arguments, no_argument, positional, keyword, Pairs, no_pair, pair}
use Rattle.syntax_reading.specs.Words as is
use Rattle.syntax_reading.specs.Words.{Fixed, Word, name, literal, is_free, is_none_literal}
use Rattle.syntax_reading.specs.Readers.{Reader, ◌>>=◌, on_table, on, guarded, by, is_some}
use Rattle.syntax_reading.specs.Items.{items}
use Rattle.syntax_reading.specs.Tables.{comparison_of}

abbrev pub first_comparison : Reader Comparison
first_comparison ts =
    on_table comparison_of (on is.not_ None (λ us. on is.in_ None (λ vs. Some (form.NotIn, vs)) us) ts) (λ c us. Some (c, us)) ts

abbrev pub first_name : Reader Name
first_name [] = None
first_name (name x ∷ ts) = guarded (is_free x) (Some (x, ts))
first_name (w ∷ ts) = None

-- `if` in front
abbrev pub first_if : Reader (Unit {0})
first_if ts = on is.if_ None (λ us. Some (tt, us)) ts

-- `=` behind a name
abbrev pub then_assign : Name → Reader Name
then_assign x ts = on is.assign None (λ us. Some (x, us)) ts

-- `NAME=` in front, the name
abbrev pub first_keyword : Reader Name
first_keyword [] = None
first_keyword (name x ∷ ts) = guarded (is_free x) (then_assign x ts)
first_keyword (w ∷ ts) = None

-- `None` in front
abbrev pub on_none : {A : Type 0} → Reader A → Reader A
on_none take [] = None
on_none take (literal t ∷ ts) = if is_none_literal t then take ts else None
on_none take (w ∷ ts) = None

-- one or more, and no comma behind the last one
abbrev pub some_names : List Name × Bool → Bool
some_names p = is_some p.0 && not p.1

-- names with commas between them, up to a word
abbrev pub targets : Fixed → Reader (List Name)
targets f ts = items first_name (by f) (length ts + 1) [] ts >>= λ a us. guarded (some_names a) (Some (a.0, us))

-- ---- items, and the lists of a tree that they are
pub data Argument : Type 0 where
  plain : Tree → Argument
  named : Name → Tree → Argument

abbrev pub arguments_of : List Argument → Arguments
arguments_of [] = no_argument
arguments_of (plain t ∷ args) = positional t (arguments_of args)
arguments_of (named x t ∷ args) = keyword x t (arguments_of args)

abbrev pub all_named : List Argument → Bool
all_named [] = true
all_named (plain t ∷ args) = false
all_named (named x t ∷ args) = all_named args

-- those with names stand behind the others
abbrev pub named_last : List Argument → Bool
named_last [] = true
named_last (plain t ∷ args) = named_last args
named_last (named x t ∷ args) = all_named args

abbrev pub pairs_of : List (Tree × Tree) → Pairs
pairs_of [] = no_pair
pairs_of (p ∷ ps) = pair p.0 p.1 (pairs_of ps)

abbrev pub links_of : List (Comparison × Tree) → Links
links_of [] = done
links_of (l ∷ ls) = link l.0 l.1 (links_of ls)

abbrev pub tests_of : List (Unit {0} × Tree) → Trees
tests_of [] = none
tests_of (l ∷ ls) = more l.1 (tests_of ls)
