-- Which of several lists of names a name stands in.
use Rattle.std.specs.Prelude.{◌≡◌, ℕ, IsTrue, List, [], filter, Option, Some, unwrap_or, slice_get}
use Rattle.std.specs.Borrow.{Bor}
use Rattle.std.specs.List.{list_any}
use Rattle.std.specs.Str.{bytes_eq}
use Rattle.indexmap.specs.IndexMap.{IndexMap, get_by}
use Rattle.py_tree.specs.Names.{Name, is_among}
use Rattle.graph_meaning.specs.Graph.{numbers_from}

-- the list with this number, and no names past the last one
abbrev pub names_in : List (List Name) → ℕ → List Name
names_in lists a = unwrap_or (slice_get lists a) []

-- what the table has at a name
abbrev pub list_at : {S : Type 0} → IndexMap (Bor Name) ℕ S → Name → Option ℕ
list_at table x = get_by (λ (k : Bor Name). bytes_eq x k.now) table

-- a look-up finds, at each name, the number of the one list that has it
pub record FindsLists (lists : List (List Name)) (found : Name → Option ℕ) : Type 0 where
  pub stands : (x : Name) (a : ℕ) → found x ≡ Some a → IsTrue (is_among x (names_in lists a))
  pub finds : (x : Name) (a : ℕ) → IsTrue (is_among x (names_in lists a)) → found x ≡ Some a

-- the numbers of the lists in which one of these names stands, ascending
abbrev pub lists_with : List (List Name) → List Name → List ℕ
lists_with lists names = filter (λ a. list_any (λ x. is_among x (names_in lists a)) names) (numbers_from 0 lists)
