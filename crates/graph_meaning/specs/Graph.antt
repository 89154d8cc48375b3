-- The graph of a notebook, which is its cells in file order. Cells have numbers from 0.
use Rattle.std.specs.Prelude.{◌≡◌, ℕ, zero, suc, ◌+◌, ◌<◌, Bool, not, ◌&&◌, ◌==◌, nat_lt, IsTrue, List, [], ◌∷◌, ◌++◌, length, filter, find, Option, Some, None, slice_get}
use Rattle.std.specs.List.{list_any, list_all}
use Rattle.py_tree.specs.Elements.{elements}
use Rattle.py_tree.specs.Names.{Name, is_among}
use Rattle.py_tree.specs.Scope.{defs, refs}
use Rattle.py_tree.specs.Trees.{Cell}

-- the names that a cell has by f, and none past the last cell
abbrev pub names_at : (Cell → List Name) → Option Cell → List Name
names_at f None = []
names_at f (Some c) = f c

-- the names that a cell defines, those that it references, and those of the elements that it creates, by its number
abbrev pub defs_of : List Cell → ℕ → List Name
defs_of nb c = names_at defs (slice_get nb c)

abbrev pub refs_of : List Cell → ℕ → List Name
refs_of nb c = names_at refs (slice_get nb c)

abbrev pub elements_of : List Cell → ℕ → List Name
elements_of nb c = names_at elements (slice_get nb c)

-- an edge goes from a to b where b references a definition of a
abbrev pub edge : List Cell → ℕ → ℕ → Bool
edge nb a b = list_any (λ x. is_among x (defs_of nb a)) (refs_of nb b)

-- the numbers from n on, as many as there are in the list
abbrev pub numbers_from : {X : Type 0} → ℕ → List X → List ℕ
numbers_from n [] = []
numbers_from n (x ∷ xs) = n ∷ numbers_from (n + 1) xs

-- all cells in file order
abbrev pub all_cells : List Cell → List ℕ
all_cells nb = numbers_from 0 nb

-- the number is in the list
abbrev pub is_in : ℕ → List ℕ → Bool
is_in c cs = list_any (λ d. d == c) cs

-- the cells from which an edge goes to c, in file order
abbrev pub parents : List Cell → ℕ → List ℕ
parents nb c = filter (λ a. edge nb a c) (all_cells nb)

-- a path: one cell or more, each joined to the next by an edge
abbrev pub IsPath : List Cell → List ℕ → Type 0
IsPath nb [] = ⊥
IsPath nb (a ∷ []) = Unit {0}
IsPath nb (a ∷ b ∷ cs) = IsTrue (edge nb a b) × IsPath nb (b ∷ cs)

-- edges lead from the cell, over the cells between, back to it
abbrev pub LiesOnCycle : List Cell → ℕ → Type 0
LiesOnCycle nb c = (between : List ℕ) × IsPath nb (c ∷ between ++ c ∷ [])

-- the cell isn't listed, and all its parents are
abbrev pub is_ready : List Cell → List ℕ → ℕ → Bool
is_ready nb listed c = not (is_in c listed) && list_all (λ p. is_in p listed) (parents nb c)

-- the earliest cell of the file that isn't listed, while its parents are
abbrev pub next_cell : List Cell → List ℕ → Option ℕ
next_cell nb listed = find (is_ready nb listed) (all_cells nb)

abbrev pub with_next : Option ℕ → List ℕ → List ℕ
with_next None listed = listed
with_next (Some c) listed = listed ++ c ∷ []

-- the first k places of the order
abbrev pub places : List Cell → ℕ → List ℕ
places nb zero = []
places nb (suc k) = let listed = places nb k in with_next (next_cell nb listed) listed

-- The order in which cells run: the next one is always the earliest of the file that isn't listed yet while its parents are.
abbrev pub order : List Cell → List ℕ
order nb = places nb (length nb)

-- an earlier cell than c defines the name
abbrev pub defined_before : List Cell → ℕ → Name → Bool
defined_before nb c x = list_any (λ a. nat_lt a c && is_among x (defs_of nb a)) (all_cells nb)

-- the first name of the cell that an earlier cell defines
abbrev pub name_again : List Cell → ℕ → Option Name
name_again nb c = find (defined_before nb c) (defs_of nb c)

-- the first cell in file order that defines the name
abbrev pub first_definer : List Cell → Name → Option ℕ
first_definer nb x = find (λ c. is_among x (defs_of nb c)) (all_cells nb)

-- A name that is defined again: `second` is the earliest cell that defines a name of a cell before it, `x` is the first of its
-- names that is so, and `first` is where `x` is defined first.
pub record IsDoubled (nb : List Cell) (x : Name) (first second : ℕ) : Type 0 where
  pub again : name_again nb second ≡ Some x
  pub soonest : (c : ℕ) → c < second → name_again nb c ≡ None
  pub earliest : first_definer nb x ≡ Some first

-- no name is defined in two cells
abbrev pub NoneDoubled : List Cell → Type 0
NoneDoubled nb = (c : ℕ) → name_again nb c ≡ None

-- no cell lies on a cycle
abbrev pub NoneCyclic : List Cell → Type 0
NoneCyclic nb = (c : ℕ) → LiesOnCycle nb c → ⊥

-- the cells that lie on a cycle, each once, in file order
pub record AreCyclic (nb : List Cell) (cells : List ℕ) : Type 0 where
  pub each : (c : ℕ) → IsTrue (is_in c cells) → LiesOnCycle nb c
  pub every : (c : ℕ) → LiesOnCycle nb c → IsTrue (is_in c cells)
  pub rising : cells ≡ filter (λ c. is_in c cells) (all_cells nb)

-- no name is defined in two cells, and these are the cells that lie on a cycle, one or more
pub record IsCyclic (nb : List Cell) (cells : List ℕ) : Type 0 where
  pub once : NoneDoubled nb
  pub all : AreCyclic nb cells
  pub some : 0 < length cells
