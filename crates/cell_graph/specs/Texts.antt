-- Names that code borrows.
use Rattle.std.specs.Prelude.{List, map}
use Rattle.std.specs.Borrow.{Bor}
use Rattle.py_tree.specs.Names.{Name}

-- the names behind references
abbrev pub texts : List (Bor Name) → List Name
texts = map (λ (r : Bor Name). r.now)
