-- Reading of what is repeated: items with commas between them, and what begins with a word of its own.
use Rattle.std.specs.Prelude.{ℕ, zero, suc, ◌+◌, Bool, false, List, [], ◌∷◌, ◌++◌, length, Some, None}
use Rattle.py_tree.specs.Expressions.{Tree}
use Rattle.syntax_reading.specs.Words as is
use Rattle.syntax_reading.specs.Words.{Fixed}
use Rattle.syntax_reading.specs.Readers.{Reader, ◌>>=◌, choose, on, Closing, on_closing, is_some}

-- items with commas between them, up to what closes the list, and whether a comma stood after the last one; the number bounds the turns
module _ {I : Type 0} (item : Reader I) (close : Closing) where
  -- after an item
  abbrev pub after_item : Reader (List I × Bool) → List I → Reader (List I × Bool)
  after_item further found ts = on is.comma (on_closing close None (λ us. Some ((found, false), us)) ts) further ts

  unfoldable pub items : ℕ → List I → Reader (List I × Bool)
  items zero found ts = None
  items (suc n) found ts =
      on_closing close (item ts >>= λ i. after_item (items n (found ++ i ∷ [])) (found ++ i ∷ [])) (λ us. Some ((found, is_some found), us)) ts

  -- the items that follow a first one
  abbrev pub items_on : I → Reader (List I × Bool)
  items_on i ts = after_item (items (length ts + 1) (i ∷ [])) (i ∷ []) ts

-- as often as it begins: the beginning, and a tree
module _ {B : Type 0} (start : Reader B) (inner : Reader Tree) where
  unfoldable pub each : ℕ → List (B × Tree) → Reader (List (B × Tree))
  each zero found ts = None
  each (suc n) found ts = choose (Some (found, ts)) (λ b us. inner us >>= λ t. each n (found ++ (b, t) ∷ [])) (start ts)
