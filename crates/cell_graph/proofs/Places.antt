-- The first places of the order of cells.
use Rattle.std.proofs.Common.{ℕ, zero, suc, ◌+◌, ◌≤◌, List, length, Option, Some, None, arith}
use Rattle.std.proofs.lemmas.List.{length_push}
use Rattle.py_tree.specs.Trees.{Cell}
use Rattle.graph_meaning.specs.Graph.{places, next_cell, with_next, order}

pub one_at_most : (o : Option ℕ) (listed : List ℕ) → length (with_next o listed) ≤ length listed + 1
one_at_most None listed = omega arith
one_at_most (Some c) listed = let e = length_push listed c in omega arith

pub few_places : (nb : List Cell) (k : ℕ) → length (places nb k) ≤ k
few_places nb zero = omega arith
few_places nb (suc k) = omega (arith, few_places nb k, one_at_most (next_cell nb (places nb k)) (places nb k))

-- the order has no more cells than the notebook
pub order_fits : (nb : List Cell) → length (order nb) ≤ length nb
order_fits nb = few_places nb (length nb)
