-- The views of lines, bodies and cells that were just made.
use Rattle.std.proofs.Common.{◌≡◌, ℕ}
use Rattle.py_tree.specs.Trees.{stmt}
use Rattle.py_tree.specs.View.{view_head, view_block, view_stmt, block_step, stmt_step}
use Rattle.py_tree.specs.declared.tree.Block.{Block}
use Rattle.py_tree.specs.declared.tree.Line.{Line}
use Rattle.py_tree.specs.declared.tree.Stmt.{roll-Stmt, fold-roll-Stmt}

pub view_line : (n : ℕ) (l : Line) (b : Block) → view_stmt (roll-Stmt (record { number = n; line = l; block = b })) ≡ stmt n (view_head l) (view_block b)
view_line n l b = fold-roll-Stmt _ _ block_step stmt_step (record { number = n; line = l; block = b })
