-- What is left of the lines goes on as all of them would.
use Rattle.std.proofs.Common.{◌≡◌, ℕ, ◌≤◌, [], List, drop, not, true, IsTrue}
use Rattle.run_meaning.specs.Meaning.{lines_of, block_of}
use Rattle.run_meaning.specs.Spending.{spend}
use Rattle.py_eval.specs.Shows.{scene_of}
use Rattle.py_tree.specs.Meant.{have_meaning}
use Rattle.py_tree.specs.Names.{is_among}
use Rattle.py_tree.specs.Scope.{bound}
use Rattle.py_tree.specs.View.{view_stmts}
use Rattle.py_value.specs.Maps.{where_name}
use Rattle.py_eval.proofs.lines.run_lines.Given as goal

abbrev pub invariant-loop-stmt : goal.invariant-loop-stmt
invariant-loop-stmt l =
    let lines = view_stmts (drop l.stmt-index l.stmts) in
    let all = view_stmts l.stmts in
    record {
      meets : spend (lines_of (scene_of l.scene) lines (record { last = l.last; env = l.env })) l.left [] ≡ spend (block_of (scene_of l.scene) l.fn.env all) l.fn.left [];
      meant : IsTrue (have_meaning lines);
      binds : (x : List ℕ) → is_among x (bound lines) ≡ true → is_among x (bound all) ≡ true;
      kept : where_name (λ x. not (is_among x (bound all))) l.env ≡ where_name (λ x. not (is_among x (bound all))) l.fn.env;
      used : l.left ≤ l.fn.left;
    }
