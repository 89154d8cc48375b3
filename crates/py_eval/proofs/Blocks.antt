-- A line of the code in its block.
use Rattle.std.proofs.Common.{◌≡◌, ◌∙◌, ap, sym, subst, ℕ, suc, ◌+◌, ◌<◌, true, IsTrue, ◌&&◌, List, ◌∷◌, ◌++◌, length, drop, get_or, add-one}
use Rattle.std.proofs.Math.Seq.{drop-cons}
use Rattle.std.proofs.lemmas.Bool.{and_parts}
use Rattle.py_tree.specs.declared.tree.Line.{Line}
use Rattle.py_tree.specs.declared.tree.Stmt.{Stmt, out-Stmt, roll-out-Stmt, fold-roll-Stmt}
use Rattle.py_tree.specs.Meant.{head_has_meaning, have_meaning}
use Rattle.py_tree.specs.Names.{Name, is_among}
use Rattle.py_tree.specs.Scope.{bound, head_binds}
use Rattle.py_tree.specs.Trees.{Head, Stmts, stmt, then_comes}
use Rattle.py_tree.specs.Trees as pure
use Rattle.py_tree.specs.View.{view_head, view_block, view_stmt, view_stmts, block_step, stmt_step}
use Rattle.py_eval.proofs.Kept.{among_left, among_right}

view_line : (s : Stmt) → view_stmt s ≡ stmt (out-Stmt s).number (view_head (out-Stmt s).line) (view_block (out-Stmt s).block)
view_line s = ap view_stmt (sym (roll-out-Stmt s)) ∙ fold-roll-Stmt Stmts pure.Stmt block_step stmt_step (out-Stmt s)

-- what is left of the lines begins with the next one
pub place : (ss : List Stmt) (i : ℕ) (s : Stmt) (l : Line) → i < length ss → s ≡ get_or ss i s → l ≡ (out-Stmt s).line →
    view_stmts (drop i ss) ≡ then_comes (stmt (out-Stmt s).number (view_head l) (view_block (out-Stmt s).block)) (view_stmts (drop (i + 1) ss))
place ss i s l lt is same =
    ap view_stmts (drop-cons ss i s lt ∙ (λ j. sym is j ∷ drop (suc i) ss) ∙ ap (λ n. s ∷ drop n ss) (sym (add-one i)))
    ∙ (λ j. then_comes (view_line s j) (view_stmts (drop (i + 1) ss)))
    ∙ λ j. then_comes (stmt (out-Stmt s).number (view_head (sym same j)) (view_block (out-Stmt s).block)) (view_stmts (drop (i + 1) ss))

module _ (lines rest block : Stmts) (n : ℕ) (head : Head) (is : lines ≡ then_comes (stmt n head block) rest) where
  meant : IsTrue (have_meaning lines) → (head_has_meaning head && have_meaning block && have_meaning rest) ≡ true
  meant h = subst (λ ss. have_meaning ss ≡ true) is h

  pub first_meant : IsTrue (have_meaning lines) → IsTrue (head_has_meaning head)
  first_meant h = (and_parts (head_has_meaning head) (have_meaning block) (and_parts (head_has_meaning head && have_meaning block) (have_meaning rest) (meant h)).0).0

  pub rest_meant : IsTrue (have_meaning lines) → IsTrue (have_meaning rest)
  rest_meant h = (and_parts (head_has_meaning head && have_meaning block) (have_meaning rest) (meant h)).1

  pub first_binds : (x : Name) → is_among x (head_binds head) ≡ true → is_among x (bound lines) ≡ true
  first_binds x h = ap (λ ss. is_among x (bound ss)) is ∙ among_left x (head_binds head ++ bound block) (bound rest) (among_left x (head_binds head) (bound block) h)

  pub rest_binds : (x : Name) → is_among x (bound rest) ≡ true → is_among x (bound lines) ≡ true
  rest_binds x h = ap (λ ss. is_among x (bound ss)) is ∙ among_right x (head_binds head ++ bound block) (bound rest) h
