-- An argument behind others has a comma before it.
use Rattle.std.proofs.Common.{◌≡◌, ◌∙◌, ℕ, suc, ◌+◌, ◌<◌, List, ◌∷◌, sym, subst, refl, ap, add-one, drop, get_or, length}
use Rattle.std.proofs.Math.Seq.{drop-cons}
use Rattle.py_tree.specs.declared.expr.Argument.{Argument, out-Argument, roll-Argument, roll-out-Argument, fold-roll-Argument}
use Rattle.py_tree.specs.declared.expr.Argument.TheOpen.{Argument-F}
use Rattle.py_tree.specs.declared.expr.Expr.{Expr}
use Rattle.py_tree.specs.declared.expr.Link.{Link}
use Rattle.py_tree.specs.declared.expr.Pair.{Pair}
use Rattle.py_tree.specs.declared.expr.TextPiece.{TextPiece}
use Rattle.py_tree.specs.ExprView.{view_argument, view_arguments, argument_step, expr_step, piece_step, link_step, pair_step}
use Rattle.py_tree.specs.Expressions.{Tree, Arguments}
use Rattle.syntax_form.specs.Printing.{mark, argument_tokens, later_argument_tokens}

-- what an argument puts before others has a comma before it there
HasComma : (Arguments → Arguments) → Type 0
HasComma put = (rest : Arguments) → later_argument_tokens (put rest) ≡ mark "," ∷ argument_tokens (put rest)

layer_comma : (y : Argument-F Argument Expr TextPiece Link Pair) → HasComma (view_argument (roll-Argument y))
unfolding HasComma
layer_comma (Argument-F.Positional e) =
    subst HasComma (sym (fold-roll-Argument _ Tree _ _ _ argument_step expr_step piece_step link_step pair_step (Argument-F.Positional e))) (λ rest. refl)
layer_comma (Argument-F.Keyword x e) =
    subst HasComma (sym (fold-roll-Argument _ Tree _ _ _ argument_step expr_step piece_step link_step pair_step (Argument-F.Keyword x e))) (λ rest. refl)

pub later-argument : (a : Argument) (rest : Arguments) → later_argument_tokens (view_argument a rest) ≡ mark "," ∷ argument_tokens (view_argument a rest)
unfolding HasComma
later-argument a = subst (λ b. HasComma (view_argument b)) (roll-out-Argument a) (layer_comma (out-Argument a))

-- what is left of arguments begins with the next one
pub place : (args : List Argument) (i : ℕ) (a : Argument) → i < length args → a ≡ get_or args i a
    → view_arguments (drop i args) ≡ view_argument a (view_arguments (drop (i + 1) args))
place args i a lt is = ap view_arguments (drop-cons args i a lt ∙ (λ j. sym is j ∷ drop (suc i) args) ∙ ap (λ n. a ∷ drop n args) (sym (add-one i)))
