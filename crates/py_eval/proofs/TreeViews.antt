-- What trees of the code are, and that their parts are spelled well where they are.
use Rattle.std.proofs.Common.{◌≡◌, ◌<◌, ◌+◌, ◌∙◌, ap, sym, refl, Bool, IsTrue, ◌&&◌, subst, ℕ, suc, List, ◌∷◌, length, drop, get_or, add-one}
use Rattle.std.proofs.Math.Seq.{drop-cons}
use Rattle.std.proofs.lemmas.Bool.{and_parts}
use Rattle.std.specs.Prelude.{nat_lt}
use denote.Hole.Carrier.{roll}
use Rattle.py_tree.specs.declared.expr.Argument.{Argument, roll-Argument, fold-roll-Argument}
use Rattle.py_tree.specs.declared.expr.Argument.TheVariants.{Positional}
use Rattle.py_tree.specs.declared.expr.Argument.TheOpen.{Argument-F, Expr-F}
use Rattle.py_tree.specs.declared.expr.Expr.{Expr, roll-Expr, fold-roll-Expr}
use Rattle.py_tree.specs.declared.expr.Expr.TheVariants.{Add, Attribute, Call}
use Rattle.py_tree.specs.declared.expr.Expr.TheVariants as variant
use Rattle.py_tree.specs.ExprView.{argument_step, expr_step, piece_step, link_step, pair_step}
use Rattle.py_tree.specs.Meant.{has_meaning, arguments_have_meaning, level}
use Rattle.py_tree.specs.Names.{Name}
use Rattle.py_tree.specs.Trees.{Tree, Arguments, positional, name, binary, attribute, call}
use Rattle.py_tree.specs.Trees as pure
use Rattle.py_tree.specs.View.{view, view_argument, view_arguments}

view_sum : (a b : Expr) → view (Add a b) ≡ binary pure.Add (view a) (view b)
unfolding roll-Expr roll
view_sum a b = fold-roll-Expr _ Tree _ _ _ argument_step expr_step piece_step link_step pair_step (Expr-F.Add a b)

-- a sum of the code, whose sides are borrowed
pub is_sum : (e a b a' b' : Expr) → e ≡ Add a b → a' ≡ a → b' ≡ b → view e ≡ binary pure.Add (view a') (view b')
is_sum e a b a' b' is left right = ap view is ∙ view_sum a b ∙ λ i. binary pure.Add (view (sym left i)) (view (sym right i))

-- the right side of a sum that is spelled well
pub right_meant : (e a b b' : Expr) → b' ≡ b → e ≡ Add a b → IsTrue (has_meaning (view e)) → IsTrue (has_meaning (view b'))
right_meant e a b b' right is h =
    (and_parts (has_meaning (view a) && nat_lt 6 (level (view b'))) (has_meaning (view b')) (subst (λ t. IsTrue (has_meaning t)) (is_sum e a b a b' is refl right) h)).1

view_attribute : (a : Expr) (x : Name) → view (Attribute a x) ≡ attribute (view a) x
unfolding roll-Expr roll
view_attribute a x = fold-roll-Expr _ Tree _ _ _ argument_step expr_step piece_step link_step pair_step (Expr-F.Attribute a x)

-- an attribute of the code, whose base is borrowed
pub is_attribute : (e a a' : Expr) (x : Name) → e ≡ Attribute a x → a' ≡ a → view e ≡ attribute (view a') x
is_attribute e a a' x is base = ap view is ∙ view_attribute a x ∙ λ i. attribute (view (sym base i)) x

view_name : (x : Name) → view (variant.Name x) ≡ name x
unfolding roll-Expr roll
view_name x = fold-roll-Expr _ Tree _ _ _ argument_step expr_step piece_step link_step pair_step (Expr-F.Name x)

-- an attribute of the code, whose base is a name
pub is_attribute_of_name : (e a a' : Expr) (y y' x : Name) → e ≡ Attribute a x → a' ≡ a → a' ≡ variant.Name y → y' ≡ y → view e ≡ attribute (name y') x
is_attribute_of_name e a a' y y' x is base named read =
    is_attribute e a a' x is base ∙ λ i. attribute ((ap view named ∙ view_name y ∙ ap name (sym read)) i) x

view_call : (a : Expr) (args : List Argument) (comma : Bool) → view (Call a args comma) ≡ call (view a) (view_arguments args) comma
unfolding roll-Expr roll
view_call a args comma = fold-roll-Expr _ Tree _ _ _ argument_step expr_step piece_step link_step pair_step (Expr-F.Call a args comma)

-- a call of the code, whose callee and arguments are borrowed
pub is_call : (e a a' : Expr) (args args' : List Argument) (comma : Bool) → e ≡ Call a args comma → a' ≡ a → args' ≡ args → view e ≡ call (view a') (view_arguments args') comma
is_call e a a' args args' comma is callee same = ap view is ∙ view_call a args comma ∙ λ i. call (view (sym callee i)) (view_arguments (sym same i)) comma

-- the arguments of a call that is spelled well
pub arguments_meant : (t : Tree) (callee : Tree) (args : Arguments) (comma : Bool) → t ≡ call callee args comma → IsTrue (has_meaning t) → IsTrue (arguments_have_meaning args)
arguments_meant t callee args comma is h =
    (and_parts (has_meaning callee && nat_lt 9 (level callee)) (arguments_have_meaning args) (subst (λ t. IsTrue (has_meaning t)) is h)).1

view_positional : (e : Expr) (rest : Arguments) → view_argument (Positional e) rest ≡ positional (view e) rest
unfolding roll-Argument roll
view_positional e rest = ap (λ (put : Arguments → Arguments). put rest) (fold-roll-Argument _ Tree _ _ _ argument_step expr_step piece_step link_step pair_step (Argument-F.Positional e))

-- what is left of arguments begins with the next one
place_argument : (args : List Argument) (i : ℕ) (a : Argument) → i < length args → a ≡ get_or args i a → view_arguments (drop i args) ≡ view_argument a (view_arguments (drop (i + 1) args))
place_argument args i a lt is = ap view_arguments (drop-cons args i a lt ∙ (λ j. sym is j ∷ drop (suc i) args) ∙ ap (λ n. a ∷ drop n args) (sym (add-one i)))

module _ (args : List Argument) (i : ℕ) (a : Argument) (lt : i < length args) (is : a ≡ get_or args i a) where
  pub place_tree : (e e' : Expr) → a ≡ Positional e → e' ≡ e → view_arguments (drop i args) ≡ positional (view e') (view_arguments (drop (i + 1) args))
  place_tree e e' one same =
      place_argument args i a lt is ∙ ap (λ (b : Argument). view_argument b (view_arguments (drop (i + 1) args))) one
      ∙ view_positional e _ ∙ λ j. positional (view (sym same j)) (view_arguments (drop (i + 1) args))

module _ (args rest : Arguments) (t : Tree) (is : args ≡ positional t rest) where
  pub rest_meant : IsTrue (arguments_have_meaning args) → IsTrue (arguments_have_meaning rest)
  rest_meant h = (and_parts (has_meaning t) (arguments_have_meaning rest) (subst (λ args. IsTrue (arguments_have_meaning args)) is h)).1
