-- What spells a levelled line is spelled as tokens.
use Rattle.std.proofs.Common.{Bool, true, false, [], ◌∷◌, ◌++◌, refl}
use Rattle.py_tree.specs.declared.token.Token as literals
use Rattle.py_tree.specs.Trees.{Arguments, Augment, AddTo, SubtractFrom, MultiplyBy, FloorBy, RemainderBy}
use Rattle.py_tree.specs.Trees.{Head, value, assign, augment, put_item, augment_item, append, extend, if_line, elif_line, else_line, while_line, for_line, def_line, return_line, return_value, pass_line, break_line, continue_line, import_marimo, import_mo, with_cache, cache_decorator, cell_decorator, cell_decorator_with, app_line}
use Rattle.lexical_form.specs.Longest.{Stands}
use Rattle.syntax_form.specs.LinePrinting.{augment_token, argument_list, cache_name, head_tokens}
use Rattle.syntax_form.specs.Lines.{HeadLevelled}
use Rattle.syntax_form.specs.Levelled.{ArgumentsLevelled}
use Rattle.syntax_form.specs.Literals.{IsLiteral}
use Rattle.syntax_form.specs.Printing.{word, mark, if_comma, names_tokens, tokens, argument_tokens}
use Rattle.syntax_form.specs.SpelledTokens.{AreTokens}
use Rattle.syntax_form.proofs.TokenLaws.{tokens_joined}
use Rattle.syntax_form.proofs.PrintedTokens.{name_stands, literal_stands, comma_tokens, names_are_tokens, targets_are_tokens, closed_tokens, tree_tokens, arguments_are_tokens}

augment_stands : (op : Augment) → Stands (augment_token op) []
augment_stands AddTo = refl
augment_stands SubtractFrom = refl
augment_stands MultiplyBy = refl
augment_stands FloorBy = refl
augment_stands RemainderBy = refl

list_tokens : (args : Arguments) (b : Bool) → ArgumentsLevelled args → AreTokens (argument_list args b)
list_tokens args b l =
    (refl, closed_tokens (argument_tokens args ++ if_comma b) (mark ")") refl (tokens_joined (argument_tokens args) (if_comma b) (arguments_are_tokens args l) (comma_tokens b)))

name_tokens : (named : Bool) (t : literals.Token) → IsLiteral t.kind t.spelling → AreTokens (cache_name named t)
name_tokens true t l = (refl, (refl, (literal_stands t.kind t.spelling l, tt)))
name_tokens false t l = (literal_stands t.kind t.spelling l, tt)

pub line_tokens : (h : Head) → HeadLevelled h → AreTokens (head_tokens h)
line_tokens (value t) l = tree_tokens t l.1
line_tokens (assign xs t) l = tokens_joined (names_tokens xs) (mark "=" ∷ tokens t) (targets_are_tokens xs l.0) (refl, tree_tokens t l.1.1)
line_tokens (augment x op t) l = (name_stands x l.0, (augment_stands op, tree_tokens t l.1.1))
line_tokens (put_item x k t) l =
    (name_stands x l.0, (refl, tokens_joined (tokens k) (mark "]" ∷ mark "=" ∷ tokens t) (tree_tokens k l.1.1) (refl, (refl, tree_tokens t l.2.1))))
line_tokens (augment_item x k op t) l =
    (name_stands x l.0, (refl, tokens_joined (tokens k) (mark "]" ∷ augment_token op ∷ tokens t) (tree_tokens k l.1.1) (refl, (augment_stands op, tree_tokens t l.2.1))))
line_tokens (append x t) l = (name_stands x l.0, (refl, (refl, (refl, closed_tokens (tokens t) (mark ")") refl (tree_tokens t l.1.1)))))
line_tokens (extend x t) l = (name_stands x l.0, (refl, (refl, (refl, closed_tokens (tokens t) (mark ")") refl (tree_tokens t l.1.1)))))
line_tokens (if_line t) l = (refl, closed_tokens (tokens t) (mark ":") refl (tree_tokens t l.1))
line_tokens (elif_line t) l = (refl, closed_tokens (tokens t) (mark ":") refl (tree_tokens t l.1))
line_tokens else_line l = (refl, (refl, tt))
line_tokens (while_line t) l = (refl, closed_tokens (tokens t) (mark ":") refl (tree_tokens t l.1))
line_tokens (for_line xs t) l =
    (refl, tokens_joined (names_tokens xs) (word "in" ∷ (tokens t ++ mark ":" ∷ [])) (targets_are_tokens xs l.0) (refl, closed_tokens (tokens t) (mark ":") refl (tree_tokens t l.1.1)))
line_tokens (def_line x xs b) l = (
  refl,
  (
    name_stands x l.0,
    (
      refl,
      tokens_joined (names_tokens xs) (if_comma b ++ mark ")" ∷ mark ":" ∷ []) (names_are_tokens xs l.1)
          (tokens_joined (if_comma b) (mark ")" ∷ mark ":" ∷ []) (comma_tokens b) (refl, (refl, tt))),
    ),
  ),
)
line_tokens return_line l = (refl, tt)
line_tokens (return_value t) l = (refl, tree_tokens t l.1)
line_tokens pass_line l = (refl, tt)
line_tokens break_line l = (refl, tt)
line_tokens continue_line l = (refl, tt)
line_tokens import_marimo l = (refl, (refl, tt))
line_tokens import_mo l = (refl, (refl, (refl, (refl, tt))))
line_tokens (with_cache named t) l =
    (refl, (refl, (refl, (refl, (refl, tokens_joined (cache_name named t) (mark ")" ∷ mark ":" ∷ []) (name_tokens named t l.1) (refl, (refl, tt)))))))
line_tokens cache_decorator l = (refl, (refl, (refl, (refl, tt))))
line_tokens cell_decorator l = (refl, (refl, (refl, (refl, tt))))
line_tokens (cell_decorator_with args b) l = (refl, (refl, (refl, (refl, list_tokens args b l.0))))
line_tokens (app_line args b) l = (refl, (refl, (refl, (refl, (refl, list_tokens args b l.0)))))
