-- A line stays grouped where its names, literals and f-texts pass other tests instead, as an expression does.
use Rattle.std.proofs.Common.{ℕ, Bool, true, false, List, [], ◌∷◌, ◌++◌}
use Rattle.py_tree.specs.Names.{Name}
use Rattle.py_tree.specs.declared.token.TokenKind.{TokenKind}
use Rattle.py_tree.specs.Trees.{Arguments, Head, value, assign, augment, put_item, augment_item, append, extend, if_line, elif_line, else_line, while_line, for_line, def_line, return_line, return_value, pass_line, break_line, continue_line, import_marimo, import_mo, with_cache, cache_decorator, cell_decorator, cell_decorator_with, app_line}
use Rattle.lexical_form.specs.Tokens as token
use Rattle.lexical_form.specs.Tokens.{Token}
use Rattle.syntax_form.specs.Printing.{name_token, word, mark, literal_token, if_comma, later_names, names_tokens, tokens, argument_tokens}
use Rattle.syntax_form.specs.LinePrinting.{augment_token, argument_list, head_tokens}
use Rattle.syntax_form.specs.LineGrouping.{ArgumentListGrouped, HeadGrouped}
use Rattle.syntax_form.specs.Shapes.{AreEach}
use Rattle.syntax_reading.proofs.Regrouping.{Change, later_named, targets_named, regrouped, arguments_regrouped}

module _ {N N' : Name → Type 0} {L L' : TokenKind → List ℕ → Type 0} {F F' : List ℕ → token.Pieces → Type 0} {Each : List Token → Type 0} (c : Change N N' L L' F F' Each) where
  names_named : (xs : List Name) → Each (names_tokens xs) → AreEach N xs → AreEach N' xs
  names_named [] h l = tt
  names_named (x ∷ xs) h l = (c.named x (later_names xs) h l.0, later_named c xs (c.rest (name_token x) (later_names xs) h) l.1)

  list_regrouped : (args : Arguments) (b : Bool) → Each (argument_list args b) → ArgumentListGrouped N L F args b → ArgumentListGrouped N' L' F' args b
  list_regrouped args b h l =
      let inside = argument_tokens args ++ if_comma b in
      let a = c.before inside (mark ")" ∷ []) (c.rest (mark "(") (inside ++ mark ")" ∷ []) h) in
      (arguments_regrouped c args (c.before (argument_tokens args) (if_comma b) a) l.0, l.1, l.2)

  pub head_regrouped : (h : Head) → Each (head_tokens h) → HeadGrouped N L F h → HeadGrouped N' L' F' h
  head_regrouped (value t) e l = (l.0, regrouped c t e l.1)
  head_regrouped (assign xs t) e l =
      let later = mark "=" ∷ tokens t in
      (targets_named c xs (c.before (names_tokens xs) later e) l.0, (l.1.0, regrouped c t (c.rest (mark "=") (tokens t) (c.behind (names_tokens xs) later e)) l.1.1))
  head_regrouped (augment x op t) e l =
      let later = augment_token op ∷ tokens t in
      (c.named x later e l.0, (l.1.0, regrouped c t (c.rest (augment_token op) (tokens t) (c.rest (name_token x) later e)) l.1.1))
  head_regrouped (put_item x k t) e l =
      let last = mark "=" ∷ tokens t in
      let later = mark "]" ∷ last in
      let a = c.rest (mark "[") (tokens k ++ later) (c.rest (name_token x) (mark "[" ∷ (tokens k ++ later)) e) in
      let b = c.rest (mark "=") (tokens t) (c.rest (mark "]") last (c.behind (tokens k) later a)) in
      (c.named x (mark "[" ∷ (tokens k ++ later)) e l.0, (l.1.0, regrouped c k (c.before (tokens k) later a) l.1.1), (l.2.0, regrouped c t b l.2.1))
  head_regrouped (augment_item x k op t) e l =
      let last = augment_token op ∷ tokens t in
      let later = mark "]" ∷ last in
      let a = c.rest (mark "[") (tokens k ++ later) (c.rest (name_token x) (mark "[" ∷ (tokens k ++ later)) e) in
      let b = c.rest (augment_token op) (tokens t) (c.rest (mark "]") last (c.behind (tokens k) later a)) in
      (c.named x (mark "[" ∷ (tokens k ++ later)) e l.0, (l.1.0, regrouped c k (c.before (tokens k) later a) l.1.1), (l.2.0, regrouped c t b l.2.1))
  head_regrouped (append x t) e l =
      let inside = tokens t ++ mark ")" ∷ [] in
      let a = c.rest (mark "(") inside (c.rest (word "append") (mark "(" ∷ inside) (c.rest (mark ".") (word "append" ∷ mark "(" ∷ inside) (c.rest (name_token x) (mark "." ∷ word "append" ∷ mark "(" ∷ inside) e))) in
      (c.named x (mark "." ∷ word "append" ∷ mark "(" ∷ inside) e l.0, (l.1.0, regrouped c t (c.before (tokens t) (mark ")" ∷ []) a) l.1.1))
  head_regrouped (extend x t) e l =
      let inside = tokens t ++ mark ")" ∷ [] in
      let a = c.rest (mark "(") inside (c.rest (word "extend") (mark "(" ∷ inside) (c.rest (mark ".") (word "extend" ∷ mark "(" ∷ inside) (c.rest (name_token x) (mark "." ∷ word "extend" ∷ mark "(" ∷ inside) e))) in
      (c.named x (mark "." ∷ word "extend" ∷ mark "(" ∷ inside) e l.0, (l.1.0, regrouped c t (c.before (tokens t) (mark ")" ∷ []) a) l.1.1))
  head_regrouped (if_line t) e l = (l.0, regrouped c t (c.before (tokens t) (mark ":" ∷ []) (c.rest (word "if") (tokens t ++ mark ":" ∷ []) e)) l.1)
  head_regrouped (elif_line t) e l = (l.0, regrouped c t (c.before (tokens t) (mark ":" ∷ []) (c.rest (word "elif") (tokens t ++ mark ":" ∷ []) e)) l.1)
  head_regrouped (while_line t) e l = (l.0, regrouped c t (c.before (tokens t) (mark ":" ∷ []) (c.rest (word "while") (tokens t ++ mark ":" ∷ []) e)) l.1)
  head_regrouped (for_line xs t) e l =
      let source = tokens t ++ mark ":" ∷ [] in
      let a = c.rest (word "for") (names_tokens xs ++ word "in" ∷ source) e in
      let b = c.rest (word "in") source (c.behind (names_tokens xs) (word "in" ∷ source) a) in
      (targets_named c xs (c.before (names_tokens xs) (word "in" ∷ source) a) l.0, (l.1.0, regrouped c t (c.before (tokens t) (mark ":" ∷ []) b) l.1.1))
  head_regrouped (def_line x xs b) e l =
      let inside = names_tokens xs ++ (if_comma b ++ mark ")" ∷ mark ":" ∷ []) in
      let a = c.rest (word "def") (name_token x ∷ mark "(" ∷ inside) e in
      let d = c.rest (mark "(") inside (c.rest (name_token x) (mark "(" ∷ inside) a) in
      (c.named x (mark "(" ∷ inside) a l.0, names_named xs (c.before (names_tokens xs) (if_comma b ++ mark ")" ∷ mark ":" ∷ []) d) l.1, l.2)
  head_regrouped (return_value t) e l = (l.0, regrouped c t (c.rest (word "return") (tokens t) e) l.1)
  head_regrouped (with_cache false t) e l =
      let last = literal_token t ∷ mark ")" ∷ mark ":" ∷ [] in
      let a = c.rest (mark "(") last (c.rest (word "cache") (mark "(" ∷ last) (c.rest (mark ".") (word "cache" ∷ mark "(" ∷ last)
      (c.rest (word "mo") (mark "." ∷ word "cache" ∷ mark "(" ∷ last) (c.rest (word "with") (word "mo" ∷ mark "." ∷ word "cache" ∷ mark "(" ∷ last) e)))) in
      (l.0, c.literally t (c.before (literal_token t ∷ []) (mark ")" ∷ mark ":" ∷ []) a) l.1)
  head_regrouped (with_cache true t) e l =
      let end = literal_token t ∷ mark ")" ∷ mark ":" ∷ [] in
      let last = word "name" ∷ mark "=" ∷ end in
      let a = c.rest (mark "(") last (c.rest (word "cache") (mark "(" ∷ last) (c.rest (mark ".") (word "cache" ∷ mark "(" ∷ last)
      (c.rest (word "mo") (mark "." ∷ word "cache" ∷ mark "(" ∷ last) (c.rest (word "with") (word "mo" ∷ mark "." ∷ word "cache" ∷ mark "(" ∷ last) e)))) in
      let b = c.rest (mark "=") end (c.rest (word "name") (mark "=" ∷ end) a) in
      (l.0, c.literally t (c.before (literal_token t ∷ []) (mark ")" ∷ mark ":" ∷ []) b) l.1)
  head_regrouped (cell_decorator_with args b) e l =
      let list = argument_list args b in
      let a = c.rest (word "cell") list (c.rest (mark ".") (word "cell" ∷ list) (c.rest (word "app") (mark "." ∷ word "cell" ∷ list) (c.rest (mark "@") (word "app" ∷ mark "." ∷ word "cell" ∷ list) e))) in
      list_regrouped args b a l
  head_regrouped (app_line args b) e l =
      let list = argument_list args b in
      let a = c.rest (word "App") list (c.rest (mark ".") (word "App" ∷ list) (c.rest (word "marimo") (mark "." ∷ word "App" ∷ list)
      (c.rest (mark "=") (word "marimo" ∷ mark "." ∷ word "App" ∷ list) (c.rest (word "app") (mark "=" ∷ word "marimo" ∷ mark "." ∷ word "App" ∷ list) e)))) in
      list_regrouped args b a l
  head_regrouped else_line e l = tt
  head_regrouped return_line e l = tt
  head_regrouped pass_line e l = tt
  head_regrouped break_line e l = tt
  head_regrouped continue_line e l = tt
  head_regrouped import_marimo e l = tt
  head_regrouped import_mo e l = tt
  head_regrouped cache_decorator e l = tt
  head_regrouped cell_decorator e l = tt
