-- The tokens that spell a line (Python language reference, sections 7 and 8).
use Rattle.std.specs.Prelude.{Bool, true, false, List, [], ◌∷◌, ◌++◌}
use Rattle.py_tree.specs.declared.token.Token as literals
use Rattle.py_tree.specs.Trees.{Arguments, Augment, AddTo, SubtractFrom, MultiplyBy, FloorBy, RemainderBy}
use Rattle.py_tree.specs.Trees.{Head, value, assign, augment, put_item, augment_item, append, extend, if_line, elif_line, else_line, while_line, for_line, def_line, return_line, return_value, pass_line, break_line, continue_line, import_marimo, import_mo, with_cache, cache_decorator, cell_decorator, cell_decorator_with, app_line}
use Rattle.lexical_form.specs.Tokens.{Token}
use Rattle.syntax_form.specs.Printing.{word, mark, name_token, literal_token, if_comma, within, names_tokens, tokens, argument_tokens}

abbrev pub augment_token : Augment → Token
augment_token AddTo = mark "+="
augment_token SubtractFrom = mark "-="
augment_token MultiplyBy = mark "*="
augment_token FloorBy = mark "//="
augment_token RemainderBy = mark "%="

abbrev pub argument_list : Arguments → Bool → List Token
argument_list args comma = within "(" (argument_tokens args ++ if_comma comma) ")"

-- the text of a cache's name, behind `name=` or alone
abbrev pub cache_name : Bool → literals.Token → List Token
cache_name true t = word "name" ∷ mark "=" ∷ literal_token t ∷ []
cache_name false t = literal_token t ∷ []

abbrev pub head_tokens : Head → List Token
head_tokens (value t) = tokens t
head_tokens (assign targets t) = names_tokens targets ++ mark "=" ∷ tokens t
head_tokens (augment x op t) = name_token x ∷ augment_token op ∷ tokens t
head_tokens (put_item x position t) = name_token x ∷ mark "[" ∷ (tokens position ++ mark "]" ∷ mark "=" ∷ tokens t)
head_tokens (augment_item x position op t) = name_token x ∷ mark "[" ∷ (tokens position ++ mark "]" ∷ augment_token op ∷ tokens t)
head_tokens (append x t) = name_token x ∷ mark "." ∷ word "append" ∷ within "(" (tokens t) ")"
head_tokens (extend x t) = name_token x ∷ mark "." ∷ word "extend" ∷ within "(" (tokens t) ")"
head_tokens (if_line test) = word "if" ∷ (tokens test ++ mark ":" ∷ [])
head_tokens (elif_line test) = word "elif" ∷ (tokens test ++ mark ":" ∷ [])
head_tokens else_line = word "else" ∷ mark ":" ∷ []
head_tokens (while_line test) = word "while" ∷ (tokens test ++ mark ":" ∷ [])
head_tokens (for_line targets from) = word "for" ∷ (names_tokens targets ++ word "in" ∷ (tokens from ++ mark ":" ∷ []))
head_tokens (def_line x parameters comma) =
    word "def" ∷ name_token x ∷ mark "(" ∷ (names_tokens parameters ++ (if_comma comma ++ mark ")" ∷ mark ":" ∷ []))
head_tokens return_line = word "return" ∷ []
head_tokens (return_value t) = word "return" ∷ tokens t
head_tokens pass_line = word "pass" ∷ []
head_tokens break_line = word "break" ∷ []
head_tokens continue_line = word "continue" ∷ []
head_tokens import_marimo = word "import" ∷ word "marimo" ∷ []
head_tokens import_mo = word "import" ∷ word "marimo" ∷ word "as" ∷ word "mo" ∷ []
head_tokens (with_cache named t) =
    word "with" ∷ word "mo" ∷ mark "." ∷ word "cache" ∷ mark "(" ∷ (cache_name named t ++ mark ")" ∷ mark ":" ∷ [])
head_tokens cache_decorator = mark "@" ∷ word "mo" ∷ mark "." ∷ word "cache" ∷ []
head_tokens cell_decorator = mark "@" ∷ word "app" ∷ mark "." ∷ word "cell" ∷ []
head_tokens (cell_decorator_with args comma) = mark "@" ∷ word "app" ∷ mark "." ∷ word "cell" ∷ argument_list args comma
head_tokens (app_line args comma) = word "app" ∷ mark "=" ∷ word "marimo" ∷ mark "." ∷ word "App" ∷ argument_list args comma
