-- The forms of lines: of what pieces each is made, and the line that it is.
use Prim.Native.String.{String}
use Rattle.std.specs.Prelude.{true, false, List, [], ◌∷◌, codes, Option, Some, None}
use Rattle.py_tree.specs.Trees.{Head, value, assign, augment, put_item, augment_item, append, extend, if_line, elif_line, else_line, while_line, for_line, def_line, return_line, return_value, pass_line, break_line, continue_line, import_marimo, import_mo, with_cache, cache_decorator, cell_decorator, cell_decorator_with, app_line}
use Rattle.syntax_reading.specs.Words as is
use Rattle.syntax_reading.specs.Readers.{by, at_end}
use Rattle.syntax_reading.specs.LinePieces.{Piece, word, exact, any_name, tree, values_to, names_to, parameters, arguments, text, augment_mark, Slot, nothing, a_name, a_tree, some_names, some_arguments, a_text, an_augment}

-- the forms of lines
pub data Form : Type 0 where
  Value : Form
  Assign : Form
  AugmentName : Form
  PutItem : Form
  AugmentItem : Form
  Append : Form
  Extend : Form
  IfLine : Form
  ElifLine : Form
  ElseLine : Form
  WhileLine : Form
  ForLine : Form
  DefLine : Form
  Return : Form
  ReturnValue : Form
  Pass : Form
  Break : Form
  Continue : Form
  ImportMarimo : Form
  ImportMo : Form
  WithCache : Form
  WithNamedCache : Form
  CacheDecorator : Form
  CellDecorator : Form
  CellDecoratorWith : Form
  App : Form

-- this very name
abbrev pub exactly : String → Piece
exactly x = exact (codes x)

abbrev pub template : Form → List Piece
template Value = values_to at_end ∷ []
template Assign = names_to is.assign ∷ values_to at_end ∷ []
template AugmentName = any_name ∷ augment_mark ∷ tree ∷ []
template PutItem = any_name ∷ word is.square_open ∷ tree ∷ word is.square_close ∷ word is.assign ∷ tree ∷ []
template AugmentItem = any_name ∷ word is.square_open ∷ tree ∷ word is.square_close ∷ augment_mark ∷ tree ∷ []
template Append = any_name ∷ word is.dot ∷ exactly "append" ∷ word is.round_open ∷ tree ∷ word is.round_close ∷ []
template Extend = any_name ∷ word is.dot ∷ exactly "extend" ∷ word is.round_open ∷ tree ∷ word is.round_close ∷ []
template IfLine = word is.if_ ∷ tree ∷ word is.colon ∷ []
template ElifLine = word is.elif_ ∷ tree ∷ word is.colon ∷ []
template ElseLine = word is.else_ ∷ word is.colon ∷ []
template WhileLine = word is.while_ ∷ tree ∷ word is.colon ∷ []
template ForLine = word is.for_ ∷ names_to is.in_ ∷ values_to (by is.colon) ∷ []
template DefLine = word is.def_ ∷ any_name ∷ word is.round_open ∷ parameters ∷ word is.colon ∷ []
template Return = word is.return_ ∷ []
template ReturnValue = word is.return_ ∷ values_to at_end ∷ []
template Pass = word is.pass_ ∷ []
template Break = word is.break_ ∷ []
template Continue = word is.continue_ ∷ []
template ImportMarimo = word is.import_ ∷ exactly "marimo" ∷ []
template ImportMo = word is.import_ ∷ exactly "marimo" ∷ word is.as_ ∷ exactly "mo" ∷ []
template WithCache = word is.with_ ∷ exactly "mo" ∷ word is.dot ∷ exactly "cache" ∷ word is.round_open ∷ text ∷ word is.round_close ∷ word is.colon ∷ []
template WithNamedCache =
    word is.with_ ∷ exactly "mo" ∷ word is.dot ∷ exactly "cache" ∷ word is.round_open ∷ exactly "name" ∷ word is.assign ∷ text ∷ word is.round_close ∷ word is.colon ∷ []
template CacheDecorator = word is.at_sign ∷ exactly "mo" ∷ word is.dot ∷ exactly "cache" ∷ []
template CellDecorator = word is.at_sign ∷ exactly "app" ∷ word is.dot ∷ exactly "cell" ∷ []
template CellDecoratorWith = word is.at_sign ∷ exactly "app" ∷ word is.dot ∷ exactly "cell" ∷ word is.round_open ∷ arguments ∷ []
template App = exactly "app" ∷ word is.assign ∷ exactly "marimo" ∷ word is.dot ∷ exactly "App" ∷ word is.round_open ∷ arguments ∷ []

-- the line that a form makes of what was read
abbrev pub make : Form → List Slot → Option Head
make Value (a_tree t ∷ []) = Some (value t)
make Assign (some_names xs false ∷ a_tree t ∷ []) = Some (assign xs t)
make AugmentName (a_name x ∷ an_augment op ∷ a_tree t ∷ []) = Some (augment x op t)
make PutItem (a_name x ∷ nothing ∷ a_tree k ∷ nothing ∷ nothing ∷ a_tree t ∷ []) = Some (put_item x k t)
make AugmentItem (a_name x ∷ nothing ∷ a_tree k ∷ nothing ∷ an_augment op ∷ a_tree t ∷ []) = Some (augment_item x k op t)
make Append (a_name x ∷ nothing ∷ nothing ∷ nothing ∷ a_tree t ∷ nothing ∷ []) = Some (append x t)
make Extend (a_name x ∷ nothing ∷ nothing ∷ nothing ∷ a_tree t ∷ nothing ∷ []) = Some (extend x t)
make IfLine (nothing ∷ a_tree t ∷ nothing ∷ []) = Some (if_line t)
make ElifLine (nothing ∷ a_tree t ∷ nothing ∷ []) = Some (elif_line t)
make ElseLine (nothing ∷ nothing ∷ []) = Some else_line
make WhileLine (nothing ∷ a_tree t ∷ nothing ∷ []) = Some (while_line t)
make ForLine (nothing ∷ some_names xs false ∷ a_tree t ∷ []) = Some (for_line xs t)
make DefLine (nothing ∷ a_name x ∷ nothing ∷ some_names xs b ∷ nothing ∷ []) = Some (def_line x xs b)
make Return (nothing ∷ []) = Some return_line
make ReturnValue (nothing ∷ a_tree t ∷ []) = Some (return_value t)
make Pass (nothing ∷ []) = Some pass_line
make Break (nothing ∷ []) = Some break_line
make Continue (nothing ∷ []) = Some continue_line
make ImportMarimo (nothing ∷ nothing ∷ []) = Some import_marimo
make ImportMo (nothing ∷ nothing ∷ nothing ∷ nothing ∷ []) = Some import_mo
make WithCache (nothing ∷ nothing ∷ nothing ∷ nothing ∷ nothing ∷ a_text t ∷ nothing ∷ nothing ∷ []) = Some (with_cache false t)
make WithNamedCache (nothing ∷ nothing ∷ nothing ∷ nothing ∷ nothing ∷ nothing ∷ nothing ∷ a_text t ∷ nothing ∷ nothing ∷ []) = Some (with_cache true t)
make CacheDecorator (nothing ∷ nothing ∷ nothing ∷ nothing ∷ []) = Some cache_decorator
make CellDecorator (nothing ∷ nothing ∷ nothing ∷ nothing ∷ []) = Some cell_decorator
make CellDecoratorWith (nothing ∷ nothing ∷ nothing ∷ nothing ∷ nothing ∷ some_arguments args b ∷ []) = Some (cell_decorator_with args b)
make App (nothing ∷ nothing ∷ nothing ∷ nothing ∷ nothing ∷ nothing ∷ some_arguments args b ∷ []) = Some (app_line args b)
make f ss = None
