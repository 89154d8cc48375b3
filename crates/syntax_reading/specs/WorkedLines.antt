-- Worked examples of lines. Where the languages agree, the trees are those of Python's own `ast` (3.11).
use Rattle.std.specs.Prelude.{ℕ, true, false, List, [], ◌∷◌, ◌++◌, codes, Option, Some, None}
use Rattle.py_tree.specs.Trees.{Or, Add, Equal, Less, conditional, binary, chain, call, attribute, paren, tuple, list, bare, none, more, done, no_argument, positional, keyword}
use Rattle.py_tree.specs.Trees.{AddTo, SubtractFrom, MultiplyBy, FloorBy, RemainderBy, Head, value, assign, augment, put_item, augment_item, append, extend, if_line, elif_line, else_line, while_line, for_line, def_line, return_line, return_value, pass_line, break_line, continue_line, import_marimo, import_mo, with_cache, cache_decorator, cell_decorator, cell_decorator_with, app_line}
use Rattle.syntax_reading.specs.Worked.{row, all_refused, named, constant, number, text, a_text}
use Rattle.syntax_reading.specs.WorkedExpressions.{bracketed, in_brackets}

-- ---- expressions and changes of lists
abbrev pub value_rows : List (List ℕ × Option Head)
value_rows =
    row "a + 1" (value (binary Add (named "a") (number "1")))
    ∷ row "a == b" (value (chain (named "a") Equal (named "b") done))
    ∷ row "a, b" (value (bare (more (named "a") (more (named "b") none)) false))
    ∷ row "a, b," (value (bare (more (named "a") (more (named "b") none)) true))
    ∷ row "a," (value (bare (more (named "a") none) true))
    ∷ row "(a, b)" (value (tuple (more (named "a") (more (named "b") none)) false))
    ∷ row "x.pop()" (value (call (attribute (named "x") (codes "pop")) no_argument false))
    ∷ row "x.append(1)" (append (codes "x") (number "1"))
    ∷ row "x.extend([a])" (extend (codes "x") (list (more (named "a") none) false))
    ∷ row "x.append(a, b)" (value (call (attribute (named "x") (codes "append")) (positional (named "a") (positional (named "b") no_argument)) false))
    ∷ row "x.append(1,)" (value (call (attribute (named "x") (codes "append")) (positional (number "1") no_argument) true))
    ∷ row "(x).append(1)" (value (call (attribute (paren (named "x")) (codes "append")) (positional (number "1") no_argument) false))
    ∷ row "x.y.append(1)" (value (call (attribute (attribute (named "x") (codes "y")) (codes "append")) (positional (number "1") no_argument) false))
    -- Python takes these
    ∷ all_refused ("assert a" ∷ "del x" ∷ "raise a" ∷ "yield a" ∷ "await a" ∷ "*a, b" ∷ "x.append(*a)" ∷ "lambda: 1" ∷ "a @ b" ∷ "x[1, 2]" ∷
    "(a := 1)" ∷ [])
    ++ all_refused ("a b" ∷ "a := 1" ∷ "lambda" ∷ [])

-- ---- assignments
abbrev pub assignment_rows : List (List ℕ × Option Head)
assignment_rows =
    row "a = 1" (assign (codes "a" ∷ []) (number "1"))
    ∷ row "a, b = c, d" (assign (codes "a" ∷ codes "b" ∷ []) (bare (more (named "c") (more (named "d") none)) false))
    ∷ row "a = b," (assign (codes "a" ∷ []) (bare (more (named "b") none) true))
    ∷ row "a = b == c" (assign (codes "a" ∷ []) (chain (named "b") Equal (named "c") done))
    ∷ row "app = marimo.App" (assign (codes "app" ∷ []) (attribute (named "marimo") (codes "App")))
    ∷ row "app = other.App()" (assign (codes "app" ∷ []) (call (attribute (named "other") (codes "App")) no_argument false))
    ∷ row "a += 1" (augment (codes "a") AddTo (number "1"))
    ∷ row "a -= b" (augment (codes "a") SubtractFrom (named "b"))
    ∷ row "a *= 2" (augment (codes "a") MultiplyBy (number "2"))
    ∷ row "a //= b if c else d" (augment (codes "a") FloorBy (conditional (named "b") (named "c") (named "d")))
    ∷ row "a %= 2" (augment (codes "a") RemainderBy (number "2"))
    ∷ row "x[1] = 2" (put_item (codes "x") (number "1") (number "2"))
    ∷ row "x[a + b] = c" (put_item (codes "x") (binary Add (named "a") (named "b")) (named "c"))
    ∷ row "x[i] += 1" (augment_item (codes "x") (named "i") AddTo (number "1"))
    -- Python takes these
    ∷ all_refused ("a, = b" ∷ "a, b, = c" ∷ "(a) = b" ∷ "(a, b) = c" ∷ "[a, b] = c" ∷ "a = b = c" ∷ "x: int = 1" ∷ "x: int" ∷ "*a, b = c" ∷ "x.y = 1" ∷
    "x[1] = 2, 3" ∷ "x[1][2] = a" ∷ "x[1:2] = y" ∷ "x[1, 2] = a" ∷ "a = *b, c" ∷ "a += 1, 2" ∷ "a **= 2" ∷ [])
    ++ all_refused ("a =" ∷ "a, b += 1" ∷ "None = a" ∷ "x = lambda" ∷ [])

-- ---- blocks
abbrev pub block_rows : List (List ℕ × Option Head)
block_rows =
    row "if a:" (if_line (named "a"))
    ∷ row "if a or b:" (if_line (binary Or (named "a") (named "b")))
    ∷ row "elif a:" (elif_line (named "a"))
    ∷ row "else:" else_line
    ∷ row "while a < b:" (while_line (chain (named "a") Less (named "b") done))
    ∷ row "for a in b:" (for_line (codes "a" ∷ []) (named "b"))
    ∷ row "for a, b in c, d:" (for_line (codes "a" ∷ codes "b" ∷ []) (bare (more (named "c") (more (named "d") none)) false))
    ∷ row "for a in b,:" (for_line (codes "a" ∷ []) (bare (more (named "b") none) true))
    ∷ row "def f():" (def_line (codes "f") [] false)
    ∷ row "def f(a, b):" (def_line (codes "f") (codes "a" ∷ codes "b" ∷ []) false)
    ∷ row "def f(a, b,):" (def_line (codes "f") (codes "a" ∷ codes "b" ∷ []) true)
    ∷ row "with mo.cache(\"a\"):" (with_cache false (a_text "\"a\""))
    ∷ row "with mo.cache(name='t'):" (with_cache true (a_text "'t'"))
    -- Python takes these
    ∷ all_refused ("for a, in b:" ∷ "for a, b, in c:" ∷ "for x[1] in b:" ∷ "for (a, b) in c:" ∷ "def f(a=1):" ∷ "def f(*a):" ∷ "def f(a: int):" ∷
    "def f() -> a:" ∷ "with open(x):" ∷ "with mo.cache(t):" ∷ "with mo.cache():" ∷ "with mo.cache(\"t\") as a:" ∷ "class A:" ∷ "try:" ∷ "match a:" ∷
    "async def f():" ∷ "async for a in b:" ∷ "async with a:" ∷ "if a: return" ∷ "if a := b:" ∷ [])
    ++ all_refused ("if a" ∷ "if a, b:" ∷ "else a:" ∷ "while:" ∷ "def f:" ∷ "def f(,):" ∷ [])

-- ---- ends, imports and decorators
abbrev pub other_rows : List (List ℕ × Option Head)
other_rows =
    row "return" return_line
    ∷ row "return a" (return_value (named "a"))
    ∷ row "return a," (return_value (bare (more (named "a") none) true))
    ∷ row "return (a)" (return_value (paren (named "a")))
    ∷ row "pass" pass_line
    ∷ row "break" break_line
    ∷ row "continue" continue_line
    ∷ row "import marimo" import_marimo
    ∷ row "import marimo as mo" import_mo
    ∷ row "@mo.cache" cache_decorator
    ∷ row "@app.cell" cell_decorator
    ∷ row "@app.cell()" (cell_decorator_with no_argument false)
    ∷ row "@app.cell(hide_code=True)" (cell_decorator_with (keyword (codes "hide_code") (constant "True") no_argument) false)
    ∷ row "@app.cell(hide_code=True,)" (cell_decorator_with (keyword (codes "hide_code") (constant "True") no_argument) true)
    ∷ row "app = marimo.App()" (app_line no_argument false)
    ∷ row "app = marimo.App(width=\"full\")" (app_line (keyword (codes "width") (text "\"full\"") no_argument) false)
    -- Python takes these
    ∷ all_refused ("import os" ∷ "import marimo as m" ∷ "import marimo, os" ∷ "import marimo.a" ∷ "from a import b" ∷ "global a" ∷ "return *a, b" ∷
    "@f" ∷ "@app.function" ∷ "@mo.cache()" ∷ [])
    ++ all_refused ("pass a" ∷ "break 1" ∷ [])

-- ---- a line is as deep as its deepest expression: as an expression of its own, what `append` is called with here would be too deep
-- `x[1] = ` and what follows
abbrev put_at : List ℕ → List ℕ
put_at cs = codes "x[1] = " ++ cs

abbrev appended : List ℕ → List ℕ
appended cs = codes "x.append(" ++ cs ++ codes ")"

abbrev app_with : List ℕ → List ℕ
app_with cs = codes "app = marimo.App(w=" ++ cs ++ codes ")"

abbrev pub deep_rows : List (List ℕ × Option Head)
deep_rows =
    (put_at (bracketed 63), Some (put_item (codes "x") (number "1") (in_brackets 63))) ∷ (put_at (bracketed 64), None)
    ∷ (codes "if " ++ bracketed 63 ++ codes ":", Some (if_line (in_brackets 63))) ∷ (codes "if " ++ bracketed 64 ++ codes ":", None)
    ∷ (appended (bracketed 63), Some (append (codes "x") (in_brackets 63))) ∷ (appended (bracketed 64), None)
    ∷ (app_with (bracketed 63), Some (app_line (keyword (codes "w") (in_brackets 63) no_argument) false)) ∷ (app_with (bracketed 64), None)
    ∷ (bracketed 62 ++ codes ", a", Some (value (bare (more (in_brackets 62) (more (named "a") none)) false))) ∷ (bracketed 63 ++ codes ", a", None) ∷ []
