-- Worked examples of expressions. Where the languages agree, the trees are those of Python's own `ast` (3.11), with the brackets and last commas
-- that it doesn't keep.
use Rattle.std.specs.Prelude.{ℕ, zero, suc, true, false, List, [], ◌∷◌, ◌++◌, codes, Option, Some, None}
use Rattle.py_tree.specs.FieldFormats.{as_is, repr, str, aligned, right}
use Rattle.py_tree.specs.Expressions as form
use Rattle.py_tree.specs.Expressions.{Or, And, Add, Subtract, Multiply, Floor, Remainder, Not, Minus, Plus, Equal, Unequal, Less, AtMost, Greater, AtLeast, In, NotIn}
use Rattle.py_tree.specs.Expressions.{Tree, conditional, binary, prefixed, chain, is_none, power, call, index, slice, attribute, paren, tuple, list, dict, list_of, dict_of}
use Rattle.py_tree.specs.Expressions.{none, more, done, link, no_argument, positional, keyword, no_pair, pair, left_out, at, no_piece, characters, field}
use Rattle.lexical_form.specs.Texts.{repeated}
use Rattle.syntax_reading.specs.Worked.{row, all_refused, named, constant, number, text, f_text}

-- ---- operators
abbrev pub operator_rows : List (List ℕ × Option Tree)
operator_rows =
    row "-2 ** 2" (prefixed Minus (power (number "2") (number "2")))
    ∷ row "2 ** -1" (power (number "2") (prefixed Minus (number "1")))
    ∷ row "a ** b ** c" (power (named "a") (power (named "b") (named "c")))
    ∷ row "- -a" (prefixed Minus (prefixed Minus (named "a")))
    ∷ row "a - b - c * d" (binary Subtract (binary Subtract (named "a") (named "b")) (binary Multiply (named "c") (named "d")))
    ∷ row "a // b % c * +d" (binary Multiply (binary Remainder (binary Floor (named "a") (named "b")) (named "c")) (prefixed Plus (named "d")))
    ∷ row "(a - b) - (c)" (binary Subtract (paren (binary Subtract (named "a") (named "b"))) (paren (named "c")))
    ∷ row "not a in b" (prefixed Not (chain (named "a") In (named "b") done))
    ∷ row "not not a" (prefixed Not (prefixed Not (named "a")))
    ∷ row "a or b and not c" (binary Or (named "a") (binary And (named "b") (prefixed Not (named "c"))))
    ∷ row "a or b or c" (binary Or (binary Or (named "a") (named "b")) (named "c"))
    -- Python takes this
    ∷ all_refused ("a @ b" ∷ [])
    ++ all_refused ("a + not b" ∷ "a b" ∷ "not" ∷ "*a" ∷ "a := b" ∷ [])

-- ---- comparisons
abbrev pub comparison_rows : List (List ℕ × Option Tree)
comparison_rows =
    row "a < b < c" (chain (named "a") Less (named "b") (link Less (named "c") done))
    ∷ row "a == b != c <= d" (chain (named "a") Equal (named "b") (link Unequal (named "c") (link AtMost (named "d") done)))
    ∷ row "a >= b > c" (chain (named "a") AtLeast (named "b") (link Greater (named "c") done))
    ∷ row "a + 1 not in b" (chain (binary Add (named "a") (number "1")) NotIn (named "b") done)
    ∷ row "a in b" (chain (named "a") In (named "b") done)
    ∷ row "a is None" (is_none false (named "a"))
    ∷ row "a is not None" (is_none true (named "a"))
    -- Python takes these
    ∷ all_refused ("a is b" ∷ "a is not b" ∷ "a is None is None" ∷ "a < b is None" ∷ "a < b is c" ∷ [])
    ++ all_refused ("a not b" ∷ [])

-- ---- conditionals
abbrev pub conditional_rows : List (List ℕ × Option Tree)
conditional_rows =
    row "a if b else c" (conditional (named "a") (named "b") (named "c"))
    ∷ row "a if b else c if d else e" (conditional (named "a") (named "b") (conditional (named "c") (named "d") (named "e")))
    ∷ row "a if b or c else not d" (conditional (named "a") (binary Or (named "b") (named "c")) (prefixed Not (named "d")))
    ∷ row "(a if b else c) if d else e" (conditional (paren (conditional (named "a") (named "b") (named "c"))) (named "d") (named "e"))
    -- Python takes these
    ∷ all_refused ("lambda: 1" ∷ "lambda a: b" ∷ [])
    ++ all_refused ("a if b" ∷ "a if b if c else d else e" ∷ [])

-- ---- calls, indexes, slices, attributes
abbrev pub postfix_rows : List (List ℕ × Option Tree)
postfix_rows =
    row "a.b(c)[d:]" (slice (call (attribute (named "a") (codes "b")) (positional (named "c") no_argument) false) (at (named "d")) left_out)
    ∷ row "x[:]" (slice (named "x") left_out left_out)
    ∷ row "x[1:2]" (slice (named "x") (at (number "1")) (at (number "2")))
    ∷ row "x[:1]" (slice (named "x") left_out (at (number "1")))
    ∷ row "x[1]" (index (named "x") (number "1"))
    ∷ row "x.append(1)" (call (attribute (named "x") (codes "append")) (positional (number "1") no_argument) false)
    ∷ row "f()" (call (named "f") no_argument false)
    ∷ row "f(a)(b)" (call (call (named "f") (positional (named "a") no_argument) false) (positional (named "b") no_argument) false)
    ∷ row "f(a,)" (call (named "f") (positional (named "a") no_argument) true)
    ∷ row "f(a, b=1,)" (call (named "f") (positional (named "a") (keyword (codes "b") (number "1") no_argument)) true)
    ∷ row "f(a=1, b=c if d else e)"
    (call (named "f") (keyword (codes "a") (number "1") (keyword (codes "b") (conditional (named "c") (named "d") (named "e")) no_argument)) false)
    ∷ row "(a).b" (attribute (paren (named "a")) (codes "b"))
    ∷ row "-a.b" (prefixed Minus (attribute (named "a") (codes "b")))
    -- Python takes this one with a blank before the point alone
    ∷ row "5.find" (attribute (number "5") (codes "find"))
    -- Python takes these
    ∷ all_refused ("f(*a)" ∷ "f(**k)" ∷ "f(a for a in b)" ∷ "f(a := 1)" ∷ "x[::]" ∷ "x[1:2:3]" ∷ "x[1, 2]" ∷ "await a" ∷ [])
    ++ all_refused ("f(b=1, a)" ∷ "f(,)" ∷ "f(a b)" ∷ "f(a, b=1=2)" ∷ "f(1=a)" ∷ "x[]" ∷ "a.1" ∷ "a.if" ∷ [])

-- ---- names and literals
abbrev pub leaf_rows : List (List ℕ × Option Tree)
leaf_rows =
    row "None" (constant "None")
    ∷ row "True" (constant "True")
    ∷ row "print" (named "print")
    ∷ row "'a'" (text "'a'")
    -- Python takes these
    ∷ all_refused ("'a' 'b'" ∷ "1.5" ∷ [])
    ++ all_refused ("lambda" ∷ "else" ∷ "import" ∷ [])

-- ---- brackets
abbrev pub bracket_rows : List (List ℕ × Option Tree)
bracket_rows =
    row "()" (tuple none false)
    ∷ row "(a)" (paren (named "a"))
    ∷ row "((a))" (paren (paren (named "a")))
    ∷ row "(a,)" (tuple (more (named "a") none) true)
    ∷ row "(a, b)" (tuple (more (named "a") (more (named "b") none)) false)
    ∷ row "(a, b,)" (tuple (more (named "a") (more (named "b") none)) true)
    ∷ row "[]" (list none false)
    ∷ row "[a]" (list (more (named "a") none) false)
    ∷ row "[a, b,]" (list (more (named "a") (more (named "b") none)) true)
    ∷ row "{}" (dict no_pair false)
    ∷ row "{1: 2,}" (dict (pair (number "1") (number "2") no_pair) true)
    ∷ row "{a: b, c: (d,)}" (dict (pair (named "a") (named "b") (pair (named "c") (tuple (more (named "d") none) true) no_pair)) false)
    -- Python takes these
    ∷ all_refused ("{a}" ∷ "{1, 2}" ∷ "{**a}" ∷ "[*a]" ∷ "(a := b)" ∷ "(yield)" ∷ "a, b" ∷ "a," ∷ [])
    ++ all_refused ("(,)" ∷ "(a b)" ∷ "[,]" ∷ "{,}" ∷ "{a: b, c}" ∷ [])

-- ---- comprehensions
abbrev pub comprehension_rows : List (List ℕ × Option Tree)
comprehension_rows =
    row "[a for a in b]" (list_of (named "a") (codes "a" ∷ []) (named "b") none)
    ∷ row "[a for a, b in c if d if e]" (list_of (named "a") (codes "a" ∷ codes "b" ∷ []) (named "c") (more (named "d") (more (named "e") none)))
    ∷ row "[a + 1 for a in (b if c else d)]"
    (list_of (binary Add (named "a") (number "1")) (codes "a" ∷ []) (paren (conditional (named "b") (named "c") (named "d"))) none)
    ∷ row "{a: b for a in c}" (dict_of (named "a") (named "b") (codes "a" ∷ []) (named "c") none)
    ∷ row "{a: b for a, b in c if d}" (dict_of (named "a") (named "b") (codes "a" ∷ codes "b" ∷ []) (named "c") (more (named "d") none))
    -- Python takes these
    ∷ all_refused ("[a for a, in b]" ∷ "[a for (a) in b]" ∷ "[a for a in b for c in d]" ∷ "(a for a in b)" ∷ "{a for a in b}" ∷ [])
    ++ all_refused ("[a for a in b if c else d]" ∷ "[a, b for a in c]" ∷ [])

-- ---- f-texts
abbrev pub f_text_rows : List (List ℕ × Option Tree)
f_text_rows =
    row "f''" (f_text "f''" no_piece)
    ∷ row
    "f\"{a + 1!r:>5}{b}c\""
    (f_text "f\"{a + 1!r:>5}{b}c\""
    (field (binary Add (named "a") (number "1")) repr (Some (aligned (Some right) (Some 5) None)) (field (named "b") as_is None (characters (codes "c") no_piece))))
    ∷ row "f'{(a, b)}'" (f_text "f'{(a, b)}'" (field (tuple (more (named "a") (more (named "b") none)) false) as_is None no_piece))
    ∷ row "f'{a} {b!s}'" (f_text "f'{a} {b!s}'" (field (named "a") as_is None (characters (codes " ") (field (named "b") str None no_piece))))
    ∷ row "f'' in a" (chain (f_text "f''" no_piece) In (named "a") done)
    -- Python takes these
    ∷ all_refused ("f'{a, b}'" ∷ "f'{a=}'" ∷ "f'{a}' f'{b}'" ∷ [])
    ++ all_refused ("f'{a b}'" ∷ "f'{a if b}'" ∷ [])

-- ---- depths
-- brackets round `a`
abbrev pub bracketed : ℕ → List ℕ
bracketed n = repeated n 40 ++ 97 ∷ repeated n 41

abbrev pub in_brackets : ℕ → Tree
in_brackets zero = named "a"
in_brackets (suc n) = paren (in_brackets n)

-- `1 + 1 + ..`
abbrev more_added : ℕ → List ℕ
more_added zero = []
more_added (suc n) = 43 ∷ 49 ∷ more_added n

abbrev added : ℕ → Tree
added zero = number "1"
added (suc n) = binary Add (added n) (number "1")

abbrev in_field : List ℕ → List ℕ
in_field cs = codes "f'{" ++ cs ++ codes "}'"

abbrev pub depth_rows : List (List ℕ × Option Tree)
depth_rows =
    (bracketed 63, Some (in_brackets 63)) ∷ (bracketed 64, None)
    ∷ (49 ∷ more_added 63, Some (added 63)) ∷ (49 ∷ more_added 64, None)
    ∷ (in_field (bracketed 62), Some (form.f_text (in_field (bracketed 62)) (field (in_brackets 62) as_is None no_piece))) ∷ (in_field (bracketed 63), None) ∷ []
