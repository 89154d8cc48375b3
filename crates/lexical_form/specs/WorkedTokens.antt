-- Worked examples of tokens: each text is one line of tokens, or is refused at its first line.
use Prim.Native.String.{String}
use Rattle.std.specs.Prelude.{ℕ, List, [], ◌∷◌, ◌++◌, codes, true, false, Some, None}
use Rattle.lexical_form.specs.Tokens as tokens
use Rattle.lexical_form.specs.Tokens.{characters, aligned, zeros, comma, left, right, center, decimal, string, repr, str}
use Rattle.lexical_form.specs.Answer.{Answer, accepted, no_token}
use Rattle.lexical_form.specs.Worked.{name, number, text, mark, chars, whole_field, field, field_a, field_a_as, line_of, row, is_name, is_number, is_text, is_f_text, all_refused}

-- ---- numbers
abbrev pub number_rows : List (List ℕ × Answer)
number_rows =
    is_number "0" ∷ is_number "7" ∷ is_number "10" ∷ is_number "1_0" ∷ is_number "1_000_000"
    -- 2^127 - 1
    ∷ is_number "170141183460469231731687303715884105727"
    -- no fractions: a point is a mark
    ∷ row ".5" (mark "." ∷ number "5" ∷ [])
    ∷ row "5." (number "5" ∷ mark "." ∷ [])
    ∷ row "1.5" (number "1" ∷ mark "." ∷ number "5" ∷ [])
    ∷ row "5.find" (number "5" ∷ mark "." ∷ name "find" ∷ [])
    ∷ is_name "_1"
    ∷ all_refused
    (
    "00" ∷ "01" ∷ "0_0" ∷ "1_" ∷ "1__0" ∷ "1a" ∷ "1_a" ∷ "1if" ∷ "1e5" ∷ "0x1" ∷ "1r''"
    -- 2^127
    ∷ "170141183460469231731687303715884105728" ∷ []
    )

-- ---- names and marks
abbrev pub word_rows : List (List ℕ × Answer)
word_rows =
    is_name "a" ∷ is_name "_" ∷ is_name "__Zz9" ∷ is_name "None" ∷ is_name "r" ∷ is_name "f" ∷ is_name "rf"
    ∷ row
    "+ - * ** // % == != < <= > >= = += -= *= //= %= ( ) [ ] { } , : . @"
    (
    mark "+" ∷ mark "-" ∷ mark "*" ∷ mark "**" ∷ mark "//" ∷ mark "%" ∷ mark "==" ∷ mark "!=" ∷ mark "<" ∷ mark "<=" ∷ mark ">" ∷ mark ">="
    ∷ mark "=" ∷ mark "+=" ∷ mark "-=" ∷ mark "*=" ∷ mark "//=" ∷ mark "%=" ∷ mark "(" ∷ mark ")" ∷ mark "[" ∷ mark "]" ∷ mark "{" ∷ mark "}"
    ∷ mark "," ∷ mark ":" ∷ mark "." ∷ mark "@" ∷ []
    )
    -- the longest one is taken
    ∷ row
    "a==b//=c**d!=e"
    (name "a" ∷ mark "==" ∷ name "b" ∷ mark "//=" ∷ name "c" ∷ mark "**" ∷ name "d" ∷ mark "!=" ∷ name "e" ∷ [])
    ∷ row "a<>=b" (name "a" ∷ mark "<" ∷ mark ">=" ∷ name "b" ∷ [])
    -- one token each in Python
    ∷ row "a**=b" (name "a" ∷ mark "**" ∷ mark "=" ∷ name "b" ∷ [])
    ∷ row "a:=b" (name "a" ∷ mark ":" ∷ mark "=" ∷ name "b" ∷ [])
    ∷ row "a->b" (name "a" ∷ mark "-" ∷ mark ">" ∷ name "b" ∷ [])
    ∷ row "a@=b" (name "a" ∷ mark "@" ∷ mark "=" ∷ name "b" ∷ [])
    ∷ row "a<<b" (name "a" ∷ mark "<" ∷ mark "<" ∷ name "b" ∷ [])
    ∷ row "..." (mark "." ∷ mark "." ∷ mark "." ∷ [])
    -- control characters and a letter beyond ASCII
    ∷ (0 ∷ [], no_token 1) ∷ (97 ∷ 1 ∷ [], no_token 1) ∷ (97 ∷ 11 ∷ 98 ∷ [], no_token 1) ∷ (127 ∷ [], no_token 1) ∷ (195 ∷ 169 ∷ [], no_token 1)
    ∷ all_refused ("!" ∷ "a ! b" ∷ "$" ∷ "?" ∷ "a; b" ∷ "~a" ∷ "a & b" ∷ "a | b" ∷ "a ^ b" ∷ "`" ∷ "/" ∷ "a / b" ∷ "a///b" ∷ "\\" ∷ "a = \\\nb" ∷ [])

-- ---- texts
abbrev pub text_rows : List (List ℕ × Answer)
text_rows =
    is_text "''" ∷ is_text "\"\"" ∷ is_text "''''''" ∷ is_text "\"\"\"\"\"\"" ∷ is_text "'a\"b#'" ∷ is_text "\"a'b\"" ∷ is_text "'''a'b''c'''"
    ∷ is_text "\"\"\"a\"b\"\"c\nd\"\"\""
    -- raw ones: a quote behind a backslash ends none
    ∷ is_text "r''" ∷ is_text "R\"\"" ∷ is_text "r'\\''" ∷ is_text "R'\\''" ∷ is_text "r'''\\''''" ∷ is_text "r'\\\\'"
    ∷ is_text "R'\\8\\x4\\N{x}\\u'"
    -- each escape
    ∷ is_text "'\\\\\\'\\\"\\n\\r\\t\\a\\b\\f\\v\\x41\\u00e9\\U0010ffff\\q\\#'" ∷ is_text "'''a\\\nb'''"
    -- control characters, and a letter beyond ASCII
    ∷ (39 ∷ 0 ∷ 11 ∷ 9 ∷ 39 ∷ [], accepted (line_of 1 0 (tokens.token tokens.text (39 ∷ 0 ∷ 11 ∷ 9 ∷ 39 ∷ []) ∷ []) ∷ []))
    ∷ (39 ∷ 195 ∷ 169 ∷ 39 ∷ [], accepted (line_of 1 0 (tokens.token tokens.text (39 ∷ 195 ∷ 169 ∷ 39 ∷ []) ∷ []) ∷ []))
    -- one directly behind another; behind a name, which is a prefix only directly before the quote
    ∷ row "''\"a\"" (text "''" ∷ text "\"a\"" ∷ []) ∷ row "'a''b'" (text "'a'" ∷ text "'b'" ∷ []) ∷ row "a''" (name "a" ∷ text "''" ∷ [])
    ∷ row "r ''" (name "r" ∷ text "''" ∷ []) ∷ row "ar''" (name "ar" ∷ text "''" ∷ []) ∷ row "1''" (number "1" ∷ text "''" ∷ [])
    ∷ row "'a'b" (text "'a'" ∷ name "b" ∷ []) ∷ row "'a'r'b'" (text "'a'" ∷ text "r'b'" ∷ [])
    -- prefixes of Python's that this language doesn't have
    ∷ row "b''" (name "b" ∷ text "''" ∷ []) ∷ row "B''" (name "B" ∷ text "''" ∷ []) ∷ row "u''" (name "u" ∷ text "''" ∷ [])
    ∷ row "U''" (name "U" ∷ text "''" ∷ []) ∷ row "rb''" (name "rb" ∷ text "''" ∷ []) ∷ row "Rb''" (name "Rb" ∷ text "''" ∷ [])
    ∷ row "br''" (name "br" ∷ text "''" ∷ []) ∷ row "BR''" (name "BR" ∷ text "''" ∷ [])
    ∷ all_refused
    (
    -- no end; a third quote opens three
    "'" ∷ "'a" ∷ "r'" ∷ "''''" ∷ "\"\"\"\"" ∷ "'''a''''" ∷ "'''''''" ∷ "'a\nb'" ∷ "'\\\n'" ∷ "r'\\\n'" ∷ "r'\\'" ∷ "'''\\'''"
    -- escapes
    ∷ "'\\" ∷ "'\\0'" ∷ "'\\1'" ∷ "'\\8'" ∷ "'\\9'" ∷ "'\\x4'" ∷ "'\\x4g'" ∷ "'\\u123'" ∷ "'\\u00g0'" ∷ "'\\ud800'" ∷ "'\\U00110000'" ∷ "'\\N{x}'" ∷ []
    )

-- ---- f-texts
-- a prefix with `'\x41{a}'` behind it, where the escape counts and where it doesn't
abbrev escaped : String → List ℕ × Answer
escaped p = (
  codes p ++ codes "'\\x41{a}'",
  accepted (line_of 1 0 (tokens.token (tokens.f_text (tokens.pieces_of (chars "A" ∷ field_a ∷ []))) (codes p ++ codes "'\\x41{a}'") ∷ []) ∷ []),
)

abbrev raw : String → List ℕ × Answer
raw p = (
  codes p ++ codes "'\\x41{a}'",
  accepted
      (line_of 1 0 (tokens.token (tokens.f_text (tokens.pieces_of (chars "\\x41" ∷ field_a ∷ []))) (codes p ++ codes "'\\x41{a}'") ∷ []) ∷ []),
)

abbrev pub f_text_rows : List (List ℕ × Answer)
f_text_rows =
    escaped "f" ∷ escaped "F" ∷ raw "fr" ∷ raw "fR" ∷ raw "Fr" ∷ raw "FR" ∷ raw "rf" ∷ raw "rF" ∷ raw "Rf" ∷ raw "RF"
    ∷ row "bf''" (name "bf" ∷ text "''" ∷ []) ∷ row "f ''" (name "f" ∷ text "''" ∷ [])
    -- characters: braces; each escape; quotes, and a backslash before a brace
    ∷ is_f_text "f''" [] ∷ is_f_text "f\"{{}}\"" (chars "{}" ∷ [])
    ∷ is_f_text
    "f'\\\\\\'\\\"\\n\\r\\t\\a\\b\\f\\v\\x41\\u00e9\\U0010ffff\\q'"
    (characters (92 ∷ 39 ∷ 34 ∷ 10 ∷ 13 ∷ 9 ∷ 7 ∷ 8 ∷ 12 ∷ 11 ∷ 65 ∷ 195 ∷ 169 ∷ 244 ∷ 143 ∷ 191 ∷ 191 ∷ 92 ∷ 113 ∷ []) ∷ [])
    ∷ is_f_text "f'''a\\\nb\n'''" (chars "ab\n" ∷ [])
    ∷ is_f_text "f'''{a}'''" (field_a ∷ []) ∷ is_f_text "f''''{a}'''" (chars "'" ∷ field_a ∷ [])
    ∷ is_f_text "f\"{{{a}}}\"" (chars "{" ∷ field_a ∷ chars "}" ∷ []) ∷ is_f_text "f\"\\{a}\\{{\"" (chars "\\" ∷ field_a ∷ chars "\\{" ∷ [])
    ∷ is_f_text "Rf'a\\{a}'" (chars "a\\" ∷ field_a ∷ [])
    -- tokens of fields
    ∷ is_f_text "f'{a}{ a\t}'" (field_a ∷ field_a ∷ []) ∷ is_f_text "f'{a!=b}'" (field (name "a" ∷ mark "!=" ∷ name "b" ∷ []) ∷ [])
    ∷ is_f_text "f'{a=}'" (field (name "a" ∷ mark "=" ∷ []) ∷ [])
    ∷ is_f_text "f'{a[1:2]}'" (field (name "a" ∷ mark "[" ∷ number "1" ∷ mark ":" ∷ number "2" ∷ mark "]" ∷ []) ∷ [])
    ∷ is_f_text "f'{ {}}'" (field (mark "{" ∷ mark "}" ∷ []) ∷ [])
    ∷ is_f_text "f'{a[\"b\"]}'" (field (name "a" ∷ mark "[" ∷ text "\"b\"" ∷ mark "]" ∷ []) ∷ [])
    ∷ is_f_text "f'''{'b'}'''" (field (text "'b'" ∷ []) ∷ [])
    -- conversions and formats
    ∷ is_f_text "f\"{x!r:>5}\"" (whole_field (name "x" ∷ []) repr (Some (aligned (Some right) (Some 5) None)) ∷ [])
    ∷ is_f_text "f\"{a !s}\"" (whole_field (name "a" ∷ []) str None ∷ []) ∷ is_f_text "f\"{a:}\"" (field_a_as (aligned None None None) ∷ [])
    ∷ is_f_text "f\"{a!s:}\"" (whole_field (name "a" ∷ []) str (Some (aligned None None None)) ∷ [])
    ∷ is_f_text "f'{a:<}{a:^1}{a:200}'" (field_a_as (aligned (Some left) None None) ∷ field_a_as (aligned (Some center) (Some 1) None) ∷ field_a_as (aligned None (Some 200) None) ∷ [])
    ∷ is_f_text "f'{a:d}{a:s}{a:>9s}'" (field_a_as (aligned None None (Some decimal)) ∷ field_a_as (aligned None None (Some string)) ∷ field_a_as (aligned (Some right) (Some 9) (Some string)) ∷ [])
    ∷ is_f_text "f'{a:05}{a:05d}{a:,}{a:,d}'" (field_a_as (zeros 5 false) ∷ field_a_as (zeros 5 true) ∷ field_a_as (comma false) ∷ field_a_as (comma true) ∷ [])
    ∷ all_refused
    (
    "f'" ∷ "f''''" ∷ "f\"}\"" ∷ "f\"{a}}\"" ∷ "f\"{{{\"" ∷ "f\"{a\"" ∷ "f\"{}\"" ∷ "f\"{ }\"" ∷ "f\"{(}\"" ∷ "f\"{)}\"" ∷ "f\"{!r}\"" ∷ "f\"{:5}\""
    ∷ "f\"{{}\"" ∷ "f'\\8'" ∷ "f'\\x4'"
    -- what stands in no field
    ∷ "f\"{'#'}\"" ∷ "f\"{f'a'}\"" ∷ "f\"{a\\n}\"" ∷ "f'{'a'}'" ∷ "f'''{\n}'''" ∷ "f'''{''''''}'''" ∷ "f\"{a$}\"" ∷ "f\"{01}\""
    -- conversions and formats
    ∷ "f\"{x!r }\"" ∷ "f\"{x! r}\"" ∷ "f\"{x!a}\"" ∷ "f\"{x!}\"" ∷ "f\"{x: 5}\"" ∷ "f\"{a:0}\"" ∷ "f\"{a:201}\"" ∷ "f\"{a:00}\"" ∷ "f\"{a:0201}\""
    ∷ "f\"{a:<05}\"" ∷ "f\"{a:,5}\"" ∷ "f\"{a:,s}\"" ∷ "f\"{a:05s}\"" ∷ "f\"{a:x}\"" ∷ "f\"{a:=5}\"" ∷ "f\"{a:5<}\"" ∷ "f\"{a:{b}}\"" ∷ []
    )
