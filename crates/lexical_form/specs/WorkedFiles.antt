-- Worked examples of logical lines: files with their lines, and files that are refused, with the line.
use Rattle.std.specs.Prelude.{ℕ, List, [], ◌∷◌, ⊤}
use Rattle.lexical_form.specs.Answer.{Answer, IsAnswer, accepted, no_utf8, no_token}
use Rattle.lexical_form.specs.Worked.{name, number, text, mark, line_of, lines, row, refused}

abbrev pub line_rows : List (List ℕ × Answer)
line_rows =
    -- what has blanks alone, or a comment behind them, is no logical line
    lines "" [] ∷ lines "\n" [] ∷ lines "  " [] ∷ lines "# c" [] ∷ lines "\t# c\n\t\n  \t" [] ∷ row "a" (name "a" ∷ []) ∷ row "a\n" (name "a" ∷ [])
    -- a comment goes up to the line's end
    ∷ row "a # c" (name "a" ∷ []) ∷ row "a#'(\n" (name "a" ∷ []) ∷ (35 ∷ 0 ∷ 11 ∷ 195 ∷ 169 ∷ [], accepted [])
    -- the number is the line of the first token, the indent the number of spaces before it
    ∷ lines "a\n\n  b" (line_of 1 0 (name "a" ∷ []) ∷ line_of 3 2 (name "b" ∷ []) ∷ [])
    ∷ lines "a\n  # c\n\t\n\t# d\n    b" (line_of 1 0 (name "a" ∷ []) ∷ line_of 5 4 (name "b" ∷ []) ∷ [])
    ∷ lines " a\n\n#\nb " (line_of 1 1 (name "a" ∷ []) ∷ line_of 4 0 (name "b" ∷ []) ∷ [])
    -- behind a token a tab may stand, and inside brackets everywhere
    ∷ row "a \t b\t" (name "a" ∷ name "b" ∷ []) ∷ row "(\n\ta)" (mark "(" ∷ name "a" ∷ mark ")" ∷ [])
    -- brackets carry a line on
    ∷ lines
    "a = (1,\n  2) # c\n\nb"
    (
    line_of 1 0 (name "a" ∷ mark "=" ∷ mark "(" ∷ number "1" ∷ mark "," ∷ number "2" ∷ mark ")" ∷ [])
    ∷ line_of 4 0 (name "b" ∷ []) ∷ []
    )
    ∷ lines
    "(\n# )\n\n a[\n1]{\n})\n b"
    (
    line_of 1 0 (mark "(" ∷ name "a" ∷ mark "[" ∷ number "1" ∷ mark "]" ∷ mark "{" ∷ mark "}" ∷ mark ")" ∷ [])
    ∷ line_of 7 1 (name "b" ∷ []) ∷ []
    )
    -- a text between three quotes does so too
    ∷ lines "'''a\nb''' c\n d" (line_of 1 0 (text "'''a\nb'''" ∷ name "c" ∷ []) ∷ line_of 3 1 (name "d" ∷ []) ∷ [])
    ∷ lines "f\n'a'" (line_of 1 0 (name "f" ∷ []) ∷ line_of 2 0 (text "'a'" ∷ []) ∷ [])
    -- `\r\n` ends a line as `\n` does, in brackets and in a text too
    ∷ (
      97 ∷ 13 ∷ 10 ∷ 40 ∷ 98 ∷ 13 ∷ 10 ∷ 41 ∷ 13 ∷ 10 ∷ [],
      accepted (line_of 1 0 (name "a" ∷ []) ∷ line_of 2 0 (mark "(" ∷ name "b" ∷ mark ")" ∷ []) ∷ []),
    )
    ∷ (39 ∷ 39 ∷ 39 ∷ 13 ∷ 10 ∷ 39 ∷ 39 ∷ 39 ∷ [], accepted (line_of 1 0 (text "'''\n'''" ∷ []) ∷ []))
    ∷ []

abbrev pub refused_rows : List (List ℕ × Answer)
refused_rows =
    -- the line of the first character at which nothing begins
    refused 2 "a\nb/c" ∷ refused 3 "(\n\n$)" ∷ refused 2 "a\n01" ∷ refused 2 "'''\n''' 'a" ∷ refused 1 "\\\n" ∷ (34 ∷ 97 ∷ 34 ∷ 43 ∷ 195 ∷ 169 ∷ [], no_token 1)
    -- a text without its end: where it begins
    ∷ refused 2 "a\n'''b\nc''" ∷ refused 2 "a\n'b\nc'" ∷ refused 2 "a\nf'''{b\n}'''"
    -- a bracket that doesn't match, and the outermost one that is left open
    ∷ refused 1 ")" ∷ refused 3 "a\n\n]" ∷ refused 1 "(]" ∷ refused 3 "a\n(\n]" ∷ refused 1 "[(])" ∷ refused 1 "{a)"
    ∷ refused 1 "(" ∷ refused 2 "(\n)(\n[" ∷ refused 2 "a\n(\n[\n" ∷ refused 3 "(\n)\n[{}\n" ∷ refused 1 "( # )" ∷ refused 1 "(')'"
    -- a tab before a line's first token
    ∷ refused 1 "\ta" ∷ refused 2 "a\n \tb" ∷ refused 2 "a\n\t b" ∷ refused 4 "(\n)\n\n\t'a'"
    -- a form feed: its line, in a comment too, and also where a bracket is open; in a text it is the text that has no end
    ∷ (12 ∷ [], no_token 1) ∷ (97 ∷ 10 ∷ 12 ∷ 98 ∷ [], no_token 2) ∷ (97 ∷ 10 ∷ 35 ∷ 32 ∷ 12 ∷ [], no_token 2) ∷ (40 ∷ 10 ∷ 12 ∷ [], no_token 2)
    ∷ (97 ∷ 10 ∷ 39 ∷ 39 ∷ 39 ∷ 10 ∷ 12 ∷ 39 ∷ 39 ∷ 39 ∷ [], no_token 2)
    -- a `\r` before no `\n`
    ∷ (97 ∷ 13 ∷ 98 ∷ [], no_token 1) ∷ (97 ∷ 10 ∷ 13 ∷ [], no_token 2) ∷ (97 ∷ 13 ∷ 13 ∷ 10 ∷ [], no_token 1)
    ∷ (97 ∷ 10 ∷ 39 ∷ 39 ∷ 39 ∷ 10 ∷ 98 ∷ 13 ∷ 39 ∷ 39 ∷ 39 ∷ [], no_token 2)
    -- a byte order mark
    ∷ (239 ∷ 187 ∷ 191 ∷ 97 ∷ [], no_token 1) ∷ (97 ∷ 10 ∷ 239 ∷ 187 ∷ 191 ∷ [], no_token 2) ∷ []

-- ---- bytes that aren't UTF-8, whatever stands before the first bad one
abbrev pub bytes_rows : List (List ℕ × ℕ)
bytes_rows =
    (255 ∷ [], 1) ∷ (97 ∷ 10 ∷ 255 ∷ [], 2) ∷ (97 ∷ 10 ∷ 39 ∷ 195 ∷ [], 2) ∷ (36 ∷ 10 ∷ 41 ∷ 10 ∷ 237 ∷ 160 ∷ 128 ∷ 10 ∷ [], 3) ∷ []

abbrev pub AreNoUtf8 : List (List ℕ × ℕ) → Type 0
AreNoUtf8 [] = ⊤
AreNoUtf8 (row ∷ rows) = IsAnswer row.0 (no_utf8 row.1) × AreNoUtf8 rows
