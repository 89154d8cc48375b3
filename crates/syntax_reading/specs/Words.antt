-- What a token says to a reader of expressions and lines: the words of the grammar. The readers and their words serve laws and the code
-- that reads; no definition of the language speaks of them.
use Rattle.std.specs.Prelude.{ℕ, Bool, true, false, if◌then◌else◌, not, ◌&&◌, ◌==◌, List, [], ◌∷◌, map, Option, Some, None, codes}
use Rattle.std.specs.Str.{bytes_eq}
use Rattle.py_tree.specs.Names.{Name, is_among, keywords, unused_keywords}
use Rattle.py_tree.specs.declared.token.Token as literals
use Rattle.py_tree.specs.declared.token.TokenKind.{TokenKind}
use Rattle.py_tree.specs.declared.token.TokenKind.TheVariants as literal_kind
use Rattle.lexical_form.specs.Tokens as kind
use Rattle.lexical_form.specs.Tokens.{Token, token, Tokens, no_token, then_token, Pieces}
use Rattle.syntax_form.specs.Literals.{constants}
use Rattle.syntax_form.specs.Printing.{mark}
use Rattle.syntax_form.specs.Printing as printing

-- the keywords and marks that have a place in a form
pub data Fixed : Type 0 where
  if_ : Fixed
  else_ : Fixed
  or_ : Fixed
  and_ : Fixed
  not_ : Fixed
  in_ : Fixed
  is_ : Fixed
  for_ : Fixed
  elif_ : Fixed
  while_ : Fixed
  def_ : Fixed
  return_ : Fixed
  pass_ : Fixed
  break_ : Fixed
  continue_ : Fixed
  import_ : Fixed
  as_ : Fixed
  with_ : Fixed
  plus : Fixed
  minus : Fixed
  star : Fixed
  stars : Fixed
  slashes : Fixed
  percent : Fixed
  equal : Fixed
  unequal : Fixed
  less : Fixed
  at_most : Fixed
  greater : Fixed
  at_least : Fixed
  assign : Fixed
  add_to : Fixed
  subtract_from : Fixed
  multiply_by : Fixed
  floor_by : Fixed
  remainder_by : Fixed
  round_open : Fixed
  round_close : Fixed
  square_open : Fixed
  square_close : Fixed
  brace_open : Fixed
  brace_close : Fixed
  comma : Fixed
  colon : Fixed
  dot : Fixed
  at_sign : Fixed

-- a number for each, by which they are told apart
abbrev pub code : Fixed → ℕ
code if_ = 0
code else_ = 1
code or_ = 2
code and_ = 3
code not_ = 4
code in_ = 5
code is_ = 6
code for_ = 7
code elif_ = 8
code while_ = 9
code def_ = 10
code return_ = 11
code pass_ = 12
code break_ = 13
code continue_ = 14
code import_ = 15
code as_ = 16
code with_ = 17
code plus = 18
code minus = 19
code star = 20
code stars = 21
code slashes = 22
code percent = 23
code equal = 24
code unequal = 25
code less = 26
code at_most = 27
code greater = 28
code at_least = 29
code assign = 30
code add_to = 31
code subtract_from = 32
code multiply_by = 33
code floor_by = 34
code remainder_by = 35
code round_open = 36
code round_close = 37
code square_open = 38
code square_close = 39
code brace_open = 40
code brace_close = 41
code comma = 42
code colon = 43
code dot = 44
code at_sign = 45

abbrev pub same : Fixed → Fixed → Bool
same f g = code f == code g

-- how a keyword or a mark is spelled
abbrev pub fixed_token : Fixed → Token
fixed_token if_ = printing.word "if"
fixed_token else_ = printing.word "else"
fixed_token or_ = printing.word "or"
fixed_token and_ = printing.word "and"
fixed_token not_ = printing.word "not"
fixed_token in_ = printing.word "in"
fixed_token is_ = printing.word "is"
fixed_token for_ = printing.word "for"
fixed_token elif_ = printing.word "elif"
fixed_token while_ = printing.word "while"
fixed_token def_ = printing.word "def"
fixed_token return_ = printing.word "return"
fixed_token pass_ = printing.word "pass"
fixed_token break_ = printing.word "break"
fixed_token continue_ = printing.word "continue"
fixed_token import_ = printing.word "import"
fixed_token as_ = printing.word "as"
fixed_token with_ = printing.word "with"
fixed_token plus = mark "+"
fixed_token minus = mark "-"
fixed_token star = mark "*"
fixed_token stars = mark "**"
fixed_token slashes = mark "//"
fixed_token percent = mark "%"
fixed_token equal = mark "=="
fixed_token unequal = mark "!="
fixed_token less = mark "<"
fixed_token at_most = mark "<="
fixed_token greater = mark ">"
fixed_token at_least = mark ">="
fixed_token assign = mark "="
fixed_token add_to = mark "+="
fixed_token subtract_from = mark "-="
fixed_token multiply_by = mark "*="
fixed_token floor_by = mark "//="
fixed_token remainder_by = mark "%="
fixed_token round_open = mark "("
fixed_token round_close = mark ")"
fixed_token square_open = mark "["
fixed_token square_close = mark "]"
fixed_token brace_open = mark "{"
fixed_token brace_close = mark "}"
fixed_token comma = mark ","
fixed_token colon = mark ":"
fixed_token dot = mark "."
fixed_token at_sign = mark "@"

-- a token as a reader sees it
pub data Word : Type 0 where
  name : Name → Word
  -- `None`, `True`, `False`, a number or a text
  literal : literals.Token → Word
  f_text : (spelling : List ℕ) → Pieces → Word
  fixed : Fixed → Word
  other : Token → Word

-- the first of these with this spelling
abbrev pub find : List Fixed → List ℕ → Option Fixed
find [] cs = None
find (f ∷ fs) cs = if bytes_eq cs (kind.spelling (fixed_token f)) then Some f else find fs cs

abbrev pub fixed_or : Word → Option Fixed → Word
fixed_or w None = w
fixed_or w (Some f) = fixed f

abbrev pub keyword_words : List Fixed
keyword_words =
    if_ ∷ else_ ∷ or_ ∷ and_ ∷ not_ ∷ in_ ∷ is_ ∷ for_ ∷ elif_ ∷ while_ ∷ def_ ∷ return_ ∷ pass_ ∷ break_ ∷ continue_ ∷ import_ ∷ as_ ∷ with_ ∷ []

abbrev pub mark_words : List Fixed
mark_words =
    plus ∷ minus ∷ star ∷ stars ∷ slashes ∷ percent ∷ equal ∷ unequal ∷ less ∷ at_most ∷ greater ∷ at_least ∷ assign ∷ add_to ∷ subtract_from ∷
    multiply_by ∷ floor_by ∷ remainder_by ∷ round_open ∷ round_close ∷ square_open ∷ square_close ∷ brace_open ∷ brace_close ∷ comma ∷ colon ∷ dot ∷
    at_sign ∷ []

-- no keyword
abbrev pub is_free : List ℕ → Bool
is_free cs = not (is_among cs keywords) && not (is_among cs unused_keywords)

abbrev pub literal_of : TokenKind → List ℕ → literals.Token
literal_of k cs = record { kind = k; spelling = cs }

abbrev pub keyword_word : List ℕ → Word
keyword_word cs =
    if is_among cs constants then literal (literal_of literal_kind.Name cs) else fixed_or (other (token kind.name cs)) (find keyword_words cs)

-- How numbers and texts are spelled isn't looked at.
unfoldable pub word_of : Token → Word
word_of (token kind.name cs) = if is_free cs then name cs else keyword_word cs
word_of (token kind.number cs) = literal (literal_of literal_kind.Number cs)
word_of (token kind.text cs) = literal (literal_of literal_kind.Text cs)
word_of (token (kind.f_text ps) cs) = f_text cs ps
word_of (token kind.mark cs) = fixed_or (other (token kind.mark cs)) (find mark_words cs)

abbrev pub words : List Token → List Word
words ts = map word_of ts

-- the tokens of a field
abbrev pub token_list : Tokens → List Token
token_list no_token = []
token_list (then_token t ts) = t ∷ token_list ts

-- a constant, a number or a text, however it is spelled
abbrev pub may_be_literal : TokenKind → List ℕ → Bool
may_be_literal literal_kind.Name cs = is_among cs constants
may_be_literal literal_kind.Number cs = true
may_be_literal literal_kind.Text cs = true
may_be_literal literal_kind.Mark cs = false

abbrev pub none_literal : literals.Token
none_literal = literal_of literal_kind.Name (codes "None")

abbrev pub is_none_spelled : TokenKind → List ℕ → Bool
is_none_spelled literal_kind.Name cs = bytes_eq cs (codes "None")
is_none_spelled k cs = false

abbrev pub is_none_literal : literals.Token → Bool
is_none_literal t = is_none_spelled t.kind t.spelling
