-- Reading a token that holds no other tokens.
use Rattle.std.specs.Prelude.{ℕ, Bool, true, false, if◌then◌else◌, List, [], ◌∷◌, Some, None}
use Rattle.py_tree.specs.Names.{is_digit, continues_name, is_among}
use Rattle.lexical_form.specs.Bytes.{is_quote, starts}
use Rattle.lexical_form.specs.Reading.{Read, span}
use Rattle.lexical_form.specs.MarkReader.{mark_at}
use Rattle.lexical_form.specs.Numbers.{is_number}
use Rattle.lexical_form.specs.Texts.{Quotes, Part, Item, text_prefixes, text_spelling}
use Rattle.lexical_form.specs.TextReader.{items_at, part_at, opening, behind_opening}
use Rattle.lexical_form.specs.Plain.{PlainKind, name, number, text, mark, Plain, f_text_prefixes}

abbrev pub as_plain : PlainKind → Read (List ℕ) → Read Plain
as_plain kind None = None
as_plain kind (Some p) = Some (record { kind = kind; spelling = p.0 }, p.1)

abbrev pub text_of : List ℕ → Quotes → Read (List (Item Part)) → Read (List ℕ)
text_of prefix q None = None
text_of prefix q (Some p) = Some (text_spelling (record { prefix = prefix; quotes = q; items = p.0 }), p.1)

-- a text, of which the prefix is read
abbrev pub text_at : List ℕ → Bool → List ℕ → Read (List ℕ)
text_at prefix raw [] = None
text_at prefix raw (c ∷ cs) =
    if is_quote c then (let q = opening raw c cs in text_of prefix q (items_at part_at q (behind_opening q cs))) else None

-- behind a word, which a quote follows: a text, if it is a prefix of texts; none, if it is one of f-texts
abbrev pub before_quote : List ℕ → List ℕ → Read Plain
before_quote word rest =
    if is_among word text_prefixes then as_plain text (text_at word true rest)
    else if is_among word f_text_prefixes then None
    else Some (record { kind = name; spelling = word }, rest)

-- behind the longest run of bytes of a name
abbrev pub by_word : List ℕ → List ℕ → Read Plain
by_word [] rest = if starts is_quote rest then as_plain text (text_at [] false rest) else as_plain mark (mark_at rest)
by_word (c ∷ cs) rest =
    if is_digit c then (if is_number (c ∷ cs) then Some (record { kind = number; spelling = c ∷ cs }, rest) else None)
    else if starts is_quote rest then before_quote (c ∷ cs) rest
    else Some (record { kind = name; spelling = c ∷ cs }, rest)

abbrev pub next_plain : List ℕ → Read Plain
next_plain ts = let s = span continues_name ts in by_word s.0 s.1
