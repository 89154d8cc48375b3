-- Where parts and texts end, without what they are.
use Rattle.std.specs.Prelude.{ℕ, Bool, true, false, cond, not, ◌&&◌, ◌||◌, ◌==◌, nat_le, List, [], ◌∷◌, length, take, drop, Option, Some, None, option_map}
use Rattle.py_tree.specs.Names.{is_digit, continues_name, is_among}
use Rattle.lexical_form.specs.Bytes.{is_quote, starts}
use Rattle.lexical_form.specs.MarkReader.{mark_at}
use Rattle.lexical_form.specs.Numbers.{is_number}
use Rattle.lexical_form.specs.Plain.{PlainKind, name, number, text, mark, f_text_prefixes}
use Rattle.lexical_form.specs.Reading.{Read, read_all, span}
use Rattle.lexical_form.specs.Texts.{Quotes, hex_digits, is_meant, is_plain, text_prefixes, side}
use Rattle.lexical_form.specs.TextReader.{lead, part_at, item_at, items_at, behind, opening, behind_opening}

-- what is behind a piece
abbrev pub rest_of : {P : Type 0} → Read P → Option (List ℕ)
rest_of r = option_map (λ p. p.1) r

-- behind the first byte of an escape and its digits
abbrev pub meant_end : ℕ → List ℕ → Option (List ℕ)
meant_end c cs = cond (nat_le (hex_digits c) (length cs) && is_meant c (take (hex_digits c) cs)) (Some (drop (hex_digits c) cs)) None

abbrev pub escape_end : Quotes → List ℕ → Option (List ℕ)
escape_end q [] = None
escape_end q (c ∷ cs) = cond (q.three || not (c == 10)) (cond q.raw (Some cs) (meant_end c cs)) None

abbrev pub part_end : Quotes → List ℕ → Option (List ℕ)
part_end q [] = None
part_end q (c ∷ cs) = cond (c == 92) (escape_end q cs) (cond (is_plain q c) (Some cs) None)

abbrev pub item_end : Quotes → List ℕ → Option (List ℕ)
item_end q ts = part_end q (drop (lead q ts) ts)

abbrev pub text_end : Quotes → List ℕ → Option (List ℕ)
text_end q ts = rest_of (items_at part_at q ts)

abbrev pub items_end : Quotes → List ℕ → List ℕ
items_end q ts = (read_all (λ (s : Unit {0}). item_at part_at q) (λ s i. s) tt ts).1

-- behind a text, of which the prefix is read
abbrev pub quoted_end : Bool → List ℕ → Option (List ℕ)
quoted_end raw [] = None
quoted_end raw (c ∷ cs) =
    cond (is_quote c) (behind (side (opening raw c cs)) (items_end (opening raw c cs) (behind_opening (opening raw c cs) cs))) None

-- what a token is, and what is behind it
abbrev pub of_kind : PlainKind → Option (List ℕ) → Option (PlainKind × List ℕ)
of_kind kind None = None
of_kind kind (Some rest) = Some (kind, rest)

abbrev pub prefix_end : List ℕ → List ℕ → Option (PlainKind × List ℕ)
prefix_end word rest =
    cond (is_among word text_prefixes) (of_kind text (quoted_end true rest)) (cond (is_among word f_text_prefixes) None (Some (name, rest)))

abbrev pub word_end : List ℕ → List ℕ → Option (PlainKind × List ℕ)
word_end [] rest = cond (starts is_quote rest) (of_kind text (quoted_end false rest)) (of_kind mark (rest_of (mark_at rest)))
word_end (c ∷ cs) rest =
    cond (is_digit c) (cond (is_number (c ∷ cs)) (Some (number, rest)) None)
    (cond (starts is_quote rest) (prefix_end (c ∷ cs) rest) (Some (name, rest)))

abbrev pub plain_end : List ℕ → Option (PlainKind × List ℕ)
plain_end ts = let s = span continues_name ts in word_end s.0 s.1
