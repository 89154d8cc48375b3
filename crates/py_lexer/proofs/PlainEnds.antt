-- The code's answer is that of the reader, without the spelling.
use Rattle.std.proofs.Common.{◌≡◌, ℕ, Bool, true, false, cond, List, [], ◌∷◌, Option, Some, None, refl, ap, ◌∙◌}
use Rattle.py_tree.specs.Names.{is_digit, continues_name, is_among}
use Rattle.lexical_form.specs.Bytes.{is_quote, starts}
use Rattle.lexical_form.specs.Reading.{Read, span, read_all}
use Rattle.lexical_form.specs.MarkReader.{mark_at}
use Rattle.lexical_form.specs.Numbers.{is_number}
use Rattle.lexical_form.specs.Texts.{Quotes, Part, Item, text_prefixes, side}
use Rattle.lexical_form.specs.TextReader.{behind, with_items, items_at, part_at, item_at, opening, behind_opening}
use Rattle.lexical_form.specs.Plain.{PlainKind, name, number, text, mark, Plain, f_text_prefixes}
use Rattle.lexical_form.specs.PlainReader.{as_plain, text_of, text_at, before_quote, by_word, next_plain}
use Rattle.py_lexer.specs.Ends.{rest_of, items_end, quoted_end, of_kind, prefix_end, word_end, plain_end}
use Rattle.lexical_form.proofs.PlainLaws.{plain}

-- the kind and the rest
abbrev pub outline : Read Plain → Option (PlainKind × List ℕ)
outline None = None
outline (Some p) = Some (Plain.kind p.0, p.1)

kind_outline : (k : PlainKind) (r : Read (List ℕ)) → outline (as_plain k r) ≡ of_kind k (rest_of r)
kind_outline k None = refl
kind_outline k (Some p) = refl

items_rest : (ps : List (Item Part)) (r : Option (List ℕ)) → rest_of (with_items ps r) ≡ r
items_rest ps None = refl
items_rest ps (Some rest) = refl

text_rest : (prefix : List ℕ) (q : Quotes) (r : Read (List (Item Part))) → rest_of (text_of prefix q r) ≡ rest_of r
text_rest prefix q None = refl
text_rest prefix q (Some p) = refl

text_outline : (prefix : List ℕ) (raw : Bool) (ts : List ℕ) → rest_of (text_at prefix raw ts) ≡ quoted_end raw ts
text_outline prefix raw [] = refl
text_outline prefix raw (c ∷ cs) = go (is_quote c)
  where
    go : (b : Bool) → rest_of (cond {A = Read (List ℕ)} b (text_of prefix (opening raw c cs) (items_at part_at (opening raw c cs) (behind_opening (opening raw c cs) cs))) None)
        ≡ cond b (behind (side (opening raw c cs)) (items_end (opening raw c cs) (behind_opening (opening raw c cs) cs))) None
    go true = text_rest prefix (opening raw c cs) (items_at part_at (opening raw c cs) (behind_opening (opening raw c cs) cs))
        ∙ items_rest (read_all (λ (s : Unit {0}). item_at part_at (opening raw c cs)) (λ (s : Unit {0}) (i : Item Part). s) tt (behind_opening (opening raw c cs) cs)).0 (behind (side (opening raw c cs)) (items_end (opening raw c cs) (behind_opening (opening raw c cs) cs)))
    go false = refl

as_text : (prefix : List ℕ) (raw : Bool) (ts : List ℕ) → outline (as_plain text (text_at prefix raw ts)) ≡ of_kind text (quoted_end raw ts)
as_text prefix raw ts = kind_outline text (text_at prefix raw ts) ∙ ap (of_kind text) (text_outline prefix raw ts)

prefix_outline : (word rest : List ℕ) → outline (before_quote word rest) ≡ prefix_end word rest
prefix_outline word rest = go (is_among word text_prefixes) (is_among word f_text_prefixes)
  where
    go : (a b : Bool) → outline (cond {A = Read Plain} a (as_plain text (text_at word true rest)) (cond {A = Read Plain} b None (Some (plain name word, rest)))) ≡ cond {A = Option (PlainKind × List ℕ)} a (of_kind text (quoted_end true rest)) (cond {A = Option (PlainKind × List ℕ)} b None (Some (name, rest)))
    go true b = as_text word true rest
    go false true = refl
    go false false = refl

word_outline : (word rest : List ℕ) → outline (by_word word rest) ≡ word_end word rest
word_outline [] rest = go (starts is_quote rest)
  where
    go : (b : Bool) → outline (cond {A = Read Plain} b (as_plain text (text_at [] false rest)) (as_plain mark (mark_at rest))) ≡ cond {A = Option (PlainKind × List ℕ)} b (of_kind text (quoted_end false rest)) (of_kind mark (rest_of (mark_at rest)))
    go true = as_text [] false rest
    go false = kind_outline mark (mark_at rest)
word_outline (c ∷ cs) rest = go (is_digit c) (is_number (c ∷ cs)) (starts is_quote rest)
  where
    go : (a b d : Bool) → outline (cond {A = Read Plain} a (cond {A = Read Plain} b (Some (plain number (c ∷ cs), rest)) None) (cond {A = Read Plain} d (before_quote (c ∷ cs) rest) (Some (plain name (c ∷ cs), rest))))
        ≡ cond {A = Option (PlainKind × List ℕ)} a (cond {A = Option (PlainKind × List ℕ)} b (Some (number, rest)) None) (cond {A = Option (PlainKind × List ℕ)} d (prefix_end (c ∷ cs) rest) (Some (name, rest)))
    go true true d = refl
    go true false d = refl
    go false b true = prefix_outline (c ∷ cs) rest
    go false b false = refl

pub plain_outline : (ts : List ℕ) → outline (next_plain ts) ≡ plain_end ts
plain_outline ts = word_outline (span continues_name ts).0 (span continues_name ts).1
