-- Each token ends in an ASCII byte.
use Rattle.std.proofs.Common.{◌≡◌, ℕ, zero, suc, ◌+◌, ◌<◌, Bool, true, false, cond, List, [], ◌∷◌, ◌++◌, length, get_or, refl, sym, ap, subst, ◌∙◌, length-append, arith}
use Rattle.std.specs.Prelude.{◌&&◌, not, nat_lt}
use Rattle.std.specs.List.{list_all, flat_map}
use Rattle.std.specs.Str.{IsUtf8, IsCharBoundary}
use Rattle.std.proofs.lemmas.Str.{IsCharBoundary-after_ascii}
use Rattle.std.proofs.lemmas.Bool.Decides.{nat_tests}
use Rattle.py_tree.specs.Names.{begins_name, continues_name, is_spelled_name}
use Rattle.lexical_form.specs.Bytes.{is_quote, starts}
use Rattle.lexical_form.specs.Marks.{marks}
use Rattle.lexical_form.specs.Numbers.{is_number}
use Rattle.lexical_form.specs.Texts.{Quotes, Text, side, item_spelling, part_spelling}
use Rattle.lexical_form.specs.Plain.{PlainKind, name, number, text, mark, is_prefix, CanStandAs}
use Rattle.lexical_form.proofs.Basics.{and_left, and_right, both}
use Rattle.lexical_form.proofs.Among.{among_all}
use Rattle.lexical_form.proofs.PlainLaws.{number_digits}
use Rattle.lexical_form.proofs.TextLaws.{quote_of}

abbrev pub is_ascii : ℕ → Bool
is_ascii c = nat_lt c 128

name_ascii : (c : ℕ) → continues_name c ≡ true → is_ascii c ≡ true
name_ascii c h = grind (arith, nat_tests)

begins_ascii : (c : ℕ) → begins_name c ≡ true → is_ascii c ≡ true
begins_ascii c h = grind (arith, nat_tests)

pub quote_ascii : (c : ℕ) → is_quote c ≡ true → is_ascii c ≡ true
quote_ascii c h = grind (arith, nat_tests)

names_ascii : (cs : List ℕ) → list_all continues_name cs ≡ true → list_all is_ascii cs ≡ true
names_ascii [] h = refl
names_ascii (c ∷ cs) h = both (is_ascii c) (list_all is_ascii cs) (name_ascii c (and_left (continues_name c) (list_all continues_name cs) h)) (names_ascii cs (and_right (continues_name c) (list_all continues_name cs) h))

-- the last byte is one
abbrev pub ends_ascii : List ℕ → Bool
ends_ascii [] = false
ends_ascii (c ∷ []) = is_ascii c
ends_ascii (c ∷ d ∷ ds) = ends_ascii (d ∷ ds)

all_end : (c : ℕ) (cs : List ℕ) → list_all is_ascii (c ∷ cs) ≡ true → ends_ascii (c ∷ cs) ≡ true
all_end c [] h = and_left (is_ascii c) true h
all_end c (d ∷ ds) h = all_end d ds (and_right (is_ascii c) (list_all is_ascii (d ∷ ds)) h)

pub append_ends : (xs : List ℕ) (c : ℕ) (cs : List ℕ) → ends_ascii (c ∷ cs) ≡ true → ends_ascii (xs ++ (c ∷ cs)) ≡ true
append_ends [] c cs h = h
append_ends (x ∷ []) c cs h = h
append_ends (x ∷ y ∷ ys) c cs h = append_ends (y ∷ ys) c cs h

pub side_ends : (q : Quotes) (xs : List ℕ) → is_ascii q.mark ≡ true → ends_ascii (xs ++ side q) ≡ true
side_ends q xs h = go q.three
  where
    go : (b : Bool) → ends_ascii (xs ++ cond b (q.mark ∷ q.mark ∷ q.mark ∷ []) (q.mark ∷ [])) ≡ true
    go true = append_ends xs q.mark (q.mark ∷ q.mark ∷ []) h
    go false = append_ends xs q.mark [] h

name_ends : (cs : List ℕ) → is_spelled_name cs ≡ true → ends_ascii cs ≡ true
name_ends [] h = h
name_ends (c ∷ cs) h = all_end c cs (both (is_ascii c) (list_all is_ascii cs) (begins_ascii c (and_left (begins_name c) (list_all continues_name cs) h)) (names_ascii cs (and_right (begins_name c) (list_all continues_name cs) h)))

number_ends : (cs : List ℕ) → is_number cs ≡ true → ends_ascii cs ≡ true
number_ends [] h = h
number_ends (c ∷ cs) h = let d = number_digits (c ∷ cs) h in all_end c cs (names_ascii (c ∷ cs) d.go_on)

pub plain_ends : (k : PlainKind) (cs rest : List ℕ) → CanStandAs k cs rest → ends_ascii cs ≡ true
plain_ends name cs rest h = name_ends cs (and_left (is_spelled_name cs) (not (starts continues_name rest)) (and_left (is_spelled_name cs && not (starts continues_name rest)) (not (is_prefix cs && starts is_quote rest)) h))
plain_ends number cs rest h = number_ends cs (and_left (is_number cs) (not (starts continues_name rest)) h)
plain_ends mark cs rest h = among_all ends_ascii cs marks refl h
plain_ends text cs rest h =
    let t = h.0 in
    let q = quote_ascii (Quotes.mark (Text.quotes h.0)) (quote_of h.0 h.1) in
    ap ends_ascii h.2 ∙ side_ends (Text.quotes h.0) ((Text.prefix h.0 ++ side (Text.quotes h.0)) ++ flat_map (item_spelling part_spelling (Text.quotes h.0)) (Text.items h.0)) q

-- the byte before the rest
last_small : (cs rest : List ℕ) (i : ℕ) → ends_ascii cs ≡ true → length cs ≡ suc i → get_or (cs ++ rest) i 0 < 128
last_small [] rest i h e = let none : false ≡ true = h in absurd cc
last_small (c ∷ []) rest zero h e = grind (arith, nat_tests)
last_small (c ∷ []) rest (suc i) h e = absurd (omega (arith, e))
last_small (c ∷ d ∷ ds) rest zero h e = absurd (omega (arith, e))
last_small (c ∷ d ∷ ds) rest (suc i) h e = last_small (d ∷ ds) rest i h (omega (arith, e))

-- so the text may be cut there
pub boundary : (ts cs rest : List ℕ) → IsUtf8 ts → ends_ascii cs ≡ true → ts ≡ cs ++ rest → IsCharBoundary ts (length cs)
boundary ts [] rest u h e = let none : false ≡ true = h in absurd cc
boundary ts (c ∷ cs) rest u h e =
    let small : get_or ts (length cs) 0 < 128 = subst (λ xs. get_or xs (length cs) 0 < 128) (sym e) (last_small (c ∷ cs) rest (length cs) h refl) in
    let l = ap length e ∙ length-append (c ∷ cs) rest in
    let n : length cs + 1 ≡ suc (length cs) = omega arith in
    subst (λ n. IsCharBoundary ts n) n (IsCharBoundary-after_ascii ts (length cs) u (omega (arith, l)) small)
