-- Where parts and texts end.
use Rattle.std.proofs.Common.{◌≡◌, ℕ, Bool, true, false, cond, List, [], ◌∷◌, length, take, drop, Some, None, refl, ◌∙◌, arith}
use Rattle.std.specs.Prelude.{not, ◌&&◌, ◌||◌, ◌==◌, nat_le}
use Rattle.std.proofs.lemmas.Bool.Decides.{nat_tests}
use Rattle.std.proofs.lemmas.List.{length-take}
use Rattle.lexical_form.specs.Reading.{Read}
use Rattle.lexical_form.specs.Texts.{Quotes, Part, plain, escape, is_plain, hex_digits, is_meant}
use Rattle.lexical_form.specs.TextReader.{escape_at, part_at, item_at, behind_quotes, lead}
use Rattle.py_lexer.specs.Ends.{rest_of, escape_end, part_end, item_end}

pub same_length : (n : ℕ) (cs : List ℕ) → (length (take n cs) == n) ≡ nat_le n (length cs)
same_length n cs = let l = length-take n cs in rw l (grind (arith, nat_tests))

chosen_end : (e : Part) (rest : List ℕ) (b m n : Bool) → rest_of (cond {A = Read Part} (n && b && m) (Some (e, rest)) None) ≡ cond b (cond (n && m) (Some rest) None) None
chosen_end e rest true true true = refl
chosen_end e rest true false true = refl
chosen_end e rest false m true = refl
chosen_end e rest true m false = refl
chosen_end e rest false m false = refl

escaped : (q : Quotes) (c : ℕ) (cs : List ℕ) (raw may meant : Bool) → q.raw ≡ raw → (q.three || not (c == 10)) ≡ may → is_meant c (take (hex_digits c) cs) ≡ meant
    → rest_of (escape_at q (c ∷ cs)) ≡ cond may (cond raw (Some cs) (cond (nat_le (hex_digits c) (length cs) && meant) (Some (drop (hex_digits c) cs)) None)) None
escaped q c cs true true meant e f g = rw e (rw f refl)
escaped q c cs true false meant e f g = rw e (rw f refl)
escaped q c cs false may meant e f g = rw e (rw f (rw g (rw (same_length (hex_digits c) cs) (chosen_end (escape (c ∷ take (hex_digits c) cs)) (drop (hex_digits c) cs) may meant (nat_le (hex_digits c) (length cs))))))

pub escape_end_is : (q : Quotes) (ts : List ℕ) → rest_of (escape_at q ts) ≡ escape_end q ts
escape_end_is q [] = refl
escape_end_is q (c ∷ cs) = escaped q c cs q.raw (q.three || not (c == 10)) (is_meant c (take (hex_digits c) cs)) refl refl refl

plain_end : (q : Quotes) (c : ℕ) (cs : List ℕ) (b : Bool) → rest_of (cond {A = Read Part} b (Some (plain c, cs)) None) ≡ cond b (Some cs) None
plain_end q c cs true = refl
plain_end q c cs false = refl

pub part_end_is : (q : Quotes) (ts : List ℕ) → rest_of (part_at q ts) ≡ part_end q ts
part_end_is q [] = refl
part_end_is q (c ∷ cs) = go (c == 92)
  where
    go : (b : Bool) → rest_of (cond {A = Read Part} b (escape_at q cs) (cond {A = Read Part} (is_plain q c) (Some (plain c, cs)) None)) ≡ cond b (escape_end q cs) (cond (is_plain q c) (Some cs) None)
    go true = escape_end_is q cs
    go false = plain_end q c cs (is_plain q c)

behind_rest : {P : Type 0} (n : ℕ) (r : Read P) → rest_of (behind_quotes n r) ≡ rest_of r
behind_rest n None = refl
behind_rest n (Some p) = refl

pub item_end_is : (q : Quotes) (ts : List ℕ) → rest_of (item_at part_at q ts) ≡ item_end q ts
item_end_is q ts = behind_rest (lead q ts) (part_at q (drop (lead q ts) ts)) ∙ part_end_is q (drop (lead q ts) ts)
