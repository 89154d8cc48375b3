-- Escapes with digits.
use Rattle.std.proofs.Common.{◌≡◌, ℕ, zero, suc, ◌+◌, ◌-◌, ◌≤◌, ◌<◌, Bool, true, false, cond, List, [], ◌∷◌, length, take, drop, get_or, Option, Some, None, refl, sym, ap, subst, ◌∙◌, arith}
use Rattle.std.specs.Prelude.{not, ◌==◌, ◌&&◌, nat_le}
use Rattle.std.specs.List.{list_all}
use Rattle.std.specs.Char.{encode_utf8}
use Rattle.std.proofs.lemmas.Bool.Decides.{nat_tests}
use Rattle.lexical_form.specs.Bytes.{is_hex, hex_number, is_character, starts}
use Rattle.lexical_form.specs.Texts.{hex_digits, is_meant}
use Rattle.lexical_form.specs.Meaning.{utf8, meant, meant_byte}
use Rattle.lexical_form.proofs.Basics.{and_left, and_right, not_true, if_some, some_is}
use Rattle.py_lines.specs.Characters.{first_meant, IsEscape}

-- std's bytes of a character are those of the definitions
pub utf8_same : (n : ℕ) → encode_utf8 n ≡ utf8 n
unfolding encode_utf8
utf8_same n = refl

abbrev good : List ℕ → Bool
good ds = list_all is_hex ds && is_character (hex_number ds)

isnt : {A : Type 0} (b : Bool) (x : A) → cond {A = Option A} b (Some x) None ≡ None → b ≡ false
isnt true x e = absurd cc
isnt false x e = refl

with_digits : (c : ℕ) (ds : List ℕ) → not (hex_digits c == 0) ≡ true → is_meant c ds ≡ good ds
with_digits c ds h = rw (not_true (hex_digits c == 0) h) refl

none_of : (b : Bool) (x : List ℕ × List ℕ) → cond {A = Option (List ℕ × List ℕ)} (b && false) (Some x) None ≡ None
none_of true x = refl
none_of false x = refl

whole : (cs : List ℕ) (n : ℕ) → n ≡ length cs → take n cs ≡ cs
whole [] n e = subst (λ (k : ℕ). take {A = ℕ} k [] ≡ []) (sym e) refl
whole (c ∷ cs) n e = subst (λ (k : ℕ). take {A = ℕ} k (c ∷ cs) ≡ c ∷ cs) (sym e) (ap (λ xs. c ∷ xs) (whole cs (length cs) refl))

-- what is behind a first byte, as the code has it
abbrev pub others : List ℕ → List ℕ
others ts = take (length ts - 1) (drop 1 ts)

others_are : (c : ℕ) (cs : List ℕ) → others (c ∷ cs) ≡ cs
others_are c cs = whole cs (length (c ∷ cs) - 1) (omega arith)

pub digits_none : (ts : List ℕ) (n : ℕ) → starts (λ c. not (hex_digits c == 0)) ts ≡ true → n ≡ hex_digits (get_or ts 0 0) → None ≡ cond {A = Option ℕ} (good (take n (others ts))) (Some (hex_number (take n (others ts)))) None
    → first_meant ts ≡ None
digits_none [] n h e f = refl
digits_none (c ∷ cs) n h e f =
    let f' : None ≡ cond {A = Option ℕ} (good (take n cs)) (Some (hex_number (take n cs))) None = subst (λ xs. None ≡ cond {A = Option ℕ} (good (take n xs)) (Some (hex_number (take n xs))) None) (others_are c cs) f in
    let g : None ≡ cond {A = Option ℕ} (good (take (hex_digits c) cs)) (Some (hex_number (take (hex_digits c) cs))) None = subst (λ k. None ≡ cond {A = Option ℕ} (good (take k cs)) (Some (hex_number (take k cs))) None) e f' in
    let bad = isnt (good (take (hex_digits c) cs)) (hex_number (take (hex_digits c) cs)) (sym g) in
    let x : List ℕ × List ℕ = (meant (c ∷ take (hex_digits c) cs), drop (hex_digits c) cs) in
    ap (λ b. cond {A = Option (List ℕ × List ℕ)} (nat_le (hex_digits c) (length cs) && b) (Some (meant (c ∷ take (hex_digits c) cs), drop (hex_digits c) cs)) None) (with_digits c (take (hex_digits c) cs) h ∙ bad)
    ∙ none_of (nat_le (hex_digits c) (length cs)) (meant (c ∷ take (hex_digits c) cs), drop (hex_digits c) cs)

hex_small : (c : ℕ) → is_hex c ≡ true → c < 128
hex_small c h = grind (arith, nat_tests)

last_small : (c : ℕ) (cs : List ℕ) (n : ℕ) → list_all is_hex (take (suc n) cs) ≡ true → suc n ≤ length cs → get_or (c ∷ cs) (suc n) 0 < 128
last_small c [] n h l = absurd (omega (arith, l))
last_small c (d ∷ ds) zero h l = hex_small d (and_left (is_hex d) true h)
last_small c (d ∷ ds) (suc n) h l = last_small d ds n (and_right (is_hex d) (list_all is_hex (take (suc n) ds)) h) (omega (arith, l))

digits_small : (c : ℕ) (cs : List ℕ) (n : ℕ) → 0 < n → list_all is_hex (take n cs) ≡ true → n ≤ length cs → get_or (c ∷ cs) n 0 < 128
digits_small c cs zero s h l = absurd (omega (arith, s))
digits_small c cs (suc n) s h l = last_small c cs n h l

some_digits : (c : ℕ) → not (hex_digits c == 0) ≡ true → 0 < hex_digits c
some_digits c h = grind (arith, nat_tests)

pub digits_some : (ts : List ℕ) (n number : ℕ) → starts (λ c. not (hex_digits c == 0)) ts ≡ true → n ≡ hex_digits (get_or ts 0 0) → n ≤ length (others ts)
    → Some number ≡ cond {A = Option ℕ} (good (take n (others ts))) (Some (hex_number (take n (others ts)))) None
    → (first_meant ts ≡ Some (utf8 number, drop (1 + n) ts)) × IsEscape ts (1 + n)
digits_some [] n number h e l f = let none : false ≡ true = h in absurd cc
digits_some (c ∷ cs) n number h e l f =
    let size = ap length (others_are c cs) in
    let f' : Some number ≡ cond {A = Option ℕ} (good (take n cs)) (Some (hex_number (take n cs))) None = subst (λ xs. Some number ≡ cond {A = Option ℕ} (good (take n xs)) (Some (hex_number (take n xs))) None) (others_are c cs) f in
    let g : Some number ≡ cond {A = Option ℕ} (good (take (hex_digits c) cs)) (Some (hex_number (take (hex_digits c) cs))) None = subst (λ k. Some number ≡ cond {A = Option ℕ} (good (take k cs)) (Some (hex_number (take k cs))) None) e f' in
    let r = if_some {A = ℕ} (good (take (hex_digits c) cs)) (Some (hex_number (take (hex_digits c) cs))) number (sym g) in
    let value : hex_number (take (hex_digits c) cs) ≡ number = some_is (hex_number (take (hex_digits c) cs)) number r.1 in
    let room : nat_le (hex_digits c) (length cs) ≡ true = grind (arith, nat_tests, e, l, size) in
    let says : meant (c ∷ take (hex_digits c) cs) ≡ utf8 number =
    ap (λ b. cond {A = List ℕ} b (meant_byte c) (utf8 (hex_number (take (hex_digits c) cs)))) (not_true (hex_digits c == 0) h) ∙ ap utf8 value in
    let tests : (nat_le (hex_digits c) (length cs) && is_meant c (take (hex_digits c) cs)) ≡ true = ap (λ b. b && is_meant c (take (hex_digits c) cs)) room ∙ (with_digits c (take (hex_digits c) cs) h ∙ r.0) in
    let read : first_meant (c ∷ cs) ≡ Some (utf8 number, drop (hex_digits c) cs) =
    ap (λ b. cond {A = Option (List ℕ × List ℕ)} b (Some (meant (c ∷ take (hex_digits c) cs), drop (hex_digits c) cs)) None) tests
    ∙ ap (λ (xs : List ℕ). Some (xs, drop (hex_digits c) cs)) says in
    let small = digits_small c cs (hex_digits c) (some_digits c h) (and_left (list_all is_hex (take (hex_digits c) cs)) (is_character (hex_number (take (hex_digits c) cs))) r.0) (omega (arith, e, l, size)) in
    let at : hex_digits c ≡ 1 + n - 1 = omega (arith, e) in
    let one : suc n ≡ 1 + n = omega arith in (
      subst (λ (k : ℕ). first_meant (c ∷ cs) ≡ Some (utf8 number, drop k (c ∷ cs))) one (subst (λ (k : ℕ). first_meant (c ∷ cs) ≡ Some (utf8 number, drop k cs)) (sym e) read),
      record {
        in_range = omega (arith, l, size);
        some = omega arith;
        ascii = subst (λ k. get_or (c ∷ cs) k 0 < 128) at small;
      },
    )
