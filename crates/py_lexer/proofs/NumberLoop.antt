-- Numbers grow with each further digit.
use Rattle.std.proofs.Common.{◌≡◌, ℕ, zero, suc, ◌+◌, ◌-◌, ◌*◌, ◌^◌, ◌≤◌, ◌<◌, Bool, true, false, cond, List, [], ◌∷◌, drop, length, get_or, Some, None, refl, arith}
use Rattle.std.specs.Prelude.{fold, not, ◌&&◌, ◌==◌, nat_lt, nat_le}
use Rattle.std.proofs.lemmas.Bool.Decides.{nat_tests}
use Rattle.py_tree.specs.Names.{is_digit}
use Rattle.lexical_form.specs.Numbers.{is_number, number_of, are_digits}
use Rattle.lexical_form.proofs.Basics.{and_right}
use Rattle.py_lexer.specs.Digits.{with_digit}

abbrev pub number_step : ℕ → ℕ → ℕ
number_step n c = cond (c == 95) n (10 * n + (c - 48))

step_grows : (n c : ℕ) → n ≤ number_step n c
step_grows n c = go (c == 95)
  where
    go : (b : Bool) → n ≤ cond b n (10 * n + (c - 48))
    go true = omega arith
    go false = omega arith

grows : (n : ℕ) (cs : List ℕ) → n ≤ fold number_step n cs
grows n [] = omega arith
grows n (c ∷ cs) = omega (arith, step_grows n c, grows (number_step n c) cs)

one_byte : (cs : List ℕ) (i n : ℕ) → i < length cs → number_step n (get_or cs i 0) ≤ fold number_step n (drop i cs)
one_byte [] i n l = absurd (omega (arith, l))
one_byte (c ∷ cs) zero n l = grows (number_step n c) cs
one_byte (c ∷ cs) (suc i) n l = one_byte cs i n (omega (arith, l))

no_digit : (n c : ℕ) (a b : Bool) → (c == 95) ≡ a → nat_lt 17014118346046923173168730371588410572 n ≡ b → cond a (Some n) (cond b None (Some (10 * n + (c - 48)))) ≡ None → 170141183460469231731687303715884105728 ≤ number_step n c
no_digit n c true b e f h = let none : Some n ≡ None = h in absurd cc
no_digit n c false false e f h = let none : Some (10 * n + (c - 48)) ≡ None = h in absurd cc
no_digit n c false true e f h = let l : 17014118346046923173168730371588410572 < n = grind (arith, nat_tests) in rw e (omega arith)

pub too_great : (bytes : List ℕ) (i n all : ℕ) → i < length bytes → fold number_step n (drop i bytes) ≡ all → with_digit n (get_or bytes i 0) ≡ None → None ≡ cond (nat_lt all (2 ^ 127)) (Some all) None
too_great bytes i n all l e h =
    let c = get_or bytes i 0 in
    let more = no_digit n (get_or bytes i 0) (get_or bytes i 0 == 95) (nat_lt 17014118346046923173168730371588410572 n) refl refl h in
    let m = one_byte bytes i n l in
    let k : 170141183460469231731687303715884105728 ≤ all = omega (arith, more, m, e) in
    let no : nat_lt all (2 ^ 127) ≡ false = grind (arith, nat_tests) in
    rw no refl

pub beyond : (n : ℕ) (cs : List ℕ) (all : ℕ) → fold number_step n cs ≡ all → 200 < n → None ≡ cond (nat_le all 200) (Some all) None
beyond n cs all e l =
    let g = grows n cs in
    let k : 200 < all = omega (arith, g, e, l) in
    let false_test : nat_le all 200 ≡ false = grind (arith, nat_tests) in
    rw false_test refl

-- a number is in its range
pub number_small : (cs : List ℕ) → is_number cs ≡ true → nat_lt (number_of cs) (2 ^ 127) ≡ true
number_small [] h = let none : false ≡ true = h in absurd cc
number_small (c ∷ []) h = one (c == 95) refl
  where
    one : (b : Bool) → (c == 95) ≡ b → nat_lt (cond b 0 (10 * 0 + (c - 48))) (2 ^ 127) ≡ true
    one true e = refl
    one false e = let digit : is_digit c ≡ true = h in grind (arith, nat_tests, digit)
number_small (c ∷ d ∷ ds) h = and_right (are_digits false (c ∷ d ∷ ds) && not (c == 48)) (nat_lt (number_of (c ∷ d ∷ ds)) (2 ^ 127)) h
