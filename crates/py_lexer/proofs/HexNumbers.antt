-- Numbers grow with each further digit.
use Rattle.std.proofs.Common.{◌≡◌, ℕ, zero, suc, ◌+◌, ◌*◌, ◌≤◌, ◌<◌, true, false, List, [], ◌∷◌, drop, length, get_or, refl, arith}
use Rattle.std.specs.Prelude.{fold}
use Rattle.std.specs.List.{list_all}
use Rattle.std.proofs.lemmas.Bool.Decides.{nat_tests}
use Rattle.lexical_form.specs.Bytes.{is_hex, hex_digit, is_character}
use Rattle.lexical_form.proofs.Basics.{and_left, and_right}

abbrev pub hex_step : ℕ → ℕ → ℕ
hex_step n c = 16 * n + hex_digit c

grows : (n : ℕ) (cs : List ℕ) → n ≤ fold hex_step n cs
grows n [] = omega arith
grows n (c ∷ cs) = omega (arith, grows (16 * n + hex_digit c) cs)

pub too_great : (n : ℕ) (cs : List ℕ) (all : ℕ) → fold hex_step n cs ≡ all → 1114112 ≤ n → is_character all ≡ false
too_great n cs all e l = let g = grows n cs in let m : 1114112 ≤ all = omega arith in grind (arith, nat_tests)

pub one_digit : (cs : List ℕ) (i j n : ℕ) → j ≡ i + 1 → i < length cs → fold hex_step n (drop i cs) ≡ fold hex_step (hex_step n (get_or cs i 0)) (drop j cs)
one_digit [] i j n e l = absurd (omega (arith, l))
one_digit (c ∷ cs) zero j n e l = let k : j ≡ 1 = omega arith in rw k refl
one_digit (c ∷ cs) (suc i) j n e l = let k : j ≡ suc (i + 1) = omega arith in rw k (one_digit cs i (i + 1) n refl (omega (arith, l)))

pub hex_at : (cs : List ℕ) (i : ℕ) → list_all is_hex cs ≡ true → i < length cs → is_hex (get_or cs i 0) ≡ true
hex_at [] i h l = absurd (omega (arith, l))
hex_at (c ∷ cs) zero h l = and_left (is_hex c) (list_all is_hex cs) h
hex_at (c ∷ cs) (suc i) h l = hex_at cs i (and_right (is_hex c) (list_all is_hex cs) h) (omega (arith, l))
