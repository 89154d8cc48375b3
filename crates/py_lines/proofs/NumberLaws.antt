-- The number that a spelling keeps is the one that the language gives it.
use Rattle.std.proofs.Common.{◌≡◌, ◌∙◌, refl, sym, ap, ℕ, ◌+◌, ◌*◌, ◌-◌, ◌^◌, ◌<◌, nat_lt, Bool, true, false, cond, not, List, [], ◌∷◌, Some, None, ℤ, pos, arith}
use Rattle.std.proofs.lemmas.Bool.Decides.{nat_tests}
use Rattle.std.specs.Prelude.{filter, fold, ◌==◌}
use Rattle.lexical_form.specs.Numbers as lexical
use Rattle.py_tree.specs.Numbers.{value_of}
use Rattle.py_lexer.proofs.NumberLoop.{number_small}

-- the digits among these, and the number that they spell behind those that spell n
abbrev digits : List ℕ → List ℕ
digits cs = filter (λ c. not (c == 95)) cs

abbrev digits_on : ℕ → List ℕ → ℕ
digits_on n ds = fold (λ n digit. 10 * n + (digit - 48)) n ds

abbrev read_on : ℕ → List ℕ → ℕ
read_on n cs = fold (λ n c. cond (c == 95) n (10 * n + (c - 48))) n cs

-- a byte more
step_on : (c : ℕ) (cs : List ℕ) (n : ℕ) (b : Bool) → (c == 95) ≡ b → ((m : ℕ) → read_on m cs ≡ digits_on m (digits cs))
    → read_on n (c ∷ cs) ≡ digits_on n (digits (c ∷ cs))
step_on c cs n b e h =
    ap (λ b. read_on (cond b n (10 * n + (c - 48))) cs) e
    ∙ (go b ∙ sym (ap (λ b. digits_on n (cond (not b) (c ∷ digits cs) (digits cs))) e))
  where
    go : (b : Bool) → read_on (cond b n (10 * n + (c - 48))) cs ≡ digits_on n (cond (not b) (c ∷ digits cs) (digits cs))
    go true = h n
    go false = h (10 * n + (c - 48))

same_on : (cs : List ℕ) (n : ℕ) → read_on n cs ≡ digits_on n (digits cs)
same_on [] n = refl
same_on (c ∷ cs) n = step_on c cs n (c == 95) refl (same_on cs)

pub kept_number : (cs : List ℕ) → lexical.number_of cs ≡ value_of cs
kept_number cs = same_on cs 0

-- what `number` answers is kept
pub kept_by : (cs : List ℕ) (n : ℤ) (b : Bool) → lexical.is_number cs ≡ b → Some n ≡ cond b (Some (pos (lexical.number_of cs))) None → (n ≡ pos (value_of cs)) × (value_of cs < 2 ^ 127)
kept_by cs n true e h =
    let small : nat_lt (lexical.number_of cs) (2 ^ 127) ≡ true = number_small cs e in
    let same = kept_number cs in
    let is : n ≡ pos (lexical.number_of cs) = cc in
    (is ∙ ap (λ m. pos m) same, grind (arith, nat_tests, small, same))
kept_by cs n false e h = let no : Some n ≡ None = h in absurd cc
