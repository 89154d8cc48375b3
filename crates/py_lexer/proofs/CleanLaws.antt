-- Clean bytes are read as they stand.
use Rattle.std.proofs.Common.{◌≤◌, suc, length, arith, ◌≡◌, ℕ, Bool, true, false, cond, List, [], ◌∷◌, refl, ap, ◌∙◌}
use Rattle.std.specs.Prelude.{not, ◌&&◌, ◌||◌, ◌==◌}
use Rattle.lexical_form.specs.Readable.{ends_mark, is_barred, readable, is_readable}
use Rattle.py_lexer.specs.Clean.{is_odd, is_clean}
use Rattle.lexical_form.proofs.Basics.{and_left, and_right, both, not_true, not_false}

pub record Plainly (ts : List ℕ) : Type 0 where
  pub same : readable ts ≡ ts
  pub whole : is_readable ts ≡ true

or_no : (a b : Bool) → (a || b) ≡ false → (a ≡ false) × (b ≡ false)
or_no true b h = let none : true ≡ false = h in absurd cc
or_no false b h = (refl, h)

pub record Even (c : ℕ) (cs : List ℕ) : Type 0 where
  pub return : (c == 13) ≡ false
  pub barred : is_barred c cs ≡ false

pub even : (c : ℕ) (cs : List ℕ) → is_odd c cs ≡ false → Even c cs
even c cs h =
    let a = or_no ((c == 13) || (c == 12)) ((c == 239) && ends_mark cs) h in
    let b = or_no (c == 13) (c == 12) a.0 in
    record { return = b.0; barred = rw b.0 (rw b.1 a.1) }

pub clean_is : (ts : List ℕ) → is_clean ts ≡ true → Plainly ts
clean_is [] h = record { same = refl; whole = refl }
clean_is (c ∷ cs) h =
    let e = even c cs (not_true (is_odd c cs) (and_left (not (is_odd c cs)) (is_clean cs) h)) in
    let r = clean_is cs (and_right (not (is_odd c cs)) (is_clean cs) h) in
    record {
      same = ap (λ b. cond b [] (cond (c == 13) (readable cs) (c ∷ readable cs))) e.barred ∙ (ap (λ b. cond b (readable cs) (c ∷ readable cs)) e.return ∙ ap (λ xs. c ∷ xs) r.same);
      whole = both (not (is_barred c cs)) (is_readable cs) (not_false (is_barred c cs) e.barred) r.whole;
    }

pub readable_short : (ts : List ℕ) → length (readable ts) ≤ length ts
readable_short [] = omega arith
readable_short (c ∷ cs) = go (is_barred c cs) (c == 13) (readable_short cs)
  where
    go : (a b : Bool) → length (readable cs) ≤ length cs → length (cond a [] (cond b (readable cs) (c ∷ readable cs))) ≤ suc (length cs)
    go true b l = omega arith
    go false true l = omega arith
    go false false l = omega arith
