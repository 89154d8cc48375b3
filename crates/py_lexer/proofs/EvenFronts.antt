-- The text of a file, from one odd byte to the next.
use Rattle.std.proofs.Common.{◌≡◌, ℕ, suc, ◌≤◌, ◌<◌, Bool, true, false, cond, List, [], ◌∷◌, ◌++◌, length, take, drop, refl, sym, ap, subst, ◌∙◌, append-nil, arith}
use Rattle.std.specs.Prelude.{not, ◌&&◌, ◌||◌, ◌==◌, ⊤}
use Rattle.std.specs.Str.{IsCharBoundary}
use Rattle.std.proofs.lemmas.List.{length-drop}
use Rattle.std.proofs.lemmas.Bool.Decides.{nat_tests}
use Rattle.lexical_form.specs.Readable.{ends_mark, starts_end, readable}
use Rattle.py_lexer.specs.Clean.{is_odd, even_len, even_front, starts_return}
use Rattle.lexical_form.proofs.Basics.{and_left, and_right}
use Rattle.py_lexer.proofs.CleanLaws.{even}

-- what is even is read as it stands
pub front_read : (ts : List ℕ) → readable ts ≡ even_front ts ++ readable (drop (even_len ts) ts)
front_read [] = refl
front_read (c ∷ cs) = go (is_odd c cs) refl (front_read cs)
  where
    go : (b : Bool) → is_odd c cs ≡ b → readable cs ≡ even_front cs ++ readable (drop (even_len cs) cs) → readable (c ∷ cs) ≡ take (cond b 0 (suc (even_len cs))) (c ∷ cs) ++ readable (drop (cond b 0 (suc (even_len cs))) (c ∷ cs))
    go true e r = refl
    go false e r =
        let h = even c cs e in
        ap (λ b. cond b [] (cond (c == 13) (readable cs) (c ∷ readable cs))) h.barred ∙ (ap (λ b. cond b (readable cs) (c ∷ readable cs)) h.return ∙ ap (λ xs. c ∷ xs) r)

-- then comes something odd, or nothing
abbrev pub Stops : List ℕ → Type 0
Stops [] = ⊤
Stops (c ∷ cs) = is_odd c cs ≡ true

pub stops : (ts : List ℕ) → Stops (drop (even_len ts) ts)
stops [] = tt
stops (c ∷ cs) = go (is_odd c cs) refl (stops cs)
  where
    go : (b : Bool) → is_odd c cs ≡ b → Stops (drop (even_len cs) cs) → Stops (drop (cond b 0 (suc (even_len cs))) (c ∷ cs))
    go true e h = e
    go false e h = h

barred_is : (a b d e : Bool) → (a || b || d) ≡ true → (a && e) ≡ false → (a && not e || b || d) ≡ true
barred_is true b d true h k = let none : true ≡ false = k in absurd cc
barred_is true b d false h k = refl
barred_is false b d e h k = h

-- where that is no `\r\n`, nothing more is read
pub stop_read : (ds : List ℕ) → Stops ds → starts_return ds ≡ false → readable ds ≡ []
stop_read [] h k = refl
stop_read (c ∷ cs) h k =
    ap (λ b. cond b [] (cond (c == 13) (readable cs) (c ∷ readable cs))) (barred_is (c == 13) (c == 12) ((c == 239) && ends_mark cs) (starts_end cs) h k)

-- and of a `\r\n` what is behind its `\r`
pub return_read : (ds : List ℕ) → starts_return ds ≡ true → readable ds ≡ readable (drop 1 ds)
return_read [] h = refl
return_read (c ∷ cs) h =
    let return : (c == 13) ≡ true = and_left (c == 13) (starts_end cs) h in
    let ends : starts_end cs ≡ true = and_right (c == 13) (starts_end cs) h in
    let twelve : (c == 12) ≡ false = grind (arith, nat_tests, return) in
    let mark : (c == 239) ≡ false = grind (arith, nat_tests, return) in
    rw return (rw ends (rw twelve (rw mark refl)))

return_some : (ds : List ℕ) → starts_return ds ≡ true → 1 ≤ length ds
return_some [] h = let none : false ≡ true = h in absurd cc
return_some (c ∷ cs) h = omega arith

-- ---- for the code
odd_high : (c : ℕ) (a : Bool) → ((c == 13) || (c == 12) || (c == 239) && a) ≡ true → 128 ≤ c → 192 ≤ c
odd_high c true h l = grind (arith, nat_tests, h)
odd_high c false h l = grind (arith, nat_tests, h)

boundary : (ts : List ℕ) → IsCharBoundary ts (even_len ts)
boundary [] = (omega arith, λ l. absurd (omega (arith, l)))
boundary (c ∷ cs) = go (is_odd c cs) refl (boundary cs)
  where
    go : (b : Bool) → is_odd c cs ≡ b → IsCharBoundary cs (even_len cs) → IsCharBoundary (c ∷ cs) (cond b 0 (suc (even_len cs)))
    go true e h = (omega arith, λ l high. odd_high c (ends_mark cs) e high)
    go false e h = (omega (arith, h.0), λ l high. h.1 (omega (arith, l)) high)

-- the text may be cut there
pub even_boundary : (ts : List ℕ) (n : ℕ) → n ≡ even_len ts → IsCharBoundary ts n
even_boundary ts n e = subst (IsCharBoundary ts) (sym e) (boundary ts)

pub no_return : (ts : List ℕ) → starts_return (drop (even_len ts) ts) ≡ false → readable ts ≡ even_front ts
no_return ts h = front_read ts ∙ (ap (λ xs. even_front ts ++ xs) (stop_read (drop (even_len ts) ts) (stops ts) h) ∙ append-nil (even_front ts))

pub at_return : (ts behind : List ℕ) → starts_return (drop (even_len ts) ts) ≡ true → behind ≡ drop 1 (drop (even_len ts) ts)
    → (readable ts ≡ even_front ts ++ readable behind) × (length behind < length ts)
at_return ts behind h e =
    let some = return_some (drop (even_len ts) ts) h in
    let first = length-drop (even_len ts) ts in
    let second = length-drop 1 (drop (even_len ts) ts) in
    let size = ap length e in (
      front_read ts ∙ ap (λ xs. even_front ts ++ xs) (return_read (drop (even_len ts) ts) h ∙ ap readable (sym e)),
      omega (arith, some, first, second, size),
    )
