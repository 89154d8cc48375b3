-- What stands for a byte in the literal of a text.
use Rattle.std.proofs.Common.{◌≡◌, ◌∙◌, ap, sym, ℕ, ◌+◌, ◌-◌, ◌<◌, true, false, List, [], ◌∷◌, ◌++◌, arith, cond, length, take, drop, get_or}
use Rattle.std.proofs.lemmas.Bool.Decides.{nat_tests}
use Rattle.std.specs.Prelude.{flat_map}
use Rattle.py_value.specs.Quoted.{is_escaped, escape_of, escaped_byte}
use Rattle.py_value.proofs.EscapeRuns.{run_written}

-- a byte that needs no escape stands for itself
pub plain : (q x : ℕ) → is_escaped q x ≡ false → escaped_byte q x ≡ x ∷ []
plain q x h = ap (λ b. cond b (escape_of x) (x ∷ [])) h

-- only a byte of ASCII has an escape
pub escaped_ascii : (q x : ℕ) → q < 128 → is_escaped q x ≡ true → x < 128
escaped_ascii q x small h = grind (arith, nat_tests)

-- the run is written, and then the escape of the next byte
pub escape_written : (q x : ℕ) (before run after old text : List ℕ) (start i : ℕ) → i < length text → x ≡ get_or text i 0 → is_escaped q x ≡ true
    → run ≡ before ++ take (i - start) (drop start text) → after ≡ run ++ escape_of x
    → before ++ take (i - start) (drop start text) ≡ old ++ flat_map (escaped_byte q) (take i text)
    → after ≡ old ++ flat_map (escaped_byte q) (take (i + 1) text)
escape_written q x before run after old text start i h is test first then e =
    let here : escape_of x ≡ escaped_byte q (get_or text i 0) = ap (λ b. cond b (escape_of x) (x ∷ [])) (sym test) ∙ ap (escaped_byte q) is in
    then ∙ ap (λ z. run ++ z) here ∙ ap (λ z. z ++ escaped_byte q (get_or text i 0)) first ∙ run_written (escaped_byte q) before old text start i h e
