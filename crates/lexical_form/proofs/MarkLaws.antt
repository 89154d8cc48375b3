-- The longest mark at the front is what is read there.
use Rattle.std.proofs.Common.{◌≡◌, ℕ, ◌≤◌, Bool, true, false, cond, List, [], ◌∷◌, ◌++◌, length, take, drop, Some, None, refl, sym, ap, subst, ◌∙◌, append_assoc, length-append, arith}
use Rattle.std.specs.Prelude.{not, ◌==◌, ◌&&◌}
use Rattle.std.proofs.lemmas.List.{take-append-drop, length-take}
use Rattle.py_tree.specs.Names.{continues_name}
use Rattle.lexical_form.specs.Bytes.{is_quote, starts}
use Rattle.lexical_form.specs.Reading.{Read}
use Rattle.lexical_form.specs.Marks.{is_mark, marks}
use Rattle.lexical_form.specs.MarkReader.{mark_at}
use Rattle.lexical_form.proofs.Basics.{not_true}
use Rattle.lexical_form.proofs.Among.{among_all}

-- with its first byte the rest makes a longer mark
abbrev pub extends : List ℕ → List ℕ → Bool
extends t [] = false
extends t (c ∷ cs) = is_mark (t ++ c ∷ [])

-- what holds of each mark: one to three bytes; of three bytes the first is `/`; the first byte begins no other token
abbrev short : List ℕ → Bool
short [] = false
short (a ∷ []) = not (a == 47)
short (a ∷ b ∷ []) = true
short (a ∷ b ∷ c ∷ []) = a == 47
short (a ∷ b ∷ c ∷ d ∷ ds) = false

abbrev pub begins_mark : ℕ → Bool
begins_mark c = not (continues_name c) && not (is_quote c) && not (c == 32) && not (c == 9) && not (c == 10) && not (c == 35)

mark_short : (m : List ℕ) → is_mark m ≡ true → short m ≡ true
mark_short m h = among_all short m marks refl h

pub mark_begins : (m : List ℕ) → is_mark m ≡ true → starts begins_mark m ≡ true
mark_begins m h = among_all (starts begins_mark) m marks refl h

-- three bytes that are no mark, as the first is one
no_three : (a b c : ℕ) → is_mark (a ∷ []) ≡ true → (t : Bool) → is_mark (a ∷ b ∷ c ∷ []) ≡ t → is_mark (a ∷ b ∷ c ∷ []) ≡ false
no_three a b c h false e = e
no_three a b c h true e =
    let one : not (a == 47) ≡ true = mark_short (a ∷ []) h in
    let three : (a == 47) ≡ true = mark_short (a ∷ b ∷ c ∷ []) e in
    absurd (let clash = not_true (a == 47) one in cc)

-- a mark that the rest doesn't make longer
pub mark_only : (m rest : List ℕ) → is_mark m ≡ true → extends m rest ≡ false → mark_at (m ++ rest) ≡ Some (m, rest)
mark_only [] rest h e = let none : false ≡ true = h in absurd cc
mark_only (a ∷ []) [] h e = rw h refl
mark_only (a ∷ []) (b ∷ []) h e = rw e (rw h refl)
mark_only (a ∷ []) (b ∷ c ∷ cs) h e = rw (no_three a b c h (is_mark (a ∷ b ∷ c ∷ [])) refl) (rw e (rw h refl))
mark_only (a ∷ b ∷ []) [] h e = rw h refl
mark_only (a ∷ b ∷ []) (c ∷ cs) h e = rw e (rw h refl)
mark_only (a ∷ b ∷ c ∷ []) rest h e = rw h refl
mark_only (a ∷ b ∷ c ∷ d ∷ ds) rest h e = let none : false ≡ true = mark_short (a ∷ b ∷ c ∷ d ∷ ds) h in absurd cc

pub record MarkFound (ts m rest : List ℕ) : Type 0 where
  pub is : is_mark m ≡ true
  pub front : ts ≡ m ++ rest
  pub longest : (u after : List ℕ) → is_mark u ≡ true → ts ≡ u ++ after → length u ≤ length m

-- so long a mark would have been taken
taken_3 : (ts u after : List ℕ) → is_mark u ≡ true → ts ≡ u ++ after → length u ≤ length (take 3 ts)
taken_3 ts [] after h e = omega arith
taken_3 ts (a ∷ []) after h e = omega (arith, length-take 3 ts, ap length e)
taken_3 ts (a ∷ b ∷ []) after h e = omega (arith, length-take 3 ts, ap length e)
taken_3 ts (a ∷ b ∷ c ∷ []) after h e = omega (arith, length-take 3 ts, ap length e)
taken_3 ts (a ∷ b ∷ c ∷ d ∷ ds) after h e = let none : false ≡ true = mark_short (a ∷ b ∷ c ∷ d ∷ ds) h in absurd cc

taken_2 : (ts u after : List ℕ) → is_mark u ≡ true → ts ≡ u ++ after → is_mark (take 3 ts) ≡ false → length u ≤ length (take 2 ts)
taken_2 ts [] after h e n = omega arith
taken_2 ts (a ∷ []) after h e n = omega (arith, length-take 2 ts, ap length e)
taken_2 ts (a ∷ b ∷ []) after h e n = omega (arith, length-take 2 ts, ap length e)
taken_2 ts (a ∷ b ∷ c ∷ []) after h e n = let yes : is_mark (take 3 ts) ≡ true = ap (λ x. is_mark (take 3 x)) e ∙ h in absurd cc
taken_2 ts (a ∷ b ∷ c ∷ d ∷ ds) after h e n = let none : false ≡ true = mark_short (a ∷ b ∷ c ∷ d ∷ ds) h in absurd cc

taken_1 : (ts u after : List ℕ) → is_mark u ≡ true → ts ≡ u ++ after → is_mark (take 3 ts) ≡ false → is_mark (take 2 ts) ≡ false → length u ≤ length (take 1 ts)
taken_1 ts [] after h e n k = omega arith
taken_1 ts (a ∷ []) after h e n k = omega (arith, length-take 1 ts, ap length e)
taken_1 ts (a ∷ b ∷ []) after h e n k = let yes : is_mark (take 2 ts) ≡ true = ap (λ x. is_mark (take 2 x)) e ∙ h in absurd cc
taken_1 ts (a ∷ b ∷ c ∷ []) after h e n k = let yes : is_mark (take 3 ts) ≡ true = ap (λ x. is_mark (take 3 x)) e ∙ h in absurd cc
taken_1 ts (a ∷ b ∷ c ∷ d ∷ ds) after h e n k = let none : false ≡ true = mark_short (a ∷ b ∷ c ∷ d ∷ ds) h in absurd cc

abbrev pub Found : List ℕ → Read (List ℕ) → Type 0
Found ts None = (u after : List ℕ) → is_mark u ≡ true → ts ≡ u ++ after → ⊥
Found ts (Some p) = MarkFound ts p.0 p.1

try_1 : (ts : List ℕ) (b : Bool) → is_mark (take 1 ts) ≡ b → is_mark (take 3 ts) ≡ false → is_mark (take 2 ts) ≡ false → Found ts (cond b (Some (take 1 ts, drop 1 ts)) None)
try_1 ts true e n k = record { is = e; front = sym (take-append-drop 1 ts); longest = λ u after h f. taken_1 ts u after h f n k }
try_1 ts false e n k = λ u after h f. never u after h f
  where
    never : (u after : List ℕ) → is_mark u ≡ true → ts ≡ u ++ after → ⊥
    never [] after h f = let none : false ≡ true = h in cc
    never (a ∷ []) after h f = let yes : is_mark (take 1 ts) ≡ true = ap (λ x. is_mark (take 1 x)) f ∙ h in cc
    never (a ∷ b ∷ cs) after h f = let l = taken_1 ts (a ∷ b ∷ cs) after h f n k in let m = length-take 1 ts in omega arith

try_2 : (ts : List ℕ) (b : Bool) → is_mark (take 2 ts) ≡ b → is_mark (take 3 ts) ≡ false
    → Found ts (cond b (Some (take 2 ts, drop 2 ts)) (cond (is_mark (take 1 ts)) (Some (take 1 ts, drop 1 ts)) None))
try_2 ts true e n = record { is = e; front = sym (take-append-drop 2 ts); longest = λ u after h f. taken_2 ts u after h f n }
try_2 ts false e n = try_1 ts (is_mark (take 1 ts)) refl n e

try_3 : (ts : List ℕ) (b : Bool) → is_mark (take 3 ts) ≡ b → Found ts (cond b (Some (take 3 ts, drop 3 ts))
    (cond (is_mark (take 2 ts)) (Some (take 2 ts, drop 2 ts)) (cond (is_mark (take 1 ts)) (Some (take 1 ts, drop 1 ts)) None)))
try_3 ts true e = record { is = e; front = sym (take-append-drop 3 ts); longest = λ u after h f. taken_3 ts u after h f }
try_3 ts false e = try_2 ts (is_mark (take 2 ts)) refl e

pub mark_decides : (ts : List ℕ) → Found ts (mark_at ts)
mark_decides ts = try_3 ts (is_mark (take 3 ts)) refl

pub mark_found : (ts m rest : List ℕ) → mark_at ts ≡ Some (m, rest) → MarkFound ts m rest
mark_found ts m rest e = subst (Found ts) e (mark_decides ts)

-- the longest mark has no longer one in front of it
pub longest_not_extended : (ts m rest : List ℕ) → MarkFound ts m rest → extends m rest ≡ false
longest_not_extended ts m [] f = refl
longest_not_extended ts m (c ∷ cs) f = go (is_mark (m ++ c ∷ [])) refl
  where
    go : (b : Bool) → is_mark (m ++ c ∷ []) ≡ b → is_mark (m ++ c ∷ []) ≡ false
    go false e = e
    go true e =
        let front : ts ≡ (m ++ c ∷ []) ++ cs = f.front ∙ sym (append_assoc m (c ∷ []) cs) in
        let l = f.longest (m ++ c ∷ []) cs e front in
        absurd (omega (arith, l, length-append m (c ∷ [])))
