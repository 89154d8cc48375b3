-- Where a list of bytes is cut at its first `\n`, and the lines of a text.
use Rattle.std.proofs.Common.{◌≡◌, ℕ, ◌+◌, ◌<◌, ◌≤◌, Bool, true, false, not, cond, eqb, ltb, List, [], ◌∷◌, ◌++◌, length, take, drop, get_or, Some, None, IsTrue, refl, sym, ap, ◌∙◌, arith, length-append, append_assoc, subst}
use Rattle.std.specs.List.{position_or_len, position, prefix_len, list_all}
use Rattle.std.proofs.lemmas.Grind.{common_steps}
use Rattle.std.proofs.lemmas.Bool.{and_parts, and_from, eqb-true, both_ways}
use Rattle.std.proofs.lemmas.List.Concat.{flat_map-append}
use Rattle.std.proofs.lemmas.List.Sums.{split_at_first, passes_at_first, fails_before_first}
use Rattle.py_tree.specs.TextLines.{is_unbroken, text_of}

-- ---- a front before a byte

-- the byte isn't among these
abbrev pub is_without : ℕ → List ℕ → Bool
is_without m = list_all (λ b. not (eqb b m))

without_head : (m c : ℕ) (a : List ℕ) → is_without m (c ∷ a) ≡ true → c ≡ m → ⊥
without_head m c a p e = grind (arith, common_steps)

-- a front without a byte, before that byte, is the only one
pub front_once : (m : ℕ) (a b x y : List ℕ) → is_without m a ≡ true → is_without m b ≡ true → a ++ m ∷ x ≡ b ++ m ∷ y → (a ≡ b) × (x ≡ y)
front_once m [] [] x y p q e = (refl, cc)
front_once m [] (c ∷ b) x y p q e = absurd (without_head m c b q cc)
front_once m (c ∷ a) [] x y p q e = absurd (without_head m c a p cc)
front_once m (c ∷ a) (d ∷ b) x y p q e =
    let tail : a ++ m ∷ x ≡ b ++ m ∷ y = cc in
    let head : c ≡ d = cc in
    let h = front_once m a b x y (and_parts _ _ p).1 (and_parts _ _ q).1 tail in
    (ap (λ (n : ℕ). n ∷ a) head ∙ ap (λ (l : List ℕ). d ∷ l) h.0, h.1)

-- ---- a front before a `\n`

-- no line holds a `\n`
abbrev pub are_unbroken : List (List ℕ) → Bool
are_unbroken = list_all is_unbroken

pub unbroken_head : (c : ℕ) (a : List ℕ) → IsTrue (is_unbroken (c ∷ a)) → c ≡ 10 → ⊥
unbroken_head c a p e = without_head 10 c a p e

-- it is the only one
pub cut_once : (a b x y : List ℕ) → IsTrue (is_unbroken a) → IsTrue (is_unbroken b) → a ++ 10 ∷ x ≡ b ++ 10 ∷ y → (a ≡ b) × (x ≡ y)
cut_once a b x y p q e = front_once 10 a b x y p q e

-- ---- the lines of a text

pub text-append : (xs ys : List (List ℕ)) → text_of (xs ++ ys) ≡ text_of xs ++ text_of ys
text-append xs ys = flat_map-append (λ (l : List ℕ). l ++ 10 ∷ []) xs ys

-- the first line, and what comes after it
pub line_first : (x : List ℕ) (xs : List (List ℕ)) → text_of (x ∷ xs) ≡ x ++ 10 ∷ text_of xs
line_first x xs = append_assoc x (10 ∷ []) (text_of xs)

-- no text with a line is empty
some_text : (x : List ℕ) (xs : List (List ℕ)) → [] ≡ x ++ 10 ∷ text_of xs → ⊥
some_text [] xs e = cc
some_text (b ∷ bs) xs e = cc

-- a text has its lines once
pub lines_once : (xs ys : List (List ℕ)) → IsTrue (are_unbroken xs) → IsTrue (are_unbroken ys) → text_of xs ≡ text_of ys → xs ≡ ys
lines_once [] [] p q e = refl
lines_once [] (y ∷ ys) p q e = absurd (some_text y ys (e ∙ line_first y ys))
lines_once (x ∷ xs) [] p q e = absurd (some_text x xs (sym e ∙ line_first x xs))
lines_once (x ∷ xs) (y ∷ ys) p q e =
    let v = and_parts _ _ p in
    let w = and_parts _ _ q in
    let cut = cut_once x y (text_of xs) (text_of ys) v.0 w.0 (sym (line_first x xs) ∙ (e ∙ line_first y ys)) in
    ap (λ l. l ∷ xs) cut.0 ∙ ap (λ ls. y ∷ ls) (lines_once xs ys v.1 w.1 cut.1)

-- The longer of two lists of lines goes on from the shorter one.
pub record IsFurther (short long : List (List ℕ)) (a b : List ℕ) : Type 0 where
  pub more : List (List ℕ)
  pub parts : long ≡ short ++ more
  pub left : a ≡ text_of more ++ b

-- two lists of lines with which the same bytes begin agree as far as both go
pub agree : (xs ys : List (List ℕ)) (a b : List ℕ) → IsTrue (are_unbroken xs) → IsTrue (are_unbroken ys) → length xs ≤ length ys → text_of xs ++ a ≡ text_of ys ++ b → IsFurther xs ys a b
agree [] ys a b p q n e = record { more = ys; parts = refl; left = e }
agree (x ∷ xs) [] a b p q n e = absurd (omega arith)
agree (x ∷ xs) (y ∷ ys) a b p q n e =
    let v = and_parts _ _ p in
    let w = and_parts _ _ q in
    let cut = cut_once x y (text_of xs ++ a) (text_of ys ++ b) v.0 w.0 (simp append_assoc at e) in
    let further = agree xs ys a b v.1 w.1 (omega arith) cut.1 in
    record {
      more = further.more;
      parts = ap (λ (l : List (List ℕ)). y ∷ l) further.parts ∙ ap (λ (l : List ℕ). l ∷ (xs ++ further.more)) (sym cut.0);
      left = further.left;
    }

-- ---- the first `\n`

take_first : (n : ℕ) (x : ℕ) (xs : List ℕ) → take (1 + n) (x ∷ xs) ≡ x ∷ take n xs
take_first n x xs = grind (arith, common_steps)

front_by : (q : ℕ → Bool) (x : ℕ) (xs : List ℕ) (n : ℕ) (b : Bool) → q x ≡ b → list_all q (take n xs) ≡ true → list_all q (take (cond b (1 + n) 0) (x ∷ xs)) ≡ true
front_by q x xs n true h rest = rw take_first (and_from _ _ h rest)
front_by q x xs n false h rest = refl

-- the front that passes a test
front_passes : (q : ℕ → Bool) (xs : List ℕ) → list_all q (take (prefix_len q xs) xs) ≡ true
front_passes q [] = refl
front_passes q (x ∷ xs) = front_by q x xs (prefix_len q xs) (q x) refl (front_passes q xs)

some_place : (n m i : ℕ) → cond (ltb n m) (Some n) None ≡ Some i → (n ≡ i) × (n < m)
some_place n m i h = grind (arith, common_steps)

no_place : (n m : ℕ) → cond (ltb n m) (Some n) None ≡ None → m ≤ n
no_place n m h = grind (arith, common_steps)

-- at the first `\n`
pub record IsCut (xs : List ℕ) (i : ℕ) : Type 0 where
  pub fits : i < length xs
  pub unbroken : IsTrue (is_unbroken (take i xs))
  pub parts : xs ≡ take i xs ++ 10 ∷ drop (i + 1) xs

cut_first : (xs : List ℕ) → position_or_len (λ b. eqb b 10) xs < length xs → IsCut xs (position_or_len (λ b. eqb b 10) xs)
cut_first xs h =
    let p : ℕ → Bool = λ b. eqb b 10 in
    let ten : get_or xs (position_or_len p xs) 0 ≡ 10 = eqb-true _ _ (passes_at_first p xs 0 h) in
    record {
      fits = h;
      unbroken = front_passes (λ b. not (eqb b 10)) xs;
      parts = rw ten at (split_at_first p xs 0 h);
    }

pub cut_at : (xs : List ℕ) (i : ℕ) → Some i ≡ position (λ b. eqb b 10) xs → IsCut xs i
cut_at xs i h =
    let p : ℕ → Bool = λ b. eqb b 10 in
    let w = some_place (position_or_len p xs) (length xs) i (sym h) in
    let P : ℕ → Type 0 = λ n. IsCut xs n in
    subst P w.0 (cut_first xs w.1)

middle : (text after : List ℕ) → get_or (text ++ 10 ∷ after) (length text) 0 ≡ 10
middle text after = grind (arith, common_steps)

pub no_cut : (xs text after : List ℕ) → None ≡ position (λ b. eqb b 10) xs → xs ≡ text ++ 10 ∷ after → ⊥
no_cut xs text after h e =
    let p : ℕ → Bool = λ b. eqb b 10 in
    let longer = no_place (position_or_len p xs) (length xs) (sym h) in
    let size : length xs ≡ length text + length (10 ∷ after) = rw e (length-append text (10 ∷ after)) in
    let before : length text < position_or_len p xs = omega arith in
    let fails = fails_before_first p xs (length text) 0 before in
    let ten : get_or xs (length text) 0 ≡ 10 = rw e (middle text after) in
    both_ways _ fails (rw ten refl)
