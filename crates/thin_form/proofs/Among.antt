-- Which lines some bytes have.
use Rattle.std.proofs.Common.{◌≡◌, inl, inr, ℕ, Bool, true, false, not, ◌&&◌, ◌||◌, eqb, IsTrue, List, [], ◌∷◌, ◌++◌, refl, sym, ◌∙◌, subst, append_assoc}
use Rattle.std.specs.List.{list_any}
use Rattle.std.specs.Str.{bytes_eq}
use Rattle.std.proofs.lemmas.Bool.{and_parts, or_cases, or_left, or_right, false≢true}
use Rattle.std.proofs.lemmas.List.Folds.{list_all-append, list_any-append}
use Rattle.std.proofs.lemmas.Slice.Eq.{bytes_eq-Decides}
use Rattle.py_tree.specs.TextLines.{is_unbroken, text_of}
use Rattle.py_tree.proofs.Breaks.{are_unbroken}
use Rattle.py_tree.proofs.NamesOf.{name_of}
use Rattle.thin_form.proofs.HasLines.{first_or_later, has_later, lineless}
use Rattle.thin_form.proofs.HasLines as lines
use Rattle.form_meaning.specs.Fails.{HasLine}

pub equal_bytes : (x y : List ℕ) → x ≡ y → bytes_eq x y ≡ true
equal_bytes x y e = let d = bytes_eq-Decides x y in d.1 e

-- ---- the lines among which a line stands

abbrev pub has : List ℕ → List (List ℕ) → Bool
has line lines = list_any (λ (l : List ℕ). bytes_eq l line) lines

pub has-append : (line : List ℕ) (xs ys : List (List ℕ)) → has line (xs ++ ys) ≡ (has line xs || has line ys)
has-append line xs ys = list_any-append (λ (l : List ℕ). bytes_eq l line) xs ys

pub has_left : (line : List ℕ) (xs ys : List (List ℕ)) → IsTrue (has line xs) → IsTrue (has line (xs ++ ys))
has_left line xs ys h = has-append line xs ys ∙ or_left _ _ h

pub has_right : (line : List ℕ) (xs ys : List (List ℕ)) → IsTrue (has line ys) → IsTrue (has line (xs ++ ys))
has_right line xs ys h = has-append line xs ys ∙ or_right _ _ h

pub has_first : (line : List ℕ) (xs : List (List ℕ)) → IsTrue (has line (line ∷ xs))
has_first line xs = or_left _ _ (equal_bytes line line refl)

-- ---- the lines of bytes

cut_first : (y : List ℕ) (ys : List (List ℕ)) (rest : List ℕ) → text_of (y ∷ ys) ++ rest ≡ y ++ 10 ∷ (text_of ys ++ rest)
cut_first y ys rest = simp append_assoc

-- bytes with no `\n`
no_break : (rest line after : List ℕ) → IsTrue (is_unbroken rest) → rest ≡ line ++ 10 ∷ after → ⊥
no_break rest line after p e =
    let w : (is_unbroken line && is_unbroken (10 ∷ after)) ≡ true = sym (list_all-append (λ b. not (eqb b 10)) line (10 ∷ after)) ∙ rw e at p in
    false≢true (and_parts (is_unbroken line) false w).1

-- a line that the bytes have is one of their lines
pub has_line : (line : List ℕ) (ys : List (List ℕ)) (rest : List ℕ) → IsTrue (is_unbroken line) → IsTrue (are_unbroken ys) → IsTrue (is_unbroken rest) → HasLine (text_of ys ++ rest) line → IsTrue (has line ys)
has_line line [] rest p q u h = absurd (lineless rest line (λ l after e. no_break rest l after u e) h)
has_line line (y ∷ ys) rest p q u h =
    let w = and_parts _ _ q in
    let P : List ℕ → Type 0 = λ bytes. HasLine bytes line in
    elim (first_or_later y (text_of ys ++ rest) line w.0 p (subst P (cut_first y ys rest) h)) as (λ _. IsTrue (bytes_eq y line || has line ys)) [
      | inl same ↦ or_left _ _ (equal_bytes y line same)
      | inr later ↦ or_right _ _ (has_line line ys rest p w.1 u later)
    ]

pub line_has : (line : List ℕ) (ys : List (List ℕ)) (rest : List ℕ) → IsTrue (has line ys) → HasLine (text_of ys ++ rest) line
line_has line [] rest h = absurd (false≢true h)
line_has line (y ∷ ys) rest h =
    let P : List ℕ → Type 0 = λ bytes. HasLine bytes line in
    let F : List ℕ → Type 0 = λ l. HasLine (y ++ 10 ∷ (text_of ys ++ rest)) l in
    subst P (sym (cut_first y ys rest)) (elim (or_cases (bytes_eq y line) (has line ys) h) as (λ _. HasLine (y ++ 10 ∷ (text_of ys ++ rest)) line) [
      | inl e ↦ subst F (name_of y line e) (lines.has_first y (text_of ys ++ rest))
      | inr more ↦ has_later y (text_of ys ++ rest) line (line_has line ys rest more)
    ])
