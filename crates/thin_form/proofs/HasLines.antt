-- The lines of bytes, from the first one on.
use Rattle.std.proofs.Common.{◌≡◌, ◌⊎◌, inl, inr, ℕ, List, [], ◌∷◌, ◌++◌, IsTrue, sym, ap, ◌∙◌, append_assoc, append-nil}
use Rattle.std.proofs.lemmas.Bool.{and_parts}
use Rattle.py_tree.specs.TextLines.{is_unbroken, text_of}
use Rattle.form_meaning.specs.Fails.{HasLine}
use Rattle.py_tree.proofs.Breaks.{cut_once, unbroken_head}

-- no line ends in these bytes
abbrev pub IsLineless : List ℕ → Type 0
IsLineless bytes = (line rest : List ℕ) → bytes ≡ line ++ 10 ∷ rest → ⊥

-- a front that ends past the first line
record EndsLater (line after front back : List ℕ) : Type 0 where
  more : List ℕ
  begun : front ≡ line ++ 10 ∷ more
  left : after ≡ more ++ 10 ∷ back

abbrev Ends : (line after front back : List ℕ) → Type 0
Ends line after front back = (after ≡ back) ⊎ EndsLater line after front back

longer : (c d : ℕ) (line after front back : List ℕ) → c ≡ d → Ends line after front back → Ends (c ∷ line) after (d ∷ front) back
longer c d line after front back e (inl h) = inl h
longer c d line after front back e (inr h) = inr (record {
  more = h.more;
  begun = ap (λ n. n ∷ front) (sym e) ∙ ap (λ l. c ∷ l) h.begun;
  left = h.left;
})

-- a front before a `\n` ends with the first line, or past it
ends : (line after front back : List ℕ) → IsTrue (is_unbroken line) → line ++ 10 ∷ after ≡ front ++ 10 ∷ back → Ends line after front back
ends [] after [] back p e = inl (cc)
ends [] after (d ∷ front) back p e =
    let head : d ≡ 10 = cc in
    inr (record { more = front; begun = ap (λ n. n ∷ front) head; left = cc })
ends (c ∷ line) after [] back p e = absurd (unbroken_head c line p cc)
ends (c ∷ line) after (d ∷ front) back p e =
    let head : c ≡ d = cc in
    let tail : line ++ 10 ∷ after ≡ front ++ 10 ∷ back = cc in
    longer c d line after front back head (ends line after front back (and_parts _ _ p).1 tail)

pub has_first : (line after : List ℕ) → HasLine (line ++ 10 ∷ after) line
has_first line after = ([], after, simp (append-nil, append_assoc))

pub has_later : (line after other : List ℕ) → HasLine after other → HasLine (line ++ 10 ∷ after) other
has_later line after other h = (line ∷ h.0, h.1, ap (λ t. line ++ 10 ∷ t) h.2 ∙ simp append_assoc)

-- what stands behind the lines before a line
behind : (before : List (List ℕ)) (line rest : List ℕ) → (text_of before ++ text_of (line ∷ [])) ++ rest ≡ (text_of before ++ line) ++ 10 ∷ rest
behind before line rest = simp (append-nil, append_assoc)

later_line : (line after first : List ℕ) (before : List (List ℕ)) (other rest : List ℕ) → EndsLater line after first ((text_of before ++ other) ++ 10 ∷ rest)
    → HasLine after other
later_line line after first before other rest h =
    (h.more ∷ before, rest, h.left ∙ simp (append-nil, append_assoc))

front_kinds : (line after first : List ℕ) (before : List (List ℕ)) (other rest : List ℕ) → after ≡ (text_of before ++ other) ++ 10 ∷ rest ⊎ EndsLater line after first ((text_of before ++ other) ++ 10 ∷ rest)
    → HasLine after other
front_kinds line after first before other rest (inl e) = (before, rest, e ∙ sym (behind before other rest))
front_kinds line after first before other rest (inr h) = later_line line after first before other rest h

-- a line is the first one, or comes later
pub first_or_later : (line after other : List ℕ) → IsTrue (is_unbroken line) → IsTrue (is_unbroken other) → HasLine (line ++ 10 ∷ after) other
    → (line ≡ other) ⊎ HasLine after other
first_or_later line after other p q ([], rest, e) = inl (cut_once line other after rest p q (e ∙ behind [] other rest)).0
first_or_later line after other p q (first ∷ before, rest, e) =
    inr (front_kinds line after first before other rest (ends line after first ((text_of before ++ other) ++ 10 ∷ rest) p (e ∙ (behind (first ∷ before) other rest ∙ simp append_assoc))))

pub lineless : (bytes other : List ℕ) → IsLineless bytes → HasLine bytes other → ⊥
lineless bytes other none h = none (text_of h.0 ++ other) h.1 (h.2 ∙ behind h.0 other h.1)
