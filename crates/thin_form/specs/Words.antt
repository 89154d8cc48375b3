-- The words of a text: what stands between its spaces.
use Rattle.std.specs.Prelude.{ℕ, ◌-◌, if◌then◌else◌, ◌==◌, List, [], ◌∷◌, length, take, drop, Option, None, Some, codes}
use Rattle.std.specs.List.{slice_split}
use Rattle.std.specs.Str.{bytes_eq}

abbrev pub words : List ℕ → List (List ℕ)
words text = slice_split (λ b. b == 32) text

-- the words of a text that may be absent
abbrev pub words_left : Option (List ℕ) → List (List ℕ)
words_left None = []
words_left (Some text) = words text

-- the two words, where there are no others
abbrev pub two_words : List (List ℕ) → Option (List ℕ × List ℕ)
two_words [] = None
two_words (first ∷ []) = None
two_words (first ∷ second ∷ []) = Some (first, second)
two_words (first ∷ second ∷ third ∷ rest) = None

-- the word before a `=`, and the words after it
abbrev pub target : List (List ℕ) → Option (List ℕ × List (List ℕ))
target [] = None
target (word ∷ []) = None
target (word ∷ mark ∷ []) = None
target (word ∷ mark ∷ next ∷ rest) = if bytes_eq mark (codes "=") then Some (word, next ∷ rest) else None

-- what comes after `front` in a text that begins with it
unfoldable pub without_front : (front text : List ℕ) → Option (List ℕ)
without_front front text = if bytes_eq (take (length front) text) front then Some (drop (length front) text) else None

-- what comes before `back` in a text that ends with it
unfoldable pub without_back : (back text : List ℕ) → Option (List ℕ)
without_back back text =
    if bytes_eq (drop (length text - length back) text) back then Some (take (length text - length back) text) else None
