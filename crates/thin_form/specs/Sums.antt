-- The sum that words spell, by reading from the left.
use Rattle.std.specs.Prelude.{ℕ, if◌then◌else◌, ◌&&◌, nat_lt, List, [], ◌∷◌, Option, None, Some, codes}
use Rattle.std.specs.Str.{bytes_eq}
use Rattle.thin_form.specs.Choices.{◌>>=◌}
use Rattle.thin_form.specs.Words.{without_back}
use Rattle.form_meaning.specs.Thin.{Elements, terms}
use Rattle.py_tree.specs.Names.{Name, is_name}
use Rattle.py_tree.specs.Numbers.{is_number}
use Rattle.py_tree.specs.Trees.{Tree, literal, name, binary, Add, attribute}
use Rattle.py_tree.specs.declared.token.TokenKind.TheVariants as kind

abbrev pub numeral : List ℕ → Tree
numeral spelling = literal (record { kind = kind.Number; spelling = spelling })

-- `NAME.value`
abbrev pub value_of : Name → Tree
value_of x = attribute (name x) (codes "value")

abbrev pub read_value : Elements → List ℕ → Option Tree
read_value es word = without_back (codes ".value") word >>= λ x. if is_name x && es.is_slider x then Some (value_of x) else None

-- a name, a number, or `NAME.value`
abbrev pub read_term : Elements → List ℕ → Option Tree
read_term es word =
    if is_name word then (if es.is_slider word then None else Some (name word)) else (if is_number word then Some (numeral word) else read_value es word)

-- the word after a `+`, and the words after it
abbrev pub next_term : List (List ℕ) → Option (List ℕ × List (List ℕ))
next_term [] = None
next_term (mark ∷ []) = None
next_term (mark ∷ word ∷ rest) = if bytes_eq mark (codes "+") then Some (word, rest) else None

-- the tree with the term that follows it, and the words after that
abbrev pub one_more : Elements → Tree → List (List ℕ) → Option (Tree × List (List ℕ))
one_more es t line = next_term line >>= λ p. read_term es p.0 >>= λ u. Some (binary Add t u, p.1)

-- the tree with the terms that follow it
abbrev pub read_more : Elements → Tree → List (List ℕ) → Option Tree
read_more es t [] = Some t
read_more es t (mark ∷ []) = None
read_more es t (mark ∷ word ∷ rest) =
    if bytes_eq mark (codes "+") && nat_lt (terms t) 32 then (read_term es word >>= λ u. read_more es (binary Add t u) rest) else None

abbrev pub read_sum : Elements → List (List ℕ) → Option Tree
read_sum es [] = None
read_sum es (word ∷ rest) = read_term es word >>= λ t. read_more es t rest
