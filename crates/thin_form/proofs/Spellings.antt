-- The words of trees and lines.
use Rattle.std.proofs.Common.{◌≡◌, ℕ, ◌<◌, false, List, [], ◌∷◌, ◌++◌, length, refl, sym, ap, ◌∙◌, append_assoc, length-append, arith}
use Rattle.std.specs.Prelude.{codes}
use Rattle.std.specs.List.{join_with_byte}
use Rattle.form_meaning.specs.Thin.{tree_text, names_text, head_text}
use Rattle.py_tree.specs.Trees.{Tree, binary, Add, call, Arguments, no_argument, positional, Head, value, assign, import_mo}

-- the words of a call, of which one with two arguments has two
abbrev pub call_words : Tree → Arguments → List (List ℕ)
call_words f (positional a (positional b no_argument)) = (tree_text f ++ codes "(" ++ tree_text a ++ codes ",") ∷ (tree_text b ++ codes ")") ∷ []
call_words f args = tree_text (call f args false) ∷ []

abbrev pub spellings : Tree → List (List ℕ)
spellings (binary Add a b) = spellings a ++ (codes "+" ∷ tree_text b ∷ [])
spellings (call f args comma) = call_words f args
spellings t = tree_text t ∷ []

abbrev pub head_spellings : Head → List (List ℕ)
head_spellings (value t) = spellings t
head_spellings (assign targets t) = names_text targets ∷ codes "=" ∷ spellings t
head_spellings import_mo = codes "import" ∷ codes "marimo" ∷ codes "as" ∷ codes "mo" ∷ []
head_spellings h = [] ∷ []

some_call_words : (f : Tree) (args : Arguments) → 0 < length (call_words f args)
some_call_words f (positional a (positional b no_argument)) = omega arith
some_call_words f args = omega arith

pub some_words : (t : Tree) → 0 < length (spellings t)
some_words (binary Add a b) = rw length-append (omega arith)
some_words (call f args comma) = some_call_words f args
some_words t = omega arith

-- words with one term more
join_term : (ws : List (List ℕ)) (v : List ℕ) → 0 < length ws → join_with_byte 32 (ws ++ (codes "+" ∷ v ∷ [])) ≡ join_with_byte 32 ws ++ codes " + " ++ v
join_term [] v l = absurd (omega arith)
join_term (w ∷ []) v l = sym (append_assoc w (codes " + ") v)
join_term (w ∷ u ∷ us) v l =
    ap (λ t. w ++ 32 ∷ t) (join_term (u ∷ us) v (omega arith)) ∙ simp append_assoc

-- words behind a `=`
pub join_assigned : (x : List ℕ) (ws : List (List ℕ)) → 0 < length ws → join_with_byte 32 (x ∷ codes "=" ∷ ws) ≡ x ++ codes " = " ++ join_with_byte 32 ws
join_assigned x [] l = absurd (omega arith)
join_assigned x (w ∷ ws) l = sym (append_assoc x (codes " = ") (join_with_byte 32 (w ∷ ws)))

call_joined : (f : Tree) (args : Arguments) → join_with_byte 32 (call_words f args) ≡ tree_text (call f args false)
call_joined f (positional a (positional b no_argument)) = simp append_assoc
call_joined f args = refl

-- the words with one space between them are the text
pub tree_joined : (t : Tree) → join_with_byte 32 (spellings t) ≡ tree_text t
tree_joined (binary Add a b) = join_term (spellings a) (tree_text b) (some_words a) ∙ ap (λ t. t ++ codes " + " ++ tree_text b) (tree_joined a)
tree_joined (call f args comma) = call_joined f args
tree_joined t = refl

pub head_joined : (h : Head) → join_with_byte 32 (head_spellings h) ≡ head_text h
head_joined (value t) = tree_joined t
head_joined (assign targets t) =
    join_assigned (names_text targets) (spellings t) (some_words t) ∙ ap (λ s. names_text targets ++ codes " = " ++ s) (tree_joined t)
head_joined h = refl
