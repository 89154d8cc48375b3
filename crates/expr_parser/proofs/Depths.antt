-- Depths of lists with one item more.
use Rattle.std.proofs.Common.{◌≡◌, ℕ, max, List, [], ◌∷◌, ◌++◌, map, Option, None, Some, refl, ap, ◌∙◌, arith}
use Rattle.py_tree.specs.Expressions.{Comparison, Tree, trees_of, no_piece}
use Rattle.py_tree.specs.FieldFormats.{Convert, Spec}
use Rattle.syntax_form.specs.Depth.{depth, list_depth, argument_depth, pair_depth, link_depth, piece_depth}
use Rattle.py_tree.specs.Names.{Name}
use Rattle.syntax_reading.specs.Parts.{Argument, plain, named, arguments_of, pairs_of, links_of}
use Rattle.expr_parser.specs.ListView.{argument_of}
use Rattle.expr_parser.specs.TextView.{Text, plain as characters_of, filled, put_all}

pub tree_behind : (all ts : List Tree) (t : Tree) (n k : ℕ) → all ≡ ts ++ t ∷ [] → n ≡ list_depth (trees_of ts) → k ≡ depth t → max n k ≡ list_depth (trees_of all)
tree_behind all ts t n k is e f = omega (arith, e, f, ap (λ us. list_depth (trees_of us)) is, push ts)
  where
    push : (us : List Tree) → list_depth (trees_of (us ++ t ∷ [])) ≡ max (list_depth (trees_of us)) (depth t)
    push [] = omega arith
    push (u ∷ us) = omega (arith, push us)

-- of an argument's value
abbrev pub value_depth : Argument → ℕ
value_depth (plain t) = depth t
value_depth (named x t) = depth t

pub value_depth_is : (name : Option Name) (t : Tree) (k : ℕ) → k ≡ depth t → k ≡ value_depth (argument_of name t)
value_depth_is None t k e = e
value_depth_is (Some x) t k e = e

pub argument_behind : (all args : List Argument) (a : Argument) (n k : ℕ) → all ≡ args ++ a ∷ [] → n ≡ argument_depth (arguments_of args) → k ≡ value_depth a →
    max n k ≡ argument_depth (arguments_of all)
argument_behind all args a n k is e f = omega (arith, e, f, ap (λ us. argument_depth (arguments_of us)) is, push a args)
  where
    push : (b : Argument) (us : List Argument) → argument_depth (arguments_of (us ++ b ∷ [])) ≡ max (argument_depth (arguments_of us)) (value_depth b)
    push (plain t) [] = omega arith
    push (named x t) [] = omega arith
    push b (plain t ∷ us) = omega (arith, push b us)
    push b (named x t ∷ us) = omega (arith, push b us)

pub pair_behind : (all ps : List (Tree × Tree)) (p : Tree × Tree) (m n j k : ℕ) → all ≡ ps ++ p ∷ [] → n ≡ pair_depth (pairs_of ps) → j ≡ depth p.0 → k ≡ depth p.1 →
    m ≡ max n (max j k) → m ≡ pair_depth (pairs_of all)
pair_behind all ps p m n j k is e f g h = omega (arith, e, f, g, h, ap (λ us. pair_depth (pairs_of us)) is, push ps)
  where
    push : (us : List (Tree × Tree)) → pair_depth (pairs_of (us ++ p ∷ [])) ≡ max (pair_depth (pairs_of us)) (max (depth p.0) (depth p.1))
    push [] = omega arith
    push (u ∷ us) = omega (arith, push us)

pub link_behind : (all ls : List (Comparison × Tree)) (l : Comparison × Tree) (n k : ℕ) → all ≡ ls ++ l ∷ [] → n ≡ link_depth (links_of ls) → k ≡ depth l.1 →
    max n k ≡ link_depth (links_of all)
link_behind all ls l n k is e f = omega (arith, e, f, ap (λ us. link_depth (links_of us)) is, push ls)
  where
    push : (us : List (Comparison × Tree)) → link_depth (links_of (us ++ l ∷ [])) ≡ max (link_depth (links_of us)) (depth l.1)
    push [] = omega arith
    push (u ∷ us) = omega (arith, push us)

pub seen_behind : {A B : Type 0} (f : A → B) (all xs : List A) (x : A) → all ≡ xs ++ x ∷ [] → map f all ≡ map f xs ++ f x ∷ []
seen_behind {A = A} f all xs x is = ap (map f) is ∙ push xs
  where
    push : (ys : List A) → map f (ys ++ x ∷ []) ≡ map f ys ++ f x ∷ []
    push [] = refl
    push (y ∷ ys) = ap (λ zs. f y ∷ zs) (push ys)

pub characters_behind : (all ts : List Text) (cs : List ℕ) (n : ℕ) → all ≡ ts ++ characters_of cs ∷ [] → n ≡ piece_depth (put_all ts no_piece) →
    n ≡ piece_depth (put_all all no_piece)
characters_behind all ts cs n is e = omega (arith, e, ap (λ us. piece_depth (put_all us no_piece)) is, push ts)
  where
    push : (us : List Text) → piece_depth (put_all (us ++ characters_of cs ∷ []) no_piece) ≡ piece_depth (put_all us no_piece)
    push [] = refl
    push (characters_of ds ∷ us) = push us
    push (filled t c s ∷ us) = omega (arith, push us)

pub field_behind : (all ts : List Text) (t : Tree) (convert : Convert) (spec : Option Spec) (n k : ℕ) → all ≡ ts ++ filled t convert spec ∷ [] →
    n ≡ piece_depth (put_all ts no_piece) → k ≡ depth t → max n k ≡ piece_depth (put_all all no_piece)
field_behind all ts t convert spec n k is e f = omega (arith, e, f, ap (λ us. piece_depth (put_all us no_piece)) is, push ts)
  where
    push : (us : List Text) → piece_depth (put_all (us ++ filled t convert spec ∷ []) no_piece) ≡ max (piece_depth (put_all us no_piece)) (depth t)
    push [] = omega arith
    push (characters_of ds ∷ us) = push us
    push (filled u c s ∷ us) = omega (arith, push us)
