-- The bytes of the words of a line.
use Rattle.std.proofs.Common.{◌≡◌, ◌⊎◌, inl, inr, ℕ, true, ◌||◌, eqb, List, [], ◌∷◌, ◌++◌, append_assoc, refl, sym, ap, ◌∙◌, subst, arith}
use Rattle.std.specs.Prelude.{codes}
use Rattle.std.specs.List.{list_all}
use Rattle.std.proofs.lemmas.Bool.{and_parts, and_from}
use Rattle.std.proofs.lemmas.Bool.Decides.{nat_tests}
use Rattle.std.proofs.lemmas.List.Folds.{list_all-append}
use Rattle.thin_form.specs.Sliders.{Bounds, slider, are_bounds}
use Rattle.form_meaning.specs.Thin.{Elements, is_term, is_chain, makes_slider, is_line, tree_text}
use Rattle.py_tree.specs.Meant.{is_literal}
use Rattle.py_tree.specs.Names.{Name, is_digit, is_lower, is_plain_name, is_name}
use Rattle.py_tree.specs.Numbers.{is_number}
use Rattle.py_tree.specs.Trees.{Tree, literal, name, binary, Add, attribute, call, Head, value, assign, import_mo}
use Rattle.py_tree.specs.declared.token.TokenKind.{TokenKind}
use Rattle.py_tree.specs.declared.token.TokenKind.TheVariants as kind
use Rattle.thin_form.proofs.Cuts.{is_word_byte, AreWords, list_all-weaker}
use Rattle.thin_form.proofs.Forms.{value_form, slider_form}
use Rattle.thin_form.proofs.LineCases.{ToSum, ToSlider, assigned}
use Rattle.thin_form.proofs.Spellings.{spellings, head_spellings}

abbrev IsWord : List ℕ → Type 0
IsWord w = list_all is_word_byte w ≡ true

lower_is_word : (b : ℕ) → is_lower b ≡ true → is_word_byte b ≡ true
lower_is_word b h = grind (arith, nat_tests)

digit_is_word : (b : ℕ) → is_digit b ≡ true → is_word_byte b ≡ true
digit_is_word b h = grind (arith, nat_tests)

later_is_word : (b : ℕ) → (is_lower b || is_digit b || eqb b 95) ≡ true → is_word_byte b ≡ true
later_is_word b h = grind (arith, nat_tests)

plain_name_is_word : (x : Name) → is_plain_name x ≡ true → IsWord x
plain_name_is_word [] h = absurd (cc)
plain_name_is_word (c ∷ cs) h = let s = and_parts _ _ h in and_from _ _ (lower_is_word c s.0) (list_all-weaker _ is_word_byte later_is_word cs s.1)

name_is_word : (x : Name) → is_name x ≡ true → IsWord x
name_is_word x h = plain_name_is_word x (and_parts _ _ h).0

number_is_word : (w : List ℕ) → is_number w ≡ true → IsWord w
number_is_word [] h = absurd (cc)
number_is_word (c ∷ []) h = and_from _ _ (digit_is_word c h) refl
number_is_word (c ∷ d ∷ ds) h = list_all-weaker is_digit is_word_byte digit_is_word (c ∷ d ∷ ds) (and_parts _ _ (and_parts _ _ h).0).0

literal_is_word : (k : TokenKind) (w : List ℕ) → is_literal k w ≡ true → IsWord w
literal_is_word kind.Name w h = absurd (cc)
literal_is_word kind.Number w h = number_is_word w h
literal_is_word kind.Text w h = absurd (cc)
literal_is_word kind.Mark w h = absurd (cc)

both : (xs ys : List ℕ) → IsWord xs → IsWord ys → IsWord (xs ++ ys)
both xs ys h k = list_all-append is_word_byte xs ys ∙ and_from _ _ h k

term_is_word : (es : Elements) (t : Tree) → is_term es t ≡ true → IsWord (tree_text t)
term_is_word es (literal token) h = literal_is_word token.kind token.spelling h
term_is_word es (name x) h = name_is_word x (and_parts _ _ h).0
term_is_word es (attribute base x) h =
    let v = value_form es base x h in
    let text : tree_text (attribute base x) ≡ v.slider ++ codes ".value" = ap tree_text v.is ∙ append_assoc v.slider (codes ".") (codes "value") in
    subst IsWord (sym text) (both v.slider (codes ".value") (name_is_word v.slider v.named) refl)
term_is_word es t h = absurd (cc)

chain_words : (es : Elements) (t : Tree) → is_chain es t ≡ true → AreWords (spellings t)
chain_words es (binary Add a b) h =
    let s = and_parts _ _ h in
    list_all-append (λ w. list_all is_word_byte w) (spellings a) (codes "+" ∷ tree_text b ∷ [])
    ∙ and_from _ _ (chain_words es a s.0) (and_from _ _ (term_is_word es b s.1) refl)
chain_words es (call f args comma) h = absurd (cc)
chain_words es t h = and_from _ _ (term_is_word es t h) refl

bounds_words : (b : Bounds) → are_bounds b.low b.high ≡ true → AreWords (spellings (slider b))
unfolding are_bounds
bounds_words b h =
    let s = and_parts _ _ h in
    let numbers = and_parts _ _ s.0 in
    let low = both (codes "mo.ui.slider(") (b.low ++ codes ",") refl (both b.low (codes ",") (number_is_word b.low numbers.0) refl) in
    let high = both b.high (codes ")") (number_is_word b.high numbers.1) refl in
    and_from _ _ low (and_from _ _ high refl)

slider_words : (t : Tree) → makes_slider t ≡ true → AreWords (spellings t)
slider_words t h =
    let s = slider_form t h in
    subst (λ t. AreWords (spellings t)) (sym s.is) (bounds_words s.bounds s.ordered)

kind_words : (es : Elements) (x : Name) (t : Tree) → ToSum es x t ⊎ ToSlider es x t → AreWords (spellings t)
kind_words es x t (inl k) = chain_words es t (and_parts _ _ k.is).0
kind_words es x t (inr k) = slider_words t k.is

assigned_words : (x : Name) (targets : List Name) (t : Tree) → targets ≡ x ∷ [] → is_name x ≡ true → AreWords (spellings t) → AreWords (head_spellings (assign targets t))
assigned_words x targets t e n w =
    subst (λ xs. AreWords (head_spellings (assign xs t))) (sym e) (and_from _ _ (name_is_word x n) (and_from _ _ refl w))

pub line_words : (es : Elements) (h : Head) → is_line es h ≡ true → AreWords (head_spellings h)
line_words es (value t) h = chain_words es t (and_parts _ _ h).0
line_words es (assign targets t) h =
    let a = assigned es targets t h in
    assigned_words a.target targets t a.only a.named (kind_words es a.target t a.kind)
line_words es import_mo h = refl
line_words es head h = absurd (cc)
