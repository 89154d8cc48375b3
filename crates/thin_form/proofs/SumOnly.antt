-- Each sum is what is read from its words.
use Rattle.std.proofs.Common.{◌≡◌, ℕ, ◌<◌, ◌≤◌, Bool, true, false, List, [], ◌∷◌, ◌++◌, None, Some, append_assoc, refl, sym, ap, ◌∙◌, append-nil, arith}
use Rattle.std.specs.Prelude.{codes}
use Rattle.std.specs.List.{list_all}
use Rattle.std.proofs.lemmas.Bool.{and_parts, and_left, and_right, not-true, leb-true, lt-ltb}
use Rattle.std.proofs.lemmas.Bool.Decides.{nat_tests}
use Rattle.py_tree.specs.Names.{is_name_byte, is_name, is_plain_name, Name, is_digit, is_lower}
use Rattle.thin_form.specs.Sums.{value_of, read_term, read_more, read_sum}
use Rattle.thin_form.specs.Words.{target}
use Rattle.form_meaning.specs.Thin.{Elements, is_term, is_chain, is_sum, terms, tree_text}
use Rattle.py_tree.specs.Meant.{is_literal}
use Rattle.py_tree.specs.Numbers.{is_number}
use Rattle.py_tree.specs.Trees.{Tree, literal, name, binary, Add, attribute, call}
use Rattle.py_tree.specs.declared.token.TokenKind.{TokenKind}
use Rattle.py_tree.specs.declared.token.TokenKind.TheVariants as kind
use Rattle.thin_form.proofs.Ends.{back_off}
use Rattle.thin_form.proofs.Forms.{value_form}
use Rattle.thin_form.proofs.Spellings.{spellings}
use Rattle.thin_form.proofs.SumFound.{spellings-more}

digit_not_lower : (b : ℕ) → is_digit b ≡ true → is_lower b ≡ false
digit_not_lower b h = grind (arith, nat_tests)

lower_not_digit : (b : ℕ) → is_lower b ≡ true → is_digit b ≡ false
lower_not_digit b h = grind (arith, nat_tests)

-- a number is no name
number_not_name : (w : List ℕ) → is_number w ≡ true → is_name w ≡ false
number_not_name [] h = absurd (cc)
number_not_name (c ∷ []) h = rw (digit_not_lower c h) refl
number_not_name (c ∷ d ∷ ds) h = rw (digit_not_lower c (and_parts _ _ (and_parts _ _ (and_parts _ _ h).0).0).0) refl

-- nor is a text with a dot
dotted : (q : ℕ → Bool) → q 46 ≡ false → (cs : List ℕ) → list_all q (cs ++ codes ".value") ≡ false
dotted q h [] = rw h refl
dotted q h (c ∷ cs) = and_right (q c) _ (dotted q h cs)

value_not_name : (x : Name) → is_name (x ++ codes ".value") ≡ false
value_not_name [] = refl
value_not_name (c ∷ cs) = and_left _ _ (and_right (is_lower c) _ (dotted is_name_byte refl cs))

-- nor is it a number
value_not_number : (x : Name) → is_plain_name x ≡ true → is_number (x ++ codes ".value") ≡ false
value_not_number [] h = absurd (cc)
value_not_number (c ∷ []) h = rw (lower_not_digit c (and_parts _ _ h).0) refl
value_not_number (c ∷ d ∷ ds) h = rw (lower_not_digit c (and_parts _ _ h).0) refl

literal_read : (es : Elements) (k : TokenKind) (w : List ℕ) → is_literal k w ≡ true → read_term es w ≡ Some (literal (record { kind = k; spelling = w }))
literal_read es kind.Name w h = absurd (cc)
literal_read es kind.Number w h = rw (number_not_name w h, h) refl
literal_read es kind.Text w h = absurd (cc)
literal_read es kind.Mark w h = absurd (cc)

value_read : (es : Elements) (x : Name) → is_name x ≡ true → es.is_slider x ≡ true → read_term es (x ++ codes ".value") ≡ Some (value_of x)
value_read es x n s =
    rw (value_not_name x, value_not_number x (and_parts _ _ n).0, back_off (codes ".value") x, n, s) refl

term_read : (es : Elements) (t : Tree) → is_term es t ≡ true → read_term es (tree_text t) ≡ Some t
term_read es (literal token) h = literal_read es token.kind token.spelling h
term_read es (name x) h =
    let s = and_parts (is_name x) _ h in
    rw (s.0, not-true _ s.1) refl
term_read es (attribute base x) h =
    let v = value_form es base x h in
    let text : tree_text (attribute base x) ≡ v.slider ++ codes ".value" = ap tree_text v.is ∙ append_assoc v.slider (codes ".") (codes "value") in
    ap (read_term es) text ∙ (value_read es v.slider v.named v.known ∙ ap Some (sym v.is))
term_read es t h = absurd (cc)

-- one more term
more_read : (es : Elements) (t u : Tree) (word : List ℕ) (rest : List (List ℕ)) → terms t < 32 → read_term es word ≡ Some u → read_more es t (codes "+" ∷ word ∷ rest) ≡ read_more es (binary Add t u) rest
more_read es t u word rest n e = rw (lt-ltb (terms t) 32 n, e) refl

first_read : (es : Elements) (t : Tree) (rest : List (List ℕ)) → is_term es t ≡ true → read_sum es (tree_text t ∷ rest) ≡ read_more es t rest
first_read es t rest h = rw (term_read es t h) refl

-- reading a chain comes to what follows it
chain_read : (es : Elements) (t : Tree) (rest : List (List ℕ)) → is_chain es t ≡ true → terms t ≤ 32 → read_sum es (spellings t ++ rest) ≡ read_more es t rest
chain_read es (binary Add a b) rest c n =
    let s = and_parts _ _ c in
    ap (read_sum es) (spellings-more a b rest)
    ∙ (chain_read es a (codes "+" ∷ tree_text b ∷ rest) s.0 (omega arith) ∙ more_read es a b (tree_text b) rest (omega arith) (term_read es b s.1))
chain_read es (call f args comma) rest c n = absurd (cc)
chain_read es t rest c n = first_read es t rest c

pub sum_read : (es : Elements) (t : Tree) → is_sum es t ≡ true → read_sum es (spellings t) ≡ Some t
sum_read es t h =
    let s = and_parts _ _ h in
    ap (read_sum es) (sym (append-nil (spellings t))) ∙ chain_read es t [] s.0 (leb-true _ _ s.1)

-- a chain with a `+` behind it is no assignment
no_target : (es : Elements) (t : Tree) (rest : List (List ℕ)) → is_chain es t ≡ true → target (spellings t ++ (codes "+" ∷ rest)) ≡ None
no_target es (binary Add a b) rest c =
    ap target (spellings-more a b (codes "+" ∷ rest)) ∙ no_target es a (tree_text b ∷ codes "+" ∷ rest) (and_parts _ _ c).0
no_target es (call f args comma) rest c = absurd (cc)
no_target es t [] c = refl
no_target es t (next ∷ rest) c = refl

pub sum_no_target : (es : Elements) (t : Tree) → is_chain es t ≡ true → target (spellings t) ≡ None
sum_no_target es (binary Add a b) c = no_target es a (tree_text b ∷ []) (and_parts _ _ c).0
sum_no_target es (call f args comma) c = absurd (cc)
sum_no_target es t c = refl
