-- What is read from words as a sum is one, and spells them.
use Rattle.std.proofs.Common.{◌≡◌, ℕ, ◌≤◌, Bool, true, false, ◌&&◌, cond, List, [], ◌∷◌, ◌++◌, None, Some, append_assoc, refl, sym, ap, ◌∙◌, subst, append-nil, arith}
use Rattle.std.specs.Prelude.{codes}
use Rattle.std.proofs.lemmas.Bool.{and_parts, and_from, not_from_false, le-leb, ltb-true}
use Rattle.std.proofs.lemmas.Option.{same_Some}
use Rattle.std.proofs.lemmas.Slice.Eq.{bytes_eq-Decides}
use Rattle.thin_form.specs.Sums.{numeral, read_value, read_term, read_more, read_sum}
use Rattle.thin_form.specs.Words.{without_back}
use Rattle.form_meaning.specs.Thin.{Elements, is_term, is_chain, is_sum, terms, tree_text}
use Rattle.py_tree.specs.Names.{is_name}
use Rattle.py_tree.specs.Numbers.{is_number}
use Rattle.py_tree.specs.Trees.{Tree, name, binary, Add, call}
use Rattle.thin_form.proofs.Ends.{back_on}
use Rattle.thin_form.proofs.Options.{bind_ok, cond_ok}
use Rattle.thin_form.proofs.Spellings.{spellings}

-- a term, and its word
pub record TermOf (es : Elements) (word : List ℕ) (t : Tree) : Type 0 where
  pub is : is_term es t ≡ true
  pub one : terms t ≡ 1
  pub spelled : spellings t ≡ word ∷ []

pub term_is_chain : (es : Elements) (t : Tree) → is_term es t ≡ true → is_chain es t ≡ true
term_is_chain es (binary Add a b) h = absurd (cc)
term_is_chain es t h = h

pub spellings-term : (es : Elements) (t : Tree) → is_term es t ≡ true → spellings t ≡ tree_text t ∷ []
spellings-term es (binary Add a b) h = absurd (cc)
spellings-term es (call f args comma) h = absurd (cc)
spellings-term es t h = refl

value_found : (es : Elements) (word : List ℕ) (t : Tree) → read_value es word ≡ Some t → TermOf es word t
value_found es word t e =
    let read = bind_ok (without_back (codes ".value") word) _ t e in
    let x = read.0 in
    let taken = cond_ok (is_name x && es.is_slider x) _ t read.2 in
    let text : word ≡ (x ++ codes ".") ++ codes "value" = back_on (codes ".value") word x read.1 ∙ sym (append_assoc x (codes ".") (codes "value")) in
    subst (TermOf es word) (same_Some _ _ taken.1) (record { is = and_from _ _ taken.0 refl; one = refl; spelled = ap (λ w. w ∷ []) (sym text) })

name_found : (es : Elements) (word : List ℕ) (s : Bool) (t : Tree) → is_name word ≡ true → es.is_slider word ≡ s → cond s None (Some (name word)) ≡ Some t → TermOf es word t
name_found es word true t n p e = absurd (cc)
name_found es word false t n p e = subst (TermOf es word) (same_Some _ _ e) (record { is = and_from _ _ n (not_from_false _ p); one = refl; spelled = refl })

term_by : (es : Elements) (word : List ℕ) (n d : Bool) → is_name word ≡ n → is_number word ≡ d → (t : Tree) →
    cond n (cond (es.is_slider word) None (Some (name word))) (cond d (Some (numeral word)) (read_value es word)) ≡ Some t → TermOf es word t
term_by es word true d p q t e = name_found es word (es.is_slider word) t p refl e
term_by es word false true p q t e = subst (TermOf es word) (same_Some _ _ e) (record { is = q; one = refl; spelled = refl })
term_by es word false false p q t e = value_found es word t e

pub term_found : (es : Elements) (word : List ℕ) (t : Tree) → read_term es word ≡ Some t → TermOf es word t
term_found es word t e = term_by es word (is_name word) (is_number word) refl refl t e

-- a sum, and its words
pub record SumOf (es : Elements) (ws : List (List ℕ)) (t : Tree) : Type 0 where
  pub is : is_sum es t ≡ true
  pub spelled : spellings t ≡ ws

-- a sum with one more term, and what follows it
pub spellings-more : (a b : Tree) (rest : List (List ℕ)) → spellings (binary Add a b) ++ rest ≡ spellings a ++ (codes "+" ∷ tree_text b ∷ rest)
spellings-more a b rest = append_assoc (spellings a) (codes "+" ∷ tree_text b ∷ []) rest

more_found : (es : Elements) (t : Tree) (ws : List (List ℕ)) (u : Tree) → is_chain es t ≡ true → terms t ≤ 32 → read_more es t ws ≡ Some u → SumOf es (spellings t ++ ws) u
more_found es t [] u c n e =
    subst (SumOf es (spellings t ++ [])) (same_Some t u e) (record { is = and_from _ _ c (le-leb _ _ n); spelled = sym (append-nil _) })
more_found es t (mark ∷ []) u c n e = absurd (cc)
more_found es t (mark ∷ word ∷ rest) u c n e =
    let taken = cond_ok _ _ u e in
    let tests = and_parts _ _ taken.0 in
    let read = bind_ok (read_term es word) (λ v. read_more es (binary Add t v) rest) u taken.1 in
    let term = term_found es word read.0 read.1 in
    let plus = (bytes_eq-Decides mark (codes "+")).0 tests.0 in
    let below = ltb-true _ _ tests.1 in
    let whole = more_found es (binary Add t read.0) rest u (and_from _ _ c term.is) (omega arith) read.2 in
    let word_is = sym (spellings-term es read.0 term.is) ∙ term.spelled in
    let same : spellings (binary Add t read.0) ++ rest ≡ spellings t ++ (mark ∷ word ∷ rest) =
    spellings-more t read.0 rest ∙ ap (λ p. spellings t ++ p) (cc) in
    subst (λ ws. SumOf es ws u) same whole

pub sum_found : (es : Elements) (ws : List (List ℕ)) (t : Tree) → read_sum es ws ≡ Some t → SumOf es ws t
sum_found es [] t e = absurd (cc)
sum_found es (word ∷ rest) t e =
    let read = bind_ok (read_term es word) (λ u. read_more es u rest) t e in
    let term = term_found es word read.0 read.1 in
    let whole = more_found es read.0 rest t (term_is_chain es read.0 term.is) (omega arith) read.2 in
    subst (λ ws. SumOf es ws t) (ap (λ ws. ws ++ rest) term.spelled) whole
