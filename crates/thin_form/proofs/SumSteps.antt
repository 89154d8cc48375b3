-- What reading comes to at each term of a sum.
use Rattle.std.proofs.Common.{◌≡◌, ℕ, ◌+◌, ◌<◌, ◌≤◌, Bool, true, false, cond, List, [], ◌∷◌, length, Option, None, Some, refl, sym, ap, ◌∙◌, arith}
use Rattle.std.specs.Prelude.{codes}
use Rattle.std.specs.Str.{bytes_eq}
use Rattle.std.proofs.lemmas.Bool.{and_right, le-ltb, lt-ltb, cond-false}
use Rattle.std.proofs.lemmas.Option.{some_pair_parts}
use Rattle.thin_form.specs.Choices.{◌>>=◌}
use Rattle.thin_form.specs.Sums.{read_term, next_term, one_more, read_more, read_sum}
use Rattle.form_meaning.specs.Thin.{Elements, terms}
use Rattle.py_tree.specs.Trees.{Tree, binary, Add}
use Rattle.thin_form.proofs.Options.{bind_ok, cond_ok}
use Rattle.thin_form.proofs.SumFound.{term_found}

cond_none : {A : Type 0} (b : Bool) (x : A) → cond b (Some x) None ≡ None → b ≡ false
cond_none true x e = absurd (cc)
cond_none false x e = refl

pub one_term : (es : Elements) (ws rest : List (List ℕ)) (word : List ℕ) (t : Tree) → ws ≡ word ∷ rest → Some t ≡ read_term es word → (1 ≡ terms t) × (read_sum es ws ≡ read_more es t rest)
one_term es ws rest word t s e = (sym (term_found es word t (sym e)).one, ap (read_sum es) s ∙ ap (λ o. o >>= λ u. read_more es u rest) (sym e))

no_plus : (es : Elements) (t : Tree) (ws : List (List ℕ)) → 0 < length ws → None ≡ next_term ws → read_more es t ws ≡ None
no_plus es t [] l e = absurd (omega arith)
no_plus es t (mark ∷ []) l e = refl
no_plus es t (mark ∷ word ∷ rest) l e = rw (cond_none (bytes_eq mark (codes "+")) _ (sym e)) refl

plus_then : (es : Elements) (t : Tree) (ws rest : List (List ℕ)) (word : List ℕ) → terms t < 32 → ◌≡◌ {A = Option (List ℕ × List (List ℕ))} (Some (word, rest)) (next_term ws) →
    read_more es t ws ≡ (read_term es word >>= λ u. read_more es (binary Add t u) rest)
plus_then es t [] rest word n e = absurd (cc)
plus_then es t (mark ∷ []) rest word n e = absurd (cc)
plus_then es t (mark ∷ next ∷ more) rest word n e =
    let taken = cond_ok (bytes_eq mark (codes "+")) _ _ (sym e) in
    let parts = some_pair_parts _ _ _ _ taken.1 in
    rw (taken.0, lt-ltb (terms t) 32 n, ← parts.0, ← parts.1) refl

plus_no_term : (es : Elements) (t : Tree) (ws rest : List (List ℕ)) (word : List ℕ) → terms t < 32 → ◌≡◌ {A = Option (List ℕ × List (List ℕ))} (Some (word, rest)) (next_term ws) →
    None ≡ read_term es word → read_more es t ws ≡ None
plus_no_term es t ws rest word n e none = plus_then es t ws rest word n e ∙ ap (λ o. o >>= λ u. read_more es (binary Add t u) rest) (sym none)

plus_term : (es : Elements) (t u : Tree) (ws rest : List (List ℕ)) (word : List ℕ) → terms t < 32 → ◌≡◌ {A = Option (List ℕ × List (List ℕ))} (Some (word, rest)) (next_term ws) →
    Some u ≡ read_term es word → read_more es t ws ≡ read_more es (binary Add t u) rest
plus_term es t u ws rest word n e some = plus_then es t ws rest word n e ∙ ap (λ o. o >>= λ v. read_more es (binary Add t v) rest) (sym some)

no_term : (es : Elements) (t : Tree) (ws rest : List (List ℕ)) (word : List ℕ) (o : Option Tree) → terms t < 32
    → ◌≡◌ {A = Option (List ℕ × List (List ℕ))} (Some (word, rest)) (next_term ws) → o ≡ read_term es word
    → ◌≡◌ {A = Option (Tree × List (List ℕ))} None (o >>= λ u. Some (binary Add t u, rest)) → read_more es t ws ≡ None
no_term es t ws rest word None n is read e = plus_no_term es t ws rest word n is read
no_term es t ws rest word (Some u) n is read e = absurd (cc)

none_by : (es : Elements) (t : Tree) (ws : List (List ℕ)) (o : Option (List ℕ × List (List ℕ))) → terms t < 32 → 0 < length ws → o ≡ next_term ws
    → ◌≡◌ {A = Option (Tree × List (List ℕ))} None (o >>= λ p. read_term es p.0 >>= λ u. Some (binary Add t u, p.1)) → read_more es t ws ≡ None
none_by es t ws None n l is e = no_plus es t ws l is
none_by es t ws (Some (word, rest)) n l is e = no_term es t ws rest word (read_term es word) n is refl e

-- no term follows, though words do
pub no_more : (es : Elements) (t : Tree) (ws : List (List ℕ)) → terms t < 32 → 0 < length ws → None ≡ one_more es t ws → read_more es t ws ≡ None
no_more es t ws n l e = none_by es t ws (next_term ws) n l refl e

-- one term follows
pub one_longer : (es : Elements) (t u : Tree) (ws rest : List (List ℕ)) → terms t < 32
    → ◌≡◌ {A = Option (Tree × List (List ℕ))} (Some (u, rest)) (one_more es t ws) → (terms u ≡ terms t + 1) × (read_more es t ws ≡ read_more es u rest)
one_longer es t u ws rest n e =
    let next = bind_ok (next_term ws) _ (u, rest) (sym e) in
    let read = bind_ok (read_term es next.0.0) _ (u, rest) next.2 in
    let parts = some_pair_parts _ _ _ _ read.2 in (
      sym (ap terms parts.0),
      plus_term es t read.0 ws next.0.1 next.0.0 n (sym next.1) (sym read.1) ∙ λ i. read_more es (parts.0 i) (parts.1 i),
    )

pub too_many : (es : Elements) (t : Tree) (ws : List (List ℕ)) → 32 ≤ terms t → 0 < length ws → read_more es t ws ≡ None
too_many es t [] n l = absurd (omega arith)
too_many es t (mark ∷ []) n l = refl
too_many es t (mark ∷ word ∷ rest) n l = cond-false _ _ _ (and_right (bytes_eq mark (codes "+")) _ (le-ltb (terms t) 32 n))
