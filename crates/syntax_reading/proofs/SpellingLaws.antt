-- The words of what spells a tree of the grammar.
use Rattle.std.proofs.Common.{◌≡◌, ℕ, Bool, true, false, ◌||◌, codes, List, [], ◌∷◌, IsTrue, refl, sym, ap, ◌∙◌}
use Rattle.std.specs.Str.{bytes_eq}
use Rattle.std.proofs.lemmas.Slice.Eq.{bytes_eq-Decides}
use Rattle.lexical_form.specs.Tokens as kind
use Rattle.py_tree.specs.declared.token.Token as literals
use Rattle.py_tree.specs.declared.token.TokenKind.{TokenKind}
use Rattle.py_tree.specs.declared.token.TokenKind.TheVariants as literal_kind
use Rattle.py_tree.specs.Expressions as form
use Rattle.syntax_reading.specs.Words as is
use Rattle.py_tree.specs.Names.{Name, is_among}
use Rattle.py_tree.specs.Expressions.{Operator, Prefix, Comparison, Tree, conditional, binary, prefixed, chain, is_none, power, call, index, slice, attribute, paren, tuple, list, dict, list_of, dict_of, bare, Trees, none, more, Links, done, link, Arguments, no_argument, positional, keyword, Pairs, no_pair, pair, Bound, left_out, at}
use Rattle.lexical_form.specs.Tokens.{Token, token}
use Rattle.syntax_form.specs.Literals.{constants}
use Rattle.syntax_form.specs.Printing.{kind_of, literal_token, token_pieces, name_token, operator_token, prefix_token, comparison_tokens, if_comma, if_not, later_names, names_tokens, tokens, list_tokens, later_tokens, link_tokens, argument_tokens, later_argument_tokens, pair_tokens, later_pair_tokens, test_tokens, bound_tokens}
use Rattle.syntax_reading.specs.Words.{is_free, may_be_literal, Fixed, fixed_token, Word, name, literal, f_text, fixed, other, word_of, words, none_literal, literal_of}
use Rattle.syntax_reading.specs.Readers.{Closing, by, at_end}
use Rattle.syntax_reading.proofs.Shaped.{IsFree, AreFree, AreFreeTargets, Shaped, AllShaped, LinksShaped, ArgumentsShaped, PairsShaped, BoundShaped}
use Rattle.syntax_reading.proofs.Spelling.{closes, closed, spell_more, spell_all, spell_name, spell_names, operator_word, prefix_word, comparison_then, is_then, spell, spell_list, spell_later, spell_links, spell_arguments, spell_later_arguments, spell_pairs, spell_later_pairs, spell_tests, spell_bound}
use Rattle.syntax_reading.proofs.WordLaws.{before, before_append, word_of_fixed}

pub word_of_name : (x : Name) → IsFree x → word_of (name_token x) ≡ name x
unfolding word_of
word_of_name x h = rw h refl

-- `None`, `True` and `False` are keywords
constant_is : (s c : List ℕ) → IsTrue (bytes_eq c s) → is_free c ≡ false → is_free s ≡ false
constant_is s c h e = let is : c ≡ s = (bytes_eq-Decides c s).0 h in ap is_free (sym is) ∙ e

no_constant : (s : List ℕ) → IsTrue (is_among s constants) → is_free s ≡ false
no_constant s h = by_each (bytes_eq (codes "None") s) (bytes_eq (codes "True") s) (bytes_eq (codes "False") s) refl refl refl h
  where
    by_each : (a b c : Bool) → bytes_eq (codes "None") s ≡ a → bytes_eq (codes "True") s ≡ b → bytes_eq (codes "False") s ≡ c → IsTrue (a || (b || (c || false))) → is_free s ≡ false
    by_each true b c e f g h = constant_is s (codes "None") e refl
    by_each false true c e f g h = constant_is s (codes "True") f refl
    by_each false false true e f g h = constant_is s (codes "False") g refl
    by_each false false false e f g h = absurd (cc)

literal_name : (s : List ℕ) → IsTrue (is_among s constants) → word_of (token kind.name s) ≡ literal (literal_of literal_kind.Name s)
unfolding word_of
literal_name s h = let e = no_constant s h in rw e (rw h refl)

word_of_spelled : (k : TokenKind) (s : List ℕ) → IsTrue (may_be_literal k s) → word_of (token (kind_of k) s) ≡ literal (literal_of k s)
unfolding word_of
word_of_spelled literal_kind.Name s h = literal_name s h
word_of_spelled literal_kind.Number s h = refl
word_of_spelled literal_kind.Text s h = refl
word_of_spelled literal_kind.Mark s h = absurd (cc)

pub word_of_literal : (t : literals.Token) → IsTrue (may_be_literal t.kind t.spelling) → word_of (literal_token t) ≡ literal t
word_of_literal t h = word_of_spelled t.kind t.spelling h

pub word_of_f_text : (cs : List ℕ) (ps : kind.Pieces) → word_of (token (kind.f_text ps) cs) ≡ f_text cs ps
unfolding word_of
word_of_f_text cs ps = refl

pub first_is : (f : Fixed) {x y : List Word} → x ≡ y → ◌≡◌ {A = List Word} (fixed f ∷ x) (word_of (fixed_token f) ∷ y)
first_is f {x} {y} e = rw (word_of_fixed f) (ap (λ ws. fixed f ∷ ws) e)

pub named_is : (x : Name) → IsFree x → {y z : List Word} → y ≡ z → ◌≡◌ {A = List Word} (name x ∷ y) (word_of (name_token x) ∷ z)
named_is x h {y} {z} e = rw (word_of_name x h) (ap (λ ws. name x ∷ ws) e)

operator_is : (op : Operator) → word_of (operator_token op) ≡ fixed (operator_word op)
operator_is form.Or = word_of_fixed is.or_
operator_is form.And = word_of_fixed is.and_
operator_is form.Add = word_of_fixed is.plus
operator_is form.Subtract = word_of_fixed is.minus
operator_is form.Multiply = word_of_fixed is.star
operator_is form.Floor = word_of_fixed is.slashes
operator_is form.Remainder = word_of_fixed is.percent

prefix_is : (op : Prefix) → word_of (prefix_token op) ≡ fixed (prefix_word op)
prefix_is form.Not = word_of_fixed is.not_
prefix_is form.Minus = word_of_fixed is.minus
prefix_is form.Plus = word_of_fixed is.plus

comparison_is : (c : Comparison) (r : List Word) → comparison_then c r ≡ before (comparison_tokens c) (r)
comparison_is form.Equal r = ap (λ w. w ∷ r) (sym (word_of_fixed is.equal))
comparison_is form.Unequal r = ap (λ w. w ∷ r) (sym (word_of_fixed is.unequal))
comparison_is form.Less r = ap (λ w. w ∷ r) (sym (word_of_fixed is.less))
comparison_is form.AtMost r = ap (λ w. w ∷ r) (sym (word_of_fixed is.at_most))
comparison_is form.Greater r = ap (λ w. w ∷ r) (sym (word_of_fixed is.greater))
comparison_is form.AtLeast r = ap (λ w. w ∷ r) (sym (word_of_fixed is.at_least))
comparison_is form.In r = ap (λ w. w ∷ r) (sym (word_of_fixed is.in_))
comparison_is form.NotIn r = simp (word_of_fixed is.not_, word_of_fixed is.in_)

pub comma_is : (b : Bool) (c : Closing) (r : List Word) → closed b c r ≡ before (if_comma b) (closes c r)
comma_is true c r = ap (λ w. w ∷ closes c r) (sym (word_of_fixed is.comma))
comma_is false c r = refl

none_is : word_of (literal_token none_literal) ≡ literal none_literal
none_is = word_of_literal none_literal refl

is_is : (b : Bool) (r : List Word) → is_then b r ≡ word_of (fixed_token is.is_) ∷ before (if_not b) (word_of (literal_token none_literal) ∷ r)
is_is true r = simp (word_of_fixed is.is_, word_of_fixed is.not_, none_is)
is_is false r = simp (word_of_fixed is.is_, none_is)

more_names_are : (xs : List Name) (b : Bool) (f : Fixed) (r : List Word) → AreFree xs → spell_more spell_name xs b (by f) r ≡ before (later_names xs) (closed b (by f) r)
more_names_are [] b f r h = refl
more_names_are (x ∷ xs) b f r h = simp (word_of_fixed is.comma, word_of_name x h.0, more_names_are xs b f r h.1)

pub names_are : (xs : List Name) (b : Bool) (f : Fixed) (r : List Word) → AreFree xs → spell_all spell_name xs b (by f) r ≡ before (names_tokens xs) (closed b (by f) r)
names_are [] b f r h = refl
names_are (x ∷ xs) b f r h = simp (word_of_name x h.0, more_names_are xs b f r h.1)

pub targets_are : (xs : List Name) (f : Fixed) → AreFreeTargets xs → (r : List Word) → spell_names xs f r ≡ before (names_tokens xs) (fixed f ∷ r)
targets_are [] f h r = absurd h
targets_are (x ∷ xs) f h r = names_are (x ∷ xs) false f r (h.0, h.1)

mutual
  pub spell_is : (t : Tree) → Shaped t → (r : List Word) → spell t r ≡ before (tokens t) (r)
  spell_is (conditional v t o) l r =
      simp (before_append, word_of_fixed is.if_, word_of_fixed is.else_, spell_is v l.1, spell_is t l.3, spell_is o l.5)
  spell_is (binary op a b) l r = simp (before_append, operator_is op, spell_is a l.1, spell_is b l.3)
  spell_is (prefixed op t) l r = simp (prefix_is op, spell_is t l.1)
  spell_is (chain t c u ls) l r = simp (before_append, comparison_is c, spell_is t l.1, spell_is u l.3, links_are ls l.4)
  spell_is (is_none b t) l r = simp (before_append, spell_is t l.1, is_is b r)
  spell_is (power t u) l r = simp (before_append, word_of_fixed is.stars, spell_is t l.1, spell_is u l.3)
  spell_is (call t args b) l r =
      simp (before_append, word_of_fixed is.round_open, word_of_fixed is.round_close, comma_is b (by is.round_close), spell_is t l.1, arguments_are args b l.2)
  spell_is (index t u) l r =
      simp (before_append, word_of_fixed is.square_open, word_of_fixed is.square_close, spell_is t l.1, spell_is u l.3)
  spell_is (slice t from until) l r =
      simp (before_append, word_of_fixed is.square_open, word_of_fixed is.square_close, word_of_fixed is.colon, spell_is t l.1, bound_is from l.2, bound_is until l.3)
  spell_is (attribute t x) l r = simp (before_append, word_of_fixed is.dot, word_of_name x l.2, spell_is t l.1)
  spell_is (form.literal t) l r = simp (word_of_literal t l)
  spell_is (form.f_text cs ps) l r = simp (word_of_f_text cs (token_pieces ps))
  spell_is (form.name x) l r = simp (word_of_name x l)
  spell_is (paren t) l r = simp (before_append, spell_is t l.1, word_of_fixed is.round_open, word_of_fixed is.round_close)
  spell_is (tuple ts b) l r =
      simp (before_append, word_of_fixed is.round_open, word_of_fixed is.round_close, comma_is b (by is.round_close), list_is 1 ts b (by is.round_close) l.0)
  spell_is (list ts b) l r =
      simp (before_append, word_of_fixed is.square_open, word_of_fixed is.square_close, comma_is b (by is.square_close), list_is 1 ts b (by is.square_close) l.0)
  spell_is (dict ps b) l r =
      simp (before_append, word_of_fixed is.brace_open, word_of_fixed is.brace_close, comma_is b (by is.brace_close), pairs_are ps b l.0)
  spell_is (list_of t xs from tests) l r =
      simp (before_append, word_of_fixed is.square_open, word_of_fixed is.square_close, word_of_fixed is.for_, word_of_fixed is.in_, targets_are xs is.in_ l.2, spell_is t l.1, spell_is from l.4, tests_are 2 tests l.5)
  spell_is (dict_of k t xs from tests) l r =
      simp (before_append, word_of_fixed is.brace_open, word_of_fixed is.brace_close, word_of_fixed is.colon, word_of_fixed is.for_, word_of_fixed is.in_, targets_are xs is.in_ l.4, spell_is k l.1, spell_is t l.3, spell_is from l.6, tests_are 2 tests l.7)
  spell_is (bare ts b) l r = simp (before_append, comma_is b at_end, list_is 1 ts b at_end l.0)

  pub list_is : (k : ℕ) (ts : Trees) (b : Bool) (c : Closing) → AllShaped k ts → (r : List Word) → spell_list ts b c r ≡ before (list_tokens ts) (closed b c r)
  list_is k none b c l r = refl
  list_is k (more t ts) b c l r = simp (before_append, spell_is t l.1, later_is k ts b c l.2)

  later_is : (k : ℕ) (ts : Trees) (b : Bool) (c : Closing) → AllShaped k ts → (r : List Word) → spell_later ts b c r ≡ before (later_tokens ts) (closed b c r)
  later_is k none b c l r = refl
  later_is k (more t ts) b c l r = simp (before_append, word_of_fixed is.comma, spell_is t l.1, later_is k ts b c l.2)

  links_are : (ls : Links) → LinksShaped ls → (r : List Word) → spell_links ls r ≡ before (link_tokens ls) r
  links_are done l r = refl
  links_are (link c t ls) l r = simp (before_append, comparison_is c, spell_is t l.1, links_are ls l.2)

  pub arguments_are : (args : Arguments) (b : Bool) → ArgumentsShaped args → (r : List Word) → spell_arguments args b r ≡ before (argument_tokens args) (closed b (by is.round_close) r)
  arguments_are no_argument b l r = refl
  arguments_are (positional t args) b l r = simp (before_append, spell_is t l.1, later_arguments_are args b l.2)
  arguments_are (keyword x t args) b l r =
      simp (before_append, word_of_name x l.0, word_of_fixed is.assign, spell_is t l.2, later_arguments_are args b l.3)

  later_arguments_are : (args : Arguments) (b : Bool) → ArgumentsShaped args → (r : List Word) →
      spell_later_arguments args b r ≡ before (later_argument_tokens args) (closed b (by is.round_close) r)
  later_arguments_are no_argument b l r = refl
  later_arguments_are (positional t args) b l r = simp (before_append, word_of_fixed is.comma, spell_is t l.1, later_arguments_are args b l.2)
  later_arguments_are (keyword x t args) b l r =
      simp (before_append, word_of_fixed is.comma, word_of_name x l.0, word_of_fixed is.assign, spell_is t l.2, later_arguments_are args b l.3)

  pairs_are : (ps : Pairs) (b : Bool) → PairsShaped ps → (r : List Word) → spell_pairs ps b r ≡ before (pair_tokens ps) (closed b (by is.brace_close) r)
  pairs_are no_pair b l r = refl
  pairs_are (pair k t ps) b l r = simp (before_append, word_of_fixed is.colon, spell_is k l.1, spell_is t l.3, later_pairs_are ps b l.4)

  later_pairs_are : (ps : Pairs) (b : Bool) → PairsShaped ps → (r : List Word) → spell_later_pairs ps b r ≡ before (later_pair_tokens ps) (closed b (by is.brace_close) r)
  later_pairs_are no_pair b l r = refl
  later_pairs_are (pair k t ps) b l r =
      simp (before_append, word_of_fixed is.comma, word_of_fixed is.colon, spell_is k l.1, spell_is t l.3, later_pairs_are ps b l.4)

  tests_are : (k : ℕ) (ts : Trees) → AllShaped k ts → (r : List Word) → spell_tests ts r ≡ before (test_tokens ts) r
  tests_are k none l r = refl
  tests_are k (more t ts) l r = simp (before_append, word_of_fixed is.if_, spell_is t l.1, tests_are k ts l.2)

  bound_is : (b : Bound) → BoundShaped b → (r : List Word) → spell_bound b r ≡ before (bound_tokens b) (r)
  bound_is left_out l r = refl
  bound_is (at t) l r = spell_is t l.1 r
