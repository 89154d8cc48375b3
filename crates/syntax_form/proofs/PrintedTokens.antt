-- What spells a levelled expression is spelled as tokens.
use Rattle.std.proofs.Common.{◌≡◌, ℕ, Bool, true, false, List, [], ◌∷◌, ◌++◌, codes, IsTrue, refl, subst}
use Rattle.std.specs.Prelude.{not, ◌&&◌, ◌||◌}
use Rattle.std.specs.Str.{bytes_eq}
use Rattle.std.proofs.lemmas.Slice.Eq.{bytes_eq-Decides}
use Rattle.py_tree.specs.Names.{Name, is_among, is_spelled_name, keywords, unused_keywords}
use Rattle.py_tree.specs.declared.token.TokenKind.{TokenKind}
use Rattle.py_tree.specs.declared.token.TokenKind.TheVariants as literal_kind
use Rattle.py_tree.specs.Expressions as form
use Rattle.py_tree.specs.Expressions.{Operator, Prefix, Comparison, Tree, conditional, binary, prefixed, chain, is_none, power, call, index, slice, attribute, literal, f_text, name, paren, tuple, list, dict, list_of, dict_of, bare}
use Rattle.py_tree.specs.Expressions.{Trees, none, more, Links, done, link, Arguments, no_argument, positional, keyword, Pairs, no_pair, pair, Bound, left_out, at, Pieces}
use Rattle.lexical_form.specs.Bytes.{is_empty}
use Rattle.lexical_form.specs.FTexts.{FText}
use Rattle.lexical_form.specs.Longest.{Stands}
use Rattle.lexical_form.specs.Numbers.{is_number}
use Rattle.lexical_form.specs.Plain.{is_prefix}
use Rattle.lexical_form.specs.Texts.{Quotes, Text}
use Rattle.lexical_form.specs.Tokens as token
use Rattle.lexical_form.specs.Tokens.{Token}
use Rattle.lexical_form.proofs.Basics.{and_left, both}
use Rattle.syntax_form.specs.Levelled.{Levelled, AllLevelled, LinksLevelled, ArgumentsLevelled, PairsLevelled, BoundLevelled}
use Rattle.syntax_form.specs.Literals.{IsName, IsLiteral, constants}
use Rattle.syntax_form.specs.Printing.{name_token, word, mark, kind_of, operator_token, prefix_token, comparison_tokens, if_comma, if_not, later_names, names_tokens, tokens, list_tokens, later_tokens, argument_tokens, later_argument_tokens, pair_tokens, later_pair_tokens, link_tokens, test_tokens, bound_tokens}
use Rattle.syntax_form.specs.Shapes.{AreEach, AreTargets}
use Rattle.syntax_form.specs.SpelledTokens.{AreTokens}
use Rattle.syntax_form.proofs.TokenLaws.{tokens_joined, never}

-- ---- leaves

pub name_stands : (x : Name) → IsName x → Stands (name_token x) []
name_stands x h =
    let spelled = and_left (is_spelled_name x) (not (is_among x keywords)) (and_left (is_spelled_name x && not (is_among x keywords)) (not (is_among x unused_keywords)) h) in
    both (is_spelled_name x && true) (not (is_prefix x && false)) (both (is_spelled_name x) true spelled refl) (never (is_prefix x))

constant_stands : (cs : List ℕ) → IsTrue (is_among cs constants) → Stands (name_token cs) []
constant_stands cs h = by_each (bytes_eq (codes "None") cs) (bytes_eq (codes "True") cs) (bytes_eq (codes "False") cs) refl refl refl h
  where
    is : (ds : List ℕ) → bytes_eq ds cs ≡ true → Stands (name_token ds) [] → Stands (name_token cs) []
    is ds e s = subst (λ es. Stands (name_token es) []) ((bytes_eq-Decides ds cs).0 e) s

    by_each : (a b c : Bool) → bytes_eq (codes "None") cs ≡ a → bytes_eq (codes "True") cs ≡ b → bytes_eq (codes "False") cs ≡ c → IsTrue (a || (b || (c || false))) →
        Stands (name_token cs) []
    by_each true b c e f g h = is (codes "None") e refl
    by_each false true c e f g h = is (codes "True") f refl
    by_each false false true e f g h = is (codes "False") g refl
    by_each false false false e f g h = absurd (cc)

pub literal_stands : (k : TokenKind) (cs : List ℕ) → IsLiteral k cs → Stands (token.token (kind_of k) cs) []
literal_stands literal_kind.Name cs h = constant_stands cs h
literal_stands literal_kind.Number cs h = both (is_number cs) true h refl
literal_stands literal_kind.Text cs h = (h.0, h.1, h.2, never (not (Quotes.three (Text.quotes h.0)) && is_empty (Text.items h.0)))
literal_stands literal_kind.Mark cs h = absurd h

pub comma_tokens : (b : Bool) → AreTokens (if_comma b)
comma_tokens true = (refl, tt)
comma_tokens false = tt

not_tokens : (b : Bool) → AreTokens (if_not b)
not_tokens true = (refl, tt)
not_tokens false = tt

operator_stands : (op : Operator) → Stands (operator_token op) []
operator_stands form.Or = refl
operator_stands form.And = refl
operator_stands form.Add = refl
operator_stands form.Subtract = refl
operator_stands form.Multiply = refl
operator_stands form.Floor = refl
operator_stands form.Remainder = refl

prefix_stands : (op : Prefix) → Stands (prefix_token op) []
prefix_stands form.Not = refl
prefix_stands form.Minus = refl
prefix_stands form.Plus = refl

comparison_stand : (c : Comparison) → AreTokens (comparison_tokens c)
comparison_stand form.Equal = (refl, tt)
comparison_stand form.Unequal = (refl, tt)
comparison_stand form.Less = (refl, tt)
comparison_stand form.AtMost = (refl, tt)
comparison_stand form.Greater = (refl, tt)
comparison_stand form.AtLeast = (refl, tt)
comparison_stand form.In = (refl, tt)
comparison_stand form.NotIn = (refl, (refl, tt))

later_names_tokens : (xs : List Name) → AreEach IsName xs → AreTokens (later_names xs)
later_names_tokens [] h = tt
later_names_tokens (x ∷ xs) h = (refl, (name_stands x h.0, later_names_tokens xs h.1))

pub names_are_tokens : (xs : List Name) → AreEach IsName xs → AreTokens (names_tokens xs)
names_are_tokens [] h = tt
names_are_tokens (x ∷ xs) h = (name_stands x h.0, later_names_tokens xs h.1)

pub targets_are_tokens : (xs : List Name) → AreTargets IsName xs → AreTokens (names_tokens xs)
targets_are_tokens [] h = absurd h
targets_are_tokens (x ∷ xs) h = (name_stands x h.0, later_names_tokens xs h.1)

-- a bracket, and what stands in brackets
pub closed_tokens : (ts : List Token) (c : Token) → Stands c [] → AreTokens ts → AreTokens (ts ++ c ∷ [])
closed_tokens ts c s h = tokens_joined ts (c ∷ []) h (s, tt)

-- ---- expressions

mutual
  pub tree_tokens : (t : Tree) → Levelled t → AreTokens (tokens t)
  tree_tokens (conditional v t o) l =
      tokens_joined (tokens v) (word "if" ∷ (tokens t ++ word "else" ∷ tokens o)) (tree_tokens v l.1)
      (refl, tokens_joined (tokens t) (word "else" ∷ tokens o) (tree_tokens t l.3) (refl, tree_tokens o l.5))
  tree_tokens (binary op a b) l = tokens_joined (tokens a) (operator_token op ∷ tokens b) (tree_tokens a l.1) (operator_stands op, tree_tokens b l.3)
  tree_tokens (prefixed op t) l = (prefix_stands op, tree_tokens t l.1)
  tree_tokens (chain t c u ls) l =
      tokens_joined (tokens t) (comparison_tokens c ++ (tokens u ++ link_tokens ls)) (tree_tokens t l.1)
      (tokens_joined (comparison_tokens c) (tokens u ++ link_tokens ls) (comparison_stand c) (tokens_joined (tokens u) (link_tokens ls) (tree_tokens u l.3) (links_are_tokens ls l.4)))
  tree_tokens (is_none b t) l =
      tokens_joined (tokens t) (word "is" ∷ (if_not b ++ word "None" ∷ [])) (tree_tokens t l.1) (refl, closed_tokens (if_not b) (word "None") refl (not_tokens b))
  tree_tokens (power a b) l = tokens_joined (tokens a) (mark "**" ∷ tokens b) (tree_tokens a l.1) (refl, tree_tokens b l.3)
  tree_tokens (call t args b) l =
      let inside = argument_tokens args ++ if_comma b in
      tokens_joined (tokens t) (mark "(" ∷ (inside ++ mark ")" ∷ [])) (tree_tokens t l.1)
      (refl, closed_tokens inside (mark ")") refl (tokens_joined (argument_tokens args) (if_comma b) (arguments_are_tokens args l.2) (comma_tokens b)))
  tree_tokens (index t u) l =
      tokens_joined (tokens t) (mark "[" ∷ (tokens u ++ mark "]" ∷ [])) (tree_tokens t l.1) (refl, closed_tokens (tokens u) (mark "]") refl (tree_tokens u l.3))
  tree_tokens (slice t from until) l =
      let inside = bound_tokens from ++ mark ":" ∷ bound_tokens until in
      tokens_joined (tokens t) (mark "[" ∷ (inside ++ mark "]" ∷ [])) (tree_tokens t l.1)
      (refl, closed_tokens inside (mark "]") refl (tokens_joined (bound_tokens from) (mark ":" ∷ bound_tokens until) (bound_are_tokens from l.2) (refl, bound_are_tokens until l.3)))
  tree_tokens (attribute t x) l = tokens_joined (tokens t) (mark "." ∷ name_token x ∷ []) (tree_tokens t l.1) (refl, (name_stands x l.2, tt))
  tree_tokens (literal t) l = (literal_stands t.kind t.spelling l, tt)
  tree_tokens (f_text cs ps) l =
      let t = l.0 in ((t.0, t.1, t.2, t.3, never (not (Quotes.three (FText.quotes t.0)) && is_empty (FText.items t.0))), tt)
  tree_tokens (name x) l = (name_stands x l, tt)
  tree_tokens (paren t) l = (refl, closed_tokens (tokens t) (mark ")") refl (tree_tokens t l.1))
  tree_tokens (tuple ts b) l = (refl, closed_tokens (list_tokens ts ++ if_comma b) (mark ")") refl (tokens_joined (list_tokens ts) (if_comma b) (list_are_tokens 1 ts l.0) (comma_tokens b)))
  tree_tokens (list ts b) l = (refl, closed_tokens (list_tokens ts ++ if_comma b) (mark "]") refl (tokens_joined (list_tokens ts) (if_comma b) (list_are_tokens 1 ts l.0) (comma_tokens b)))
  tree_tokens (dict ps b) l = (refl, closed_tokens (pair_tokens ps ++ if_comma b) (mark "}") refl (tokens_joined (pair_tokens ps) (if_comma b) (pairs_are_tokens ps l.0) (comma_tokens b)))
  tree_tokens (list_of t xs from tests) l =
      let source = tokens from ++ test_tokens tests in
      let clause = names_tokens xs ++ word "in" ∷ source in (
        refl,
        closed_tokens (tokens t ++ word "for" ∷ clause) (mark "]") refl
            (tokens_joined (tokens t) (word "for" ∷ clause) (tree_tokens t l.1) (
              refl,
              tokens_joined (names_tokens xs) (word "in" ∷ source) (targets_are_tokens xs l.2)
                  (refl, tokens_joined (tokens from) (test_tokens tests) (tree_tokens from l.4) (tests_are_tokens tests l.5)),
            )),
      )
  tree_tokens (dict_of k t xs from tests) l =
      let source = tokens from ++ test_tokens tests in
      let clause = names_tokens xs ++ word "in" ∷ source in
      let item = tokens t ++ word "for" ∷ clause in (
        refl,
        closed_tokens (tokens k ++ mark ":" ∷ item) (mark "}") refl
            (tokens_joined (tokens k) (mark ":" ∷ item) (tree_tokens k l.1) (
              refl,
              tokens_joined (tokens t) (word "for" ∷ clause) (tree_tokens t l.3) (
                refl,
                tokens_joined (names_tokens xs) (word "in" ∷ source) (targets_are_tokens xs l.4)
                    (refl, tokens_joined (tokens from) (test_tokens tests) (tree_tokens from l.6) (tests_are_tokens tests l.7)),
              ),
            )),
      )
  tree_tokens (bare ts b) l = tokens_joined (list_tokens ts) (if_comma b) (list_are_tokens 1 ts l.0) (comma_tokens b)

  list_are_tokens : (k : ℕ) (ts : Trees) → AllLevelled k ts → AreTokens (list_tokens ts)
  list_are_tokens k none l = tt
  list_are_tokens k (more t ts) l = tokens_joined (tokens t) (later_tokens ts) (tree_tokens t l.1) (later_are_tokens k ts l.2)

  later_are_tokens : (k : ℕ) (ts : Trees) → AllLevelled k ts → AreTokens (later_tokens ts)
  later_are_tokens k none l = tt
  later_are_tokens k (more t ts) l = (refl, tokens_joined (tokens t) (later_tokens ts) (tree_tokens t l.1) (later_are_tokens k ts l.2))

  tests_are_tokens : (ts : Trees) → AllLevelled 2 ts → AreTokens (test_tokens ts)
  tests_are_tokens none l = tt
  tests_are_tokens (more t ts) l = (refl, tokens_joined (tokens t) (test_tokens ts) (tree_tokens t l.1) (tests_are_tokens ts l.2))

  links_are_tokens : (ls : Links) → LinksLevelled ls → AreTokens (link_tokens ls)
  links_are_tokens done l = tt
  links_are_tokens (link c t ls) l =
      tokens_joined (comparison_tokens c) (tokens t ++ link_tokens ls) (comparison_stand c) (tokens_joined (tokens t) (link_tokens ls) (tree_tokens t l.1) (links_are_tokens ls l.2))

  pub arguments_are_tokens : (args : Arguments) → ArgumentsLevelled args → AreTokens (argument_tokens args)
  arguments_are_tokens no_argument l = tt
  arguments_are_tokens (positional t args) l = tokens_joined (tokens t) (later_argument_tokens args) (tree_tokens t l.1) (later_arguments_are_tokens args l.2)
  arguments_are_tokens (keyword x t args) l =
      (name_stands x l.0, (refl, tokens_joined (tokens t) (later_argument_tokens args) (tree_tokens t l.2) (later_arguments_are_tokens args l.3)))

  later_arguments_are_tokens : (args : Arguments) → ArgumentsLevelled args → AreTokens (later_argument_tokens args)
  later_arguments_are_tokens no_argument l = tt
  later_arguments_are_tokens (positional t args) l = (refl, tokens_joined (tokens t) (later_argument_tokens args) (tree_tokens t l.1) (later_arguments_are_tokens args l.2))
  later_arguments_are_tokens (keyword x t args) l =
      (refl, (name_stands x l.0, (refl, tokens_joined (tokens t) (later_argument_tokens args) (tree_tokens t l.2) (later_arguments_are_tokens args l.3))))

  pairs_are_tokens : (ps : Pairs) → PairsLevelled ps → AreTokens (pair_tokens ps)
  pairs_are_tokens no_pair l = tt
  pairs_are_tokens (pair k t ps) l =
      let later = tokens t ++ later_pair_tokens ps in
      tokens_joined (tokens k) (mark ":" ∷ later) (tree_tokens k l.1) (refl, tokens_joined (tokens t) (later_pair_tokens ps) (tree_tokens t l.3) (later_pairs_are_tokens ps l.4))

  later_pairs_are_tokens : (ps : Pairs) → PairsLevelled ps → AreTokens (later_pair_tokens ps)
  later_pairs_are_tokens no_pair l = tt
  later_pairs_are_tokens (pair k t ps) l =
      let later = tokens t ++ later_pair_tokens ps in
      (refl, tokens_joined (tokens k) (mark ":" ∷ later) (tree_tokens k l.1) (refl, tokens_joined (tokens t) (later_pair_tokens ps) (tree_tokens t l.3) (later_pairs_are_tokens ps l.4)))

  bound_are_tokens : (b : Bound) → BoundLevelled b → AreTokens (bound_tokens b)
  bound_are_tokens left_out l = tt
  bound_are_tokens (at t) l = tree_tokens t l.1
