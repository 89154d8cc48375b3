-- An expression stays grouped where its names, literals and f-texts pass other tests instead, which their tokens may help to show.
use Rattle.std.proofs.Common.{ℕ, List, [], ◌∷◌, ◌++◌}
use Rattle.std.specs.Prelude.{⊤}
use Rattle.py_tree.specs.Names.{Name}
use Rattle.py_tree.specs.declared.token.Token as literals
use Rattle.py_tree.specs.declared.token.TokenKind.{TokenKind}
use Rattle.py_tree.specs.Expressions.{Tree, conditional, binary, prefixed, chain, is_none, power, call, index, slice, attribute, literal, f_text, name, paren, tuple, list, dict, list_of, dict_of, bare}
use Rattle.py_tree.specs.Expressions.{Trees, none, more, Links, done, link, Arguments, no_argument, positional, keyword, Pairs, no_pair, pair, Bound, left_out, at, Pieces, no_piece, characters, field}
use Rattle.lexical_form.specs.Tokens as token
use Rattle.lexical_form.specs.Tokens.{Token}
use Rattle.syntax_form.specs.Printing.{name_token, word, mark, literal_token, operator_token, prefix_token, comparison_tokens, if_comma, if_not, later_names, names_tokens, tokens, list_tokens, later_tokens, argument_tokens, later_argument_tokens, pair_tokens, later_pair_tokens, link_tokens, test_tokens, bound_tokens, token_pieces}
use Rattle.syntax_form.specs.Grouping.{Grouped, AllGrouped, LinksGrouped, ArgumentsGrouped, PairsGrouped, BoundGrouped, PiecesGrouped}
use Rattle.syntax_form.specs.Shapes.{AreEach, AreTargets}

-- something holds of the tokens of each field's expression
abbrev pub Fields : (List Token → Type 0) → Pieces → Type 0
Fields Each no_piece = ⊤
Fields Each (characters cs ps) = Fields Each ps
Fields Each (field t convert spec ps) = Each (tokens t) × Fields Each ps

-- What passes the first tests passes the second, if `Each` holds of its tokens, which then holds of parts of these.
pub record Change (N N' : Name → Type 0) (L L' : TokenKind → List ℕ → Type 0) (F F' : List ℕ → token.Pieces → Type 0) (Each : List Token → Type 0) : Type 0 where
  pub before : (us vs : List Token) → Each (us ++ vs) → Each us
  pub behind : (us vs : List Token) → Each (us ++ vs) → Each vs
  pub rest : (t : Token) (ts : List Token) → Each (t ∷ ts) → Each ts
  pub named : (x : Name) (ts : List Token) → Each (name_token x ∷ ts) → N x → N' x
  pub literally : (t : literals.Token) → Each (literal_token t ∷ []) → L t.kind t.spelling → L' t.kind t.spelling
  pub texts : (cs : List ℕ) (ps : Pieces) → Each (token.token (token.f_text (token_pieces ps)) cs ∷ []) → F cs (token_pieces ps) → F' cs (token_pieces ps)
  pub fields : (cs : List ℕ) (ps : Pieces) → Each (token.token (token.f_text (token_pieces ps)) cs ∷ []) → Fields Each ps

module _ {N N' : Name → Type 0} {L L' : TokenKind → List ℕ → Type 0} {F F' : List ℕ → token.Pieces → Type 0} {Each : List Token → Type 0} (c : Change N N' L L' F F' Each) where
  pub later_named : (xs : List Name) → Each (later_names xs) → AreEach N xs → AreEach N' xs
  later_named [] h l = tt
  later_named (x ∷ xs) h l =
      let here = c.rest (mark ",") (name_token x ∷ later_names xs) h in
      (c.named x (later_names xs) here l.0, later_named xs (c.rest (name_token x) (later_names xs) here) l.1)

  pub targets_named : (xs : List Name) → Each (names_tokens xs) → AreTargets N xs → AreTargets N' xs
  targets_named [] h l = l
  targets_named (x ∷ xs) h l = (c.named x (later_names xs) h l.0, later_named xs (c.rest (name_token x) (later_names xs) h) l.1)

  mutual
    pub regrouped : (t : Tree) → Each (tokens t) → Grouped N L F t → Grouped N' L' F' t
    regrouped (conditional v t o) h l =
        let a = c.rest (word "if") (tokens t ++ word "else" ∷ tokens o) (c.behind (tokens v) (word "if" ∷ (tokens t ++ word "else" ∷ tokens o)) h) in
        let b = c.rest (word "else") (tokens o) (c.behind (tokens t) (word "else" ∷ tokens o) a) in (
          l.0,
          regrouped v (c.before (tokens v) (word "if" ∷ (tokens t ++ word "else" ∷ tokens o)) h) l.1,
          l.2,
          regrouped t (c.before (tokens t) (word "else" ∷ tokens o) a) l.3,
          l.4,
          regrouped o b l.5,
        )
    regrouped (binary op a b) h l =
        let behind = c.rest (operator_token op) (tokens b) (c.behind (tokens a) (operator_token op ∷ tokens b) h) in
        (l.0, regrouped a (c.before (tokens a) (operator_token op ∷ tokens b) h) l.1, l.2, regrouped b behind l.3)
    regrouped (prefixed op t) h l = (l.0, regrouped t (c.rest (prefix_token op) (tokens t) h) l.1)
    regrouped (chain t o u ls) h l =
        let a = c.behind (comparison_tokens o) (tokens u ++ link_tokens ls) (c.behind (tokens t) (comparison_tokens o ++ (tokens u ++ link_tokens ls)) h) in (
          l.0,
          regrouped t (c.before (tokens t) (comparison_tokens o ++ (tokens u ++ link_tokens ls)) h) l.1,
          l.2,
          regrouped u (c.before (tokens u) (link_tokens ls) a) l.3,
          links_regrouped ls (c.behind (tokens u) (link_tokens ls) a) l.4,
        )
    regrouped (is_none b t) h l = (l.0, regrouped t (c.before (tokens t) (word "is" ∷ (if_not b ++ word "None" ∷ [])) h) l.1)
    regrouped (power a b) h l =
        let behind = c.rest (mark "**") (tokens b) (c.behind (tokens a) (mark "**" ∷ tokens b) h) in
        (l.0, regrouped a (c.before (tokens a) (mark "**" ∷ tokens b) h) l.1, l.2, regrouped b behind l.3)
    regrouped (call t args b) h l =
        let inside = (argument_tokens args ++ if_comma b) ++ mark ")" ∷ [] in
        let a = c.before (argument_tokens args ++ if_comma b) (mark ")" ∷ []) (c.rest (mark "(") inside (c.behind (tokens t) (mark "(" ∷ inside) h)) in
        (l.0, regrouped t (c.before (tokens t) (mark "(" ∷ inside) h) l.1, arguments_regrouped args (c.before (argument_tokens args) (if_comma b) a) l.2, l.3, l.4)
    regrouped (index t u) h l =
        let inside = tokens u ++ mark "]" ∷ [] in
        let a = c.rest (mark "[") inside (c.behind (tokens t) (mark "[" ∷ inside) h) in
        (l.0, regrouped t (c.before (tokens t) (mark "[" ∷ inside) h) l.1, l.2, regrouped u (c.before (tokens u) (mark "]" ∷ []) a) l.3)
    regrouped (slice t from until) h l =
        let inside = bound_tokens from ++ mark ":" ∷ bound_tokens until in
        let a = c.before inside (mark "]" ∷ []) (c.rest (mark "[") (inside ++ mark "]" ∷ []) (c.behind (tokens t) (mark "[" ∷ (inside ++ mark "]" ∷ [])) h)) in (
          l.0,
          regrouped t (c.before (tokens t) (mark "[" ∷ (inside ++ mark "]" ∷ [])) h) l.1,
          bound_regrouped from (c.before (bound_tokens from) (mark ":" ∷ bound_tokens until) a) l.2,
          bound_regrouped until (c.rest (mark ":") (bound_tokens until) (c.behind (bound_tokens from) (mark ":" ∷ bound_tokens until) a)) l.3,
        )
    regrouped (attribute t x) h l =
        let a = c.rest (mark ".") (name_token x ∷ []) (c.behind (tokens t) (mark "." ∷ name_token x ∷ []) h) in
        (l.0, regrouped t (c.before (tokens t) (mark "." ∷ name_token x ∷ []) h) l.1, c.named x [] a l.2)
    regrouped (literal t) h l = c.literally t h l
    regrouped (f_text cs ps) h l = (c.texts cs ps h l.0, pieces_regrouped ps (c.fields cs ps h) l.1)
    regrouped (name x) h l = c.named x [] h l
    regrouped (paren t) h l = (l.0, regrouped t (c.before (tokens t) (mark ")" ∷ []) (c.rest (mark "(") (tokens t ++ mark ")" ∷ []) h)) l.1)
    regrouped (tuple ts b) h l =
        let inside = list_tokens ts ++ if_comma b in
        let a = c.before inside (mark ")" ∷ []) (c.rest (mark "(") (inside ++ mark ")" ∷ []) h) in
        (all_regrouped 1 ts (c.before (list_tokens ts) (if_comma b) a) l.0, l.1)
    regrouped (list ts b) h l =
        let inside = list_tokens ts ++ if_comma b in
        let a = c.before inside (mark "]" ∷ []) (c.rest (mark "[") (inside ++ mark "]" ∷ []) h) in
        (all_regrouped 1 ts (c.before (list_tokens ts) (if_comma b) a) l.0, l.1)
    regrouped (dict ps b) h l =
        let inside = pair_tokens ps ++ if_comma b in
        let a = c.before inside (mark "}" ∷ []) (c.rest (mark "{") (inside ++ mark "}" ∷ []) h) in
        (pairs_regrouped ps (c.before (pair_tokens ps) (if_comma b) a) l.0, l.1)
    regrouped (list_of t xs from tests) h l =
        let source = tokens from ++ test_tokens tests in
        let clause = names_tokens xs ++ word "in" ∷ source in
        let inside = tokens t ++ word "for" ∷ clause in
        let a = c.before inside (mark "]" ∷ []) (c.rest (mark "[") (inside ++ mark "]" ∷ []) h) in
        let b = c.rest (word "for") clause (c.behind (tokens t) (word "for" ∷ clause) a) in
        let d = c.rest (word "in") source (c.behind (names_tokens xs) (word "in" ∷ source) b) in (
          l.0,
          regrouped t (c.before (tokens t) (word "for" ∷ clause) a) l.1,
          targets_named xs (c.before (names_tokens xs) (word "in" ∷ source) b) l.2,
          l.3,
          regrouped from (c.before (tokens from) (test_tokens tests) d) l.4,
          tests_regrouped tests (c.behind (tokens from) (test_tokens tests) d) l.5,
        )
    regrouped (dict_of k t xs from tests) h l =
        let source = tokens from ++ test_tokens tests in
        let clause = names_tokens xs ++ word "in" ∷ source in
        let item = tokens t ++ word "for" ∷ clause in
        let inside = tokens k ++ mark ":" ∷ item in
        let a = c.before inside (mark "}" ∷ []) (c.rest (mark "{") (inside ++ mark "}" ∷ []) h) in
        let e = c.rest (mark ":") item (c.behind (tokens k) (mark ":" ∷ item) a) in
        let b = c.rest (word "for") clause (c.behind (tokens t) (word "for" ∷ clause) e) in
        let d = c.rest (word "in") source (c.behind (names_tokens xs) (word "in" ∷ source) b) in (
          l.0,
          regrouped k (c.before (tokens k) (mark ":" ∷ item) a) l.1,
          l.2,
          regrouped t (c.before (tokens t) (word "for" ∷ clause) e) l.3,
          targets_named xs (c.before (names_tokens xs) (word "in" ∷ source) b) l.4,
          l.5,
          regrouped from (c.before (tokens from) (test_tokens tests) d) l.6,
          tests_regrouped tests (c.behind (tokens from) (test_tokens tests) d) l.7,
        )
    regrouped (bare ts b) h l = (all_regrouped 1 ts (c.before (list_tokens ts) (if_comma b) h) l.0, l.1)

    pub all_regrouped : (k : ℕ) (ts : Trees) → Each (list_tokens ts) → AllGrouped N L F k ts → AllGrouped N' L' F' k ts
    all_regrouped k none h l = tt
    all_regrouped k (more t ts) h l =
        (l.0, regrouped t (c.before (tokens t) (later_tokens ts) h) l.1, later_regrouped k ts (c.behind (tokens t) (later_tokens ts) h) l.2)

    later_regrouped : (k : ℕ) (ts : Trees) → Each (later_tokens ts) → AllGrouped N L F k ts → AllGrouped N' L' F' k ts
    later_regrouped k none h l = tt
    later_regrouped k (more t ts) h l =
        let a = c.rest (mark ",") (tokens t ++ later_tokens ts) h in
        (l.0, regrouped t (c.before (tokens t) (later_tokens ts) a) l.1, later_regrouped k ts (c.behind (tokens t) (later_tokens ts) a) l.2)

    tests_regrouped : (ts : Trees) → Each (test_tokens ts) → AllGrouped N L F 2 ts → AllGrouped N' L' F' 2 ts
    tests_regrouped none h l = tt
    tests_regrouped (more t ts) h l =
        let a = c.rest (word "if") (tokens t ++ test_tokens ts) h in
        (l.0, regrouped t (c.before (tokens t) (test_tokens ts) a) l.1, tests_regrouped ts (c.behind (tokens t) (test_tokens ts) a) l.2)

    links_regrouped : (ls : Links) → Each (link_tokens ls) → LinksGrouped N L F ls → LinksGrouped N' L' F' ls
    links_regrouped done h l = tt
    links_regrouped (link o t ls) h l =
        let a = c.behind (comparison_tokens o) (tokens t ++ link_tokens ls) h in
        (l.0, regrouped t (c.before (tokens t) (link_tokens ls) a) l.1, links_regrouped ls (c.behind (tokens t) (link_tokens ls) a) l.2)

    pub arguments_regrouped : (args : Arguments) → Each (argument_tokens args) → ArgumentsGrouped N L F args → ArgumentsGrouped N' L' F' args
    arguments_regrouped no_argument h l = tt
    arguments_regrouped (positional t args) h l =
        let later = later_argument_tokens args in
        (l.0, regrouped t (c.before (tokens t) later h) l.1, later_arguments_regrouped args (c.behind (tokens t) later h) l.2)
    arguments_regrouped (keyword x t args) h l =
        let later = later_argument_tokens args in
        let a = c.rest (mark "=") (tokens t ++ later) (c.rest (name_token x) (mark "=" ∷ (tokens t ++ later)) h) in (
          c.named x (mark "=" ∷ (tokens t ++ later)) h l.0,
          l.1,
          regrouped t (c.before (tokens t) later a) l.2,
          later_arguments_regrouped args (c.behind (tokens t) later a) l.3,
        )

    later_arguments_regrouped : (args : Arguments) → Each (later_argument_tokens args) → ArgumentsGrouped N L F args → ArgumentsGrouped N' L' F' args
    later_arguments_regrouped no_argument h l = tt
    later_arguments_regrouped (positional t args) h l =
        let later = later_argument_tokens args in
        let b = c.rest (mark ",") (tokens t ++ later) h in
        (l.0, regrouped t (c.before (tokens t) later b) l.1, later_arguments_regrouped args (c.behind (tokens t) later b) l.2)
    later_arguments_regrouped (keyword x t args) h l =
        let later = later_argument_tokens args in
        let b = c.rest (mark ",") (name_token x ∷ mark "=" ∷ (tokens t ++ later)) h in
        let a = c.rest (mark "=") (tokens t ++ later) (c.rest (name_token x) (mark "=" ∷ (tokens t ++ later)) b) in (
          c.named x (mark "=" ∷ (tokens t ++ later)) b l.0,
          l.1,
          regrouped t (c.before (tokens t) later a) l.2,
          later_arguments_regrouped args (c.behind (tokens t) later a) l.3,
        )

    pairs_regrouped : (ps : Pairs) → Each (pair_tokens ps) → PairsGrouped N L F ps → PairsGrouped N' L' F' ps
    pairs_regrouped no_pair h l = tt
    pairs_regrouped (pair k t ps) h l =
        let later = tokens t ++ later_pair_tokens ps in
        let a = c.rest (mark ":") later (c.behind (tokens k) (mark ":" ∷ later) h) in (
          l.0,
          regrouped k (c.before (tokens k) (mark ":" ∷ later) h) l.1,
          l.2,
          regrouped t (c.before (tokens t) (later_pair_tokens ps) a) l.3,
          later_pairs_regrouped ps (c.behind (tokens t) (later_pair_tokens ps) a) l.4,
        )

    later_pairs_regrouped : (ps : Pairs) → Each (later_pair_tokens ps) → PairsGrouped N L F ps → PairsGrouped N' L' F' ps
    later_pairs_regrouped no_pair h l = tt
    later_pairs_regrouped (pair k t ps) h l =
        let later = tokens t ++ later_pair_tokens ps in
        let b = c.rest (mark ",") (tokens k ++ mark ":" ∷ later) h in
        let a = c.rest (mark ":") later (c.behind (tokens k) (mark ":" ∷ later) b) in (
          l.0,
          regrouped k (c.before (tokens k) (mark ":" ∷ later) b) l.1,
          l.2,
          regrouped t (c.before (tokens t) (later_pair_tokens ps) a) l.3,
          later_pairs_regrouped ps (c.behind (tokens t) (later_pair_tokens ps) a) l.4,
        )

    bound_regrouped : (b : Bound) → Each (bound_tokens b) → BoundGrouped N L F b → BoundGrouped N' L' F' b
    bound_regrouped left_out h l = tt
    bound_regrouped (at t) h l = (l.0, regrouped t h l.1)

    pieces_regrouped : (ps : Pieces) → Fields Each ps → PiecesGrouped N L F ps → PiecesGrouped N' L' F' ps
    pieces_regrouped no_piece h l = tt
    pieces_regrouped (characters cs ps) h l = pieces_regrouped ps h l
    pieces_regrouped (field t convert spec ps) h l = (l.0, regrouped t h.0 l.1, pieces_regrouped ps h.1 l.2)
