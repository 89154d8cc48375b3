-- The state of a scan.
use Rattle.std.proofs.Common.{◌≡◌, ℕ, ◌+◌, ◌≤◌, ◌<◌, Bool, true, false, cond, List, [], ◌∷◌, ◌++◌, length, get_or, Option, Some, None, refl, sym, ap, subst, ◌∙◌, length-append, arith}
use Rattle.std.specs.Str.{IsUtf8, IsCharBoundary}
use Rattle.std.proofs.lemmas.Str.{IsCharBoundary-after_ascii}
use Rattle.std.proofs.lemmas.Bool.Decides.{nat_tests}
use Rattle.std.specs.Prelude.{nat_lt, MatchOption, map, reverse, ◌==◌, IfSome, IfOk, Result, Ok, Err}
use Rattle.std.proofs.lemmas.List.{reverse-append, map-append}
use Rattle.lexical_form.specs.Reading.{Read}
use Rattle.lexical_form.specs.Cuts.{Cuts, state_after}
use Rattle.lexical_form.specs.Lines as pure
use Rattle.lexical_form.specs.Lines.{State, Piece, start, after, piece_spelling, Fits, Cut}
use Rattle.lexical_form.specs.LineReader.{piece_at}
use Rattle.std.specs.declared.alloc.AllocError.{AllocError}
use Rattle.std.specs.Borrow.{Bor}
use Rattle.py_tokens.specs.declared.token.Token.{Token, out-Token, roll-out-Token, fold-roll-Token}
use Rattle.lexical_form.specs.Tokens as pure_tokens
use Rattle.lexical_form.specs.Tokens.{spelling}
use Rattle.py_tokens.specs.TokenView.{view_token, piece_step, kind_step, pieces_step, token_step, tokens_step}
use Rattle.lexical_form.specs.TokenReader.{next}
use Rattle.lexical_form.specs.Longest.{Longest, NoToken}
use Rattle.lexical_form.specs.LineReader.{fitting, comment_at}
use Rattle.py_lexer.specs.BracketView.{view_bracket}
use Rattle.py_lexer.specs.ScanView.{seen, stepped, step_of, token_says, step_says, comment_end}
use Rattle.std.specs.List.{flat_map}
use Rattle.std.proofs.lemmas.List.Sums.{count_by-le-length}
use Rattle.lexical_form.specs.Bytes.{is_empty, starts}
use Rattle.lexical_form.proofs.Basics.{some_is, not_some}
use Rattle.lexical_form.proofs.NextLaws.{next_found, next_longest, longest_next}
use Rattle.py_lexer.specs.declared.brackets.Bracket.{Bracket}
use Rattle.lexical_form.proofs.Runs.{cuts_more, cuts_flat, state_more, nothing_stands}
use Rattle.lexical_form.proofs.CutLaws.{piece_reads}

pub pushed : (bs : List Bracket) (b : Bracket) → reverse (map view_bracket (bs ++ b ∷ [])) ≡ view_bracket b ∷ reverse (map view_bracket bs)
pushed bs b = ap reverse (map-append view_bracket bs (b ∷ [])) ∙ reverse-append (map view_bracket bs) (view_bracket b ∷ [])

-- the scan has come so far
abbrev pub Reached : List ℕ → State → List ℕ → Type 0
Reached ts s rest = (ps : List Piece) × Cuts piece_spelling Fits after start ts ps rest × (s ≡ state_after after start ps)

pub reached_start : (ts : List ℕ) → Reached ts start ts
reached_start ts = ([], refl, refl)

-- a piece more
pub reached_more : (ts : List ℕ) (s : State) (rest : List ℕ) (p : Piece) (more : List ℕ) → Reached ts s rest → piece_at s rest ≡ Some (p, more) → Reached ts (after s p) more
reached_more ts s rest p more r e =
    let f = piece_reads.found s rest p more e in
    let fits : Fits (state_after after start r.0) p more = subst (λ x. Fits x p more) r.2 f.0 in
    (r.0 ++ p ∷ [], cuts_more piece_spelling Fits after start ts r.0 rest p more r.1 fits f.1, ap (λ x. after x p) r.2 ∙ sym (state_more after start r.0 p))

-- no further
pub reached_end : (ts : List ℕ) (s : State) (rest : List ℕ) → Reached ts s rest → piece_at s rest ≡ None → Cut ts s rest
reached_end ts s rest r e = (r.0, r.1, r.2, λ p more h f. nothing_stands piece_spelling Fits after piece_at piece_reads s rest e p more h f)

next_short : (ts : List ℕ) (t : pure_tokens.Token) (more : List ℕ) → next ts ≡ Some (t, more) → length (spelling t) ≤ length ts
next_short ts t more e = let f = next_found ts t more e in let l = ap length f.front ∙ length-append (spelling t) more in omega arith

view_spelling : (t : Token) → spelling (view_token t) ≡ t.spelling
view_spelling t = ap (λ x. spelling (view_token x)) (sym (roll-out-Token t)) ∙ ap spelling (fold-roll-Token pure_tokens.Piece pure_tokens.Kind pure_tokens.Pieces pure_tokens.Token pure_tokens.Tokens piece_step kind_step pieces_step token_step tokens_step (out-Token t))

some_short : (ts : List ℕ) (o : Option (Token × Bor (List ℕ))) → seen o ≡ next ts → IfSome o (λ (p : Token × Bor (List ℕ)). let t : Token = p.0 in length t.spelling ≤ length ts)
some_short ts None e = tt
some_short ts (Some p) e = subst (λ xs. length xs ≤ length ts) (view_spelling p.0) (next_short ts (view_token p.0) p.1.now (sym e))

none_read : (ts : List ℕ) (r : Read pure_tokens.Token) → next ts ≡ r → NoToken ts → r ≡ None
none_read ts None e h = refl
none_read ts (Some p) e h = let l = next_longest ts p.0 p.1 e in absurd (h p.0 p.1 l.stands l.spelled)

-- the longest token is what the reader of tokens reads
read_is_next : (ts : List ℕ) (r : Read pure_tokens.Token) → MatchOption r (NoToken ts) (λ p. Longest ts p.0 p.1) → r ≡ next ts
read_is_next ts None h = sym (none_read ts (next ts) refl h)
read_is_next ts (Some p) h = sym (longest_next ts p.0 p.1 h)

pub token_read : (ts : List ℕ) (r : Result (Option (Token × Bor (List ℕ))) AllocError) → IfOk r (λ o. MatchOption (seen o) (NoToken ts) (λ p. Longest ts p.0 p.1))
    → IfOk r (λ o. seen o ≡ next ts)
token_read ts (Ok o) h = read_is_next ts (seen o) h
token_read ts (Err e) h = tt

pub token_short : (ts : List ℕ) (r : Result (Option (Token × Bor (List ℕ))) AllocError) → IfOk r (λ o. seen o ≡ next ts)
    → IfOk r (λ o. IfSome o (λ (p : Token × Bor (List ℕ)). let t : Token = p.0 in length t.spelling ≤ length ts))
token_short ts (Ok o) h = some_short ts o h
token_short ts (Err e) h = tt

-- each line and each space of an indent has its byte
pub record Bounds (s : State) (n : ℕ) (t : State) : Type 0 where
  pub line : t.line ≤ s.line + n
  pub indent : t.indent ≤ s.indent + n

one_bound : (s : State) (p : Piece) → Bounds s (length (piece_spelling p)) (after s p)
one_bound s (pure.a_token t) = record { line = (let l = count_by-le-length (λ c. c == 10) (spelling t) in omega arith); indent = omega arith }
one_bound s pure.space = record { line = omega arith; indent = go (is_empty s.tokens) }
  where
    go : (b : Bool) → cond b (s.indent + 1) s.indent ≤ s.indent + 1
    go true = omega arith
    go false = omega arith
one_bound s pure.tab = record { line = omega arith; indent = omega arith }
one_bound s (pure.comment cs) = record { line = omega arith; indent = omega arith }
one_bound s pure.line_end = go (is_empty s.brackets)
  where
    go : (b : Bool) → Bounds s 1 (cond b (record { line = s.line + 1; brackets = []; done = pure.lines_of s; indent = 0; tabbed = false; number = 1; tokens = [] }) (record s { line = s.line + 1 }))
    go true = record { line = omega arith; indent = omega arith }
    go false = record { line = omega arith; indent = omega arith }

pieces_bound : (s : State) (ts : List ℕ) (ps : List Piece) (rest : List ℕ) → Cuts piece_spelling Fits after s ts ps rest → (k : ℕ) → length ts ≡ k + length rest → Bounds s k (state_after after s ps)
pieces_bound s ts [] rest c k e = record { line = omega arith; indent = omega arith }
pieces_bound s ts (p ∷ ps) rest c k e =
    let l = ap length c.2 ∙ length-append (piece_spelling p) c.0 in
    let flat = cuts_flat piece_spelling Fits after (after s p) c.0 ps rest c.3 in
    let m = ap length flat ∙ length-append (flat_map piece_spelling ps) rest in
    let b = one_bound s p in
    let r = pieces_bound (after s p) c.0 ps rest c.3 (length (flat_map piece_spelling ps)) m in
    record { line = omega (arith, b.line, r.line, l, m, e); indent = omega (arith, b.indent, r.indent, l, m, e) }

pub record Small (ts : List ℕ) (s : State) (rest : List ℕ) : Type 0 where
  pub line : s.line + length rest ≤ 1 + length ts
  pub indent : s.indent + length rest ≤ length ts

pub reached_small : (ts : List ℕ) (s : State) (rest : List ℕ) → Reached ts s rest → Small ts s rest
reached_small ts s rest r =
    let flat = cuts_flat piece_spelling Fits after start ts r.0 rest r.1 in
    let m = ap length flat ∙ length-append (flat_map piece_spelling r.0) rest in
    let b = pieces_bound start ts r.0 rest r.1 (length (flat_map piece_spelling r.0)) m in
    subst (λ x. Small ts x rest) (sym r.2) (record { line = omega (arith, b.line, m); indent = omega (arith, b.indent, m) })

-- a step of the scan
pub record Stepped (ts : List ℕ) (s : State) (rest : List ℕ) (t : State) (more : List ℕ) : Type 0 where
  pub reached : Reached ts t more
  pub shorter : length more < length rest

stepped_by : (ts : List ℕ) (s : State) (rest : List ℕ) (t : State) (more : List ℕ) (r : Read Piece) → Reached ts s rest → piece_at s rest ≡ r → ◌≡◌ {A = State × Option (List ℕ)} (t, Some more) (stepped s r) → Stepped ts s rest t more
stepped_by ts s rest t more None h e f = not_some more (sym (ap (λ (x : State × Option (List ℕ)). x.1) f))
stepped_by ts s rest t more (Some p) h e f =
    let same : t ≡ after s p.0 = ap (λ (x : State × Option (List ℕ)). x.0) f in
    let behind : more ≡ p.1 = some_is more p.1 (ap (λ (x : State × Option (List ℕ)). x.1) f) in
    let r = reached_more ts s rest p.0 p.1 h e in
    let g = piece_reads.found s rest p.0 p.1 e in
    let some = piece_reads.some s p.0 p.1 g.0 in
    let l = ap length g.1 ∙ length-append (piece_spelling p.0) p.1 in
    let n = ap length behind in
    record { reached = subst (λ x. Reached ts x more) (sym same) (subst (λ xs. Reached ts (after s p.0) xs) (sym behind) r); shorter = omega arith }

pub step_reached : (ts : List ℕ) (s : State) (rest : List ℕ) (t : State) (more : List ℕ) → Reached ts s rest → ◌≡◌ {A = State × Option (List ℕ)} (t, Some more) (step_of s rest) → Stepped ts s rest t more
step_reached ts s rest t more h f = stepped_by ts s rest t more (piece_at s rest) h refl f

ended_by : (ts : List ℕ) (s : State) (rest : List ℕ) (t : State) (r : Read Piece) → Reached ts s rest → piece_at s rest ≡ r → ◌≡◌ {A = State × Option (List ℕ)} (t, None) (stepped s r) → Cut ts t rest
ended_by ts s rest t None h e f = let same : t ≡ s = ap (λ (x : State × Option (List ℕ)). x.0) f in subst (λ x. Cut ts x rest) (sym same) (reached_end ts s rest h e)
ended_by ts s rest t (Some p) h e f = not_some p.1 (ap (λ (x : State × Option (List ℕ)). x.1) f)

pub step_ended : (ts : List ℕ) (s : State) (rest : List ℕ) (t : State) → Reached ts s rest → ◌≡◌ {A = State × Option (List ℕ)} (t, None) (step_of s rest) → Cut ts t rest
step_ended ts s rest t h f = ended_by ts s rest t (piece_at s rest) h refl f

last_line : (xs : List pure.Bracket) (b : pure.Bracket) → pure.outermost (xs ++ b ∷ []) ≡ b.line
last_line [] b = refl
last_line (x ∷ []) b = refl
last_line (x ∷ y ∷ ys) b = last_line (y ∷ ys) b

reversed : (b : pure.Bracket) (bs : List pure.Bracket) → reverse (b ∷ bs) ≡ reverse bs ++ b ∷ []
reversed b bs = reverse-append (b ∷ []) bs

no_last : (xs : List pure.Bracket) (b : pure.Bracket) → is_empty (xs ++ b ∷ []) ≡ false
no_last [] b = refl
no_last (x ∷ xs) b = refl

pub outermost_is : (bs : List Bracket) (d : Bracket) → 0 < length bs
    → cond (is_empty (reverse (map view_bracket bs))) None (Some (pure.outermost (reverse (map view_bracket bs)))) ≡ Some (let b : Bracket = get_or bs 0 d in b.line)
outermost_is [] d l = absurd (omega (arith, l))
outermost_is (b ∷ bs) d l =
    let turned = reversed (view_bracket b) (map view_bracket bs) in
    ap (λ xs. cond (is_empty xs) None (Some (pure.outermost xs))) turned
    ∙ (ap (λ e. cond e None (Some (pure.outermost (reverse (map view_bracket bs) ++ view_bracket b ∷ [])))) (no_last (reverse (map view_bracket bs)) (view_bracket b))
    ∙ ap (λ n. Some n) (last_line (reverse (map view_bracket bs)) (view_bracket b)))

-- ---- the code's step is the reader's
abbrev Step : Type 0
Step = State × Option (List ℕ)

token_same : (s : State) (r : Read pure_tokens.Token) → ◌≡◌ {A = Step} (stepped s (fitting s r)) (token_says s r)
token_same s None = refl
token_same s (Some p) = go (pure.may_take s p.0)
  where
    go : (b : Bool) → ◌≡◌ {A = Step} (stepped s (cond {A = Read Piece} b (Some (pure.a_token p.0, p.1)) None)) (cond {A = Step} b (after s (pure.a_token p.0), Some p.1) (s, None))
    go true = refl
    go false = refl

pub step_same : (s : State) (ts : List ℕ) → ◌≡◌ {A = Step} (step_of s ts) (step_says s ts)
step_same s [] = refl
step_same s (c ∷ cs) = go (c == 32) (c == 9) (c == 10) (c == 35)
  where
    go : (a b d e : Bool) → ◌≡◌ {A = Step}
        (stepped s (cond {A = Read Piece} a (Some (pure.space, cs)) (cond {A = Read Piece} b (Some (pure.tab, cs)) (cond {A = Read Piece} d (Some (pure.line_end, cs)) (cond {A = Read Piece} e (comment_at c cs) (fitting s (next (c ∷ cs))))))))
        (cond {A = Step} a (after s pure.space, Some cs) (cond {A = Step} b (after s pure.tab, Some cs) (cond {A = Step} d (after s pure.line_end, Some cs) (cond {A = Step} e (s, Some (comment_end cs)) (token_says s (next (c ∷ cs)))))))
    go true b d e = refl
    go false true d e = refl
    go false false true e = refl
    go false false false true = refl
    go false false false false = token_same s (next (c ∷ cs))

pub says_reached : (ts : List ℕ) (s : State) (rest : List ℕ) (t : State) (more : List ℕ) → Reached ts s rest → ◌≡◌ {A = Step} (t, Some more) (step_says s rest) → Stepped ts s rest t more
says_reached ts s rest t more h f = step_reached ts s rest t more h (f ∙ sym (step_same s rest))

pub says_ended : (ts : List ℕ) (s : State) (rest : List ℕ) (t : State) → Reached ts s rest → ◌≡◌ {A = Step} (t, None) (step_says s rest) → Cut ts t rest
says_ended ts s rest t h f = step_ended ts s rest t h (f ∙ sym (step_same s rest))

-- behind an ASCII byte the text may be cut
pub first_boundary : (ts : List ℕ) → IsUtf8 ts → starts (λ c. nat_lt c 128) ts ≡ true → IsCharBoundary ts 1
first_boundary [] u h = let none : false ≡ true = h in absurd cc
first_boundary (c ∷ cs) u h =
    let ascii : nat_lt c 128 ≡ true = h in
    let small : get_or (c ∷ cs) 0 0 < 128 = grind (arith, nat_tests, ascii) in IsCharBoundary-after_ascii (c ∷ cs) 0 u (omega arith) small
