-- Each text has one cut.
use Rattle.std.proofs.Common.{◌≡◌, ℕ, ◌<◌, Bool, true, false, cond, List, [], ◌∷◌, ◌++◌, length, Option, Some, None, refl, sym, ap, subst, ◌∙◌, append_assoc, arith}
use Rattle.std.specs.Prelude.{not, ◌==◌, ◌&&◌}
use Rattle.std.specs.List.{list_all, flat_map}
use Rattle.std.proofs.lemmas.Bool.Decides.{nat_tests}
use Rattle.py_tree.specs.Names.{is_among}
use Rattle.lexical_form.specs.Reading.{Read, span}
use Rattle.lexical_form.specs.Cuts.{state_after}
use Rattle.lexical_form.specs.Bytes.{starts, is_empty}
use Rattle.lexical_form.specs.Tokens.{Token, token, name, number, text, f_text, mark, spelling}
use Rattle.lexical_form.specs.Texts.{side, item_spelling}
use Rattle.lexical_form.specs.Plain as plains
use Rattle.lexical_form.specs.Plain.{f_text_prefixes}
use Rattle.lexical_form.specs.FTexts.{FText, f_text_spelling, f_part_spelling}
use Rattle.lexical_form.specs.Longest.{Stands, Longest}
use Rattle.lexical_form.specs.TokenReader.{next}
use Rattle.lexical_form.specs.Pieces.{Piece, a_token, space, tab, comment, line_end, piece_spelling, is_comment}
use Rattle.lexical_form.specs.LogicalLines.{Line, Spelled, Refused}
use Rattle.lexical_form.specs.Lines.{State, start, may_take, lines_of, after, Fits, Cut, outermost, refused_line, ScannedAs, ScanFails}
use Rattle.lexical_form.specs.Readable.{readable, is_readable}
use Rattle.lexical_form.specs.LineReader.{fitting, comment_at, piece_at, pieces}
use Rattle.lexical_form.proofs.Basics.{is_code, and_left, and_right, both, not_true, not_false, if_some, read_is, some_is, not_some}
use Rattle.lexical_form.proofs.Among.{among_all}
use Rattle.lexical_form.proofs.Spans.{span_runs, span_is}
use Rattle.lexical_form.proofs.Runs.{Reads, cuts_are_read, read_is_cut, read_is_stuck, nothing_stands, stands_not}
use Rattle.lexical_form.proofs.PlainLongest.{begins_token, stands_begins}
use Rattle.lexical_form.proofs.FTextLaws.{f_prefix_of}
use Rattle.lexical_form.proofs.NextLaws.{next_longest, longest_next}
use Rattle.lexical_form.proofs.ScanLaws.{spelled_by_scan, scan_spells, refused_by_scan, scan_fails}

-- the first byte of a token begins no other piece
word_begins : (p rest : List ℕ) → is_among p f_text_prefixes ≡ true → starts begins_token (p ++ rest) ≡ true
word_begins [] rest h = let none : false ≡ true = h in absurd cc
word_begins (c ∷ cs) rest h = among_all (starts begins_token) (c ∷ cs) f_text_prefixes refl h

f_text_apart : (t : FText) → f_text_spelling t ≡ t.prefix ++ (side t.quotes ++ (flat_map (item_spelling f_part_spelling t.quotes) t.items ++ side t.quotes))
f_text_apart t = simp append_assoc

token_begins : (t : Token) (rest : List ℕ) → Stands t rest → starts begins_token (spelling t) ≡ true
token_begins (token name cs) rest h = stands_begins plains.name cs rest h
token_begins (token number cs) rest h = stands_begins plains.number cs rest h
token_begins (token text cs) rest h = stands_begins plains.text cs rest h
token_begins (token mark cs) rest h = stands_begins plains.mark cs rest h
token_begins (token (f_text ps) cs) rest h =
    let t = h.0 in
    ap (starts begins_token) (h.2 ∙ f_text_apart h.0)
    ∙ word_begins (FText.prefix h.0) (side (FText.quotes h.0) ++ (flat_map (item_spelling f_part_spelling (FText.quotes h.0)) (FText.items h.0) ++ side (FText.quotes h.0))) (f_prefix_of h.0 h.1)

token_found : (s : State) (r : Read Token) (ts : List ℕ) (p : Piece) (more : List ℕ) → next ts ≡ r → fitting s r ≡ Some (p, more) → Fits s p more × (ts ≡ piece_spelling p ++ more)
token_found s None ts p more e f = not_some (p, more) f
token_found s (Some r) ts p more e f =
    let h = if_some {A = Piece × List ℕ} (may_take s r.0) (Some (a_token r.0, r.1)) (p, more) f in
    let same = read_is {A = Piece} (a_token r.0) p r.1 more h.1 in
    let l = next_longest ts r.0 r.1 e in
    let here : Longest (spelling r.0 ++ r.1) r.0 r.1 = subst (λ xs. Longest xs r.0 r.1) l.spelled l in
    subst (λ (x : Piece). Fits s x more × (ts ≡ piece_spelling x ++ more)) same.0
    (subst (λ (xs : List ℕ). Fits s (a_token r.0) xs × (ts ≡ spelling r.0 ++ xs)) same.1 ((here, h.0), l.spelled))

comment_found : (s : State) (cs : List ℕ) (p : Piece) (more : List ℕ) → comment_at 35 cs ≡ Some (p, more) → Fits s p more × ((35 ∷ cs) ≡ piece_spelling p ++ more)
comment_found s cs p more f =
    let r = span (λ d. not (d == 10)) cs in
    let w = span_runs (λ d. not (d == 10)) cs in
    let same = read_is {A = Piece} (comment (35 ∷ (span (λ d. not (d == 10)) cs).0)) p (span (λ d. not (d == 10)) cs).1 more f in
    subst (λ (x : Piece). Fits s x more × ((35 ∷ cs) ≡ piece_spelling x ++ more)) same.0
    (subst (λ (xs : List ℕ). Fits s (comment (35 ∷ (span (λ d. not (d == 10)) cs).0)) xs × ((35 ∷ cs) ≡ 35 ∷ ((span (λ d. not (d == 10)) cs).0 ++ xs))) same.1 (
      both (list_all (λ d. not (d == 10)) (span (λ d. not (d == 10)) cs).0) (not (starts (λ d. not (d == 10)) (span (λ d. not (d == 10)) cs).1)) w.each (not_false (starts (λ d. not (d == 10)) (span (λ d. not (d == 10)) cs).1) w.stops),
      ap (λ xs. 35 ∷ xs) w.front,
    ))

this : (s : State) (c : ℕ) (cs : List ℕ) (x p : Piece) (more : List ℕ) → piece_spelling x ≡ c ∷ [] → Fits s x cs → ◌≡◌ {A = Read Piece} (Some (x, cs)) (Some (p, more)) → Fits s p more × ((c ∷ cs) ≡ piece_spelling p ++ more)
this s c cs x p more e h f =
    let same = read_is {A = Piece} x p cs more f in
    subst (λ (y : Piece). Fits s y more × ((c ∷ cs) ≡ piece_spelling y ++ more)) same.0
    (subst (λ (xs : List ℕ). Fits s x xs × ((c ∷ cs) ≡ piece_spelling x ++ xs)) same.1 (h, ap (λ xs. xs ++ cs) (sym e)))

piece_found : (s : State) (ts : List ℕ) (p : Piece) (more : List ℕ) → piece_at s ts ≡ Some (p, more) → Fits s p more × (ts ≡ piece_spelling p ++ more)
piece_found s [] p more e = not_some (p, more) e
piece_found s (c ∷ cs) p more e = at_space (c == 32) refl e
  where
    at_mark : (b : Bool) → (c == 35) ≡ b → cond {A = Read Piece} b (comment_at c cs) (fitting s (next (c ∷ cs))) ≡ Some (p, more) → Fits s p more × ((c ∷ cs) ≡ piece_spelling p ++ more)
    at_mark true k f =
        let i = is_code c 35 k in
        subst (λ x. Fits s p more × ((x ∷ cs) ≡ piece_spelling p ++ more)) (sym i) (comment_found s cs p more (subst (λ x. comment_at x cs ≡ Some (p, more)) i f))
    at_mark false k f = token_found s (next (c ∷ cs)) (c ∷ cs) p more refl f

    at_end : (b : Bool) → (c == 10) ≡ b → cond {A = Read Piece} b (Some (line_end, cs)) (cond {A = Read Piece} (c == 35) (comment_at c cs) (fitting s (next (c ∷ cs)))) ≡ Some (p, more) → Fits s p more × ((c ∷ cs) ≡ piece_spelling p ++ more)
    at_end true k f = this s c cs line_end p more (ap (λ x. x ∷ []) (sym (is_code c 10 k))) tt f
    at_end false k f = at_mark (c == 35) refl f

    at_tab : (b : Bool) → (c == 9) ≡ b → cond {A = Read Piece} b (Some (tab, cs)) (cond {A = Read Piece} (c == 10) (Some (line_end, cs)) (cond {A = Read Piece} (c == 35) (comment_at c cs) (fitting s (next (c ∷ cs))))) ≡ Some (p, more) → Fits s p more × ((c ∷ cs) ≡ piece_spelling p ++ more)
    at_tab true k f = this s c cs tab p more (ap (λ x. x ∷ []) (sym (is_code c 9 k))) tt f
    at_tab false k f = at_end (c == 10) refl f

    at_space : (b : Bool) → (c == 32) ≡ b → cond {A = Read Piece} b (Some (space, cs)) (cond {A = Read Piece} (c == 9) (Some (tab, cs)) (cond {A = Read Piece} (c == 10) (Some (line_end, cs)) (cond {A = Read Piece} (c == 35) (comment_at c cs) (fitting s (next (c ∷ cs)))))) ≡ Some (p, more) → Fits s p more × ((c ∷ cs) ≡ piece_spelling p ++ more)
    at_space true k f = this s c cs space p more (ap (λ x. x ∷ []) (sym (is_code c 32 k))) tt f
    at_space false k f = at_tab (c == 9) refl f

token_front : (s : State) (ts : List ℕ) → starts begins_token ts ≡ true → piece_at s ts ≡ fitting s (next ts)
token_front s [] h = let none : false ≡ true = h in absurd cc
token_front s (c ∷ cs) h =
    let a : (c == 32) ≡ false = grind (arith, nat_tests) in
    let b : (c == 9) ≡ false = grind (arith, nat_tests) in
    let d : (c == 10) ≡ false = grind (arith, nat_tests) in
    let e : (c == 35) ≡ false = grind (arith, nat_tests) in
    let last = fitting s (next (c ∷ cs)) in
    ap (λ x. cond {A = Read Piece} x (Some (space, cs)) (cond {A = Read Piece} (c == 9) (Some (tab, cs)) (cond {A = Read Piece} (c == 10) (Some (line_end, cs)) (cond {A = Read Piece} (c == 35) (comment_at c cs) last)))) a
    ∙ (ap (λ x. cond {A = Read Piece} x (Some (tab, cs)) (cond {A = Read Piece} (c == 10) (Some (line_end, cs)) (cond {A = Read Piece} (c == 35) (comment_at c cs) last))) b
    ∙ (ap (λ x. cond {A = Read Piece} x (Some (line_end, cs)) (cond {A = Read Piece} (c == 35) (comment_at c cs) last)) d
    ∙ ap (λ x. cond {A = Read Piece} x (comment_at c cs) last) e))

starts_front : (p : ℕ → Bool) (ts more : List ℕ) → starts p ts ≡ true → starts p (ts ++ more) ≡ true
starts_front p [] more h = let none : false ≡ true = h in absurd cc
starts_front p (c ∷ cs) more h = h

comment_only : (s : State) (cs rest : List ℕ) → (is_comment cs && not (starts (λ c. not (c == 10)) rest)) ≡ true → piece_at s (cs ++ rest) ≡ Some (comment cs, rest)
comment_only s [] rest h = let none : false ≡ true = and_left (is_comment []) (not (starts (λ c. not (c == 10)) rest)) h in absurd cc
comment_only s (c ∷ cs) rest h =
    let is = and_left ((c == 35) && list_all (λ d. not (d == 10)) cs) (not (starts (λ c. not (c == 10)) rest)) h in
    let stops = not_true (starts (λ c. not (c == 10)) rest) (and_right ((c == 35) && list_all (λ d. not (d == 10)) cs) (not (starts (λ c. not (c == 10)) rest)) h) in
    let i = is_code c 35 (and_left (c == 35) (list_all (λ d. not (d == 10)) cs) is) in
    let run = span_is (λ d. not (d == 10)) cs rest (and_right (c == 35) (list_all (λ d. not (d == 10)) cs) is) stops in
    ap (λ x. piece_at s (x ∷ (cs ++ rest))) i ∙ (ap (λ (r : List ℕ × List ℕ). Some (comment (35 ∷ r.0), r.1)) run ∙ ap (λ x. Some (comment (x ∷ cs), rest)) (sym i))

piece_only : (s : State) (p : Piece) (more : List ℕ) → Fits s p more → piece_at s (piece_spelling p ++ more) ≡ Some (p, more)
piece_only s space more h = refl
piece_only s tab more h = refl
piece_only s line_end more h = refl
piece_only s (comment cs) more h = comment_only s cs more h
piece_only s (a_token t) more h =
    token_front s (spelling t ++ more) (starts_front begins_token (spelling t) more (token_begins t more h.0.stands))
    ∙ (ap (fitting s) (longest_next (spelling t ++ more) t more h.0) ∙ ap (λ b. cond {A = Read Piece} b (Some (a_token t, more)) None) h.1)

starts_some : (p : ℕ → Bool) (ts : List ℕ) → starts p ts ≡ true → 0 < length ts
starts_some p [] h = let none : false ≡ true = h in absurd cc
starts_some p (c ∷ cs) h = omega arith

comment_some : (cs : List ℕ) → is_comment cs ≡ true → 0 < length cs
comment_some [] h = let none : false ≡ true = h in absurd cc
comment_some (c ∷ cs) h = omega arith

piece_some : (s : State) (p : Piece) (more : List ℕ) → Fits s p more → 0 < length (piece_spelling p)
piece_some s space more h = omega arith
piece_some s tab more h = omega arith
piece_some s line_end more h = omega arith
piece_some s (comment cs) more h = comment_some cs (and_left (is_comment cs) (not (starts (λ c. not (c == 10)) more)) h)
piece_some s (a_token t) more h = starts_some begins_token (spelling t) (token_begins t more h.0.stands)

pub piece_reads : Reads piece_spelling Fits piece_at
piece_reads = record {
  found = λ s ts p more e. piece_found s ts p more e;
  only = λ s p more h. piece_only s p more h;
  some = λ s p more h. piece_some s p more h;
}

-- each text has a cut
pub cut_is : (ts : List ℕ) → Cut ts (state_after after start (pieces ts).0) (pieces ts).1
cut_is ts = (
  (pieces ts).0,
  read_is_cut piece_spelling Fits after piece_at piece_reads (length ts) start ts,
  refl,
  λ p rest h e. nothing_stands piece_spelling Fits after piece_at piece_reads (state_after after start (pieces ts).0) (pieces ts).1
      (read_is_stuck piece_spelling Fits after piece_at piece_reads (length ts) start ts (omega arith)) p rest h e,
)

pub record IsCut (ts : List ℕ) (s : State) (rest : List ℕ) : Type 0 where
  pub state : state_after after start (pieces ts).0 ≡ s
  pub behind : (pieces ts).1 ≡ rest

-- and no other
pub cut_only : (ts : List ℕ) (s : State) (rest : List ℕ) → Cut ts s rest → IsCut ts s rest
cut_only ts s rest c =
    let stuck : piece_at s rest ≡ None = stands_not piece_spelling Fits after piece_at piece_reads s rest (piece_at s rest) refl c.3 in
    let there : piece_at (state_after after start c.0) rest ≡ None = ap (λ x. piece_at x rest) (sym c.2) ∙ stuck in
    let all = cuts_are_read piece_spelling Fits after piece_at piece_reads (length ts) start ts c.0 rest c.1 there (omega arith) in
    record { state = ap (λ (r : List Piece × List ℕ). state_after after start r.0) all ∙ sym c.2; behind = ap (λ (r : List Piece × List ℕ). r.1) all }

pub cut_once : (ts : List ℕ) (s t : State) (rest others : List ℕ) → Cut ts s rest → Cut ts t others → (s ≡ t) × (rest ≡ others)
cut_once ts s t rest others c d =
    let a = cut_only ts s rest c in
    let b = cut_only ts t others d in
    (sym a.state ∙ b.state, sym a.behind ∙ b.behind)

-- Bytes spell one list of lines at most.
scanned_once : (bytes : List ℕ) (ls ms : List Line) → ScannedAs bytes ls → ScannedAs bytes ms → ls ≡ ms
scanned_once bytes ls ms a b = let c = cut_once (readable bytes) a.1 b.1 [] [] a.2 b.2 in a.4 ∙ (ap lines_of c.0 ∙ sym b.4)

pub spelled_once : (bytes : List ℕ) (ls ms : List Line) → Spelled bytes ls → Spelled bytes ms → ls ≡ ms
spelled_once bytes ls ms a b = scanned_once bytes ls ms (scan_spells bytes ls a) (scan_spells bytes ms b)

-- They are refused at one line at most.
fails_once : (bytes : List ℕ) (m n : ℕ) → ScanFails bytes m → ScanFails bytes n → m ≡ n
fails_once bytes m n a b =
    let c = cut_once (readable bytes) a.0 b.0 a.1 b.1 a.2 b.2 in
    some_is m n (sym a.3 ∙ (ap (λ s. refused_line (is_readable bytes) s a.1) c.0 ∙ (ap (refused_line (is_readable bytes) b.0) c.1 ∙ b.3)))

pub refused_once : (bytes : List ℕ) (m n : ℕ) → Refused bytes m → Refused bytes n → m ≡ n
refused_once bytes m n a b = fails_once bytes m n (scan_fails bytes m a) (scan_fails bytes n b)

-- None that spell lines are refused.
scanned_not_failing : (bytes : List ℕ) (ls : List Line) (n : ℕ) → ScannedAs bytes ls → ScanFails bytes n → ⊥
scanned_not_failing bytes ls n a b =
    let c = cut_once (readable bytes) b.0 a.1 b.1 [] b.2 a.2 in
    let whole : is_readable bytes ≡ true = a.0 in
    let closed : is_empty (State.brackets a.1) ≡ true = ap is_empty a.3 in
    not_some n (sym (ap (λ w. cond {A = Option ℕ} w (cond {A = Option ℕ} (is_empty (State.brackets a.1)) None (Some (outermost (State.brackets a.1)))) (Some (State.line a.1))) whole
    ∙ ap (λ e. cond {A = Option ℕ} e None (Some (outermost (State.brackets a.1)))) closed)
    ∙ (sym (ap (λ s. refused_line (is_readable bytes) s b.1) c.0 ∙ ap (refused_line (is_readable bytes) a.1) c.1) ∙ b.3))

pub spelled_not_refused : (bytes : List ℕ) (ls : List Line) (n : ℕ) → Spelled bytes ls → Refused bytes n → ⊥
spelled_not_refused bytes ls n a b = scanned_not_failing bytes ls n (scan_spells bytes ls a) (scan_fails bytes n b)

pub closed_list : {A : Type 0} (xs : List A) → is_empty xs ≡ true → xs ≡ []
closed_list [] h = refl
closed_list (x ∷ xs) h = let none : false ≡ true = h in absurd cc

-- Where the scan ends with no line refused, the bytes spell its lines.
closed : (bytes : List ℕ) (s : State) (b : Bool) → is_empty s.brackets ≡ b → is_readable bytes ≡ true → Cut (readable bytes) s [] → cond b None (Some (outermost s.brackets)) ≡ None
    → ScannedAs bytes (lines_of s)
closed bytes s true e w c h = (w, s, c, closed_list s.brackets e, refl)
closed bytes s false e w c h = not_some (outermost s.brackets) (sym h)

whole_scan : (bytes : List ℕ) (w : Bool) (s : State) (rest : List ℕ) → is_readable bytes ≡ w → Cut (readable bytes) s rest → refused_line w s rest ≡ None → ScannedAs bytes (lines_of s)
whole_scan bytes w s (c ∷ cs) e cut h = not_some s.line (sym h)
whole_scan bytes true s [] e cut h = closed bytes s (is_empty s.brackets) refl e cut h
whole_scan bytes false s [] e cut h = not_some s.line (sym h)

pub cut_spells : (bytes : List ℕ) (s : State) (rest : List ℕ) → Cut (readable bytes) s rest → refused_line (is_readable bytes) s rest ≡ None → Spelled bytes (lines_of s)
cut_spells bytes s rest cut h = spelled_by_scan bytes (lines_of s) (whole_scan bytes (is_readable bytes) s rest refl cut h)

pub cut_refuses : (bytes : List ℕ) (s : State) (rest : List ℕ) (n : ℕ) → Cut (readable bytes) s rest → refused_line (is_readable bytes) s rest ≡ Some n → Refused bytes n
cut_refuses bytes s rest n cut h = refused_by_scan bytes n (s, rest, cut, h)
