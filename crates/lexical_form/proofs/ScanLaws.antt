-- A scan's state is what its pieces say.
use Rattle.std.proofs.Common.{◌≡◌, ℕ, ◌+◌, Bool, true, false, cond, List, [], ◌∷◌, ◌++◌, Some, None, refl, sym, ap, subst, ◌∙◌, append-nil, arith}
use Rattle.std.specs.Prelude.{not, ◌&&◌, ◌||◌, ◌==◌, count_by}
use Rattle.std.specs.List.{list_all, list_any}
use Rattle.std.proofs.lemmas.Bool.Decides.{nat_tests}
use Rattle.std.proofs.lemmas.List.Sums.{sum_by-cons}
use Rattle.lexical_form.specs.Bytes.{is_empty, starts}
use Rattle.lexical_form.specs.Brackets.{single}
use Rattle.lexical_form.specs.Cuts.{Cuts, state_after}
use Rattle.lexical_form.specs.Tokens.{Token, spelling}
use Rattle.lexical_form.specs.Readable.{readable, is_readable}
use Rattle.lexical_form.specs.Pieces.{Piece, a_token, space, tab, comment, line_end, piece_spelling, is_comment, line_ends, Bracket, may_close, line_at, open_at, ends_line, row_at, tokens_in, before_first}
use Rattle.lexical_form.specs.LogicalLines.{Line, is_space, is_tab, line_of, lines_ended, is_tabbed, MayStand, IsMadeOf, IsCut, Spelled, first_open, refused_at, Refused}
use Rattle.lexical_form.specs.Lines.{State, start, lines_of, after, may_take, Fits, Cut, outermost, refused_line, ScannedAs, ScanFails}
use Rattle.lexical_form.proofs.Basics.{and_left, and_right, not_true}
use Rattle.lexical_form.proofs.Runs.{cuts_more, state_more}

-- the state at a place
abbrev pub state_at : List Piece → State
state_at b = record {
  line = line_at b;
  brackets = open_at b;
  done = lines_ended b;
  indent = count_by is_space (row_at (before_first b));
  tabbed = list_any is_tab (row_at (before_first b));
  number = cond (is_empty (tokens_in (row_at b))) 1 (line_at (before_first b));
  tokens = tokens_in (row_at b);
}

-- where the line has no token yet, all pieces are before its first
first_empty : (b : List Piece) → is_empty (tokens_in (row_at b)) ≡ true → before_first b ≡ b
first_empty [] h = refl
first_empty (p ∷ b) h = ap (λ e. cond e (p ∷ b) (before_first b)) h

no_end : (n : ℕ) → n ≡ n + 0
no_end n = omega arith

counted : {A : Type 0} (p : A → Bool) (x : A) (xs : List A) → count_by p (x ∷ xs) ≡ cond (p x) 1 0 + count_by p xs
counted p x xs = sum_by-cons (λ y. cond (p y) 1 0) x xs

comment_line : (cs : List ℕ) → list_all (λ d. not (d == 10)) cs ≡ true → line_ends cs ≡ 0
comment_line [] h = refl
comment_line (c ∷ cs) h =
    let other = not_true (c == 10) (and_left (not (c == 10)) (list_all (λ d. not (d == 10)) cs) h) in
    let l = comment_line cs (and_right (not (c == 10)) (list_all (λ d. not (d == 10)) cs) h) in
    counted (λ d. d == 10) c cs ∙ (ap (λ k. cond k 1 0 + line_ends cs) other ∙ omega (arith, l))

comment_ends : (cs rest : List ℕ) → (is_comment cs && not (starts (λ c. not (c == 10)) rest)) ≡ true → line_ends cs ≡ 0
comment_ends [] rest h = refl
comment_ends (c ∷ cs) rest h =
    let is = and_left ((c == 35) && list_all (λ d. not (d == 10)) cs) (not (starts (λ c. not (c == 10)) rest)) h in
    let hash = and_left (c == 35) (list_all (λ d. not (d == 10)) cs) is in
    let other : not (c == 10) ≡ true = grind (arith, nat_tests) in
    comment_line (c ∷ cs) (ap (λ k. k && list_all (λ d. not (d == 10)) cs) other ∙ and_right (c == 35) (list_all (λ d. not (d == 10)) cs) is)

not_empty : {A : Type 0} (xs : List A) (x : A) → is_empty (xs ++ x ∷ []) ≡ false
not_empty [] x = refl
not_empty (y ∷ ys) x = refl

-- states with equal parts
abbrev of_parts : ℕ → List Bracket → List Line → ℕ → Bool → ℕ → List Token → State
of_parts line brackets done indent tabbed number tokens = record {
  line = line;
  brackets = brackets;
  done = done;
  indent = indent;
  tabbed = tabbed;
  number = number;
  tokens = tokens;
}

record SameParts (s t : State) : Type 0 where
  line : s.line ≡ t.line
  brackets : s.brackets ≡ t.brackets
  done : s.done ≡ t.done
  indent : s.indent ≡ t.indent
  tabbed : s.tabbed ≡ t.tabbed
  number : s.number ≡ t.number
  tokens : s.tokens ≡ t.tokens

same_state : (s t : State) → SameParts s t → s ≡ t
same_state s t e =
    ap (λ x. of_parts x s.brackets s.done s.indent s.tabbed s.number s.tokens) e.line
    ∙ (ap (λ x. of_parts t.line x s.done s.indent s.tabbed s.number s.tokens) e.brackets
    ∙ (ap (λ x. of_parts t.line t.brackets x s.indent s.tabbed s.number s.tokens) e.done
    ∙ (ap (λ x. of_parts t.line t.brackets t.done x s.tabbed s.number s.tokens) e.indent
    ∙ (ap (λ x. of_parts t.line t.brackets t.done t.indent x s.number s.tokens) e.tabbed
    ∙ (ap (λ x. of_parts t.line t.brackets t.done t.indent t.tabbed x s.tokens) e.number
    ∙ ap (λ x. of_parts t.line t.brackets t.done t.indent t.tabbed t.number x) e.tokens)))))

-- ---- a piece that neither ends the line nor is a token
spaces : (e : Bool) (p : Piece) (b a : List Piece) → (e ≡ true → a ≡ b) → row_at (p ∷ b) ≡ p ∷ row_at b
    → cond e (cond (is_space p) 1 0 + count_by is_space (row_at a)) (count_by is_space (row_at a)) ≡ count_by is_space (row_at (cond e (p ∷ b) a))
spaces true p b a h k = ap (λ x. cond (is_space p) 1 0 + count_by is_space (row_at x)) (h refl) ∙ (sym (counted is_space p (row_at b)) ∙ ap (count_by is_space) (sym k))
spaces false p b a h k = refl

tabs : (e : Bool) (p : Piece) (b a : List Piece) → (e ≡ true → a ≡ b) → row_at (p ∷ b) ≡ p ∷ row_at b
    → cond e (is_tab p || list_any is_tab (row_at a)) (list_any is_tab (row_at a)) ≡ list_any is_tab (row_at (cond e (p ∷ b) a))
tabs true p b a h k = ap (λ x. is_tab p || list_any is_tab (row_at x)) (h refl) ∙ ap (list_any is_tab) (sym k)
tabs false p b a h k = refl

numbers : (e : Bool) (p : Piece) (b a : List Piece) → cond e 1 (line_at a) ≡ cond e 1 (line_at (cond e (p ∷ b) a))
numbers true p b a = refl
numbers false p b a = refl

record Carried (p : Piece) (b : List Piece) : Type 0 where
  tokens : tokens_in (row_at b) ≡ tokens_in (row_at (p ∷ b))
  indent : cond (is_empty (tokens_in (row_at b))) (cond (is_space p) 1 0 + count_by is_space (row_at (before_first b))) (count_by is_space (row_at (before_first b)))
      ≡ count_by is_space (row_at (before_first (p ∷ b)))
  tabbed : cond (is_empty (tokens_in (row_at b))) (is_tab p || list_any is_tab (row_at (before_first b))) (list_any is_tab (row_at (before_first b)))
      ≡ list_any is_tab (row_at (before_first (p ∷ b)))
  number : cond (is_empty (tokens_in (row_at b))) 1 (line_at (before_first b)) ≡ cond (is_empty (tokens_in (row_at (p ∷ b)))) 1 (line_at (before_first (p ∷ b)))

carried : (p : Piece) (b : List Piece) → row_at (p ∷ b) ≡ p ∷ row_at b → tokens_in (p ∷ row_at b) ≡ tokens_in (row_at b) → Carried p b
carried p b k t =
    let same : tokens_in (row_at (p ∷ b)) ≡ tokens_in (row_at b) = ap tokens_in k ∙ t in
    let ahead : before_first (p ∷ b) ≡ cond (is_empty (tokens_in (row_at b))) (p ∷ b) (before_first b) = ap (λ ts. cond (is_empty ts) (p ∷ b) (before_first b)) same in
    record {
      tokens = sym same;
      indent = spaces (is_empty (tokens_in (row_at b))) p b (before_first b) (first_empty b) k ∙ ap (λ x. count_by is_space (row_at x)) (sym ahead);
      tabbed = tabs (is_empty (tokens_in (row_at b))) p b (before_first b) (first_empty b) k ∙ ap (λ x. list_any is_tab (row_at x)) (sym ahead);
      number = numbers (is_empty (tokens_in (row_at b))) p b (before_first b)
          ∙ (ap (λ x. cond (is_empty (tokens_in (row_at b))) 1 (line_at x)) (sym ahead)
          ∙ ap (λ ts. cond (is_empty ts) 1 (line_at (before_first (p ∷ b)))) (sym same));
    }

-- the part that such a piece leaves as it is
none_more : (e : Bool) (n : ℕ) → n ≡ cond e (0 + n) n
none_more true n = omega arith
none_more false n = refl

one_more : (e : Bool) (n : ℕ) → cond e (n + 1) n ≡ cond e (1 + n) n
one_more true n = omega arith
one_more false n = refl

same_tabbed : (e t : Bool) → t ≡ cond e t t
same_tabbed true t = refl
same_tabbed false t = refl

now_tabbed : (e t : Bool) → (e || t) ≡ cond e true t
now_tabbed true t = refl
now_tabbed false t = refl

-- ---- one piece more
stays : (p : Piece) (b : List Piece) → ends_line b p ≡ false → lines_ended b ≡ lines_ended (p ∷ b)
stays p b h = sym (ap (λ k. lines_ended b ++ cond k (line_of b) []) h ∙ append-nil (lines_ended b))

with_space : (b : List Piece) → after (state_at b) space ≡ state_at (space ∷ b)
with_space b =
    let c = carried space b refl refl in
    same_state (after (state_at b) space) (state_at (space ∷ b)) (record {
      line = no_end (line_at b);
      brackets = refl;
      done = stays space b refl;
      indent = one_more (is_empty (tokens_in (row_at b))) (count_by is_space (row_at (before_first b))) ∙ c.indent;
      tabbed = same_tabbed (is_empty (tokens_in (row_at b))) (list_any is_tab (row_at (before_first b))) ∙ c.tabbed;
      number = c.number;
      tokens = c.tokens;
    })

with_tab : (b : List Piece) → after (state_at b) tab ≡ state_at (tab ∷ b)
with_tab b =
    let c = carried tab b refl refl in
    same_state (after (state_at b) tab) (state_at (tab ∷ b)) (record {
      line = no_end (line_at b);
      brackets = refl;
      done = stays tab b refl;
      indent = none_more (is_empty (tokens_in (row_at b))) (count_by is_space (row_at (before_first b))) ∙ c.indent;
      tabbed = now_tabbed (is_empty (tokens_in (row_at b))) (list_any is_tab (row_at (before_first b))) ∙ c.tabbed;
      number = c.number;
      tokens = c.tokens;
    })

with_comment : (b : List Piece) (cs : List ℕ) → line_ends cs ≡ 0 → after (state_at b) (comment cs) ≡ state_at (comment cs ∷ b)
with_comment b cs h =
    let c = carried (comment cs) b refl refl in
    same_state (state_at b) (state_at (comment cs ∷ b)) (record {
      line = no_end (line_at b) ∙ ap (λ n. line_at b + n) (sym h);
      brackets = refl;
      done = stays (comment cs) b refl;
      indent = none_more (is_empty (tokens_in (row_at b))) (count_by is_space (row_at (before_first b))) ∙ c.indent;
      tabbed = same_tabbed (is_empty (tokens_in (row_at b))) (list_any is_tab (row_at (before_first b))) ∙ c.tabbed;
      number = c.number;
      tokens = c.tokens;
    })

-- the lines, where nothing more comes
lines_by : (e : Bool) (done : List Line) (line n indent : ℕ) (ts : List Token)
    → cond e done (done ++ record { line = cond e n line; indent = indent; tokens = ts } ∷ []) ≡ done ++ cond e [] (record { line = line; indent = indent; tokens = ts } ∷ [])
lines_by true done line n indent ts = sym (append-nil done)
lines_by false done line n indent ts = refl

pub lines_same : (b : List Piece) → lines_of (state_at b) ≡ lines_ended b ++ line_of b
lines_same b = lines_by (is_empty (tokens_in (row_at b))) (lines_ended b) (line_at (before_first b)) 1 (count_by is_space (row_at (before_first b))) (tokens_in (row_at b))

closed_list : {A : Type 0} (xs : List A) → is_empty xs ≡ true → xs ≡ []
closed_list [] h = refl
closed_list (x ∷ xs) h = let none : false ≡ true = h in absurd cc

abbrev behind_end : List Piece → State
behind_end b = record { line = line_at b + 1; brackets = []; done = lines_of (state_at b); indent = 0; tabbed = false; number = 1; tokens = [] }

abbrev carried_on : List Piece → State
carried_on b = record (state_at b) { line = line_at b + 1 }

with_end : (b : List Piece) (k : Bool) → is_empty (open_at b) ≡ k → after (state_at b) line_end ≡ state_at (line_end ∷ b)
with_end b true h =
    let row : row_at (line_end ∷ b) ≡ [] = ap (λ k. cond k [] (line_end ∷ row_at b)) h in
    let first : before_first (line_end ∷ b) ≡ line_end ∷ b = ap (λ ps. cond (is_empty (tokens_in ps)) (line_end ∷ b) (before_first b)) row in
    let none : row_at (before_first (line_end ∷ b)) ≡ [] = ap row_at first ∙ row in
    ap (λ k. cond k (behind_end b) (carried_on b)) h
    ∙ same_state (behind_end b) (state_at (line_end ∷ b)) (record {
      line = refl;
      brackets = sym (closed_list (open_at b) h);
      done = lines_same b ∙ ap (λ k. lines_ended b ++ cond k (line_of b) []) (sym h);
      indent = sym (ap (count_by is_space) none);
      tabbed = sym (ap (list_any is_tab) none);
      number = sym (ap (λ ps. cond (is_empty (tokens_in ps)) 1 (line_at (before_first (line_end ∷ b)))) row);
      tokens = sym (ap tokens_in row);
    })
with_end b false h =
    let c = carried line_end b (ap (λ k. cond k [] (line_end ∷ row_at b)) h) refl in
    ap (λ k. cond k (behind_end b) (carried_on b)) h
    ∙ same_state (carried_on b) (state_at (line_end ∷ b)) (record {
      line = refl;
      brackets = refl;
      done = stays line_end b h;
      indent = none_more (is_empty (tokens_in (row_at b))) (count_by is_space (row_at (before_first b))) ∙ c.indent;
      tabbed = same_tabbed (is_empty (tokens_in (row_at b))) (list_any is_tab (row_at (before_first b))) ∙ c.tabbed;
      number = c.number;
      tokens = c.tokens;
    })

number_by : (e : Bool) (b a : List Piece) → (e ≡ true → a ≡ b) → cond e (line_at b) (cond e 1 (line_at a)) ≡ line_at a
number_by true b a h = ap line_at (sym (h refl))
number_by false b a h = refl

with_token : (b : List Piece) (t : Token) → after (state_at b) (a_token t) ≡ state_at (a_token t ∷ b)
with_token b t =
    let some = not_empty (tokens_in (row_at b)) t in
    let first : before_first (a_token t ∷ b) ≡ before_first b = ap (λ k. cond k (a_token t ∷ b) (before_first b)) some in
    same_state (after (state_at b) (a_token t)) (state_at (a_token t ∷ b)) (record {
      line = refl;
      brackets = refl;
      done = stays (a_token t) b refl;
      indent = sym (ap (λ x. count_by is_space (row_at x)) first);
      tabbed = sym (ap (λ x. list_any is_tab (row_at x)) first);
      number = number_by (is_empty (tokens_in (row_at b))) b (before_first b) (first_empty b)
          ∙ sym (ap (λ k. cond k 1 (line_at (before_first (a_token t ∷ b)))) some ∙ ap line_at first);
      tokens = refl;
    })

step : (b : List Piece) (p : Piece) (rest : List ℕ) → MayStand b p rest → after (state_at b) p ≡ state_at (p ∷ b)
step b (a_token t) rest h = with_token b t
step b space rest h = with_space b
step b tab rest h = with_tab b
step b (comment cs) rest h = with_comment b cs (comment_ends cs rest h)
step b line_end rest h = with_end b (is_empty (open_at b)) refl

-- ---- what may stand
tabbed_by : (e : Bool) (b a : List Piece) → (e ≡ true → a ≡ b) → (e && list_any is_tab (row_at a)) ≡ (e && list_any is_tab (row_at b))
tabbed_by true b a h = ap (λ x. list_any is_tab (row_at x)) (h refl)
tabbed_by false b a h = refl

take_is : (b : List Piece) (t : Token) → may_take (state_at b) t ≡ (may_close (open_at b) (single (spelling t)) && not (is_tabbed b))
take_is b t = ap (λ k. may_close (open_at b) (single (spelling t)) && not k) (tabbed_by (is_empty (tokens_in (row_at b))) b (before_first b) (first_empty b))

fits : (b : List Piece) (p : Piece) (rest : List ℕ) → MayStand b p rest → Fits (state_at b) p rest
fits b (a_token t) rest h = (h.0, take_is b t ∙ h.1)
fits b space rest h = h
fits b tab rest h = h
fits b (comment cs) rest h = h
fits b line_end rest h = h

may : (b : List Piece) (p : Piece) (rest : List ℕ) → Fits (state_at b) p rest → MayStand b p rest
may b (a_token t) rest h = (h.0, sym (take_is b t) ∙ h.1)
may b space rest h = h
may b tab rest h = h
may b (comment cs) rest h = h
may b line_end rest h = h

-- ---- texts
record Made (text rest : List ℕ) (s : State) : Type 0 where
  before : List Piece
  is : IsMadeOf text before rest
  state : s ≡ state_at before

made : (text : List ℕ) (b : List Piece) (ts : List ℕ) (ps : List Piece) (rest : List ℕ) → IsMadeOf text b ts → Cuts piece_spelling Fits after (state_at b) ts ps rest
    → Made text rest (state_after after (state_at b) ps)
made text b ts [] rest m c = record { before = b; is = subst (IsMadeOf text b) c m; state = refl }
made text b ts (p ∷ ps) rest m c =
    let here = may b p c.0 c.1 in
    let next = step b p c.0 here in
    let behind = subst (λ s. Cuts piece_spelling Fits after s c.0 ps rest) next c.3 in
    let r = made text (p ∷ b) c.0 ps rest (here, subst (IsMadeOf text b) c.2 m) behind in
    record { before = r.before; is = r.is; state = ap (λ s. state_after after s ps) next ∙ r.state }

record Scanned (text rest : List ℕ) (b : List Piece) : Type 0 where
  pieces : List Piece
  cuts : Cuts piece_spelling Fits after start text pieces rest
  state : state_after after start pieces ≡ state_at b

scanned : (text : List ℕ) (b : List Piece) (rest : List ℕ) → IsMadeOf text b rest → Scanned text rest b
scanned text [] rest m = record { pieces = []; cuts = m; state = refl }
scanned text (p ∷ b) rest m =
    let r = scanned text b (piece_spelling p ++ rest) m.1 in
    let here = subst (λ s. Fits s p rest) (sym r.state) (fits b p rest m.0) in
    record {
      pieces = r.pieces ++ p ∷ [];
      cuts = cuts_more piece_spelling Fits after start text r.pieces (piece_spelling p ++ rest) p rest r.cuts here refl;
      state = state_more after start r.pieces p ∙ (ap (λ s. after s p) r.state ∙ step b p rest m.0);
    }

pub record CutBy (text rest : List ℕ) (s : State) : Type 0 where
  pub before : List Piece
  pub is : IsCut text before rest
  pub state : s ≡ state_at before

pub cut_by : (text : List ℕ) (s : State) (rest : List ℕ) → Cut text s rest → CutBy text rest s
cut_by text s rest c =
    let m = made text [] text c.0 rest refl c.1 in
    let same : s ≡ state_at m.before = c.2 ∙ m.state in
    record {
      before = m.before;
      is = (m.is, λ p more h e. c.3 p more (subst (λ x. Fits x p more) (sym same) (fits m.before p more h)) e);
      state = same;
    }

pub cut_of : (text : List ℕ) (b : List Piece) (rest : List ℕ) → IsCut text b rest → Cut text (state_at b) rest
cut_of text b rest c = let r = scanned text b rest c.0 in (r.pieces, r.cuts, sym r.state, λ p more h e. c.1 p more (may b p more h) e)

-- ---- answers
open_line : (bs : List Bracket) → first_open bs ≡ cond (is_empty bs) None (Some (outermost bs))
open_line [] = refl
open_line (b ∷ []) = refl
open_line (b ∷ c ∷ cs) = open_line (c ∷ cs)

line_same : (whole : Bool) (b : List Piece) (rest : List ℕ) → refused_at whole b rest ≡ refused_line whole (state_at b) rest
line_same true b [] = open_line (open_at b)
line_same false b [] = refl
line_same true b (c ∷ cs) = refl
line_same false b (c ∷ cs) = refl

pub spelled_by_scan : (bytes : List ℕ) (ls : List Line) → ScannedAs bytes ls → Spelled bytes ls
spelled_by_scan bytes ls h =
    let c = cut_by (readable bytes) h.1 [] h.2 in
    (h.0, c.before, c.is, sym (ap (λ s. State.brackets s) c.state) ∙ h.3, h.4 ∙ (ap lines_of c.state ∙ lines_same c.before))

pub scan_spells : (bytes : List ℕ) (ls : List Line) → Spelled bytes ls → ScannedAs bytes ls
scan_spells bytes ls h = (h.0, state_at h.1, cut_of (readable bytes) h.1 [] h.2, h.3, h.4 ∙ sym (lines_same h.1))

pub refused_by_scan : (bytes : List ℕ) (n : ℕ) → ScanFails bytes n → Refused bytes n
refused_by_scan bytes n h =
    let c = cut_by (readable bytes) h.0 h.1 h.2 in
    (c.before, h.1, c.is, line_same (is_readable bytes) c.before h.1 ∙ (ap (λ s. refused_line (is_readable bytes) s h.1) (sym c.state) ∙ h.3))

pub scan_fails : (bytes : List ℕ) (n : ℕ) → Refused bytes n → ScanFails bytes n
scan_fails bytes n h = (state_at h.0, h.1, cut_of (readable bytes) h.0 h.1 h.2, sym (line_same (is_readable bytes) h.0 h.1) ∙ h.3)
