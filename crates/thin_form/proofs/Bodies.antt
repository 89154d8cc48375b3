-- A body that is read line by line.
use Rattle.std.proofs.Common.{◌≡◌, ℕ, ◌+◌, ◌<◌, ◌≤◌, Bool, true, false, cond, not, IsTrue, List, [], ◌∷◌, ◌++◌, length, ◌⊎◌, inl, inr, refl, sym, ap, ◌∙◌, append_assoc, add-zero, arith, subst}
use Rattle.std.proofs.lemmas.Bool.{and_parts, and_from, or_right, false≢true}
use Rattle.thin_form.specs.FileParts.{At, BeginsWith, HasBody, HasStmt, IsIndented, IsPlaced}
use Rattle.thin_form.specs.Places.{AfterAlone, AfterBody, IsApart, place_after}
use Rattle.thin_form.proofs.Parts.{first_line, line_before, untrue, whole_parts}
use Rattle.py_tree.proofs.Breaks.{text-append}
use Rattle.thin_form.proofs.Places.{past_none, past_on}
use Rattle.form_meaning.specs.Thin.{Elements, is_line, stands_alone, is_empty, is_plain, are_lines, line_count, head_text, line_text, body_lines, is_whole}
use Rattle.py_tree.specs.TextLines.{text_of}
use Rattle.py_tree.specs.Trees.{Head, Stmt, stmt, Stmts, end, then_comes}
use Rattle.py_tree.specs.View.{view_stmt, view_stmts}
use Rattle.py_tree.specs.declared.tree.Stmt as code

abbrev pub joined : Stmts → Stmts → Stmts
joined end b = b
joined (then_comes s a) b = then_comes s (joined a b)

pub joined-end : (a : Stmts) → joined a end ≡ a
joined-end end = refl
joined-end (then_comes s a) = ap (then_comes s) (joined-end a)

joined-push : (a : Stmts) (s : Stmt) (b : Stmts) → joined (joined a (then_comes s end)) b ≡ joined a (then_comes s b)
joined-push end s b = refl
joined-push (then_comes t a) s b = ap (then_comes t) (joined-push a s b)

pub view-push : (xs : List code.Stmt) (x : code.Stmt) → view_stmts (xs ++ x ∷ []) ≡ joined (view_stmts xs) (then_comes (view_stmt x) end)
view-push [] x = refl
view-push (y ∷ xs) x = ap (then_comes (view_stmt y)) (view-push xs x)

lines-joined : (a b : Stmts) → body_lines (joined a b) ≡ body_lines a ++ body_lines b
lines-joined end b = refl
lines-joined (then_comes (stmt n h block) a) b = ap (λ (ls : List (List ℕ)). line_text h ∷ ls) (lines-joined a b)

count-joined : (a b : Stmts) → line_count (joined a b) ≡ line_count a + line_count b
count-joined end b = omega arith
count-joined (then_comes s a) b = omega (arith, count-joined a b)

pub length-lines : (a : Stmts) → length (body_lines a) ≡ line_count a
length-lines end = refl
length-lines (then_comes (stmt n h block) a) = omega (arith, length-lines a)

are-joined : (es : Elements) (n : ℕ) (a b : Stmts) → IsTrue (are_lines es n a) → IsTrue (are_lines es (n + line_count a) b) → IsTrue (are_lines es n (joined a b))
are-joined es n end b p q = rw add-zero at q
are-joined es n (then_comes (stmt k h block) a) b p q =
    let e : n + (line_count a + 1) ≡ n + 1 + line_count a = omega arith in
    let w = and_parts _ _ p in
    and_from _ _ w.0 (are-joined es (n + 1) a b w.1 (rw e at q))

are-second : (es : Elements) (n : ℕ) (a b : Stmts) → IsTrue (are_lines es n (joined a b)) → IsTrue (are_lines es (n + line_count a) b)
are-second es n end b p = rw add-zero p
are-second es n (then_comes (stmt k h block) a) b p =
    let e : n + (line_count a + 1) ≡ n + 1 + line_count a = omega arith in
    rw e (are-second es (n + 1) a b (and_parts _ _ p).1)

-- ---- lines that stand alone

alone_or_shared : (h : Head) → IsTrue (stands_alone h) → IsTrue (not (stands_alone h)) → ⊥
alone_or_shared h alone shared = false≢true (rw alone at shared)

plain-joined : (a b : Stmts) → IsTrue (is_plain a) → IsTrue (is_plain b) → IsTrue (is_plain (joined a b))
plain-joined end b p q = q
plain-joined (then_comes (stmt k h block) a) b p q =
    let w = and_parts _ _ p in and_from _ _ w.0 (plain-joined a b w.1 q)

plain-second : (a b : Stmts) → IsTrue (is_plain (joined a b)) → IsTrue (is_plain b)
plain-second end b p = p
plain-second (then_comes (stmt k h block) a) b p = plain-second a b (and_parts _ _ p).1

no_end : (a : Stmts) (s : Stmt) (b : Stmts) → joined a (then_comes s b) ≡ end → ⊥
no_end end s b e = cc
no_end (then_comes t a) s b e = cc

-- a line of a whole body that stands alone is its only one
alone_in : (done more : Stmts) (n : ℕ) (h : Head) (block : Stmts) → IsTrue (is_whole (joined done (then_comes (stmt n h block) more))) → IsTrue (stands_alone h) → (done ≡ end) × (more ≡ end)
alone_in end more n h block whole alone =
    elim (whole_parts n h block more whole) as (λ _. (end ≡ end) × (more ≡ end)) [
      | inl w ↦ (refl, w.1)
      | inr w ↦ absurd (alone_or_shared h alone w.0)
    ]
alone_in (then_comes (stmt k g b) done) more n h block whole alone =
    elim (whole_parts k g b (joined done (then_comes (stmt n h block) more)) whole) as (λ _. (then_comes (stmt k g b) done ≡ end) × (more ≡ end)) [
      | inl w ↦ absurd (no_end done (stmt n h block) more w.1)
      | inr w ↦ absurd (alone_or_shared h alone (and_parts _ _ (plain-second done (then_comes (stmt n h block) more) w.1)).0)
    ]

-- an indent is a space first
pub space_first : (bytes : List ℕ) → (BeginsWith 32 bytes → ⊥) → IsIndented bytes → ⊥
space_first bytes none i = none (_, i.1)

placed_in : (done more : Stmts) (n : ℕ) (h : Head) (block : Stmts) (rest : List ℕ) → IsTrue (is_whole (joined done (then_comes (stmt n h block) more))) → (BeginsWith 32 rest → ⊥) → IsPlaced (is_empty done) h (text_of (body_lines more) ++ rest)
placed_in done more n h block rest whole none alone =
    let w = alone_in done more n h block whole alone in
    (rw w.0 refl, rw w.1 (space_first rest none))

-- ---- the lines that are left

-- Of the whole body these lines are done, and the bytes begin with what is left of it.
pub record IsOnWay (bytes : List ℕ) (done whole : Stmts) (rest : List ℕ) : Type 0 where
  pub more : Stmts
  pub parts : whole ≡ joined done more
  pub left : bytes ≡ text_of (body_lines more) ++ rest

-- each body that the bytes begin with is on its way
abbrev pub Continues : Elements → At → At → Stmts → Type 0
Continues es before place done =
    (body : Stmts) (rest : List ℕ) → IsTrue (are_lines es before.line body) → IsTrue (is_whole body) → line_count body ≤ before.room →
    before.bytes ≡ text_of (body_lines body) ++ rest → (BeginsWith 32 rest → ⊥) → IsOnWay place.bytes done body rest

-- a further line comes
pub record IsNext (es : Elements) (place : At) (done whole : Stmts) (rest : List ℕ) : Type 0 where
  pub head : Head
  pub more : Stmts
  pub fits : IsTrue (is_line es head)
  pub room : 0 < place.room
  pub parts : whole ≡ joined done (then_comes (stmt place.line head end) more)
  pub left : place.bytes ≡ text_of (line_text head ∷ []) ++ (text_of (body_lines more) ++ rest)

-- no further line comes
pub record IsLast (place : At) (done whole : Stmts) (rest : List ℕ) : Type 0 where
  pub parts : whole ≡ done
  pub left : place.bytes ≡ rest

by_more : (es : Elements) (place : At) (done more whole : Stmts) (rest : List ℕ) → whole ≡ joined done more → place.bytes ≡ text_of (body_lines more) ++ rest → IsTrue (are_lines es place.line more) → line_count more ≤ place.room → IsNext es place done whole rest ⊎ IsLast place done whole rest
by_more es place done end whole rest w l f r = inr (record { parts = w ∙ joined-end done; left = l })
by_more es place done (then_comes (stmt k h block) more) whole rest w l f r =
    let p = first_line es place.line k h block more f in
    let number : k ≡ place.line = p.at in
    let empty : block ≡ end = p.empty in
    let same : stmt k h block ≡ stmt place.line h end = cc in
    inl (record {
      head = h;
      more = more;
      fits = p.fits;
      room = omega arith;
      parts = w ∙ ap (λ (s : Stmt). joined done (then_comes s more)) same;
      left = l ∙ (ap (λ (t : List ℕ). t ++ rest) (text-append (line_text h ∷ []) (body_lines more)) ∙ append_assoc (text_of (line_text h ∷ [])) (text_of (body_lines more)) rest);
    })

-- the number of the line that comes after these
line_after : (es : Elements) (before place : At) (done : Stmts) → HasBody es before place done → place.line ≡ before.line + line_count done
line_after es before place done found = omega (arith, found.past.line, length-lines done)

pub next : (es : Elements) (before place : At) (done whole : Stmts) (rest : List ℕ) → HasBody es before place done → IsTrue (are_lines es before.line whole) → line_count whole ≤ before.room → IsOnWay place.bytes done whole rest → IsNext es place done whole rest ⊎ IsLast place done whole rest
next es before place done whole rest found fits room way =
    let more : IsTrue (are_lines es place.line way.more) = rw (line_after es before place done found) (are-second es before.line done way.more (rw way.parts at fits)) in
    let sum : line_count whole ≡ line_count done + line_count way.more = ap line_count way.parts ∙ count-joined done way.more in
    by_more es place done way.more whole rest way.parts way.left more (omega (arith, found.past.room))

-- the next line may stand where it does
pub next_placed : (es : Elements) (place : At) (done whole : Stmts) (rest : List ℕ) (n : IsNext es place done whole rest) → IsTrue (is_whole whole) → (BeginsWith 32 rest → ⊥) → IsPlaced (is_empty done) n.head (text_of (body_lines n.more) ++ rest)
next_placed es place done whole rest n fits none =
    placed_in done n.more place.line n.head end rest (rw n.parts at fits) none

-- where no line comes the body is done
pub last : (es : Elements) (before place : At) (done body : Stmts) (rest : List ℕ) → HasBody es before place done → ((head : Head) (after : List ℕ) → IsTrue (is_line es head) → IsPlaced (is_empty done) head after → 0 < place.room → place.bytes ≡ text_of (line_text head ∷ []) ++ after → ⊥) → IsTrue (are_lines es before.line body) → IsTrue (is_whole body) → line_count body ≤ before.room → (BeginsWith 32 rest → ⊥) → IsOnWay place.bytes done body rest → IsLast place done body rest
last es before place done body rest found none fits whole room u way =
    elim (next es before place done body rest found fits room way) as (λ _. IsLast place done body rest) [
      | inl n ↦ absurd (none n.head (text_of (body_lines n.more) ++ rest) n.fits (next_placed es place done body rest n whole u) n.room n.left)
      | inr n ↦ n
    ]

pub start : (es : Elements) (a : At) → HasBody es a a end
start es a = record { fits = refl; past = past_none a }

pub begins : (es : Elements) (a : At) → Continues es a a end
begins es a body rest f w r e u = record { more = body; parts = refl; left = e }

-- one line is a body of one line
one_line : (es : Elements) (first : Bool) (b c : At) (s : Stmt) → HasStmt es first b c s → HasBody es b c (then_comes s end)
one_line es first b c s line =
    let P : Stmt → Type 0 = λ t. HasBody es b c (then_comes t end) in
    subst P (sym line.is) (record { fits = line_before es b.line line.head end line.fits refl; past = line.past })

-- one more line
pub has_more : (es : Elements) (first : Bool) (a b c : At) (done : Stmts) (s : Stmt) → HasBody es a b done → HasStmt es first b c s → HasBody es a c (joined done (then_comes s end))
has_more es first a b c done s p line =
    let q = one_line es first b c s line in
    record {
      fits = are-joined es a.line done (then_comes s end) p.fits (rw (← line_after es a b done p) q.fits);
      past = rw (lines-joined done (then_comes s end), count-joined done (then_comes s end)) (past_on a b c (body_lines done) (body_lines (then_comes s end)) (line_count done) 1 p.past q.past);
    }

-- a line of a body has an indent
indented : (es : Elements) (first : Bool) (b c : At) (s : Stmt) → HasStmt es first b c s → IsIndented b.bytes
indented es first b c s line = (head_text line.head ++ 10 ∷ c.bytes, line.past.bytes ∙ simp append_assoc)

pub goes_on : (es : Elements) (first : Bool) (a b c : At) (done : Stmts) (s : Stmt) → first ≡ is_empty done → HasBody es a b done → Continues es a b done → HasStmt es first b c s → ((head : Head) (rest : List ℕ) → IsTrue (is_line es head) → IsPlaced first head rest → 0 < b.room → b.bytes ≡ text_of (line_text head ∷ []) ++ rest → (s ≡ stmt b.line head end) × (c.bytes ≡ rest)) → Continues es a c (joined done (then_comes s end))
goes_on es first a b c done s same found way line only body rest f w r e u =
    elim (next es a b done body rest found f r (way body rest f w r e u)) as (λ _. IsOnWay c.bytes (joined done (then_comes s end)) body rest) [
      | inl n ↦ let o = only n.head (text_of (body_lines n.more) ++ rest) n.fits (rw same (next_placed es b done body rest n w u)) n.room n.left in record {
        more = n.more;
        parts = n.parts ∙ (ap (λ (t : Stmt). joined done (then_comes t n.more)) (sym o.0) ∙ sym (joined-push done s n.more));
        left = o.1;
      }
      | inr n ↦ let i = indented es first b c s line in absurd (u (_, sym n.left ∙ i.1))
    ]

-- ---- the place after the lines so far

-- lines so far of a whole body
pub record IsKept (done : Stmts) (bytes : List ℕ) : Type 0 where
  pub whole : IsTrue (is_whole done)
  pub apart : IsApart (place_after done) bytes

pub kept_none : (bytes : List ℕ) → IsKept end bytes
kept_none bytes = record { whole = refl; apart = λ same i. cc }

by_alone : (b : Bool) (bytes : List ℕ) → (IsTrue b → IsIndented bytes → ⊥) → IsApart (cond b AfterAlone AfterBody) bytes
by_alone true bytes h same i = h refl i
by_alone false bytes h same i = cc

kept_first : (es : Elements) (first : Bool) (b c : At) (s : Stmt) → HasStmt es first b c s → IsKept (then_comes s end) c.bytes
kept_first es first b c s line =
    let P : Stmt → Type 0 = λ t. IsKept (then_comes t end) c.bytes in
    let apart = by_alone (stands_alone line.head) c.bytes (λ alone. let w = line.placed alone in w.1) in
    subst P (sym line.is) (record { whole = refl; apart = apart })

plain_one : (es : Elements) (first : Bool) (b c : At) (s : Stmt) → first ≡ false → HasStmt es first b c s → IsTrue (is_plain (then_comes s end))
plain_one es first b c s later line =
    let P : Stmt → Type 0 = λ t. IsTrue (is_plain (then_comes t end)) in
    let shared = untrue (stands_alone line.head) (λ alone. let w = line.placed alone in false≢true (sym later ∙ w.0)) in
    subst P (sym line.is) (and_from _ _ shared refl)

-- a line more
pub kept_on : (es : Elements) (first : Bool) (b c : At) (done : Stmts) (s : Stmt) → first ≡ is_empty done → IsKept done b.bytes → HasStmt es first b c s → IsKept (joined done (then_comes s end)) c.bytes
kept_on es first b c end s same kept line = kept_first es first b c s line
kept_on es first b c (then_comes (stmt k h block) done) s same kept line =
    elim (whole_parts k h block done kept.whole) as (λ _. IsKept (then_comes (stmt k h block) (joined done (then_comes s end))) c.bytes) [
      | inl w ↦ absurd (kept.apart (ap (λ (a : Bool). cond a AfterAlone AfterBody) w.0) (indented es first b c s line))
      | inr w ↦ let plain = plain-joined done (then_comes s end) w.1 (plain_one es first b c s same line) in record {
        whole = or_right _ _ (and_from _ _ w.0 plain);
        apart = by_alone (stands_alone h) c.bytes (λ alone. absurd (alone_or_shared h alone w.0));
      }
    ]
