-- Scripts, line by line.
use Rattle.std.proofs.Common.{◌≡◌, ◌⊎◌, inl, inr, refl, sym, ap, subst, ◌∙◌, ℕ, ◌+◌, ◌<◌, ◌≤◌, true, List, [], ◌∷◌, ◌++◌, length, length-append, map, append_assoc, append-nil, add-one, Bool, false, not, eqb, IsTrue, arith, Option, Some, None}
use Rattle.std.specs.List.{AllZip}
use Rattle.std.specs.Str.{bytes_eq}
use Rattle.std.proofs.lemmas.Bool.{and_from, and_parts, ne_eqb}
use Rattle.std.proofs.lemmas.List.Folds.{list_all-append}
use Rattle.std.proofs.lemmas.Slice.Eq.{bytes_eq-Decides}
use Rattle.std.specs.Prelude.{codes, option_and_then}
use Rattle.messages.specs.declared.message.Message.{Message}
use Rattle.message_meaning.specs.Messages.{IsReceived}
use Rattle.message_meaning.specs.Sent.{AreReceived}
use Rattle.program_meaning.specs.Scripts.{Stay, Script, Said, Joins, Sends, IsLine, IsScript, FirstLine, FaultAt, is_close, said_by, messages_of}
use Rattle.program_meaning.proofs.ScriptTexts.{cant_follow, text_more}
use Rattle.program_meaning.proofs.Turns.{said_from, there_after, there_append}
use Rattle.py_tree.specs.TextLines.{text_of, byte_limit, is_unbroken}
use Rattle.script_run.specs.Script.{AreSent}

-- the line by which a visitor joins
abbrev join_line : List ℕ
join_line = codes "join 1"

-- ---- what is sent

abbrev sent_by : List Said → List (Option Message)
sent_by [] = []
sent_by (Joins ∷ more) = sent_by more
sent_by (Sends m ∷ more) = m ∷ sent_by more

sent_first : (ms : Stay) (more : List Said) → sent_by (map Sends ms ++ more) ≡ ms ++ sent_by more
sent_first [] more = refl
sent_first (m ∷ ms) more = ap (λ (l : Stay). m ∷ l) (sent_first ms more)

sent_by_all : (s : Script) → sent_by (said_by s) ≡ messages_of s
sent_by_all [] = refl
sent_by_all (ms ∷ s) = sent_first ms (said_by s) ∙ ap (λ (l : Stay). ms ++ l) (sent_by_all s)

sent_append : (before more : List Said) → sent_by (before ++ more) ≡ sent_by before ++ sent_by more
sent_append [] more = refl
sent_append (Joins ∷ before) more = sent_append before more
sent_append (Sends m ∷ before) more = ap (λ (l : Stay). m ∷ l) (sent_append before more)

received_append : (texts others : List (List ℕ)) (ms ks : List (Option Message)) → AreReceived texts ms → AreReceived others ks
    → AreReceived (texts ++ others) (ms ++ ks)
received_append [] others [] ks h j = j
received_append [] others (m ∷ ms) ks h j = absurd h
received_append (t ∷ texts) others [] ks h j = absurd h
received_append (t ∷ texts) others (m ∷ ms) ks h j = (h.0, received_append texts others ms ks h.1 j)

-- ---- how far the lines are read

-- The bytes are lines of a script that send these texts, and a rest. So many lines stand before the rest, behind which a visitor is there or
-- none is. The last line may lack its line end.
pub record IsReadTo (bytes : List ℕ) (sent : List (List ℕ)) (there : Bool) (count : ℕ) (rest : List ℕ) : Type 0 where
  pub lines : List (List ℕ)
  pub said : List Said
  pub say : AllZip IsLine lines said
  pub now : there_after false said ≡ Some there
  pub texts : AreReceived sent (sent_by said)
  pub counted : count ≡ length lines
  pub text : (bytes ≡ text_of lines ++ rest) ⊎ ((bytes ++ 10 ∷ [] ≡ text_of lines) × (rest ≡ []))
  pub room : count + length rest ≤ byte_limit
  pub short : length bytes ≤ byte_limit

pub first : (bytes : List ℕ) → length bytes ≤ byte_limit → IsReadTo bytes [] false 0 bytes
first bytes short = record {
  lines = [];
  said = [];
  say = tt;
  now = refl;
  texts = tt;
  counted = refl;
  text = inl refl;
  room = omega arith;
  short = short;
}

pub shorter : {bytes line rest : List ℕ} → FirstLine bytes line rest → length rest < length bytes
shorter {bytes = bytes} {line = line} {rest = rest} c = elim c.text as (λ _. length rest < length bytes) [
  | inl e ↦ rw e (let n = length-append line (10 ∷ rest) in omega (arith, n))
  | inr e ↦ rw (e.0, e.1) e.2
]

-- ---- a line more of the text

abbrev IsText : (bytes : List ℕ) (lines : List (List ℕ)) (rest : List ℕ) → Type 0
IsText bytes lines rest = (bytes ≡ text_of lines ++ rest) ⊎ ((bytes ++ 10 ∷ [] ≡ text_of lines) × (rest ≡ []))

line_behind : (lines : List (List ℕ)) (line behind : List ℕ) → text_of lines ++ (line ++ 10 ∷ behind) ≡ text_of (lines ++ line ∷ []) ++ behind
line_behind lines line behind = rw text_more (simp append_assoc)

some_rest : (bytes : List ℕ) (lines : List (List ℕ)) (rest : List ℕ) → IsText bytes lines rest → 0 < length rest → bytes ≡ text_of lines ++ rest
some_rest bytes lines rest t some = elim t as (λ _. bytes ≡ text_of lines ++ rest) [ inl e ↦ e | inr e ↦ absurd (let none = ap length e.1 in omega arith) ]

more_text : (bytes : List ℕ) (lines : List (List ℕ)) (rest line behind : List ℕ) → IsText bytes lines rest → FirstLine rest line behind → IsText bytes (lines ++ line ∷ []) behind
more_text bytes lines rest line behind t c =
    let whole = some_rest bytes lines rest t (let s = shorter c in omega arith) in
    elim c.text as (λ _. IsText bytes (lines ++ line ∷ []) behind) [
      | inl e ↦ inl (whole ∙ ap (λ (r : List ℕ). text_of lines ++ r) e ∙ line_behind lines line behind)
      | inr e ↦ inr (
        ap (λ (b : List ℕ). b ++ 10 ∷ []) (whole ∙ ap (λ (r : List ℕ). text_of lines ++ r) e.0) ∙ append_assoc (text_of lines) line (10 ∷ []) ∙ sym (text_more lines line),
        e.1,
      )
    ]

lines_more : (lines : List (List ℕ)) (said : List Said) (line : List ℕ) (x : Said) → AllZip IsLine lines said → IsLine line x
    → AllZip IsLine (lines ++ line ∷ []) (said ++ x ∷ [])
lines_more [] [] line x h is = (is, tt)
lines_more [] (y ∷ said) line x h is = absurd h
lines_more (l ∷ lines) [] line x h is = absurd h
lines_more (l ∷ lines) (y ∷ said) line x h is = (h.0, lines_more lines said line x h.1 is)

more : {bytes : List ℕ} {sent : List (List ℕ)} {there : Bool} {count : ℕ} {rest line behind : List ℕ} → (x : Said) (texts : List (List ℕ)) (after : Bool)
    → IsReadTo bytes sent there count rest → FirstLine rest line behind → IsLine line x → AreReceived texts (sent_by (x ∷ []))
    → there_after there (x ∷ []) ≡ Some after → IsReadTo bytes (sent ++ texts) after (count + 1) behind
more {bytes = bytes} {sent = sent} {count = count} {rest = rest} {line = line} {behind = behind} x texts after before c is received can = record {
  lines = before.lines ++ line ∷ [];
  said = before.said ++ x ∷ [];
  say = lines_more before.lines before.said line x before.say is;
  now = there_append false before.said (x ∷ []) ∙ ap (λ (o : Option Bool). option_and_then (λ t. there_after t (x ∷ [])) o) before.now ∙ can;
  texts = subst (AreReceived (sent ++ texts)) (sym (sent_append before.said (x ∷ [])))
      (received_append sent texts (sent_by before.said) (sent_by (x ∷ [])) before.texts received);
  counted = let n = length-append before.lines (line ∷ []) in let k = before.counted in omega arith;
  text = more_text bytes before.lines rest line behind before.text c;
  room = let s = shorter c in let r = before.room in omega arith;
  short = before.short;
}

-- ---- which line it is

pub joins : {bytes : List ℕ} {sent : List (List ℕ)} {there : Bool} {count : ℕ} {rest line behind : List ℕ} → IsReadTo bytes sent there count rest
    → FirstLine rest line behind → there ≡ false → line ≡ join_line → IsReadTo bytes sent true (count + 1) behind
joins {bytes = bytes} {sent = sent} {count = count} {behind = behind} before c now e =
    subst (λ (texts : List (List ℕ)). IsReadTo bytes texts true (count + 1) behind) (append-nil sent)
    (more Joins [] true before c e tt (ap (λ t. there_after t (Joins ∷ [])) now))

-- what stands behind words of a line with no line end has none
behind_words : (line text : List ℕ) → IsTrue (is_unbroken line) → line ≡ codes "send 1 " ++ text → IsTrue (is_unbroken text)
behind_words line text p e =
    let whole : IsTrue (is_unbroken (codes "send 1 " ++ text)) = rw e at p in
    let parts = rw (list_all-append (λ b. not (eqb b 10)) (codes "send 1 ") text) at whole in
    (and_parts (is_unbroken (codes "send 1 ")) (is_unbroken text) parts).1

pub sends : {bytes : List ℕ} {sent : List (List ℕ)} {there : Bool} {count : ℕ} {rest line behind : List ℕ} → (text : List ℕ) (m : Option Message)
    → IsReadTo bytes sent there count rest → FirstLine rest line behind → there ≡ true → line ≡ codes "send 1 " ++ text → IsReceived text m
    → IsReadTo bytes (sent ++ text ∷ []) (not (is_close m)) (count + 1) behind
sends {line = line} text m before c now e is =
    more (Sends m) (text ∷ []) (not (is_close m)) before c
    (record { text = text; unbroken = behind_words line text c.unbroken e; spelled = e; received = is }) (is, tt)
    (ap (λ t. there_after t (Sends m ∷ [])) now)

stops : {bytes : List ℕ} {sent : List (List ℕ)} {there : Bool} {count : ℕ} {rest line behind : List ℕ} → IsReadTo bytes sent there count rest
    → FirstLine rest line behind → ((x : Said) → IsLine line x → there_after there (x ∷ []) ≡ None) → FaultAt bytes (count + 1)
stops {bytes = bytes} {there = there} {rest = rest} {line = line} {behind = behind} before c none =
    let from = said_from false there before.said before.now in
    rw add-one (
      before.short,
      record {
        before = before.lines;
        script = from.0;
        say = record { say = subst (AllZip IsLine before.lines) from.1 before.say; turns = from.2 };
        count = sym before.counted;
        line = line;
        rest = rest;
        text = some_rest bytes before.lines rest before.text (let s = shorter c in omega arith);
        after = behind;
        next = c;
        stops = cant_follow before.lines line before.said there before.say before.now none;
      },
    )

-- nobody is there, and the line isn't the one by which a visitor joins
no_joining : (line : List ℕ) (there : Bool) → there ≡ false → (line ≡ join_line → ⊥) → (x : Said) → IsLine line x → there_after there (x ∷ []) ≡ None
no_joining line there now other Joins h = absurd (other h)
no_joining line there now other (Sends m) h = ap (λ t. there_after t (Sends m ∷ [])) now

pub not_joined : {bytes : List ℕ} {sent : List (List ℕ)} {there : Bool} {count : ℕ} {rest line behind : List ℕ} → IsReadTo bytes sent there count rest
    → FirstLine rest line behind → there ≡ false → (line ≡ join_line → ⊥) → FaultAt bytes (count + 1)
not_joined {there = there} {line = line} before c now other = stops before c (no_joining line there now other)

-- a visitor is there, and the line sends nothing
no_sending : (line : List ℕ) (there : Bool) → there ≡ true → ((text : List ℕ) → line ≡ codes "send 1 " ++ text → ⊥)
    → (x : Said) → IsLine line x → there_after there (x ∷ []) ≡ None
no_sending line there now other Joins h = ap (λ t. there_after t (Joins ∷ [])) now
no_sending line there now other (Sends m) h = absurd (other h.text h.spelled)

pub not_sent : {bytes : List ℕ} {sent : List (List ℕ)} {there : Bool} {count : ℕ} {rest line behind : List ℕ} → IsReadTo bytes sent there count rest
    → FirstLine rest line behind → there ≡ true → ((text : List ℕ) → line ≡ codes "send 1 " ++ text → ⊥) → FaultAt bytes (count + 1)
not_sent {there = there} {line = line} before c now other = stops before c (no_sending line there now other)

-- ---- all lines

empty : (bs : List ℕ) → length bs ≡ 0 → bs ≡ []
empty [] h = refl
empty (b ∷ bs) h = absurd (omega arith)

pub whole : (bytes : List ℕ) (sent : List (List ℕ)) (there : Bool) (count : ℕ) (rest : List ℕ) → IsReadTo bytes sent there count rest → length rest ≡ 0
    → (script : Script) × IsScript bytes script × AreSent sent script
whole bytes sent there count rest before none =
    let from = said_from false there before.said before.now in (
      from.0,
      record {
        lines = before.lines;
        say = record { say = subst (AllZip IsLine before.lines) from.1 before.say; turns = from.2 };
        text = elim before.text [
          | inl e ↦ inl (e ∙ ap (λ (r : List ℕ). text_of before.lines ++ r) (empty rest none) ∙ append-nil _)
          | inr e ↦ inr e.0
        ];
        short = before.short;
      },
      record { received = subst (AreReceived sent) (ap sent_by from.1 ∙ sent_by_all from.0) before.texts; turns = from.2 },
    )

-- ---- what tests of lines say

pub is_join : (line : List ℕ) → true ≡ bytes_eq line join_line → line ≡ join_line
is_join line h = (bytes_eq-Decides line join_line).0 (sym h)

pub is_other : (line : List ℕ) → false ≡ bytes_eq line join_line → line ≡ join_line → ⊥
is_other line h e = let same = (bytes_eq-Decides line join_line).1 e in absurd (cc)

-- ---- bytes with no line end

unlike : (b : ℕ) → (b ≡ 10 → ⊥) → not (eqb b 10) ≡ true
unlike b h = rw (ne_eqb b 10 h) refl

pub unbroken : (bytes : List ℕ) → ((line rest : List ℕ) → bytes ≡ line ++ 10 ∷ rest → ⊥) → IsTrue (is_unbroken bytes)
unbroken [] h = refl
unbroken (b ∷ bs) h =
    and_from _ _ (unlike b (λ e. h [] bs (ap (λ (c : ℕ). c ∷ bs) e)))
    (unbroken bs (λ line rest e. h (b ∷ line) rest (ap (λ (t : List ℕ). b ∷ t) e)))
