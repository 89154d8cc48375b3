-- Bytes are one script, or stop at one line.
use Rattle.std.proofs.Common.{◌≡◌, ◌⊎◌, inl, inr, ◌∙◌, refl, sym, ap, subst, ℕ, zero, suc, ◌<◌, ◌≤◌, Bool, false, not, eqb, IsTrue, List, [], ◌∷◌, ◌++◌, length, length-append, append_assoc, append-nil, arith, Option, Some, None}
use Rattle.std.specs.List.{AllZip}
use Rattle.std.specs.Prelude.{codes, option_and_then}
use Rattle.std.proofs.lemmas.Bool.{and_parts, and_from}
use Rattle.std.proofs.lemmas.List.Folds.{list_all-append}
use Rattle.messages.specs.declared.message.Message.{Message}
use Rattle.message_meaning.proofs.Shapes as messages
use Rattle.message_meaning.specs.Messages.{IsReceived}
use Rattle.program_meaning.specs.Scripts.{Script, Said, Joins, Sends, IsLine, AreLinesOf, IsScript, FirstLine, FaultBehind, FaultAt, said_by}
use Rattle.program_meaning.proofs.Turns.{there_after, there_append, can_be_said, said_from, same_stays}
use Rattle.py_tree.specs.TextLines.{is_unbroken, text_of}
use Rattle.py_tree.proofs.Breaks.{are_unbroken, unbroken_head, cut_once, text-append, lines_once, agree}

-- ---- lines of a script hold no line end

abbrev IsUnbroken : List ℕ → Type 0
IsUnbroken bs = IsTrue (is_unbroken bs)

abbrev AreUnbroken : List (List ℕ) → Type 0
AreUnbroken lines = IsTrue (are_unbroken lines)

line_unbroken : (line : List ℕ) (x : Said) → IsLine line x → IsUnbroken line
line_unbroken line Joins h = subst IsUnbroken (sym h) refl
line_unbroken line (Sends m) h =
    let whole : IsUnbroken (codes "send 1 " ++ h.text) = rw (list_all-append (λ b. not (eqb b 10)) (codes "send 1 ") h.text) (and_from _ _ refl h.unbroken) in
    subst IsUnbroken (sym h.spelled) whole

all_unbroken : (lines : List (List ℕ)) (said : List Said) → AllZip IsLine lines said → AreUnbroken lines
all_unbroken [] said h = refl
all_unbroken (line ∷ lines) [] h = absurd h
all_unbroken (line ∷ lines) (x ∷ said) h = and_from _ _ (line_unbroken line x h.0) (all_unbroken lines said h.1)

lines_unbroken : (lines : List (List ℕ)) (s : Script) → AreLinesOf lines s → AreUnbroken lines
lines_unbroken lines s h = all_unbroken lines (said_by s) h.say

-- what holds a line end is broken
is_broken : (a x y : List ℕ) → IsUnbroken a → a ≡ x ++ 10 ∷ y → ⊥
is_broken a x y p e =
    let q = rw list_all-append at (rw e at p) in
    unbroken_head 10 y (and_parts _ _ q).1 refl

-- ---- a script's first lines, and the line behind them

-- what lines say, and further ones
record IsSaid (xs ys : List (List ℕ)) (said : List Said) : Type 0 where
  before : List Said
  more : List Said
  are : said ≡ before ++ more
  first : AllZip IsLine xs before
  last : AllZip IsLine ys more

said_parts : (xs ys : List (List ℕ)) (said : List Said) → AllZip IsLine (xs ++ ys) said → IsSaid xs ys said
said_parts [] ys said h = record { before = []; more = said; are = refl; first = tt; last = h }
said_parts (x ∷ xs) ys [] h = absurd h
said_parts (x ∷ xs) ys (s ∷ said) h =
    let rest = said_parts xs ys said h.1 in
    record {
      before = s ∷ rest.before;
      more = rest.more;
      are = ap (λ (l : List Said). s ∷ l) rest.are;
      first = (h.0, rest.first);
      last = rest.last;
    }

-- where a whole can be said, its first part can be
first_can : (o : Option Bool) (next : Bool → Option Bool) (there : Bool) → option_and_then next o ≡ Some there
    → (now : Bool) × (o ≡ Some now) × (next now ≡ Some there)
first_can None next there h = absurd (cc)
first_can (Some now) next there h = (now, refl, h)

-- where a visitor is after the first lines of a script
record IsPassed (xs ys : List (List ℕ)) : Type 0 where
  before : List Said
  more : List Said
  now : Bool
  there : Bool
  first : AllZip IsLine xs before
  last : AllZip IsLine ys more
  at_first : there_after false before ≡ Some now
  at_last : there_after now more ≡ Some there

passed : (xs ys : List (List ℕ)) (s : Script) → AreLinesOf (xs ++ ys) s → IsPassed xs ys
passed xs ys s h =
    let parts : IsSaid xs ys (said_by s) = said_parts xs ys (said_by s) h.say in
    let all = can_be_said s h.turns in
    let whole : option_and_then (λ now. there_after now parts.more) (there_after false parts.before) ≡ Some all.0 =
    sym (there_append false parts.before parts.more) ∙ ap (there_after false) (sym parts.are) ∙ all.1 in
    let can = first_can _ _ _ whole in
    record {
      before = parts.before;
      more = parts.more;
      now = can.0;
      there = all.0;
      first = parts.first;
      last = parts.last;
      at_first = can.1;
      at_last = can.2;
    }

front : (xs ys : List (List ℕ)) (s : Script) → AreLinesOf (xs ++ ys) s → (t : Script) × AreLinesOf xs t
front xs ys s h =
    let p = passed xs ys s h in
    let from = said_from false p.now p.before p.at_first in
    (from.0, record { say = subst (AllZip IsLine xs) from.1 p.first; turns = from.2 })

pub text_more : (lines : List (List ℕ)) (line : List ℕ) → text_of (lines ++ line ∷ []) ≡ text_of lines ++ (line ++ 10 ∷ [])
text_more lines line = text-append lines (line ∷ []) ∙ ap (λ (t : List ℕ). text_of lines ++ t) (append-nil (line ++ 10 ∷ []))

empty_says : (x : Said) → IsLine [] x → ⊥
empty_says Joins h = absurd (cc h)
empty_says (Sends m) h = let spelled = h.spelled in absurd (cc)

empty_last : (said : List Said) → AllZip IsLine ([] ∷ []) said → ⊥
empty_last [] h = h
empty_last (x ∷ said) h = empty_says x h.0

no_empty_line : (lines : List (List ℕ)) (s : Script) → AreLinesOf (lines ++ [] ∷ []) s → ⊥
no_empty_line lines s h = let p = passed lines ([] ∷ []) s h in empty_last p.more p.last

-- ---- one script

-- bytes are one message, or none
pub one_received : (bytes : List ℕ) (m k : Option Message) → IsReceived bytes m → IsReceived bytes k → m ≡ k
one_received bytes None None h j = refl
one_received bytes None (Some k) h j = absurd (h k j)
one_received bytes (Some m) None h j = absurd (j m h)
one_received bytes (Some m) (Some k) h j = ap Some (messages.one bytes m k h j)

behind_words : (a b : List ℕ) → codes "send 1 " ++ a ≡ codes "send 1 " ++ b → a ≡ b
behind_words a b e = cc

-- no line that sends something is the line by which a visitor joins
pub no_join : (line : List ℕ) (m : Option Message) → IsLine line (Sends m) → line ≡ codes "join 1" → ⊥
no_join line m h e =
    let spelled = h.spelled in
    let letter : ◌≡◌ {A = ℕ} 115 106 = cc in
    omega arith

one_said : (line : List ℕ) (x y : Said) → IsLine line x → IsLine line y → x ≡ y
one_said line Joins Joins h j = refl
one_said line Joins (Sends k) h j = absurd (no_join line k j h)
one_said line (Sends m) Joins h j = absurd (no_join line m h j)
one_said line (Sends m) (Sends k) h j =
    let same = behind_words h.text j.text (sym h.spelled ∙ j.spelled) in
    ap Sends (one_received j.text m k (subst (λ text. IsReceived text m) same h.received) j.received)

pub same_said : (lines : List (List ℕ)) (xs ys : List Said) → AllZip IsLine lines xs → AllZip IsLine lines ys → xs ≡ ys
same_said [] [] [] h j = refl
same_said [] [] (y ∷ ys) h j = absurd j
same_said [] (x ∷ xs) ys h j = absurd h
same_said (l ∷ ls) [] ys h j = absurd h
same_said (l ∷ ls) (x ∷ xs) [] h j = absurd j
same_said (l ∷ ls) (x ∷ xs) (y ∷ ys) h j =
    ap (λ (s : Said). s ∷ xs) (one_said l x y h.0 j.0) ∙ ap (λ (s : List Said). y ∷ s) (same_said ls xs ys h.1 j.1)

same_script : (lines : List (List ℕ)) (s t : Script) → AreLinesOf lines s → AreLinesOf lines t → s ≡ t
same_script lines s t h j = same_stays s t (same_said lines (said_by s) (said_by t) h.say j.say)

no_last : (line : List ℕ) (more : List Said) (now there after : Bool) → AllZip IsLine (line ∷ []) more → now ≡ there
    → ((x : Said) → IsLine line x → there_after there (x ∷ []) ≡ None) → there_after now more ≡ Some after → ⊥
no_last line [] now there after last same none can = absurd last
no_last line (x ∷ y ∷ more) now there after last same none can = absurd last.1
no_last line (x ∷ []) now there after last same none can =
    let cannot : there_after there (x ∷ []) ≡ None = none x last.0 in
    let moved : there_after now (x ∷ []) ≡ there_after there (x ∷ []) = ap (λ t. there_after t (x ∷ [])) same in
    let clash : ◌≡◌ {A = Option Bool} None (Some after) = sym cannot ∙ sym moved ∙ can in
    absurd (cc)

-- A line can't follow lines that say this, where nothing that it says can be said then.
pub cant_follow : (lines : List (List ℕ)) (line : List ℕ) (said : List Said) (there : Bool) → AllZip IsLine lines said → there_after false said ≡ Some there
    → ((x : Said) → IsLine line x → there_after there (x ∷ []) ≡ None) → (more : Script) → AreLinesOf (lines ++ line ∷ []) more → ⊥
cant_follow lines line said there say now none more h =
    let p = passed lines (line ∷ []) more h in
    let same : Some p.now ≡ Some there = sym p.at_first ∙ ap (there_after false) (same_said lines p.before said p.first say) ∙ now in
    no_last line p.more p.now there p.there p.last (cc) none p.at_last

same_by_lines : (xs ys : List (List ℕ)) (s t : Script) → AreLinesOf xs s → AreLinesOf ys t → text_of xs ≡ text_of ys → s ≡ t
same_by_lines xs ys s t h j e =
    let same = lines_once xs ys (lines_unbroken xs s h) (lines_unbroken ys t j) e in
    same_script ys s t (subst (λ (l : List (List ℕ)). AreLinesOf l s) same h) j

-- an empty line at the end is no line of a script
no_end : (xs ys : List (List ℕ)) (s t : Script) → AreLinesOf xs s → AreLinesOf ys t → text_of xs ++ 10 ∷ [] ≡ text_of ys → ⊥
no_end xs ys s t h j e =
    let p : AreUnbroken (xs ++ [] ∷ []) = rw list_all-append (and_from _ _ (lines_unbroken xs s h) refl) in
    let same = lines_once (xs ++ [] ∷ []) ys p (lines_unbroken ys t j) (text_more xs [] ∙ e) in
    no_empty_line xs t (subst (λ (l : List (List ℕ)). AreLinesOf l t) (sym same) j)

pub one : (bytes : List ℕ) (s t : Script) → IsScript bytes s → IsScript bytes t → s ≡ t
one bytes s t h j = elim h.text as (λ _. s ≡ t) [
  | inl e ↦ elim j.text as (λ _. s ≡ t) [
    | inl f ↦ same_by_lines h.lines j.lines s t h.say j.say (sym e ∙ f)
    | inr f ↦ absurd (no_end h.lines j.lines s t h.say j.say (ap (λ (b : List ℕ). b ++ 10 ∷ []) (sym e) ∙ f))
  ]
  | inr e ↦ elim j.text as (λ _. s ≡ t) [
    | inl f ↦ absurd (no_end j.lines h.lines t s j.say h.say (ap (λ (b : List ℕ). b ++ 10 ∷ []) (sym f) ∙ e))
    | inr f ↦ same_by_lines h.lines j.lines s t h.say j.say (sym e ∙ f)
  ]
]

-- ---- one line at which bytes stop

-- nothing, or the line end that the last line lacks
abbrev IsEnd : List ℕ → Type 0
IsEnd end = (end ≡ []) ⊎ (end ≡ 10 ∷ [])

-- where further lines follow, the next of them is the one at which the bytes stop
next_line : (rest line after end b y : List ℕ) (ys : List (List ℕ)) → FirstLine rest line after → IsEnd end → IsUnbroken y → rest ++ end ≡ text_of (y ∷ ys) ++ b → line ≡ y
next_line rest line after end b y ys n end_is p e =
    let longer : rest ++ end ≡ y ++ 10 ∷ (text_of ys ++ b) = simp append_assoc at e in
    elim n.text as (λ _. line ≡ y) [
      | inl t ↦ (cut_once line y (after ++ end) (text_of ys ++ b) n.unbroken p (rw append_assoc at (rw t at longer))).0
      | inr t ↦ elim end_is as (λ _. line ≡ y) [
        | inl none ↦ absurd (is_broken line y (text_of ys ++ b) n.unbroken (sym (append-nil line) ∙ rw (t.0, none) at longer))
        | inr last ↦ (cut_once line y [] (text_of ys ++ b) n.unbroken p (rw (t.0, last) at longer)).0
      ]
    ]

further : (lines : List (List ℕ)) (s : Script) (before more : List (List ℕ)) (rest line after end b : List ℕ) → AreLinesOf lines s → lines ≡ before ++ more → rest ++ end ≡ text_of more ++ b → 0 < length more → FirstLine rest line after → IsEnd end → (t : Script) × AreLinesOf (before ++ line ∷ []) t
further lines s before [] rest line after end b h parts left some n end_is = absurd (omega arith)
further lines s before (y ∷ ys) rest line after end b h parts left some n end_is =
    let p = rw list_all-append at (rw parts at (lines_unbroken lines s h)) in
    let next = next_line rest line after end b y ys n end_is (and_parts _ _ (and_parts _ _ p).1).0 left in
    let all : AreLinesOf ((before ++ y ∷ []) ++ ys) s = rw append_assoc (rw parts at h) in
    subst (λ (l : List ℕ). (t : Script) × AreLinesOf (before ++ l ∷ []) t) (sym next) (front (before ++ y ∷ []) ys s all)

-- no lines of a script go on from where bytes stop
no_more : (bytes : List ℕ) (k : ℕ) → FaultBehind bytes k → (lines : List (List ℕ)) (s : Script) → AreLinesOf lines s → (end b : List ℕ) → IsEnd end → bytes ++ end ≡ text_of lines ++ b → k < length lines → ⊥
no_more bytes k h lines s say end b end_is e longer =
    let whole : text_of h.before ++ (h.rest ++ end) ≡ text_of lines ++ b = sym (append_assoc (text_of h.before) h.rest end) ∙ rw h.text at e in
    let count = h.count in
    let far = agree h.before lines (h.rest ++ end) b (lines_unbroken h.before h.script h.say) (lines_unbroken lines s say) (omega arith) whole in
    let size = ap length far.parts ∙ length-append h.before far.more in
    let next = further lines s h.before far.more h.rest h.line h.after end b say far.parts far.left (omega arith) h.next end_is in
    h.stops next.0 next.1

some_rest : (rest line after : List ℕ) → FirstLine rest line after → 0 < length rest
some_rest rest line after n = elim n.text as (λ _. 0 < length rest) [
  | inl e ↦ rw e (rw length-append (omega arith))
  | inr e ↦ rw e.0 e.2
]

no_stop : (bytes : List ℕ) (k : ℕ) → FaultBehind bytes k → (lines : List (List ℕ)) (s : Script) → AreLinesOf lines s → (end : List ℕ) → IsEnd end → bytes ++ end ≡ text_of lines → length lines ≤ k → ⊥
no_stop bytes k h lines s say end end_is e shorter =
    let count = h.count in
    let whole : text_of lines ++ [] ≡ text_of h.before ++ (h.rest ++ end) = append-nil (text_of lines) ∙ sym (rw h.text at e) ∙ append_assoc (text_of h.before) h.rest end in
    let far = agree lines h.before [] (h.rest ++ end) (lines_unbroken lines s say) (lines_unbroken h.before h.script h.say) (omega arith) whole in
    let some = some_rest h.rest h.line h.after h.next in
    let size = ap length far.left in
    let parts = length-append (text_of far.more) (h.rest ++ end) in
    let rests = length-append h.rest end in
    absurd (omega arith)

goes_on : (bytes : List ℕ) (k : ℕ) → FaultBehind bytes k → (lines : List (List ℕ)) (s : Script) → AreLinesOf lines s → (end : List ℕ) → IsEnd end → bytes ++ end ≡ text_of lines → ⊥
goes_on bytes k h lines s say end end_is e =
    let more = no_more bytes k h lines s say end [] end_is (e ∙ sym (append-nil (text_of lines))) in
    let fewer = no_stop bytes k h lines s say end end_is e in
    absurd (omega arith)

pub scripts_go_on : (bytes : List ℕ) (s : Script) → IsScript bytes s → (k : ℕ) → FaultAt bytes k → ⊥
scripts_go_on bytes s h zero stop = let short = h.short in absurd (omega arith)
scripts_go_on bytes s h (suc k) stop = elim h.text [
  | inl e ↦ goes_on bytes k stop.1 h.lines s h.say [] (inl refl) (append-nil bytes ∙ e)
  | inr e ↦ goes_on bytes k stop.1 h.lines s h.say (10 ∷ []) (inr refl) e
]

one_stop : (bytes : List ℕ) (k l : ℕ) → FaultBehind bytes k → FaultBehind bytes l → k < l → ⊥
one_stop bytes k l h j less =
    let count = j.count in
    no_more bytes k h j.before j.script j.say [] j.rest (inl refl) (append-nil bytes ∙ j.text) (omega arith)

pub one_line : (bytes : List ℕ) (k l : ℕ) → FaultAt bytes k → FaultAt bytes l → k ≡ l
one_line bytes zero zero h j = refl
one_line bytes zero (suc l) h j = absurd (let n = j.0 in omega arith)
one_line bytes (suc k) zero h j = absurd (let n = h.0 in omega arith)
one_line bytes (suc k) (suc l) h j =
    let less = one_stop bytes k l h.1 j.1 in
    let more = one_stop bytes l k j.1 h.1 in
    omega arith
