-- Visitors in turn: whether one is there, from line to line.
use Rattle.std.proofs.Common.{◌≡◌, inl, inr, ◌∙◌, refl, sym, ap, Bool, true, false, not, List, [], ◌∷◌, ◌++◌, map, append_assoc, Option, Some, None}
use Rattle.std.proofs.lemmas.Bool.{and_parts, and_from}
use Rattle.std.proofs.lemmas.List.{map-append}
use Rattle.std.specs.Prelude.{option_and_then}
use Rattle.messages.specs.declared.message.Message.{Message}
use Rattle.messages.specs.declared.message.Message.TheVariants.{Open, Set, Close}
use Rattle.program_meaning.specs.Scripts.{Stay, Script, NoneCloses, LastCloses, InTurn, Said, Joins, Sends, is_close, said_by}

-- whether a visitor is there after this is said; none where it can't be said
abbrev pub there_after : Bool → List Said → Option Bool
there_after there [] = Some there
there_after false (Joins ∷ more) = there_after true more
there_after true (Joins ∷ more) = None
there_after false (Sends m ∷ more) = None
there_after true (Sends m ∷ more) = there_after (not (is_close m)) more

-- from where one part leaves off the other goes on
pub there_append : (there : Bool) (before more : List Said)
    → there_after there (before ++ more) ≡ option_and_then (λ now. there_after now more) (there_after there before)
there_append there [] more = refl
there_append false (Joins ∷ before) more = there_append true before more
there_append true (Joins ∷ before) more = refl
there_append false (Sends m ∷ before) more = refl
there_append true (Sends m ∷ before) more = there_append (not (is_close m)) before more

-- ---- what a script says can be said

while_there : (ms : Stay) (more : List Said) → NoneCloses ms → there_after true (map Sends ms ++ more) ≡ there_after true more
while_there [] more none = refl
while_there (m ∷ ms) more none =
    let parts = and_parts _ _ none in
    ap (λ (there : Bool). there_after there (map Sends ms ++ more)) parts.0 ∙ while_there ms more parts.1

when_left : (ms : Stay) (more : List Said) → LastCloses ms → there_after true (map Sends ms ++ more) ≡ there_after false more
when_left ms more (before, none, is) =
    ap (λ (l : Stay). there_after true (map Sends l ++ more)) is
    ∙ ap (λ (l : List Said). there_after true (l ++ more)) (map-append Sends before (Some Close ∷ []))
    ∙ ap (there_after true) (append_assoc (map Sends before) (Sends (Some Close) ∷ []) more)
    ∙ while_there before (Sends (Some Close) ∷ more) none

pub can_be_said : (s : Script) → InTurn s → (there : Bool) × (there_after false (said_by s) ≡ Some there)
can_be_said [] turns = (false, refl)
can_be_said (ms ∷ []) (inl none) = (true, while_there ms [] none)
can_be_said (ms ∷ []) (inr last) = (false, when_left ms [] last)
can_be_said (ms ∷ next ∷ more) turns =
    let rest = can_be_said (next ∷ more) turns.1 in
    (rest.0, when_left ms (said_by (next ∷ more)) turns.0 ∙ rest.1)

-- ---- what can be said is a script's

-- what is said where nobody is there, and where a visitor is, who sends these messages first
abbrev pub IsSaidFrom : Bool → List Said → Type 0
IsSaidFrom false said = (s : Script) × (said ≡ said_by s) × InTurn s
IsSaidFrom true said = (ms : Stay) × (s : Script) × (said ≡ map Sends ms ++ said_by s) × InTurn (ms ∷ s)

closing : (m : Option Message) → is_close m ≡ true → m ≡ Some Close
closing None h = absurd (cc)
closing (Some Open) h = absurd (cc)
closing (Some (Set items)) h = absurd (cc)
closing (Some Close) h = refl

closes : (m : Option Message) → is_close m ≡ true → LastCloses (m ∷ [])
closes m h = ([], refl, ap (λ (k : Option Message). k ∷ []) (closing m h))

one_more : (m : Option Message) (ms : Stay) → is_close m ≡ false → LastCloses ms → LastCloses (m ∷ ms)
one_more m ms h (before, none, is) = (m ∷ before, and_from _ _ (ap not h) none, ap (λ (l : Stay). m ∷ l) is)

turn_closes : (m : Option Message) (s : Script) → is_close m ≡ true → InTurn s → InTurn ((m ∷ []) ∷ s)
turn_closes m [] h turns = inr (closes m h)
turn_closes m (next ∷ more) h turns = (closes m h, turns)

turn_more : (m : Option Message) (ms : Stay) (s : Script) → is_close m ≡ false → InTurn (ms ∷ s) → InTurn ((m ∷ ms) ∷ s)
turn_more m ms [] h (inl none) = inl (and_from _ _ (ap not h) none)
turn_more m ms [] h (inr last) = inr (one_more m ms h last)
turn_more m ms (next ∷ more) h turns = (one_more m ms h turns.0, turns.1)

sends : (m : Option Message) (more : List Said) (closed : Bool) → is_close m ≡ closed → IsSaidFrom (not closed) more → IsSaidFrom true (Sends m ∷ more)
sends m more true h (s, is, turns) = (m ∷ [], s, ap (λ (l : List Said). Sends m ∷ l) is, turn_closes m s h turns)
sends m more false h (ms, s, is, turns) = (m ∷ ms, s, ap (λ (l : List Said). Sends m ∷ l) is, turn_more m ms s h turns)

pub said_from : (there now : Bool) (said : List Said) → there_after there said ≡ Some now → IsSaidFrom there said
said_from false now [] h = ([], refl, tt)
said_from true now [] h = ([], [], refl, inl refl)
said_from false now (Joins ∷ more) h =
    let rest = said_from true now more h in
    (rest.0 ∷ rest.1, ap (λ (l : List Said). Joins ∷ l) rest.2, rest.3)
said_from true now (Joins ∷ more) h = absurd (cc)
said_from false now (Sends m ∷ more) h = absurd (cc)
said_from true now (Sends m ∷ more) h = sends m more (is_close m) refl (said_from (not (is_close m)) now more h)

-- ---- a script is told by what it says

-- messages at the beginning, and the stays behind them
abbrev at_first : List Said → Stay
at_first [] = []
at_first (Joins ∷ more) = []
at_first (Sends m ∷ more) = m ∷ at_first more

abbrev behind : List Said → Script
behind [] = []
behind (Joins ∷ more) = at_first more ∷ behind more
behind (Sends m ∷ more) = behind more

told : (ms : Stay) (s : Script) → (at_first (map Sends ms ++ said_by s) ≡ ms) × (behind (map Sends ms ++ said_by s) ≡ behind (said_by s))
told [] [] = (refl, refl)
told [] (next ∷ more) = (refl, refl)
told (m ∷ ms) s = let rest = told ms s in (ap (λ (l : Stay). m ∷ l) rest.0, rest.1)

told_by : (s : Script) → behind (said_by s) ≡ s
told_by [] = refl
told_by (ms ∷ s) =
    let first = told ms s in
    ap (λ (l : Stay). l ∷ behind (map Sends ms ++ said_by s)) first.0 ∙ ap (λ (l : Script). ms ∷ l) (first.1 ∙ told_by s)

pub same_stays : (s t : Script) → said_by s ≡ said_by t → s ≡ t
same_stays s t h = sym (told_by s) ∙ ap behind h ∙ told_by t
