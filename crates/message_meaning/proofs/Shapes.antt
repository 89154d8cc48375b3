-- A message has one of three shapes.
use Rattle.std.proofs.Common.{◌≡◌, ◌∙◌, refl, sym, ap, subst, ℕ, List, Bool, true, false, cond, bytes_eq, codes, Option, Some, None, option_and_then}
use Rattle.std.proofs.lemmas.Slice.Eq.{bytes_eq-Decides}
use Rattle.message_meaning.specs.Computed.{message_in, if_empty}
use Rattle.message_meaning.specs.Messages.{Says, items_in, IsMessage}
use Rattle.messages.specs.declared.message.Message.{Message}
use Rattle.messages.specs.declared.message.Message.TheVariants.{Open, Set, Close}
use Rattle.serde_json.specs.Data.{Data, null, boolean, number, string, array, object, Members, no_members, member}

abbrev within : Message → Option Message → Message
within m None = m
within m (Some k) = k

named : (k l : List ℕ) → bytes_eq k l ≡ true → k ≡ l
named k l e = (bytes_eq-Decides k l).0 e

at_name : (k l : List ℕ) (ms : Members) → k ≡ l → object (member k (object ms) no_members) ≡ object (member l (object ms) no_members)
at_name k l ms e = ap (λ n. object (member n (object ms) no_members)) e

by_close : (k : List ℕ) (ms : Members) (m : Message) (c : Bool) → bytes_eq k (codes "close") ≡ c → cond c (if_empty ms Close) None ≡ Some m → Says (object (member k (object ms) no_members)) m
by_close k no_members m true is e = subst (Says (object (member k (object no_members) no_members))) (ap (within m) e) (at_name k (codes "close") no_members (named k _ is))
by_close k (member l d ms) m true is e = absurd (cc)
by_close k ms m false is e = absurd (cc)

by_open : (k : List ℕ) (ms : Members) (m : Message) (o : Bool) → bytes_eq k (codes "open") ≡ o
    → cond o (if_empty ms Open) (cond (bytes_eq k (codes "close")) (if_empty ms Close) None) ≡ Some m → Says (object (member k (object ms) no_members)) m
by_open k no_members m true is e = subst (Says (object (member k (object no_members) no_members))) (ap (within m) e) (at_name k (codes "open") no_members (named k _ is))
by_open k (member l d ms) m true is e = absurd (cc)
by_open k ms m false is e = by_close k ms m (bytes_eq k (codes "close")) refl e

by_set : (k : List ℕ) (ms : Members) (m : Message) (s : Bool) → bytes_eq k (codes "set") ≡ s
    → cond s (Some (Set (items_in ms))) (cond (bytes_eq k (codes "open")) (if_empty ms Open) (cond (bytes_eq k (codes "close")) (if_empty ms Close) None)) ≡ Some m
    → Says (object (member k (object ms) no_members)) m
by_set k ms m true is e = subst (Says (object (member k (object ms) no_members))) (ap (within m) e) (ms, at_name k (codes "set") ms (named k _ is), refl)
by_set k ms m false is e = by_open k ms m (bytes_eq k (codes "open")) refl e

pub said : (d : Data) (m : Message) → message_in d ≡ Some m → Says d m
said null m e = absurd (cc)
said (boolean b) m e = absurd (cc)
said (number n) m e = absurd (cc)
said (string s) m e = absurd (cc)
said (array ds) m e = absurd (cc)
said (object no_members) m e = absurd (cc)
said (object (member k null more)) m e = absurd (cc)
said (object (member k (boolean b) more)) m e = absurd (cc)
said (object (member k (number n) more)) m e = absurd (cc)
said (object (member k (string s) more)) m e = absurd (cc)
said (object (member k (array ds) more)) m e = absurd (cc)
said (object (member k (object ms) (member l d more))) m e = absurd (cc)
said (object (member k (object ms) no_members)) m e = by_set k ms m (bytes_eq k (codes "set")) refl e

pub saying : (d : Data) (m : Message) → Says d m → message_in d ≡ Some m
saying d Open h = ap message_in h
saying d (Set items) (ms, is, same) = ap message_in is ∙ ap (λ i. Some (Set i)) (sym same)
saying d Close h = ap message_in h

pub one : (bytes : List ℕ) (m k : Message) → IsMessage bytes m → IsMessage bytes k → m ≡ k
one bytes m k (short, d, (utf8, read), is) (short2, e, (utf8b, read2), is2) =
    let same : Some d ≡ Some e = sym read ∙ read2 in
    let both : message_in d ≡ message_in e = ap (λ o. option_and_then message_in o) same in
    ap (within m) (sym (saying d m is) ∙ both ∙ saying e k is2)
