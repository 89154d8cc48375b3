-- What the end of a session says of its visitor.
use Rattle.std.specs.Prelude.{◌≡◌, ◌<◌, All, ◌⊎◌, ◌≤◌, ℕ, List, [], ◌∷◌, ◌++◌, length, map, Option, Some}
use Rattle.frame_meaning.specs.FrameText.{frame_text}
use Rattle.link_io.specs.Links.{Item, Told}
use Rattle.message_meaning.specs.Sent.{AreReceived}
use Rattle.messages.specs.declared.message.Message.{Message}
use Rattle.py_tree.specs.Trees.{Cell}
use Rattle.session.specs.Serving.{message_count_limit}
use Rattle.session.specs.Talks.{IsClose, IsNoClose, bytes_of}
use Rattle.session.specs.declared.ended.Ended.{Ended}
use Rattle.session.specs.declared.ended.Ended.TheVariants as ended
use Rattle.visit_meaning.specs.Answer.{solo}

-- Which texts a visitor alone is sent from whom these messages are taken. What a report says is stated over any such relation.
abbrev pub Alone : Type 1
Alone = List Item → List (List ℕ) → Type 0

-- the one of a notebook
abbrev pub alone_in : List Cell → ℕ → Alone
alone_in nb budget items texts =
    (ms : List (Option Message)) × AreReceived (map bytes_of items) ms × (texts ≡ map frame_text (solo nb budget ms))

-- Closed: the link was read to its end or to a close message, and the texts that were sent are exactly those for the messages before it. TooMany:
-- exactly those for 1,000,000 messages. Else a prefix of those for the messages that were taken, but for a last one at most where memory was wanting,
-- and where there is one, all of them. No close message is among those that were answered.
abbrev pub Ends : Alone → Ended → Told → Type 0
Ends alone ended.Closed t = (items : List Item) × All IsNoClose items × (length items < message_count_limit) × alone items t.sent
    × (((t.taken ≡ items) × (t.left ≡ [])) ⊎ ((m : Item) × IsClose m × (t.taken ≡ items ++ m ∷ [])))
Ends alone ended.TooMany t = All IsNoClose t.taken × (length t.taken ≡ message_count_limit) × alone t.taken t.sent
Ends alone ended.LinkFault t = All IsNoClose t.taken × (length t.taken ≤ message_count_limit)
    × (texts : List (List ℕ)) × alone t.taken texts × (rest : List (List ℕ)) × (t.sent ++ rest ≡ texts)
Ends alone ended.Memory t = (length t.taken ≤ message_count_limit)
    × (heard : List Item) × (untaken : List Item) × All IsNoClose heard × (t.taken ≡ heard ++ untaken) × (length untaken ≤ 1)
    × (texts : List (List ℕ)) × alone heard texts × (rest : List (List ℕ)) × (t.sent ++ rest ≡ texts)
    × ((untaken ≡ []) ⊎ (rest ≡ []))

-- a visitor who came with these messages, once the session ended
abbrev pub IsEnded : Alone → List Item → Ended → Option Told → Type 0
IsEnded alone all end now = (t : Told) × (now ≡ Some t) × (t.taken ++ t.left ≡ all) × Ends alone end t
