-- What written-out bytes are, from computing.
use Rattle.std.proofs.Common.{◌≡◌, ◌∙◌, refl, ap, ℕ, ◌≤◌, nat_le, List, length, true, false, Option, Some, None, option_and_then, arith}
use Rattle.std.proofs.lemmas.Str.{IsUtf8-from_is_utf8, is_utf8-from_IsUtf8}
use Rattle.std.specs.Str.{is_utf8}
use Rattle.messages.specs.declared.message.Message.{Message}
use Rattle.message_meaning.proofs.Shapes.{said, saying}
use Rattle.message_meaning.specs.Computed.{message_in, said_by}
use Rattle.message_meaning.specs.Messages.{Says, IsMessage, IsNoMessage, message_limit}
use Rattle.serde_json.specs.Data.{Data}
use Rattle.serde_json.specs.Read.{read}

found : (o : Option Data) (m : Message) → option_and_then message_in o ≡ Some m → (d : Data) × (o ≡ Some d) × Says d m
found None m e = absurd (cc)
found (Some d) m e = (d, refl, said d m e)

pub computed : (text : List ℕ) (m : Message) → nat_le (length text) message_limit ≡ true → is_utf8 text ≡ true → said_by text ≡ Some m → IsMessage text m
computed text m short utf8 e =
    let it = found (read text) m e in
    let within : length text ≤ message_limit = grind arith in
    (within, it.0, (IsUtf8-from_is_utf8 text utf8, it.1), it.2)

pub refused : (text : List ℕ) → said_by text ≡ None → IsNoMessage text
refused text none m (short, d, (utf8, is), says) =
    let some : said_by text ≡ Some m = ap (option_and_then message_in) is ∙ saying d m says in
    absurd (cc)

pub no_text : (text : List ℕ) → is_utf8 text ≡ false → IsNoMessage text
no_text text broken m (short, d, (utf8, is), says) =
    let whole : is_utf8 text ≡ true = is_utf8-from_IsUtf8 text utf8 in
    absurd (cc)
