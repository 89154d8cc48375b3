-- The text is the message that was read, or none.
use Rattle.std.proofs.Common.{◌≡◌, ◌∙◌, refl, sym, ap, false, Some, None}
use Rattle.messages.specs.declared.message.Message.{Message}
use Rattle.messages.specs.declared.message.Message.TheVariants.{Open, Set, Close}
use Rattle.program_meaning.specs.Scripts.{is_close}
use Rattle.script_run.proofs.script.closes.Goals.{in-Close, in_default}
use Rattle.script_run.proofs.script.closes.Goals as goal

another : (m : Message) → (m ≡ Close → ⊥) → false ≡ is_close (Some m)
another Open h = refl
another (Set items) h = refl
another Close h = absurd (h refl)

pub returns-after-matches : goal.returns-after-matches
returns-after-matches c = (
  Some c.in-Ok.message,
  c.in-Ok.ensures.ok,
  elim c.match-matches.branch [
    | in-Close w ↦ w.matches-is ∙ sym (ap (λ m. is_close (Some m)) w.in-Close.is)
    | in_default w ↦ w.matches-is ∙ another c.in-Ok.message w.in_default.not-Close
  ],
)

pub returns-in-Err-NotMessage : goal.returns-in-Err-NotMessage
returns-in-Err-NotMessage c = (None, c.in-Err-NotMessage.ensures.none c.in-Err-NotMessage.field-0-is, refl)
