-- The next message is taken.
use Rattle.std.proofs.Common.{◌∙◌, sym, ap, get_or, length, arith, map}
use Rattle.std.specs.Prelude.{None, Some, option_map}
use Rattle.link_io.proofs.NextMessage.{takes_at}
use Rattle.link_io.proofs.mem_talk.MemLinkLink.recv.Goals as goal

pub returns-in-None-clause-took : goal.returns-in-None-clause-took
returns-in-None-clause-took c =
    let at = c.args.self.now.taken in
    let x = c.index-messages-self.result in
    let here = c.index-messages-self.is ∙ ap (λ s. get_or s at x) c.as_slice-messages.ensures.value in
    takes_at (option_map (λ v. v.items)) c.args.self.now.messages.items at x None (map (λ v. v.items) c.args.self.now.sent.items)
    (omega (arith, c.if-self-messages.false, ap (λ s. length s) c.as_slice-messages.ensures.value))
    (ap (option_map (λ v. v.items)) (sym here) ∙ ap (option_map (λ v. v.items)) c.in-None.is)

pub returns-in-Ok-clause-took : goal.returns-in-Ok-clause-took
returns-in-Ok-clause-took c =
    let at = c.args.self.now.taken in
    let x = c.index-messages-self.result in
    let here = c.index-messages-self.is ∙ ap (λ s. get_or s at x) c.as_slice-messages.ensures.value in
    takes_at (option_map (λ v. v.items)) c.args.self.now.messages.items at x (Some c.in-Ok.copy.items) (map (λ v. v.items) c.args.self.now.sent.items)
    (omega (arith, c.if-self-messages.false, ap (λ s. length s) c.as_slice-messages.ensures.value))
    (ap (option_map (λ v. v.items)) (sym here) ∙ ap (option_map (λ v. v.items)) c.in-Some.is
    ∙ ap (λ t. Some t) (sym (c.in-Ok.ensures.items ∙ c.as_slice.ensures.value)))
