-- The texts for the messages so far were sent, and a prefix of those for one more.
use Rattle.std.proofs.Common.{◌≤◌, ◌≡◌, ◌∙◌, inl, inr, sym, subst, ◌∷◌, [], ◌++◌, arith, length}
use Rattle.std.proofs.lemmas.List.{length-append}
use Rattle.session.proofs.Calling.{answered_next, stops_here, breaks_next}
use Rattle.session.proofs.Outcomes.{closed_at_end, closed_by, counted, counts_at_end, counts_by, counts_cut, served, serves_cut}
use Rattle.session.specs.Serving.{Counts, Serves}
use Rattle.session.specs.declared.unsent.Unsent.TheVariants as unsent
use Rattle.session.proofs.serving.serve_visitor.Goals as goal

pub loop-preserved : goal.loop-preserved
loop-preserved g c =
    let so_far = c.loop.invariant.1 in
    let heard = rw c.in-Message.is at c.hear.ensures.hears in
    let long = so_far.1 in (
      omega (arith, c.loop.invariant.0, c.hear.ensures.later, c.in-Ok-Sent.ensures.later),
      (
        so_far.0 ++ heard.0 ∷ [],
        omega (arith, length-append so_far.0 (heard.0 ∷ []), long),
        answered_next heard.0 c.as_slice.result.now (g.K.Link.told c.hear.new.link) c.answer_message.new.kernel c.answer_message.new.steps (g.K.Link.told c.answer_message.new.link)
            so_far.2 (heard.1 ∙ sym c.as_slice.ensures.value) heard.2 (rw c.in-Ok-Sent.field-0-is at c.in-Ok-Sent.ensures.answered),
      ),
    )

pub returns-in-Err-clause-serves : goal.returns-in-Err-clause-serves
returns-in-Err-clause-serves g c =
    let told = g.K.Link.told c.args.link.now in
    subst (λ end. Serves end c.args.kernel.now told c.drain.new.kernel (g.K.Link.told c.drain.new.link)) (sym c.ended_of.ensures)
    (serves_cut c.in-Err.why [] c.drain.new.kernel c.in-Err.ensures.broke.stops (omega arith) (λ failed. inr (c.in-Err.ensures.broke.stuck failed)))

pub returns-in-Err-clause-steps : goal.returns-in-Err-clause-steps
returns-in-Err-clause-steps g c =
    let told = g.K.Link.told c.args.link.now in
    subst (λ end. Counts end c.args.kernel.now told c.args.steps.now c.drain.new.steps (g.K.Link.told c.drain.new.link)) (sym c.ended_of.ensures)
    (counts_cut c.in-Err.why [] c.in-Err.ensures.broke.stops (omega arith))

pub returns-in-Err-answer_message-clause-serves : goal.returns-in-Err-answer_message-clause-serves
returns-in-Err-answer_message-clause-serves g c =
    let told = g.K.Link.told c.args.link.now in
    let so_far = c.loop.invariant.1 in
    let heard = rw c.in-Message.is at c.hear.ensures.hears in
    let now = g.K.Link.told c.answer_message.new.link in
    let few : length (so_far.0 ++ heard.0 ∷ []) ≤ 1000000 = omega (arith, so_far.1, c.loop-test.true, length-append so_far.0 (heard.0 ∷ [])) in
    let broke = breaks_next heard.0 c.as_slice.result.now (g.K.Link.told c.hear.new.link) c.answer_message.new.kernel c.answer_message.new.steps now
    so_far.2 (heard.1 ∙ sym c.as_slice.ensures.value) heard.2 c.in-Err-answer_message.ensures.broke in
    subst (λ end. Serves end c.args.kernel.now told c.answer_message.new.kernel now) (sym c.ended_of-in-Err-answer_message.ensures)
    (serves_cut c.in-Err-answer_message.why (so_far.0 ++ heard.0 ∷ []) c.answer_message.new.kernel broke.stops few
    (λ failed. inr (broke.stuck failed)))

pub returns-in-Err-answer_message-clause-steps : goal.returns-in-Err-answer_message-clause-steps
returns-in-Err-answer_message-clause-steps g c =
    let told = g.K.Link.told c.args.link.now in
    let so_far = c.loop.invariant.1 in
    let heard = rw c.in-Message.is at c.hear.ensures.hears in
    let now = g.K.Link.told c.answer_message.new.link in
    let few : length (so_far.0 ++ heard.0 ∷ []) ≤ 1000000 = omega (arith, so_far.1, c.loop-test.true, length-append so_far.0 (heard.0 ∷ [])) in
    let broke = breaks_next heard.0 c.as_slice.result.now (g.K.Link.told c.hear.new.link) c.answer_message.new.kernel c.answer_message.new.steps now
    so_far.2 (heard.1 ∙ sym c.as_slice.ensures.value) heard.2 c.in-Err-answer_message.ensures.broke in
    subst (λ end. Counts end c.args.kernel.now told c.args.steps.now c.answer_message.new.steps now) (sym c.ended_of-in-Err-answer_message.ensures)
    (counts_cut c.in-Err-answer_message.why (so_far.0 ++ heard.0 ∷ []) broke.stops few)

pub returns-in-Ok-Closed-clause-serves : goal.returns-in-Ok-Closed-clause-serves
returns-in-Ok-Closed-clause-serves g c =
    let so_far = c.loop.invariant.1 in
    let heard = rw c.in-Message.is at c.hear.ensures.hears in
    closed_by heard.0 c.as_slice.result.now (g.K.Link.told c.hear.new.link) c.answer_message.new.kernel c.answer_message.new.steps (g.K.Link.told c.answer_message.new.link)
    so_far.2 (omega (arith, so_far.1, c.loop-test.true)) (heard.1 ∙ sym c.as_slice.ensures.value) heard.2 (rw c.in-Ok-Closed.field-0-is at c.in-Ok-Closed.ensures.answered)

pub returns-in-Ok-Closed-clause-steps : goal.returns-in-Ok-Closed-clause-steps
returns-in-Ok-Closed-clause-steps g c =
    let so_far = c.loop.invariant.1 in
    let heard = rw c.in-Message.is at c.hear.ensures.hears in
    counts_by heard.0 c.as_slice.result.now (g.K.Link.told c.hear.new.link) c.answer_message.new.kernel c.answer_message.new.steps (g.K.Link.told c.answer_message.new.link)
    so_far.2 (heard.1 ∙ sym c.as_slice.ensures.value) heard.2 (rw c.in-Ok-Closed.field-0-is at c.in-Ok-Closed.ensures.answered)

pub returns-in-End-clause-serves : goal.returns-in-End-clause-serves
returns-in-End-clause-serves g c =
    let so_far = c.loop.invariant.1 in
    closed_at_end (g.K.Link.told c.hear.new.link) so_far.2 (omega (arith, so_far.1, c.loop-test.true)) (rw c.in-End.is at c.hear.ensures.hears)

pub returns-in-End-clause-steps : goal.returns-in-End-clause-steps
returns-in-End-clause-steps g c =
    let so_far = c.loop.invariant.1 in counts_at_end (g.K.Link.told c.hear.new.link) so_far.2 (rw c.in-End.is at c.hear.ensures.hears)

pub returns-in-Failed-clause-serves : goal.returns-in-Failed-clause-serves
returns-in-Failed-clause-serves g c =
    let so_far = c.loop.invariant.1 in
    let here = stops_here unsent.Failed (g.K.Link.told c.hear.new.link) so_far.2 (rw c.in-Failed.is at c.hear.ensures.hears) in
    serves_cut unsent.Failed so_far.0 c.loop.kernel here (omega (arith, so_far.1, c.loop-test.true))
    (λ failed. inl (omega (arith, so_far.1, c.loop-test.true)))

pub returns-in-Failed-clause-steps : goal.returns-in-Failed-clause-steps
returns-in-Failed-clause-steps g c =
    let so_far = c.loop.invariant.1 in
    let here = stops_here unsent.Failed (g.K.Link.told c.hear.new.link) so_far.2 (rw c.in-Failed.is at c.hear.ensures.hears) in
    counts_cut unsent.Failed so_far.0 here (omega (arith, so_far.1, c.loop-test.true))

pub returns-in-Memory-clause-serves : goal.returns-in-Memory-clause-serves
returns-in-Memory-clause-serves g c =
    let so_far = c.loop.invariant.1 in
    let here = stops_here unsent.Memory (g.K.Link.told c.hear.new.link) so_far.2 (rw c.in-Memory.is at c.hear.ensures.hears) in
    serves_cut unsent.Memory so_far.0 c.loop.kernel here (omega (arith, so_far.1, c.loop-test.true)) (λ failed. absurd (cc))

pub returns-in-Memory-clause-steps : goal.returns-in-Memory-clause-steps
returns-in-Memory-clause-steps g c =
    let so_far = c.loop.invariant.1 in
    let here = stops_here unsent.Memory (g.K.Link.told c.hear.new.link) so_far.2 (rw c.in-Memory.is at c.hear.ensures.hears) in
    counts_cut unsent.Memory so_far.0 here (omega (arith, so_far.1, c.loop-test.true))

pub returns-clause-serves : goal.returns-clause-serves
returns-clause-serves g c =
    let so_far = c.loop.invariant.1 in
    let all : length so_far.0 ≡ 1000000 = omega (arith, so_far.1, c.loop-test.false, c.loop.auto) in
    (so_far.0, all, served so_far.2)

pub returns-clause-steps : goal.returns-clause-steps
returns-clause-steps g c = let so_far = c.loop.invariant.1 in (so_far.0, counted so_far.2)
