-- The kernel takes the message, and its answer is sent.
use Rattle.std.proofs.Common.{◌∷◌, []}
use Rattle.kernel.proofs.Results.{if_err_of}
use Rattle.session.proofs.Calling.{breaks_behind, breaks_undelivered, drains_behind, went_delivered}
use Rattle.session.specs.Progress.{Breaks}
use Rattle.session.specs.declared.unsent.Unsent.{Unsent}
use Rattle.session.specs.declared.unsent.Unsent.TheVariants as unsent
use Rattle.session.proofs.serving.answer_message.Goals as goal

pub returns-clause-answered : goal.returns-clause-answered
returns-clause-answered g c =
    let told = g.K.Link.told c.args.link.now in
    let first = went_delivered c.args.bytes.now c.in_ok-deliver.field-0 c.args.kernel.now c.deliver.new.self c.args.steps.now told c.requires c.in_ok-deliver.ensures.delivers c.in_default.not-Closed in
    drains_behind first c.in_ok-drain.ensures.drained

pub returns-in_err-drain-clause-broke : goal.returns-in_err-drain-clause-broke
returns-in_err-drain-clause-broke g c =
    let told = g.K.Link.told c.args.link.now in
    let why = c.in_err-drain.field-0.0 in
    let first = went_delivered c.args.bytes.now c.in_ok-deliver.field-0 c.args.kernel.now c.deliver.new.self c.args.steps.now told c.requires c.in_ok-deliver.ensures.delivers c.in_default.not-Closed in
    let Broke : Unsent → Type 0 = λ why.
    Breaks why c.args.kernel.now c.args.steps.now told (c.args.bytes.now ∷ []) [] c.drain.new.kernel c.drain.new.steps (g.K.Link.told c.drain.new.link) in
    if_err_of c.from_residual-in_err-drain.result why Broke c.from_residual-in_err-drain.ensures.1
    (breaks_behind first c.in_err-drain.ensures.broke)

pub returns-in_err-deliver-clause-broke : goal.returns-in_err-deliver-clause-broke
returns-in_err-deliver-clause-broke g c =
    let told = g.K.Link.told c.args.link.now in
    let Broke : Unsent → Type 0 = λ why. Breaks why c.args.kernel.now c.args.steps.now told (c.args.bytes.now ∷ []) [] c.deliver.new.self c.args.steps.now told in
    if_err_of c.from_residual.result unsent.Memory Broke c.from_residual.ensures.1
    (breaks_undelivered c.args.bytes.now c.args.kernel.now c.deliver.new.self c.args.steps.now told c.requires c.in_err-deliver.ensures.spoils)
