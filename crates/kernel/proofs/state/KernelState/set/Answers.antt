-- The items are admitted, or the message is refused.
use Rattle.std.proofs.Common.{subst}
use Rattle.kernel.specs.Sets.{IsWhy}
use Rattle.kernel.proofs.Sets.{all_there}
use Rattle.kernel.proofs.SetValues.{refused_taken}
use Rattle.kernel.proofs.state.KernelState.set.Goals as goal

pub keep-requires-clause-there : goal.keep-requires-clause-there
keep-requires-clause-there c = all_there c.args.self.now.env c.args.items c.in-Ok.sets.items c.in-Ok.ensures.ok

pub returns-in-Err-Refused-clause-taken : goal.returns-in-Err-Refused-clause-taken
returns-in-Err-Refused-clause-taken c =
    let s = c.args.self.now in
    let refused = c.in-Err-Refused in
    rw refused.field-0-is
    (refused_taken s c.requires.kept c.requires.free c.requires.on c.args.items refused.why
    (subst (IsWhy s.env c.args.items) refused.field-0-is refused.ensures.fault))
