-- The status of the process is the one that is answered.
use Rattle.std.proofs.Common.{map, subst, sym}
use Rattle.std.specs.Prelude.{string_bytes}
use Rattle.link_io.specs.Outside.{Rose}
use Rattle.nbserve.specs.Top.{ComesTo}
use Rattle.nbserve.proofs.end_process.Goals as goal

pub returns : goal.returns
returns g c =
    subst
    (λ status. ComesTo (g.F.Files.holds c.args.files.now) (Rose (g.F.Files.faults c.args.files.now) (g.F.Files.faults c.run_top-status.new.files))
    (Rose (g.P.Porch.faults c.args.porch.now) (g.P.Porch.faults c.run_top-status.new.porch))
    (Rose (g.O.Sink.faults c.args.out.now) (g.O.Sink.faults c.run_top-status.new.out)) (map string_bytes c.args.words.now) status (g.O.Sink.taken c.args.out.now)
    (g.O.Sink.taken c.run_top-status.new.out) (g.P.Porch.told c.args.porch.now) (g.P.Porch.told c.run_top-status.new.porch)
    c.args.steps.now c.run_top-status.new.steps)
    (sym c.from.ensures) c.run_top-status.ensures.comes
