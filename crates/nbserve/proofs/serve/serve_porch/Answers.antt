-- The doors that the porch gives are served and returned.
use Rattle.std.proofs.Common.{◌≡◌, ◌∙◌, map, false}
use Rattle.std.proofs.lemmas.List.{length-map}
use Rattle.std.proofs.lemmas.List.Elements.{All-map, All-weaker}
use Rattle.link_io.specs.Doors.{IsUnvisited}
use Rattle.link_io.specs.Porches.{Seen, seen}
use Rattle.link_io.proofs.Taken.{rose_since}
use Rattle.nbserve.proofs.Service.{stock_after}
use Rattle.nbserve.specs.Service.{IsNewDoor}
use Rattle.nbserve.proofs.serve.serve_porch.Goals as goal

pub returns-clause-served : goal.returns-clause-served
returns-clause-served g c =
    let before = g.P.Porch.faults c.args.porch.now in
    let between = g.P.Porch.faults c.doors.new.self in
    let last = g.P.Porch.faults c.back.new.self in
    let given = c.in_ok-doors.doors.items in
    let returned = c.serve_doors-report.new.doors.items in
    record {
      doors = map (λ d. seen (g.P.Way.Door.queue d) (g.P.Way.Door.faults d)) given;
      returned = map (λ d. seen (g.P.Way.Door.queue d) (g.P.Way.Door.faults d)) returned;
      count = length-map given (λ d. seen (g.P.Way.Door.queue d) (g.P.Way.Door.faults d)) ∙ c.in_ok-doors.ensures.count;
      unused = All-map IsNewDoor (λ d. seen (g.P.Way.Door.queue d) (g.P.Way.Door.faults d)) given
          (All-weaker (λ d. (g.P.Way.Door.faults d ≡ 0) × (g.P.Way.Door.out d ≡ false) × IsUnvisited (g.P.Way.Door.queue d))
          (λ d. IsNewDoor (seen (g.P.Way.Door.queue d) (g.P.Way.Door.faults d))) (λ d new. (new.0, new.2)) given c.in_ok-doors.ensures.new);
      stock = stock_after (g.P.Porch.told c.args.porch.now) (g.P.Porch.told c.doors.new.self) (g.P.Porch.told c.back.new.self) c.args.service.port _ _
          c.in_ok-doors.ensures.given c.back.ensures.taken;
      report = c.serve_doors-report.ensures.served;
      fault = λ fail. rose_since before between last c.doors.ensures.later
          (c.back.ensures.rose (λ sound. fail (All-map (λ (d : Seen). d.faults ≡ 0) (λ d. seen (g.P.Way.Door.queue d) (g.P.Way.Door.faults d)) returned sound)));
    }
