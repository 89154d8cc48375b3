-- The first doors are given, and the others are left.
use Rattle.std.proofs.Common.{◌≡◌, ◌∙◌, refl, ap, arith, map, ◌++◌}
use Rattle.std.proofs.lemmas.Grind.{common_steps}
use Rattle.std.proofs.lemmas.List.{map-append}
use Rattle.link_io.specs.MemDoors.{seen_of}
use Rattle.link_io.proofs.mem_porch.MemPorchPorch.doors.Goals as goal

pub returns-in-Ok-clause-given : goal.returns-in-Ok-clause-given
returns-in-Ok-clause-given c =
    let before = c.args.self.now.ahead.items in
    let given = c.replace.result.items in
    let left = c.replace.new.dest.items in
    let parts : before ≡ given ++ left = grind (arith, common_steps, c.split_off.ensures, c.in-Ok.ensures, c.replace.ensures) in
    (map seen_of left, ap (map seen_of) parts ∙ map-append seen_of given left, refl)
