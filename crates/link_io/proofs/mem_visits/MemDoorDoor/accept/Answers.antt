-- The first of those who wait comes.
use Rattle.std.proofs.Common.{refl, subst, sym, rules, map, ◌<◌, length}
use Rattle.std.proofs.lemmas.List.Elements.{All-get_or}
use Rattle.link_io.proofs.Visitors.{lets_first, unused_first}
use Rattle.link_io.specs.MemDoors.{parted_of}
use Rattle.link_io.specs.MemLinks.{IsFresh}
use Rattle.link_io.proofs.mem_visits.MemDoorDoor.accept.Goals as goal

pub returns-clause-visitor : goal.returns-clause-visitor
returns-clause-visitor c v same =
    let before = c.args.self.now in
    let w = c.remove-link.result in
    let some : 0 < length before.waiting.items = search rules in
    let f = subst IsFresh (sym c.remove-link.ensures.value) (All-get_or IsFresh before.waiting.items 0 w some before.fresh) in
    let l = lets_first before.waiting.items c.remove-link.new.self.items (map parted_of before.parted.items) w v some c.remove-link.ensures.value c.remove-link.ensures.items f same in
    (refl, l.0, l.1)

pub returns-clause-unused : goal.returns-clause-unused
returns-clause-unused c v same =
    let before = c.args.self.now in
    let w = c.remove-link.result in
    let some : 0 < length before.waiting.items = search rules in
    let f = subst IsFresh (sym c.remove-link.ensures.value) (All-get_or IsFresh before.waiting.items 0 w some before.fresh) in
    unused_first w v f same
