-- What doors in memory tell.
use Rattle.std.specs.Prelude.{◌≡◌, [], false, map, Some}
use Rattle.link_io.specs.Doors.{Parted, Row}
use Rattle.link_io.specs.MemLinks.{items_of, told_of}
use Rattle.link_io.specs.Porches.{Seen, seen}
use Rattle.link_io.specs.declared.mem_link.MemLink.{MemLink}
use Rattle.link_io.specs.declared.mem_door.MemDoor.{MemDoor}

abbrev pub parted_of : MemLink → Parted
parted_of l = record { told = Some (told_of l); faults = l.faults }

abbrev pub row_of : MemDoor → Row
row_of d = record { waiting = map items_of d.waiting.items; parted = map parted_of d.parted.items }

abbrev pub seen_of : MemDoor → Seen
seen_of d = seen (Some (row_of d)) d.faults

-- nobody came through the door, and no call failed
pub record IsNewDoor (d : MemDoor) : Type 0 where
  pub parted : d.parted.items ≡ []
  pub out : d.has_visitor ≡ false
  pub faults : d.faults ≡ 0
