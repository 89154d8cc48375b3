-- What links in memory tell.
use Rattle.std.specs.Prelude.{◌≡◌, List, [], map, take, drop, option_map}
use Rattle.link_io.specs.Links.{Item, Told}
use Rattle.link_io.specs.declared.mem_link.MemLink.{MemLink}

-- the messages of a link, those that were taken among them
abbrev pub items_of : MemLink → List Item
items_of l = map (option_map (λ v. v.items)) l.messages.items

abbrev pub told_of : MemLink → Told
told_of l = record { taken = take l.taken (items_of l); left = drop l.taken (items_of l); sent = map (λ v. v.items) l.sent.items }

-- nothing was taken, nothing was sent, and no call failed
pub record IsFresh (l : MemLink) : Type 0 where
  pub taken : l.taken ≡ 0
  pub sent : l.sent.items ≡ []
  pub faults : l.faults ≡ 0
