-- The first of the visitors who wait at a door in memory comes.
use Rattle.std.proofs.Common.{◌≡◌, ◌∙◌, refl, sym, ap, subst, ◌<◌, List, [], ◌∷◌, map, take, drop, get_or, length, arith}
use Rattle.std.specs.Prelude.{Some, remove}
use Rattle.link_io.specs.Doors.{Lets, Parted, IsUnused}
use Rattle.link_io.specs.Links.{fresh}
use Rattle.link_io.specs.MemLinks.{IsFresh, items_of, told_of}
use Rattle.link_io.specs.declared.answers.Accepted.{Accepted}
use Rattle.link_io.specs.declared.answers.Accepted.TheVariants as accepted
use Rattle.link_io.specs.declared.mem_link.MemLink.{MemLink}

first_is : (ws : List MemLink) (d : MemLink) → 0 < length ws → map items_of ws ≡ items_of (get_or ws 0 d) ∷ map items_of (remove ws 0)
first_is [] d some = absurd (omega (arith, some))
first_is (w ∷ ws) d some = refl

told_fresh : (w : MemLink) → IsFresh w → told_of w ≡ fresh (items_of w)
told_fresh w f = (λ i. record {
  taken = take (f.taken i) (items_of w);
  left = drop (f.taken i) (items_of w);
  sent = map (λ v. v.items) (f.sent i);
})

abbrev visitor_or : Accepted MemLink → MemLink → MemLink
visitor_or (accepted.Visitor v) d = v
visitor_or r d = d

-- an answer names one visitor
same_visitor : (w v : MemLink) → accepted.Visitor w ≡ accepted.Visitor v → w ≡ v
same_visitor w v same = ap (λ r. visitor_or r w) same

pub lets_first : (ws rest : List MemLink) (parted : List Parted) (w v : MemLink) → 0 < length ws → w ≡ get_or ws 0 w → rest ≡ remove ws 0 → IsFresh w
    → accepted.Visitor w ≡ accepted.Visitor v
    → (v.faults ≡ 0) × Lets (Some (record { waiting = map items_of ws; parted = parted })) (Some (record { waiting = map items_of rest; parted = parted })) (Some (told_of v))
lets_first ws rest parted w v some is left f same =
    subst (λ u. (u.faults ≡ 0) × Lets (Some (record { waiting = map items_of ws; parted = parted })) (Some (record { waiting = map items_of rest; parted = parted })) (Some (told_of u))) (same_visitor w v same) (
      f.faults,
      (
        items_of w,
        map items_of rest,
        first_is ws w some ∙ (λ i. items_of (sym is i) ∷ map items_of (sym left i)),
        ap (λ t. Some t) (told_fresh w f),
        refl,
      ),
    )

pub unused_first : (w v : MemLink) → IsFresh w → accepted.Visitor w ≡ accepted.Visitor v → IsUnused (Some (told_of v))
unused_first w v f same =
    subst (λ u. IsUnused (Some (told_of u))) (same_visitor w v same)
    (ap (λ t. t.taken) (told_fresh w f), ap (λ t. t.sent) (told_fresh w f))
