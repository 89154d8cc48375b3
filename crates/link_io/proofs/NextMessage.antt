-- The next message of a link in memory is taken.
use Rattle.std.proofs.Common.{◌≡◌, ◌∙◌, ap, ℕ, ◌+◌, ◌<◌, List, [], ◌∷◌, ◌++◌, map, take, drop, get_or, length, arith}
use Rattle.std.proofs.lemmas.List.{drop_more, get_or-map, length-map, take_more}
use Rattle.std.specs.Prelude.{Some}
use Rattle.link_io.specs.Links.{Item, TakesNext}

pub takes_at : {M : Type 0} (f : M → Item) (ms : List M) (at : ℕ) (d : M) (m : Item) (texts : List (List ℕ)) → at < length ms → f (get_or ms at d) ≡ m
    → TakesNext (record { taken = take at (map f ms); left = drop at (map f ms); sent = texts })
    (Some (record { taken = take (at + 1) (map f ms); left = drop (at + 1) (map f ms); sent = texts })) m
takes_at f ms at d m texts within is =
    let xs : List Item = map f ms in
    let inside : at < length xs = omega (arith, within, length-map ms f) in
    let head : get_or xs at m ≡ m = get_or-map f ms at d m within ∙ is in
    let taken : take (at + 1) xs ≡ take at xs ++ m ∷ [] = take_more xs at m inside ∙ ap (λ x. take at xs ++ x ∷ []) head in (
      drop (at + 1) xs,
      drop_more xs at m inside ∙ ap (λ x. x ∷ drop (at + 1) xs) head,
      (λ i. Some (record { taken = taken i; left = drop (at + 1) xs; sent = texts })),
    )
