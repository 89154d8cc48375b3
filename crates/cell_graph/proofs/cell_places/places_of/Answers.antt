-- Each cell stands at one place alone.
use Rattle.std.proofs.Common.{ℕ, ◌<◌, ⊎_elim, List, length, get_or, set, ap, ◌∙◌, sym, get_or-set_same, get_or-set_other, arith}
use Rattle.std.proofs.lemmas.Bool.{cases_eq, eqb-false}
use Rattle.std.proofs.lemmas.List.{length-set}
use Rattle.std.proofs.lemmas.Map.Keys.{apart_from_distinct}
use Rattle.cell_graph.proofs.cell_places.places_of.Goals as goal

pub loop-place-preserved : goal.loop-place-preserved
loop-place-preserved c =
    let ordered : List ℕ = c.args.order.now in
    let table : List ℕ = c.loop-place.places.items in
    let place = c.loop-place.place in
    let inside : get_or ordered place 0 < length ordered = c.requires.within place 0 c.loop-place-test.true in
    record {
      count = length-set table (get_or ordered place 0) place ∙ c.loop-place.invariant.count;
      each = λ q below. ⊎_elim
          (λ same. ap (λ (k : ℕ). get_or (set table (get_or ordered place 0) place) (get_or ordered k 0) 0) same
          ∙ get_or-set_same table (get_or ordered place 0) place 0 (omega (arith, c.loop-place.invariant.count)) ∙ sym same)
          (λ apart.
          let lower : q < place = omega arith in
          let other = apart_from_distinct _ ordered q place 0 c.requires.once lower c.loop-place-test.true in
          get_or-set_other table (get_or ordered place 0) (get_or ordered q 0) place 0 (eqb-false _ _ other)
          ∙ c.loop-place.invariant.each q lower)
          (cases_eq q place);
    }
