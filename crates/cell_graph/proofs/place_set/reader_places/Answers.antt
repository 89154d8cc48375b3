-- The cells at a name more, where the table has some.
use Rattle.std.proofs.Common.{◌≡◌, ℕ, ◌+◌, ◌<◌, ◌||◌, Bool, List, [], length, take, None, Some, refl, sym, ap, ◌∙◌, subst, BTreeSet}
use Rattle.std.specs.Prelude.{unwrap_or}
use Rattle.std.specs.List.{list_any, All}
use Rattle.std.proofs.Math.Bool.{or-false}
use Rattle.std.proofs.lemmas.List.Folds.{list_any_more}
use Rattle.py_tree.specs.Names.{Name}
use Rattle.py_value.specs.Maps.{look_up}
use Rattle.graph_meaning.specs.Graph.{numbers_from}
use Rattle.cell_graph.specs.Places.{is_placed}
use Rattle.cell_graph.specs.Readers.{cells_at}
use Rattle.cell_graph.proofs.Names.{filter_alike}
use Rattle.cell_graph.proofs.Numbers.{none_pass}
use Rattle.cell_graph.proofs.place_set.reader_places.Goals as goal
use Rattle.cell_graph.proofs.place_set.reader_places.Goals.{in-Some+in_ok-add_places, in_default}

pub loop-name-init : goal.loop-name-init
loop-name-init c = c.new-pending.ensures.empty ∙ sym (none_pass _ (λ q. refl) (numbers_from 0 c.args.places.now))

pub add_places-requires-clause-cells : goal.add_places-requires-clause-cells
add_places-requires-clause-cells c =
    let found : look_up c.items.result.now c.args.readers.now ≡ Some c.in-Some.cells.now = sym c.in-Some.ensures in
    let is : cells_at c.args.readers.now c.items.result.now ≡ c.items-in-Some.result.now = ap (λ o. unwrap_or o []) found ∙ sym c.items-in-Some.ensures in
    subst (All (λ d. d < length c.args.places.now)) is (c.requires.cells c.items.result.now)

pub loop-name-preserved : goal.loop-name-preserved
loop-name-preserved c =
    let places : List ℕ = c.args.places.now in
    let names : List Name = c.args.names.now in
    let table = c.args.readers.now in
    let i = c.loop-name.name-index in
    let x : Name = c.name-item.result in
    let test : Name → ℕ → Bool = λ y q. is_placed places (cells_at table y) q in
    let more : (q : ℕ) → list_any (λ y. test y q) (take (i + 1) names) ≡ (list_any (λ y. test y q) (take i names) || test x q) =
    λ q. list_any_more (λ y. test y q) names i x c.loop-name-test.true ∙ ap (λ y. list_any (λ z. test z q) (take i names) || test y q) (sym c.name-item.is) in
    elim c.match-get.branch [
      | in-Some+in_ok-add_places w ↦
          let found : look_up c.items.result.now table ≡ Some w.in-Some.cells.now = sym w.in-Some.ensures in
          let cells : w.items-in-Some.result.now ≡ cells_at table x =
          w.items-in-Some.ensures ∙ sym (ap (λ o. unwrap_or o []) found) ∙ ap (cells_at table) c.items.ensures in
          ap (λ (s : BTreeSet ℕ). s.keys) w.pending-is
          ∙ w.in_ok-add_places.ensures (λ q. list_any (λ y. test y q) (take i names)) c.loop-name.invariant
          ∙ filter_alike _ _ (λ q. ap (λ (cs : List ℕ). list_any (λ y. test y q) (take i names) || is_placed places cs q) cells ∙ sym (more q)) (numbers_from 0 places)
      | in_default w ↦
          let none : look_up c.items.result.now table ≡ None = sym w.in_default.ensures in
          let cells : cells_at table x ≡ [] = sym (ap (cells_at table) c.items.ensures) ∙ ap (λ o. unwrap_or o []) none in
          ap (λ (s : BTreeSet ℕ). s.keys) w.pending-is
          ∙ c.loop-name.invariant
          ∙ filter_alike _ _ (λ q. sym (more q ∙ ap (λ (cs : List ℕ). list_any (λ y. test y q) (take i names) || is_placed places cs q) cells ∙ or-false _)) (numbers_from 0 places)
    ]
