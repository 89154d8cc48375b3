-- A name that stands in no list adds none, and another adds its own.
use Rattle.std.proofs.Common.{◌≡◌, ℕ, ◌+◌, List, [], ◌∷◌, ◌++◌, take, refl, sym, ap, ◌∙◌, nat_cmp, BTreeSet}
use Rattle.std.specs.BTreeSet.{insert_key}
use Rattle.std.proofs.lemmas.List.{take_more}
use Rattle.py_tree.specs.Names.{Name}
use Rattle.cell_graph.specs.Definers.{list_at, lists_with}
use Rattle.graph_meaning.specs.Graph.{numbers_from}
use Rattle.cell_graph.proofs.Numbers.{none_pass}
use Rattle.cell_graph.proofs.LookUps.{with_none, with_one}
use Rattle.cell_graph.proofs.parents.parents_of.Goals as goal
use Rattle.cell_graph.proofs.parents.parents_of.Goals.{in-Some+in_ok-insert, in_default}

pub loop-name-init : goal.loop-name-init
loop-name-init c lists f = c.new-cells.ensures.empty ∙ sym (none_pass _ (λ a. refl) (numbers_from 0 lists))

pub loop-name-preserved : goal.loop-name-preserved
loop-name-preserved c lists f =
    let x : Name = c.name-item.result in
    let names : List Name = take c.loop-name.name-index c.args.names.now in
    let table = c.args.table.now in
    let more : take (c.loop-name.name-index + 1) c.args.names.now ≡ names ++ x ∷ [] =
    take_more c.args.names.now c.loop-name.name-index x c.loop-name-test.true ∙ ap (λ y. names ++ y ∷ []) (sym c.name-item.is) in
    let asked : list_at table x ≡ list_at table c.items.result.now = ap (list_at table) (sym c.items.ensures) in
    elim c.match-get.branch [
      | in-Some+in_ok-insert w ↦
          ap (λ (s : BTreeSet ℕ). s.keys) w.cells-is ∙ w.in_ok-insert.ensures.keys
          ∙ ap (λ ks. insert_key nat_cmp ks w.in-Some.cell.now) (c.loop-name.invariant lists f)
          ∙ with_one lists (list_at table) f names x w.in-Some.cell.now (asked ∙ sym w.in-Some.ensures.value)
          ∙ ap (lists_with lists) (sym more)
      | in_default w ↦
          ap (λ (s : BTreeSet ℕ). s.keys) w.cells-is ∙ c.loop-name.invariant lists f
          ∙ with_none lists (list_at table) f names x (asked ∙ sym w.in_default.ensures.value) ∙ ap (lists_with lists) (sym more)
    ]
