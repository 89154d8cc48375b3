-- A name is new, or stands in this list already, or stands in an earlier one.
use Rattle.std.proofs.Common.{◌≡◌, ℕ, ◌+◌, ◌⊎◌, inl, inr, List, [], ◌∷◌, ◌++◌, length, take, cond, Option, Some, None, sym, ap, ◌∙◌, subst, arith}
use Rattle.std.specs.Str.{bytes_eq}
use Rattle.std.proofs.lemmas.List.{take_more}
use Rattle.std.proofs.lemmas.Map.Text.{hash_map_updates_str}
use Rattle.py_tree.specs.Names.{Name}
use Rattle.cell_graph.specs.Definers.{list_at, FindsLists}
use Rattle.cell_graph.specs.Causes.{IsCauseOf}
use Rattle.cell_graph.specs.declared.fault.GraphFault.{GraphFault}
use Rattle.cell_graph.specs.declared.fault.GraphFault.TheVariants.{Doubly}
use Rattle.cell_graph.proofs.Cells.{doubled}
use Rattle.cell_graph.proofs.LookUps.{one_empty, one_name, finds_alike}
use Rattle.cell_graph.proofs.definers.add_definitions.Goals as goal
use Rattle.cell_graph.proofs.definers.add_definitions.Goals.{in-Some+else-first-cell, in_default}

pub loop-name-init : goal.loop-name-init
loop-name-init c lists same f = one_empty lists (list_at c.args.table.now) f

pub returns-then-first-cell-clause-refused : goal.returns-then-first-cell-clause-refused
returns-then-first-cell-clause-refused c nb lists later same kept f =
    let at : Name → Option ℕ = list_at c.loop-name.table in
    let x : Name = c.name-item.result in
    let here : at x ≡ Some c.in-Some.first = ap at (sym c.items.ensures) ∙ sym c.in_ok-first.ensures.old ∙ c.in-Some.is in
    let again =
    doubled nb lists later c.args.names.now kept c.loop-name.name-index at (c.loop-name.invariant lists same f) x c.in-Some.first here
    (λ e. omega (arith, c.if-first-cell.true, e, same)) c.loop-name-test.true c.name-item.is in
    let named : c.in_ok-doubly.field-0 ≡ Doubly x c.in-Some.first (length lists) =
    c.in_ok-doubly.ensures ∙ (λ j. Doubly (c.items-then-first-cell.ensures j) c.in-Some.first (sym same j)) in
    subst (λ (e : GraphFault). IsCauseOf e nb) (sym named) again

pub loop-name-preserved : goal.loop-name-preserved
loop-name-preserved c lists same f =
    let i = c.loop-name.name-index in
    let x : Name = c.name-item.result in
    let at : Name → Option ℕ = list_at c.loop-name.table in
    let names : List Name = take i c.args.names.now in
    let more : take (i + 1) c.args.names.now ≡ names ++ x ∷ [] =
    take_more c.args.names.now i x c.loop-name-test.true ∙ ap (λ y. names ++ y ∷ []) (sym c.name-item.is) in
    let was : at x ≡ c.in_ok-first.field-0 = ap at (sym c.items.ensures) ∙ sym c.in_ok-first.ensures.old in
    let free : (at x ≡ None) ⊎ (at x ≡ Some (length lists)) =
    elim c.match-branch-2.branch [
      | in-Some+else-first-cell w ↦ inr (was ∙ w.in-Some.is ∙ ap Some (omega (arith, w.if-first-cell.false, same)))
      | in_default w ↦ inl (was ∙ w.in_default.is)
    ] in
    let added = one_name lists names x at (c.loop-name.invariant lists same f) free in
    let updated : (q : Name) → list_at c.insert.new.self q ≡ cond (bytes_eq x q) (Some (length lists)) (at q) =
    λ q. hash_map_updates_str c.items.result.now c.loop-name.table c.insert.new.self (Some c.args.cell) c.in_ok-first.ensures.updates q
    ∙ (λ i. cond (bytes_eq (c.items.ensures i) q) (Some (sym same i)) (at q)) in
    subst (λ (ns : List Name). FindsLists (lists ++ ns ∷ []) (list_at c.insert.new.self)) (sym more)
    (finds_alike (lists ++ (names ++ x ∷ []) ∷ []) (λ q. cond (bytes_eq x q) (Some (length lists)) (at q)) (list_at c.insert.new.self) updated added)
