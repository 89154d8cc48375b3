-- A full order leaves no cycle, and a short one leaves some.
use Rattle.std.proofs.Common.{◌≡◌, ◌<◌, eqb, List, ℕ, length, get_or, sym, ap, ◌∙◌, subst, arith}
use Rattle.std.specs.List.{All, IsDistinct}
use Rattle.std.proofs.lemmas.List.{length-map}
use Rattle.py_tree.specs.Names.{Name}
use Rattle.py_tree.specs.Trees.{Cell}
use Rattle.py_tree.specs.View.{view_cell, view_cells}
use Rattle.graph_meaning.specs.Graph.{order}
use Rattle.graph_meaning.proofs.Orders.{full_is_free}
use Rattle.cell_graph.specs.Counts.{AreWithin, IsTranspose}
use Rattle.cell_graph.specs.Tables.{AreDefs, AreRefs}
use Rattle.cell_graph.specs.Places.{ArePlaced}
use Rattle.cell_graph.specs.Readers.{HasReaders}
use Rattle.cell_graph.proofs.Cells.{some_cyclic}
use Rattle.cell_graph.proofs.Places.{order_fits}
use Rattle.cell_graph.proofs.OrderPlaces.{cells_inside, cells_once, placed}
use Rattle.cell_graph.proofs.OrderSteps.{parents_within}
use Rattle.cell_graph.proofs.build.notebook.Goals as goal

pub all_children-requires-clause-within : goal.all_children-requires-clause-within
all_children-requires-clause-within c =
    let nb : List Cell = view_cells c.args.cells.items in
    let defined : AreDefs nb c.as_slice-3.result.now = search (arith, c.in_ok-defs.ensures) in
    let referenced : AreRefs nb c.as_slice-4.result.now = search (arith, c.in_ok-refs.ensures) in
    let parents = c.in_ok-parents.ensures.parents nb defined referenced in
    subst (λ (ls : List (List ℕ)). AreWithin ls) (sym c.as_slice-5.ensures.value) (parents_within nb c.in_ok-parents.parents.items parents)

pub order_of-requires-clause-within : goal.order_of-requires-clause-within
order_of-requires-clause-within c =
    let nb : List Cell = view_cells c.args.cells.items in
    let defined : AreDefs nb c.as_slice-3.result.now = search (arith, c.in_ok-defs.ensures) in
    let referenced : AreRefs nb c.as_slice-4.result.now = search (arith, c.in_ok-refs.ensures) in
    let parents = c.in_ok-parents.ensures.parents nb defined referenced in
    subst (λ (ls : List (List ℕ)). AreWithin ls) (sym c.as_slice-6.ensures.value) (parents_within nb c.in_ok-parents.parents.items parents)

pub places_of-requires-clause-few : goal.places_of-requires-clause-few
places_of-requires-clause-few c =
    let nb : List Cell = view_cells c.args.cells.items in
    let defined : AreDefs nb c.as_slice-3.result.now = search (arith, c.in_ok-defs.ensures) in
    let referenced : AreRefs nb c.as_slice-4.result.now = search (arith, c.in_ok-refs.ensures) in
    let parents = c.in_ok-parents.ensures.parents nb defined referenced in
    let ordered : c.as_slice-9.result.now ≡ order nb = c.as_slice-9.ensures.value ∙ c.in_ok-order.ensures nb (search (arith, parents)) in
    let size = length-map c.args.cells.items view_cell in
    omega (arith, ap (λ (cs : List ℕ). length cs) ordered, order_fits nb, c.requires)

pub places_of-requires-clause-within : goal.places_of-requires-clause-within
places_of-requires-clause-within c =
    let nb : List Cell = view_cells c.args.cells.items in
    let defined : AreDefs nb c.as_slice-3.result.now = search (arith, c.in_ok-defs.ensures) in
    let referenced : AreRefs nb c.as_slice-4.result.now = search (arith, c.in_ok-refs.ensures) in
    let parents = c.in_ok-parents.ensures.parents nb defined referenced in
    let ordered : c.as_slice-9.result.now ≡ order nb = c.as_slice-9.ensures.value ∙ c.in_ok-order.ensures nb (search (arith, parents)) in
    let size = length-map c.args.cells.items view_cell in
    let full : length (order nb) ≡ length nb = omega (arith, ap (λ (cs : List ℕ). length cs) ordered, order_fits nb) in
    subst (λ (cs : List ℕ). All (λ d. d < length cs) cs) (sym ordered) (cells_inside nb full)

pub places_of-requires-clause-once : goal.places_of-requires-clause-once
places_of-requires-clause-once c =
    let nb : List Cell = view_cells c.args.cells.items in
    let defined : AreDefs nb c.as_slice-3.result.now = search (arith, c.in_ok-defs.ensures) in
    let referenced : AreRefs nb c.as_slice-4.result.now = search (arith, c.in_ok-refs.ensures) in
    let parents = c.in_ok-parents.ensures.parents nb defined referenced in
    let ordered : c.as_slice-9.result.now ≡ order nb = c.as_slice-9.ensures.value ∙ c.in_ok-order.ensures nb (search (arith, parents)) in
    subst (IsDistinct eqb) (sym ordered) (cells_once nb)

pub cyclic_cells-requires-clause-within : goal.cyclic_cells-requires-clause-within
cyclic_cells-requires-clause-within c =
    let nb : List Cell = view_cells c.args.cells.items in
    let defined : AreDefs nb c.as_slice-3.result.now = search (arith, c.in_ok-defs.ensures) in
    let referenced : AreRefs nb c.as_slice-4.result.now = search (arith, c.in_ok-refs.ensures) in
    let parents = c.in_ok-parents.ensures.parents nb defined referenced in
    subst (λ (ls : List (List ℕ)). AreWithin ls) (sym c.as_slice-then-len.ensures.value) (parents_within nb c.in_ok-parents.parents.items parents)

pub returns-then-len-clause-refused : goal.returns-then-len-clause-refused
returns-then-len-clause-refused c =
    let nb : List Cell = view_cells c.args.cells.items in
    let defined : AreDefs nb c.as_slice-3.result.now = search (arith, c.in_ok-defs.ensures) in
    let referenced : AreRefs nb c.as_slice-4.result.now = search (arith, c.in_ok-refs.ensures) in
    let parents = c.in_ok-parents.ensures.parents nb defined referenced in
    let ordered = c.in_ok-order.ensures nb (search (arith, parents)) in
    let size = length-map c.args.cells.items view_cell in
    let short : length (order nb) < length nb = omega (arith, ap length ordered) in
    let cyclic = c.in_ok-cyclic_cells.ensures nb (search (arith, parents)) in
    record { once = c.in_ok-parents.ensures.once nb defined; all = cyclic; some = some_cyclic nb _ cyclic short }

pub invariant_of-result : goal.invariant_of-result
invariant_of-result c =
    let nb : List Cell = view_cells c.args.cells.items in
    let defined : AreDefs nb c.as_slice-3.result.now = search (arith, c.in_ok-defs.ensures) in
    let referenced : AreRefs nb c.as_slice-4.result.now = search (arith, c.in_ok-refs.ensures) in
    let parents = c.in_ok-parents.ensures.parents nb defined referenced in
    let ordered = c.in_ok-order.ensures nb (search (arith, parents)) in
    let size = length-map c.args.cells.items view_cell in
    let full : length (order nb) ≡ length nb = omega (arith, ap length ordered, order_fits nb) in
    let free = full_is_free nb full in
    let turned : IsTranspose c.in_ok-parents.parents.items c.in_ok-children.children.items =
    subst (λ (ls : List (List ℕ)). IsTranspose ls c.in_ok-children.children.items) c.as_slice-5.ensures.value c.in_ok-children.ensures in
    let seats : List ℕ = c.in_ok-places.places.items in
    let same : c.as_slice-9.result.now ≡ order nb = c.as_slice-9.ensures.value ∙ ordered in
    let count : length seats ≡ length (order nb) = c.in_ok-places.ensures.count ∙ ap (λ (cs : List ℕ). length cs) same in
    let each = subst (λ (cs : List ℕ). (q : ℕ) → q < length cs → get_or seats (get_or cs q 0) 0 ≡ q) same c.in_ok-places.ensures.each in (
      c.requires,
      search (arith, defined),
      search (arith, referenced),
      search (arith, c.in_ok-elements.ensures),
      parents,
      ordered,
      c.in_ok-parents.ensures.once nb defined,
      free,
      turned,
      subst (λ (os : List ℕ). ArePlaced os seats c.in_ok-children.children.items) (sym ordered) (placed nb full free seats count each c.in_ok-parents.parents.items c.in_ok-children.children.items parents turned),
      subst (λ (rs : List (List Name)). HasReaders rs c.in_ok-readers.readers) c.as_slice-10.ensures.value c.in_ok-readers.ensures,
    )

pub returns-clause-free : goal.returns-clause-free
returns-clause-free c =
    let nb : List Cell = view_cells c.args.cells.items in
    let defined : AreDefs nb c.as_slice-3.result.now = search (arith, c.in_ok-defs.ensures) in
    let referenced : AreRefs nb c.as_slice-4.result.now = search (arith, c.in_ok-refs.ensures) in
    let parents = c.in_ok-parents.ensures.parents nb defined referenced in
    let ordered = c.in_ok-order.ensures nb (search (arith, parents)) in
    let size = length-map c.args.cells.items view_cell in
    let full : length (order nb) ≡ length nb = omega (arith, ap length ordered, order_fits nb) in
    full_is_free nb full
