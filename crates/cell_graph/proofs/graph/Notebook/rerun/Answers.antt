-- The places of the cells that wait are taken in turn.
use Rattle.std.proofs.Common.{◌≡◌, ℕ, ◌<◌, ◌&&◌, ◌||◌, ◌==◌, ◌++◌, not, List, [], ◌∷◌, length, get_or, filter, refl, sym, ap, ◌∙◌, arith}
use Rattle.std.specs.List.{list_any}
use Rattle.std.proofs.lemmas.Bool.{false≢true}
use Rattle.std.proofs.lemmas.List.{get_or_default, length_push}
use Rattle.py_tree.specs.Names.{Name}
use Rattle.py_tree.specs.Trees.{Cell}
use Rattle.py_tree.specs.View.{view_cells}
use Rattle.py_tree.specs.declared.tree.CellCode.{CellCode}
use Rattle.graph_meaning.specs.Graph.{is_in, numbers_from}
use Rattle.graph_meaning.specs.Reruns.{reads_one, is_within, rerun}
use Rattle.cell_graph.specs.Counts.{list_in}
use Rattle.cell_graph.specs.Places.{is_placed}
use Rattle.cell_graph.specs.Readers.{cells_at}
use Rattle.cell_graph.proofs.Reruns.{is_waiting, at_first, same_spread, all_listed, high, few, left_of, spread_more, child_inside}
use Rattle.cell_graph.proofs.ReaderTable.{reader_inside}
use Rattle.cell_graph.proofs.OrderPlaces.{spreads, first_waiting}
use Rattle.cell_graph.proofs.Counts.{all_from_in}
use Rattle.cell_graph.proofs.graph.Notebook.rerun.Goals as goal

is_nil : (xs : List ℕ) → (0 < length xs → ⊥) → xs ≡ []
is_nil [] h = refl
is_nil (x ∷ xs) h = absurd (h (omega arith))

pub reader_places-requires-clause-cells : goal.reader_places-requires-clause-cells
reader_places-requires-clause-cells c = λ x.
    let nb : List Cell = view_cells c.self.inside.cells.items in
    let place = c.self.invariant.9 in
    let size = ap (λ (ps : List ℕ). length ps) c.as_slice-places.ensures.value in
    all_from_in (λ d. d < length c.as_slice-places.result.now) (cells_at c.self.inside.readers x) (λ d h.
    let low = reader_inside nb c.self.inside.refs.items c.self.invariant.2 c.self.inside.readers c.self.invariant.10 x d h in
    omega (arith, place.count, place.lists, c.self.invariant.8.count, c.self.invariant.4.count))

pub reader_places-requires-clause-there : goal.reader_places-requires-clause-there
reader_places-requires-clause-there c = λ k d low.
    let place = c.self.invariant.9 in
    let size = ap (λ (ps : List ℕ). length ps) c.as_slice-places.ensures.value in
    let there = place.there k (omega (arith, place.count)) in
    let same : get_or c.as_slice-places.result.now k d ≡ get_or c.self.inside.places.items k 0 =
    get_or_default c.as_slice-places.result.now k d 0 low ∙ ap (λ (ps : List ℕ). get_or ps k 0) c.as_slice-places.ensures.value in
    omega (arith, place.count)

pub loop-place-init : goal.loop-place-init
loop-place-init c =
    let nb : List Cell = view_cells c.self.inside.cells.items in
    let names : List Name = c.args.names.now in
    let ordered : List ℕ = c.self.inside.order.items in
    let place = c.self.invariant.9 in
    let full : length ordered ≡ length nb = omega (arith, place.lists, c.self.invariant.8.count, c.self.invariant.4.count) in
    let waits : c.in_ok-pending.pending.keys ≡ filter (λ q. reads_one nb names (get_or ordered q 0)) (numbers_from 0 ordered) =
    c.in_ok-pending.ensures
    ∙ (λ i. filter (λ q. list_any (λ x. is_placed (c.as_slice-places.ensures.value i) (cells_at c.self.inside.readers x) q) (c.items.ensures i)) (numbers_from 0 (c.as_slice-places.ensures.value i)))
    ∙ first_waiting nb c.self.inside.refs.items c.self.invariant.2 c.self.inside.readers c.self.invariant.10 ordered c.self.inside.places.items
    c.self.inside.children.items place full names in
    same_spread ordered c.self.inside.children.items (reads_one nb names) (is_within nb names (length nb)) [] c.in_ok-pending.pending.keys _ _ c.new-listed.ensures.items refl
    (at_first ordered c.self.inside.children.items (reads_one nb names) (is_within nb names (length nb)) c.in_ok-pending.pending.keys waits)

pub index-cell-requires : goal.index-cell-requires
index-cell-requires c =
    let nb : List Cell = view_cells c.self.inside.cells.items in
    let names : List Name = c.args.names.now in
    let inside = c.self.inside in
    let spread = spreads inside.parents.items inside.children.items c.self.invariant.8 nb c.self.invariant.4 names in
    let low = high inside.order.items inside.places.items inside.children.items c.self.invariant.9 (reads_one nb names) (is_within nb names (length nb)) spread
    c.loop-place.listed.items c.loop-place.pending.keys c.loop-place.invariant c.in-Some.place c.pop_first.new.self.keys c.in-Some.ensures.removal in
    search (arith, low)

pub index-requires : goal.index-requires
index-requires c =
    let nb : List Cell = view_cells c.self.inside.cells.items in
    let names : List Name = c.args.names.now in
    let inside = c.self.inside in
    let spread = spreads inside.parents.items inside.children.items c.self.invariant.8 nb c.self.invariant.4 names in
    let place = c.in-Some.place in
    let low = high inside.order.items inside.places.items inside.children.items c.self.invariant.9 (reads_one nb names) (is_within nb names (length nb)) spread
    c.loop-place.listed.items c.loop-place.pending.keys c.loop-place.invariant place c.pop_first.new.self.keys c.in-Some.ensures.removal in
    let there = c.self.invariant.9.inside place low in
    let cell : c.index-cell.result.now ≡ get_or inside.order.items place 0 =
    c.index-cell.ensures ∙ get_or_default inside.order.items place c.index-cell.result.now 0 low in
    omega (arith, c.self.invariant.9.lists)

pub add_places-requires-clause-cells : goal.add_places-requires-clause-cells
add_places-requires-clause-cells c =
    let nb : List Cell = view_cells c.self.inside.cells.items in
    let names : List Name = c.args.names.now in
    let inside = c.self.inside in
    let placed = c.self.invariant.9 in
    let spread = spreads inside.parents.items inside.children.items c.self.invariant.8 nb c.self.invariant.4 names in
    let place = c.in-Some.place in
    let low = high inside.order.items inside.places.items inside.children.items placed (reads_one nb names) (is_within nb names (length nb)) spread
    c.loop-place.listed.items c.loop-place.pending.keys c.loop-place.invariant place c.pop_first.new.self.keys c.in-Some.ensures.removal in
    let there = placed.inside place low in
    let cell : c.index-cell.result.now ≡ get_or inside.order.items place 0 =
    c.index-cell.ensures ∙ get_or_default inside.order.items place c.index-cell.result.now 0 low in
    let size = ap (λ (ps : List ℕ). length ps) c.as_slice-places.ensures.value in
    let children : c.items-in-Some.result.now ≡ list_in inside.children.items c.index-cell.result.now =
    c.items-in-Some.ensures ∙ c.index.ensures ∙ get_or_default inside.children.items c.index-cell.result.now c.index.result.now [] (omega (arith, placed.lists)) in
    all_from_in (λ d. d < length c.as_slice-places.result.now) c.items-in-Some.result.now (λ d h.
    let low = child_inside inside.order.items inside.places.items inside.children.items placed c.index-cell.result.now d (sym (ap (is_in d) children) ∙ h) in
    omega (arith, placed.count))

pub loop-place-smaller : goal.loop-place-smaller
loop-place-smaller c =
    let nb : List Cell = view_cells c.self.inside.cells.items in
    let names : List Name = c.args.names.now in
    let inside = c.self.inside in
    let spread = spreads inside.parents.items inside.children.items c.self.invariant.8 nb c.self.invariant.4 names in
    let low = few inside.order.items inside.places.items inside.children.items c.self.invariant.9 (reads_one nb names) (is_within nb names (length nb)) spread
    c.loop-place.listed.items c.loop-place.pending.keys c.loop-place.invariant c.in-Some.place c.pop_first.new.self.keys c.in-Some.ensures.removal in
    let size = ap (λ (ps : List ℕ). length ps) c.in_ok-push.ensures.items in
    let more = length_push c.loop-place.listed.items c.index-cell.result.now in
    omega arith

pub loop-place-preserved : goal.loop-place-preserved
loop-place-preserved c =
    let nb : List Cell = view_cells c.self.inside.cells.items in
    let names : List Name = c.args.names.now in
    let inside = c.self.inside in
    let ordered : List ℕ = inside.order.items in
    let below : List (List ℕ) = inside.children.items in
    let placed = c.self.invariant.9 in
    let p = reads_one nb names in
    let w = is_within nb names (length nb) in
    let listed : List ℕ = c.loop-place.listed.items in
    let pending : List ℕ = c.loop-place.pending.keys in
    let rest : List ℕ = c.pop_first.new.self.keys in
    let place = c.in-Some.place in
    let spread = spreads inside.parents.items below c.self.invariant.8 nb c.self.invariant.4 names in
    let s = c.loop-place.invariant in
    let low = high ordered inside.places.items below placed p w spread listed pending s place rest c.in-Some.ensures.removal in
    let there = placed.inside place low in
    let cell : c.index-cell.result.now ≡ get_or ordered place 0 =
    c.index-cell.ensures ∙ get_or_default ordered place c.index-cell.result.now 0 low in
    let children : c.items-in-Some.result.now ≡ list_in below (get_or ordered place 0) =
    c.items-in-Some.ensures ∙ c.index.ensures ∙ get_or_default below c.index-cell.result.now c.index.result.now [] (omega (arith, placed.lists)) ∙ ap (list_in below) cell in
    let left : rest ≡ filter (λ q. is_waiting ordered below p listed s.from q && not (q == place)) (numbers_from 0 c.as_slice-places.result.now) =
    left_of ordered inside.places.items below placed p w spread listed pending s place rest c.in-Some.ensures.removal
    ∙ ap (λ (ps : List ℕ). filter (λ q. is_waiting ordered below p listed s.from q && not (q == place)) (numbers_from 0 ps)) (sym c.as_slice-places.ensures.value) in
    let waits = c.in_ok-add_places.ensures _ left in
    same_spread ordered below p w (listed ++ get_or ordered place 0 ∷ []) c.add_places.new.pending.keys _ _
    (c.in_ok-push.ensures.items ∙ ap (λ d. listed ++ d ∷ []) cell) refl
    (spread_more ordered inside.places.items below placed p w spread listed pending s place rest c.in-Some.ensures.removal c.add_places.new.pending.keys
    (waits ∙ (λ i. filter (λ q. (is_waiting ordered below p listed s.from q && not (q == place)) || is_placed (c.as_slice-places.ensures.value i) (children i) q) (numbers_from 0 (c.as_slice-places.ensures.value i)))))

pub returns : goal.returns
returns c =
    let nb : List Cell = view_cells c.self.inside.cells.items in
    let names : List Name = c.args.names.now in
    let inside = c.self.inside in
    let spread = spreads inside.parents.items inside.children.items c.self.invariant.8 nb c.self.invariant.4 names in
    let none : c.loop-place.pending.keys ≡ [] = is_nil c.loop-place.pending.keys (λ h. false≢true (c.in_default.ensures.variant.1 h)) in
    let all = all_listed inside.order.items inside.places.items inside.children.items c.self.invariant.9 (reads_one nb names) (is_within nb names (length nb)) spread
    c.loop-place.listed.items c.loop-place.pending.keys c.loop-place.invariant none in
    c.of.ensures ∙ all ∙ ap (filter (is_within nb names (length nb))) c.self.invariant.5
    ∙ ap (λ (cells : List CellCode). rerun (view_cells cells) names) c.self.view_is
