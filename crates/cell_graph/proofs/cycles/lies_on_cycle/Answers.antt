-- The cells in the list of a cell that is looked at are marked; where none is left to look at, all that lead to the cell are.
use Rattle.std.proofs.Common.{◌≡◌, ℕ, ◌<◌, ◌&&◌, ◌||◌, not, false, Bool, List, length, take, drop, [], ◌∷◌, ◌++◌, refl, sym, ap, ◌∙◌, subst, arith}
use Rattle.std.specs.List.{All}
use Rattle.std.proofs.lemmas.Grind.{common_steps}
use Rattle.std.proofs.lemmas.List.{get_or_default}
use Rattle.graph_meaning.specs.Graph.{is_in}
use Rattle.cell_graph.specs.Counts.{list_in}
use Rattle.cell_graph.specs.Marks.{is_marked}
use Rattle.cell_graph.proofs.Ancestors.{IsSearched, marked_below, was_marked, search_more, lies, lies_not}
use Rattle.cell_graph.proofs.cycles.lies_on_cycle.Goals as goal

is_nil : (xs : List ℕ) → length xs ≡ 0 → xs ≡ []
is_nil [] h = refl
is_nil (x ∷ xs) h = absurd (omega arith)

pub bounds-parents-ancestor : goal.bounds-parents-ancestor
bounds-parents-ancestor c =
    let s = subst (IsSearched c.args.parents.now c.args.cell c.loop-ancestor.marked.items) c.in-Some.ensures.items c.loop-ancestor.invariant in
    let on = was_marked c.args.parents.now c.args.cell c.loop-ancestor.marked.items c.pop.new.self.items c.in-Some.ancestor s in
    let below = marked_below c.loop-ancestor.marked.items c.in-Some.ancestor on in
    omega (arith, below, c.loop-ancestor.invariant.count)

pub mark-requires-in-Some : goal.mark-requires-in-Some
mark-requires-in-Some c =
    let above : List (List ℕ) = c.args.parents.now in
    let a = c.in-Some.ancestor in
    let s = subst (IsSearched above c.args.cell c.loop-ancestor.marked.items) c.in-Some.ensures.items c.loop-ancestor.invariant in
    let on = was_marked above c.args.cell c.loop-ancestor.marked.items c.pop.new.self.items a s in
    let below = marked_below c.loop-ancestor.marked.items a on in
    let there : a < length above = omega (arith, below, c.loop-ancestor.invariant.count) in
    let same : c.items-in-Some.result.now ≡ list_in above a =
    c.items-in-Some.ensures ∙ c.index-parents-ancestor.is ∙ get_or_default above a c.index-parents-ancestor.result [] there in
    let size : length above ≡ length c.as_mut_slice-in-Some.result.now =
    sym c.loop-ancestor.invariant.count ∙ sym (ap (λ (ms : List Bool). length ms) c.as_mut_slice-in-Some.ensures.value) in
    subst (λ (cs : List ℕ). All (λ d. d < length c.as_mut_slice-in-Some.result.now) cs) (sym same)
    (subst (λ (n : ℕ). All (λ d. d < n) (list_in above a)) size (c.requires.within a [] there))

pub loop-ancestor-preserved : goal.loop-ancestor-preserved
loop-ancestor-preserved c =
    let above : List (List ℕ) = c.args.parents.now in
    let marked : List Bool = c.loop-ancestor.marked.items in
    let rest : List ℕ = c.pop.new.self.items in
    let a = c.in-Some.ancestor in
    let new : List Bool = c.mark-in-Some.new.marked in
    let s = subst (IsSearched above c.args.cell marked) c.in-Some.ensures.items c.loop-ancestor.invariant in
    let on = was_marked above c.args.cell marked rest a s in
    let below = marked_below marked a on in
    let there : a < length above = omega (arith, below, c.loop-ancestor.invariant.count) in
    let cells : c.items-in-Some.result.now ≡ list_in above a =
    c.items-in-Some.ensures ∙ c.index-parents-ancestor.is ∙ get_or_default above a c.index-parents-ancestor.result [] there in
    let same : c.as_mut_slice-in-Some.result.now ≡ marked = c.as_mut_slice-in-Some.ensures.value in
    let size : length new ≡ length marked = c.mark-in-Some.auto.marked ∙ ap (λ (ms : List Bool). length ms) same in
    let back : take c.loop-ancestor.marked.len (new ++ drop (length new) marked) ≡ new =
    grind (arith, common_steps, c.mark-in-Some.auto.marked, c.as_mut_slice-in-Some.ensures.len) in
    subst (λ (ms : List Bool). IsSearched above c.args.cell ms c.mark-in-Some.new.pending.items) (sym back)
    (search_more above c.args.cell marked rest a s new c.mark-in-Some.new.pending.items size
    (λ d. c.in_ok-mark-2.ensures.marks d ∙ (λ i. is_marked (same i) d || is_in d (cells i)))
    (λ d. c.in_ok-mark-2.ensures.added d ∙ (λ i. is_in d rest || (is_in d (cells i) && not (is_marked (same i) d)))))

pub returns-clause-on : goal.returns-clause-on
returns-clause-on c = λ nb kept on.
    let there : c.args.cell < length c.loop-ancestor.marked.items = omega (arith, c.requires.there, c.loop-ancestor.invariant.count) in
    let mark : is_marked c.loop-ancestor.marked.items c.args.cell ≡ c.index.result.now =
    get_or_default c.loop-ancestor.marked.items c.args.cell false c.index.result.now there ∙ sym c.index.ensures in
    lies nb c.args.parents.now kept c.args.cell c.loop-ancestor.marked.items c.loop-ancestor.pending.items c.loop-ancestor.invariant (mark ∙ on)

pub returns-clause-off : goal.returns-clause-off
returns-clause-off c = λ nb kept off cycle.
    let there : c.args.cell < length c.loop-ancestor.marked.items = omega (arith, c.requires.there, c.loop-ancestor.invariant.count) in
    let mark : is_marked c.loop-ancestor.marked.items c.args.cell ≡ c.index.result.now =
    get_or_default c.loop-ancestor.marked.items c.args.cell false c.index.result.now there ∙ sym c.index.ensures in
    let none : c.loop-ancestor.pending.items ≡ [] = is_nil c.loop-ancestor.pending.items (omega (arith, c.in_default.ensures.cases.0)) in
    lies_not nb c.args.parents.now kept c.args.cell c.loop-ancestor.marked.items
    (subst (IsSearched c.args.parents.now c.args.cell c.loop-ancestor.marked.items) none c.loop-ancestor.invariant) (mark ∙ off) cycle
