-- The place of a cell more.
use Rattle.std.proofs.Common.{◌≡◌, ℕ, ◌<◌, ◌||◌, ◌==◌, Bool, true, false, List, length, get_or, take, refl, sym, ap, ◌∙◌, nat_cmp, arith}
use Rattle.std.specs.BTreeSet.{insert_key}
use Rattle.std.proofs.Math.Bool.{or-false}
use Rattle.std.proofs.lemmas.List.Folds.{list_any_more}
use Rattle.graph_meaning.specs.Graph.{numbers_from}
use Rattle.cell_graph.specs.Places.{is_placed}
use Rattle.cell_graph.proofs.Names.{filter_alike}
use Rattle.cell_graph.proofs.Numbers.{inserted}
use Rattle.cell_graph.proofs.place_set.add_places.Goals as goal

joined : (a b c : Bool) → ((a || b) || c) ≡ (a || (b || c))
joined true b c = refl
joined false b c = refl

pub loop-cell-init : goal.loop-cell-init
loop-cell-init c p h = h ∙ filter_alike p (λ q. p q || false) (λ q. sym (or-false (p q))) (numbers_from 0 c.args.places.now)

pub loop-cell-preserved : goal.loop-cell-preserved
loop-cell-preserved c p h =
    let places : List ℕ = c.args.places.now in
    let cells : List ℕ = c.args.cells.now in
    let i = c.loop-cell.cell-index in
    let k = get_or places (get_or cells i 0) 0 in
    let low : get_or cells i 0 < length places = c.requires.cells i 0 c.loop-cell-test.true in
    let inside : k < length places = c.requires.there (get_or cells i 0) 0 low in
    c.in_ok-insert.ensures.keys
    ∙ ap (λ ks. insert_key nat_cmp ks k) (c.loop-cell.invariant p h)
    ∙ inserted (λ q. p q || is_placed places (take i cells) q) k 0 places (omega arith) (omega arith)
    ∙ filter_alike _ _ (λ q. joined (p q) (is_placed places (take i cells) q) (q == k)
    ∙ ap (λ b. p q || b) (sym (list_any_more (λ d. q == get_or places d 0) cells i 0 c.loop-cell-test.true)))
    (numbers_from 0 places)
