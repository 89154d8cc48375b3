-- The first ready cell is listed, and its children wait for one less.
use Rattle.std.proofs.Common.{◌≡◌, ℕ, ◌+◌, ◌<◌, ◌≤◌, ◌++◌, ◌==◌, ◌&&◌, ◌||◌, not, Bool, List, [], ◌∷◌, length, get_or, take, drop, filter, refl, sym, ap, ◌∙◌, subst, BTreeSet, arith}
use Rattle.std.proofs.lemmas.Grind.{common_steps}
use Rattle.std.specs.Prelude.{Vec}
use Rattle.std.specs.declared.alloc.Global.{Global}
use Rattle.std.specs.List.{All}
use Rattle.std.proofs.lemmas.Bool.{false≢true}
use Rattle.std.proofs.lemmas.List.{get_or_default}
use Rattle.graph_meaning.specs.Graph.{numbers_from, is_in}
use Rattle.cell_graph.specs.Counts.{list_in, count_of}
use Rattle.cell_graph.proofs.Numbers.{numbers_alike}
use Rattle.cell_graph.proofs.OrderSteps.{IsSwept, is_free_of, same_sweep, at_first, first, child_held, child_inside, swept_more, place_more, place_none}
use Rattle.cell_graph.proofs.order.order_of.Goals as goal
use Rattle.cell_graph.proofs.order.order_of.Goals.{in-Some+in_ok-push+in_ok-release, in_default}

is_nil : (xs : List ℕ) → (0 < length xs → ⊥) → xs ≡ []
is_nil [] h = refl
is_nil (x ∷ xs) h = absurd (h (omega arith))

pub loop-init : goal.loop-init
loop-init c =
    let counts : List ℕ = c.in_ok-counts.counts.items in
    let free : c.in_ok-ready.ready.keys ≡ filter (λ d. get_or counts d 0 == 0) (numbers_from 0 counts) =
    c.in_ok-ready.ensures ∙ ap (λ (ws : List ℕ). filter (λ d. get_or ws d 0 == 0) (numbers_from 0 ws)) c.as_slice.ensures.value in
    record {
      swept = subst (λ (ls : List ℕ). IsSwept c.args.parents.now ls counts c.in_ok-ready.ready.keys) (sym c.new-listed.ensures.items)
          (at_first c.args.parents.now counts c.in_ok-ready.ready.keys c.in_ok-counts.ensures free);
      placed = λ nb kept. c.new-listed.ensures.items;
    }

pub bounds-children-cell : goal.bounds-children-cell
bounds-children-cell c =
    let f = first c.args.parents.now c.loop.listed.items c.loop.counts.items c.loop.ready.keys c.loop.invariant.swept c.in-Some.cell
    c.pop_first.new.self.keys c.in-Some.ensures.removal in
    omega (arith, f.high, c.requires.turned.count)

pub release-requires-clause-within : goal.release-requires-clause-within
release-requires-clause-within c =
    let below : List (List ℕ) = c.args.children.now in
    let f = first c.args.parents.now c.loop.listed.items c.loop.counts.items c.loop.ready.keys c.loop.invariant.swept c.in-Some.cell
    c.pop_first.new.self.keys c.in-Some.ensures.removal in
    let there : c.in-Some.cell < length below = omega (arith, f.high, c.requires.turned.count) in
    let children : c.items.result.now ≡ list_in below c.in-Some.cell =
    c.items.ensures ∙ c.index-children-cell.is ∙ get_or_default below c.in-Some.cell c.index-children-cell.result [] there in
    let inside = child_inside c.args.parents.now c.loop.listed.items c.loop.counts.items c.loop.ready.keys c.loop.invariant.swept c.in-Some.cell
    c.pop_first.new.self.keys c.in-Some.ensures.removal below c.requires.turned in
    subst (λ (ws : List ℕ). All (λ d. d < length ws) c.items.result.now) (sym c.as_mut_slice.ensures.value)
    (subst (All (λ d. d < length c.loop.counts.items)) (sym children) inside)

pub release-requires-clause-enough : goal.release-requires-clause-enough
release-requires-clause-enough c = λ d.
    let below : List (List ℕ) = c.args.children.now in
    let f = first c.args.parents.now c.loop.listed.items c.loop.counts.items c.loop.ready.keys c.loop.invariant.swept c.in-Some.cell
    c.pop_first.new.self.keys c.in-Some.ensures.removal in
    let there : c.in-Some.cell < length below = omega (arith, f.high, c.requires.turned.count) in
    let children : c.items.result.now ≡ list_in below c.in-Some.cell =
    c.items.ensures ∙ c.index-children-cell.is ∙ get_or_default below c.in-Some.cell c.index-children-cell.result [] there in
    let held = child_held c.args.parents.now c.loop.listed.items c.loop.counts.items c.loop.ready.keys c.loop.invariant.swept c.in-Some.cell
    c.pop_first.new.self.keys c.in-Some.ensures.removal below c.requires.turned d in
    let P : List ℕ → List ℕ → Type 0 = λ cs ws. count_of d cs ≤ get_or ws d 0 in
    subst (P c.items.result.now) (sym c.as_mut_slice.ensures.value) (subst (λ (cs : List ℕ). P cs c.loop.counts.items) (sym children) held)

pub loop-preserved : goal.loop-preserved
loop-preserved c =
    let above : List (List ℕ) = c.args.parents.now in
    let below : List (List ℕ) = c.args.children.now in
    let listed : List ℕ = c.loop.listed.items in
    let counts : List ℕ = c.loop.counts.items in
    let ready : List ℕ = c.loop.ready.keys in
    let rest : List ℕ = c.pop_first.new.self.keys in
    let swept = c.loop.invariant.swept in
    elim c.match-pop_first.branch [
      | in-Some+in_ok-push+in_ok-release w ↦
          let cell = w.in-Some.cell in
          let pop : ready ≡ cell ∷ rest = w.in-Some.ensures.removal in
          let f = first above listed counts ready swept cell rest pop in
          let there : cell < length below = omega (arith, f.high, c.requires.turned.count) in
          let children : w.items.result.now ≡ list_in below cell = w.items.ensures ∙ w.index-children-cell.is ∙ get_or_default below cell w.index-children-cell.result [] there in
          let same : w.as_mut_slice.result.now ≡ counts = w.as_mut_slice.ensures.value in
          let fewer : List ℕ = w.release.new.counts in
          let less : (d : ℕ) → get_or fewer d 0 + count_of d (list_in below cell) ≡ get_or counts d 0 =
          λ d. ap (λ cs. get_or fewer d 0 + count_of d cs) (sym children) ∙ w.in_ok-release.ensures.counts d ∙ ap (λ ws. get_or ws d 0) same in
          let p : ℕ → Bool = λ d. is_free_of listed counts d && not (d == cell) in
          let others : rest ≡ filter p (numbers_from 0 w.as_mut_slice.result.now) =
          f.others ∙ ap (filter p) (sym (numbers_alike 0 w.as_mut_slice.result.now above (ap (λ (ws : List ℕ). length ws) same ∙ swept.count))) in
          let freed : w.release.new.ready.keys ≡ filter (λ d. p d || (is_in d (list_in below cell) && (get_or fewer d 0 == 0))) (numbers_from 0 counts) =
          w.in_ok-release.ensures.ready p others
          ∙ (λ i. filter (λ d. p d || (is_in d (children i) && (get_or fewer d 0 == 0))) (numbers_from 0 (same i))) in
          let size : length fewer ≡ length counts = w.release.auto.counts ∙ ap (λ (ws : List ℕ). length ws) same in
          let more : c.match-pop_first.listed.items ≡ listed ++ cell ∷ [] = ap (λ (v : Vec ℕ Global). v.items) w.listed-is ∙ w.in_ok-push.ensures.items in
          let back : take c.loop.counts.len (fewer ++ drop (length fewer) counts) ≡ fewer = grind (arith, common_steps, w.release.auto.counts, w.as_mut_slice.ensures.len) in
          record {
            swept = same_sweep above (listed ++ cell ∷ []) fewer w.release.new.ready.keys _ _ _ more (ap (λ (v : Vec ℕ Global). v.items) w.counts-is ∙ back) (ap (λ (s : BTreeSet ℕ). s.keys) w.ready-is)
                (swept_more above listed counts ready swept cell rest pop below c.requires.turned fewer less w.release.new.ready.keys size freed);
            placed = λ nb kept. more ∙ place_more above listed counts ready swept cell rest pop nb c.loop.counter kept (c.loop.invariant.placed nb kept);
          }
      | in_default w ↦
          let none : ready ≡ [] = is_nil ready (λ h. false≢true (w.in_default.ensures.variant.1 h)) in
          let same : c.match-pop_first.listed.items ≡ listed = ap (λ (v : Vec ℕ Global). v.items) w.listed-is in
          record {
            swept = same_sweep above listed counts ready _ _ _ same (ap (λ (v : Vec ℕ Global). v.items) w.counts-is) (ap (λ (s : BTreeSet ℕ). s.keys) w.ready-is ∙ w.in_default.ensures.unchanged) swept;
            placed = λ nb kept. same ∙ place_none above listed counts ready swept none nb c.loop.counter kept (c.loop.invariant.placed nb kept);
          }
    ]
