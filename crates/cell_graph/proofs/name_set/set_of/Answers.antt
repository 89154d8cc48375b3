-- The next name is in the set, or goes last.
use Rattle.std.proofs.Common.{◌≡◌, ◌+◌, ◌++◌, ◌∙◌, sym, ap, get_or, drop, [], ◌∷◌, arith, drop-cons, add-one, Bor}
use Rattle.py_tree.specs.Names.{Name, first_seen_after}
use Rattle.cell_graph.specs.Texts.{texts}
use Rattle.cell_graph.proofs.Names.{set_after_insert}
use Rattle.cell_graph.proofs.name_set.set_of.Goals as goal

pub loop-name-preserved : goal.loop-name-preserved
loop-name-preserved c =
    let xs = c.args.all.now in
    let i = c.loop-name.name-index in
    let none : Bor Name = record { ref_ptr = (0, 0); now = [] } in
    let k = get_or xs i none in
    let more : drop i xs ≡ k ∷ drop (i + 1) xs = grind (arith, drop-cons xs i none, add-one, c.loop-name-test.true) in
    ap (λ ks. texts ks ++ first_seen_after (texts ks) (texts (drop (i + 1) xs))) c.in_ok-insert.ensures.keys
    ∙ set_after_insert c.loop-name.set.keys k (texts (drop (i + 1) xs))
    ∙ ap (λ rest. texts c.loop-name.set.keys ++ first_seen_after (texts c.loop-name.set.keys) (texts rest)) (sym more)
    ∙ c.loop-name.invariant
