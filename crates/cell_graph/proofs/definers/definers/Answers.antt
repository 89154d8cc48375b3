-- The cause of a refusal is the same, whatever lists stand after those so far.
use Rattle.std.proofs.Common.{◌≡◌, ◌+◌, List, ◌∷◌, ◌++◌, length, get_or, take, drop, drop-cons, add-one, sym, ap, ◌∙◌, subst, arith}
use Rattle.std.proofs.lemmas.List.{length-take-le, take-append-drop}
use Rattle.std.proofs.lemmas.Result.{err_from_is_err_and}
use Rattle.py_tree.specs.Names.{Name}
use Rattle.cell_graph.specs.Tables.{AreDefs}
use Rattle.cell_graph.proofs.definers.definers.Goals as goal

pub returns-in_err-add_definitions-clause-refused : goal.returns-in_err-add_definitions-clause-refused
returns-in_err-add_definitions-clause-refused c =
    let p = err_from_is_err_and c.from_residual.result c.from_residual.ensures.1 in
    rw (p.1, p.2) (λ nb kept.
    let defined : List (List Name) = c.args.defs.now in
    let n = c.loop-cell.cell in
    let long : length (take n defined) ≡ n = length-take-le n defined (omega arith) in
    let own : List Name = c.index-defs-cell.result in
    let next : drop n defined ≡ get_or defined n own ∷ drop (n + 1) defined = grind (arith, drop-cons defined n own, add-one, c.loop-cell-test.true) in
    let whole : take n defined ++ c.items.result.now ∷ drop (n + 1) defined ≡ defined =
    ap (λ (ns : List Name). take n defined ++ ns ∷ drop (n + 1) defined) (c.items.ensures ∙ c.index-defs-cell.is)
    ∙ ap (λ ls. take n defined ++ ls) (sym next) ∙ take-append-drop n defined in
    c.in_err-add_definitions.ensures.refused nb (take n defined) (drop (n + 1) defined) long (subst (AreDefs nb) (sym whole) kept) c.loop-cell.invariant)
