use Rattle.std.proofs.Common.{◌≡◌, ◌+◌, ◌-◌, ◌<◌, ◌≤◌, Some, None, sym, ap, ◌∙◌, arith}
use Rattle.py_tree.specs.ExprView.{view}
use Rattle.syntax_form.specs.Depth.{depth}
use Rattle.syntax_reading.specs.Readers.{first_in}
use Rattle.syntax_reading.specs.Reading.{read, turns}
use Rattle.syntax_reading.specs.Tables.{operator_at, deeper}
use Rattle.syntax_words.specs.TableView.{view_level, view_operator}
use Rattle.syntax_words.specs.WordView.{words_of}
use Rattle.expr_parser.proofs.Turns.{one_more, turns_none, turns_on}
use Rattle.expr_parser.proofs.grammar.Grammar.turns.Goals as goal

pub loop-turn-preserved : goal.loop-turn-preserved
loop-turn-preserved g c =
    let b = c.args.self.now.below in
    let l = view_level c.args.level in
    let t = view c.loop-turn.part.expr in
    let left = b + 1 - (c.loop-turn._turn + 1) in
    let ts = words_of c.loop-turn.rest in
    let us = words_of c.in-Some.after in
    let vs = words_of c.in-Some-2.after in
    let u = view c.in-Some-2.right.expr in
    let turn = one_more (λ n. turns (read b) (b + 1) l n t ts) (b + 1) c.loop-turn._turn c.loop-turn-test.true c.loop-turn.invariant.value in
    let d : depth t < b + 1 = omega (arith, c.loop-turn.part.exact, c.if-part-self.false) in
    let s : first_in (operator_at l) ts ≡ Some (view_operator c.in-Some.operator, us) = sym c.in-Some.ensures in
    let got : read b (view_level c.deeper.result) us ≡ Some (u, vs) = rw c.in-Some-2.is at c.in_ok-right.ensures.value in
    let r : read b (deeper l) us ≡ Some (u, vs) = ap (λ k. read b k us) (sym c.deeper.ensures) ∙ got in
    let h : c.in-Some-2.right.depth ≤ b = rw c.in-Some-2.is at c.in_ok-right.ensures.shallow in
    record {
      value = turn ∙ (turns_on (read b) (b + 1) l left t u ts us vs (view_operator c.in-Some.operator) s d r
          ∙ ap (λ w. turns (read b) (b + 1) l left w vs) (sym c.in_ok-part.ensures.tree));
      shallow = omega (arith, c.in_ok-part.ensures.depth, c.if-part-self.false, h);
    }

pub returns-in_default-2-clause-value : goal.returns-in_default-2-clause-value
returns-in_default-2-clause-value g c =
    let b = c.args.self.now.below in
    let l = view_level c.args.level in
    let t = view c.loop-turn.part.expr in
    let ts = words_of c.loop-turn.rest in
    let us = words_of c.in-Some.after in
    let turn = one_more (λ n. turns (read b) (b + 1) l n t ts) (b + 1) c.loop-turn._turn c.loop-turn-test.true c.loop-turn.invariant.value in
    let d : depth t < b + 1 = omega (arith, c.loop-turn.part.exact, c.if-part-self.false) in
    let got : read b (view_level c.deeper.result) us ≡ None = rw c.in_default-2.is at c.in_ok-right.ensures.value in
    let r : read b (deeper l) us ≡ None = ap (λ k. read b k us) (sym c.deeper.ensures) ∙ got in
    turn ∙ turns_none (read b) (b + 1) l (b + 1 - (c.loop-turn._turn + 1)) t ts us (view_operator c.in-Some.operator) (sym c.in-Some.ensures) d r
