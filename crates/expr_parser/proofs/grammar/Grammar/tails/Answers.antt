use Rattle.std.proofs.Common.{◌≡◌, ◌+◌, ◌-◌, ◌<◌, ◌≤◌, Some, None, sym, ◌∙◌, arith}
use Rattle.py_tree.specs.ExprView.{view}
use Rattle.syntax_form.specs.Depth.{depth}
use Rattle.syntax_reading.specs.Readers.{first_in}
use Rattle.syntax_reading.specs.Reading.{read, tailed, tails}
use Rattle.syntax_reading.specs.Tables.{tail_of}
use Rattle.syntax_words.specs.TableView.{view_tail}
use Rattle.syntax_words.specs.WordView.{words_of}
use Rattle.expr_parser.proofs.Turns.{one_more, tails_none, tails_on}
use Rattle.expr_parser.proofs.grammar.Grammar.tails.Goals as goal

pub loop-turn-preserved : goal.loop-turn-preserved
loop-turn-preserved g c =
    let b = c.args.self.now.below in
    let t = view c.loop-turn.part.expr in
    let ts = words_of c.loop-turn.rest in
    let us = words_of c.in-Some.after in
    let vs = words_of c.in-Some-2.after in
    let u = view c.in-Some-2.longer.expr in
    let k = view_tail c.in-Some.tail in
    let left = b + 1 - (c.loop-turn._turn + 1) in
    let turn = one_more (λ n. tails (read b) (b + 1) n t ts) (b + 1) c.loop-turn._turn c.loop-turn-test.true c.loop-turn.invariant.value in
    let d : depth t < b + 1 = omega (arith, c.loop-turn.part.exact, c.if-part-self.false) in
    let s : first_in tail_of ts ≡ Some (k, us) = sym c.in-Some.ensures in
    let r : tailed (read b) (b + 1) t k us ≡ Some (u, vs) = rw c.in-Some-2.is at c.in_ok-longer.ensures.value in
    let h : c.in-Some-2.longer.depth ≤ b + 1 = rw c.in-Some-2.is at c.in_ok-longer.ensures.shallow in
    record { value = turn ∙ tails_on (read b) (b + 1) left t u ts us vs k s d r; shallow = h }

pub returns-in_default-2-clause-value : goal.returns-in_default-2-clause-value
returns-in_default-2-clause-value g c =
    let b = c.args.self.now.below in
    let t = view c.loop-turn.part.expr in
    let ts = words_of c.loop-turn.rest in
    let us = words_of c.in-Some.after in
    let k = view_tail c.in-Some.tail in
    let turn = one_more (λ n. tails (read b) (b + 1) n t ts) (b + 1) c.loop-turn._turn c.loop-turn-test.true c.loop-turn.invariant.value in
    let d : depth t < b + 1 = omega (arith, c.loop-turn.part.exact, c.if-part-self.false) in
    let r : tailed (read b) (b + 1) t k us ≡ None = rw c.in_default-2.is at c.in_ok-longer.ensures.value in
    turn ∙ tails_none (read b) (b + 1) (b + 1 - (c.loop-turn._turn + 1)) t ts us k (sym c.in-Some.ensures) d r
