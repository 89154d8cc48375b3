use Rattle.std.proofs.Common.{◌≡◌, ◌+◌, ◌-◌, ◌≤◌, Some, None, sym, ap, ◌∙◌, arith}
use Rattle.py_tree.specs.ExprView.{view, view_comparison}
use Rattle.syntax_reading.specs.Items.{each}
use Rattle.syntax_reading.specs.Parts.{first_comparison}
use Rattle.syntax_reading.specs.Reading.{read}
use Rattle.syntax_reading.specs.Tables.{E6}
use Rattle.syntax_words.specs.WordView.{words_of}
use Rattle.expr_parser.specs.ListView.{seen_links}
use Rattle.expr_parser.proofs.Turns.{each_stop, each_none, each_on}
use Rattle.expr_parser.proofs.grammar.Grammar.links.Goals as goal

pub returns-in_default-clause-value : goal.returns-in_default-clause-value
returns-in_default-clause-value g c =
    let inner = read c.args.self.now.below E6 in
    let n = c.args.turns in
    let at = c.loop-turn._turn in
    let found = seen_links c.loop-turn.found.items.items in
    let ts = words_of c.loop-turn.rest in
    each_stop first_comparison inner n at c.loop-turn-test.true found ts c.loop-turn.invariant.value (sym c.in_default.ensures)

pub returns-in_default-2-clause-value : goal.returns-in_default-2-clause-value
returns-in_default-2-clause-value g c =
    let inner = read c.args.self.now.below E6 in
    let n = c.args.turns in
    let at = c.loop-turn._turn in
    let found = seen_links c.loop-turn.found.items.items in
    let ts = words_of c.loop-turn.rest in
    let us = words_of c.in-Some.after in
    let r : inner us ≡ None = rw c.in_default-2.is at c.in_ok-operand.ensures.value in
    each_none first_comparison inner n at c.loop-turn-test.true found ts c.loop-turn.invariant.value us (view_comparison c.in-Some.comparison) (sym c.in-Some.ensures) r

pub loop-turn-preserved : goal.loop-turn-preserved
loop-turn-preserved g c =
    let inner = read c.args.self.now.below E6 in
    let n = c.args.turns in
    let at = c.loop-turn._turn in
    let found = seen_links c.loop-turn.found.items.items in
    let ts = words_of c.loop-turn.rest in
    let us = words_of c.in-Some.after in
    let vs = words_of c.in-Some-2.after in
    let t = view c.in-Some-2.operand.expr in
    let r : inner us ≡ Some (t, vs) = rw c.in-Some-2.is at c.in_ok-operand.ensures.value in
    let h : c.in-Some-2.operand.depth ≤ c.args.self.now.below = rw c.in-Some-2.is at c.in_ok-operand.ensures.shallow in
    record {
      value = each_on first_comparison inner n at c.loop-turn-test.true found ts c.loop-turn.invariant.value t us vs (view_comparison c.in-Some.comparison) (sym c.in-Some.ensures) r
          ∙ ap (λ xs. each first_comparison inner (n - (at + 1)) xs vs) (sym c.in_ok-found.ensures.items);
      shallow = omega (arith, c.in_ok-found.ensures.depth, c.loop-turn.invariant.shallow, h);
    }
