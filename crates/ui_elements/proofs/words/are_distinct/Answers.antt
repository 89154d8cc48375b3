-- The name of the argument stands again behind it, or it doesn't.
use Rattle.std.proofs.Common.{sym, ap, ◌∙◌}
use Rattle.ui_elements.specs.declared.args.Word.{Word}
use Rattle.ui_elements.proofs.Names.{distinct_here, distinct_else}
use Rattle.ui_elements.proofs.words.are_distinct.Goals as goal

pub returns-then-is_word : goal.returns-then-is_word
returns-then-is_word c =
    sym (c.loop-at.invariant ∙ distinct_here c.args.words.now c.loop-at.at c.index-words-at.result c.items.result.now c.loop-at-test.true (c.items.ensures ∙ ap (λ (w : Word). w.name) c.index-words-at.is) (sym c.is_word.ensures ∙ c.if-is_word.true))

pub loop-at-preserved : goal.loop-at-preserved
loop-at-preserved c =
    c.loop-at.invariant ∙ distinct_else c.args.words.now c.loop-at.at c.index-words-at.result c.items.result.now c.loop-at-test.true (c.items.ensures ∙ ap (λ (w : Word). w.name) c.index-words-at.is) (sym c.is_word.ensures ∙ c.if-is_word.false)
