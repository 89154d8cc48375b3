-- The parameters of a call are those that are filled, where the arguments by name fit.
use Rattle.std.proofs.Common.{refl, sym, ◌∙◌, subst, inr, ◌≡◌, Option, Some, IfOk}
use Rattle.py_value.specs.Elements.{Params}
use Rattle.ui_elements.proofs.Fills.{given_none, given_filled}
use Rattle.ui_elements.proofs.call_params.params_of_call.Goals as goal

pub returns-then-not-are_words_of-clause-fault : goal.returns-then-not-are_words_of-clause-fault
returns-then-not-are_words_of-clause-fault c =
    inr (refl, given_none c.args.parameters.now _ _ _ c.items-places.ensures c.items-words.ensures (sym c.are_words_of.ensures ∙ c.if-not-are_words_of.true))

pub returns-clause-ok : goal.returns-clause-ok
returns-clause-ok c =
    let is = given_filled c.args.parameters.now _ _ _ c.items-places.ensures c.items-words.ensures (sym c.are_words_of.ensures ∙ c.if-not-are_words_of.false) in
    subst (λ (g : Option Params). IfOk c.params_after.result (λ params. g ≡ Some params)) (sym is) c.params_after.ensures.ok
