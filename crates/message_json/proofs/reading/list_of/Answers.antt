use Rattle.std.proofs.Common.{◌≡◌, ◌∙◌, sym, ap, [], ◌∷◌, ◌++◌, Some, option_map, option_and_then, map, length, arith}
use Rattle.py_value.specs.View.{all_of}
use Rattle.py_value.specs.declared.types.Data.TheVariants as D
use Rattle.py_value.specs.declared.types.Value.TheVariants as V
use Rattle.message_meaning.specs.Messages.{texts_in}
use Rattle.message_json.proofs.Lists.{behind, behind_none, behind_one, texts_push, texts_data, texts_done, none_left}
use Rattle.serde_json.specs.Find.{as_str}
use Rattle.serde_json.specs.View.{view, items_view}
use Rattle.message_json.proofs.reading.list_of.Goals as goal

pub loop-item-init : goal.loop-item-init
loop-item-init c =
    ([], c.in_ok-texts.ensures.items, behind_none (texts_in (items_view c.args.items.items)) ∙ ap (λ js. behind [] (texts_in (items_view js))) (sym c.into_iter-item-iterator.ensures.into_iter_gives.0))

pub loop-item-preserved : goal.loop-item-preserved
loop-item-preserved c =
    let l = c.loop-item in
    let done = l.invariant.0 in
    let s = c.in-Some-text_of.text in
    let rest = c.next.new.self.rest.items in
    let is : as_str (view c.in-Some.item) ≡ Some s = sym c.text_of.ensures ∙ c.in-Some-text_of.is in
    let first : texts_in (items_view l.item-iterator.rest.items) ≡ option_map (λ texts. s ∷ texts) (texts_in (items_view rest)) =
    ap (λ js. texts_in (items_view js)) c.in-Some.ensures.steps.0 ∙ ap (λ o. option_and_then (λ t. option_map (λ texts. t ∷ texts) (texts_in (items_view rest))) o) is in (
      done ++ s ∷ [],
      c.in_ok-push.ensures.items ∙ ap (λ vs. vs ++ V.Text s ∷ []) l.invariant.1 ∙ texts_push done s,
      l.invariant.2 ∙ ap (behind done) first ∙ behind_one done s (texts_in (items_view rest)),
    )

pub returns : goal.returns
returns c =
    let l = c.loop-item in
    let done = l.invariant.0 in
    let none : length l.item-iterator.rest.items ≡ 0 = grind arith in
    let over = none_left l.item-iterator.rest.items none in
    let found : texts_in (items_view c.args.items.items) ≡ Some done = l.invariant.2 ∙ ap (λ js. behind done (texts_in (items_view js))) over ∙ texts_done done in
    let same : c.of.result ≡ map D.Text done = c.of.ensures ∙ ap all_of l.invariant.1 ∙ texts_data done in
    ap (λ ds. Some (V.List ds)) same ∙ sym (ap (λ o. option_map (λ texts. V.List (map D.Text texts)) o) found)
