use Rattle.std.proofs.Common.{◌≡◌, map, Some, None, ap, ◌∙◌}
use Rattle.py_tokens.specs.TokenView.{view_token, view_tokens}
use Rattle.py_tree.specs.ExprView.{view}
use Rattle.syntax_reading.specs.Reading.{read}
use Rattle.syntax_reading.specs.Tables.{E1}
use Rattle.syntax_reading.specs.Words.{words}
use Rattle.syntax_words.specs.WordView.{view_words, words_of}
use Rattle.expr_parser.proofs.Words.{field_is}
use Rattle.expr_parser.proofs.grammar.Grammar.field.Goals as goal

pub returns-in_default-clause-value : goal.returns-in_default-clause-value
returns-in_default-clause-value g c =
    let whole = read c.args.self.now.below E1 in
    let ts = map view_token c.items.result.now in
    let ws = view_words c.as_slice.result.now in
    let same : ws ≡ words ts = ap view_words c.as_slice.ensures.value ∙ c.in_ok-list.ensures in
    let r : whole ws ≡ None = rw c.in_default.is at c.in_ok-part.ensures.value in
    field_is whole (view_tokens c.args.tokens.now) ts ws None c.items.ensures.view same r

pub returns-clause-value : goal.returns-clause-value
returns-clause-value g c =
    let whole = read c.args.self.now.below E1 in
    let ts = map view_token c.items.result.now in
    let ws = view_words c.as_slice.result.now in
    let t = view c.in-Some.part.expr in
    let rest = words_of c.in-Some.rest in
    let same : ws ≡ words ts = ap view_words c.as_slice.ensures.value ∙ c.in_ok-list.ensures in
    let r : whole ws ≡ Some (t, rest) = rw c.in-Some.is at c.in_ok-part.ensures.value in
    c.alone.ensures.value ∙ field_is whole (view_tokens c.args.tokens.now) ts ws (Some (t, rest)) c.items.ensures.view same r
