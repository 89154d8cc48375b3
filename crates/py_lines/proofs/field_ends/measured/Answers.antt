-- What is measured is the field that is read.
use Rattle.std.proofs.Common.{◌∙◌, ◌-◌, length, take, sym, ap, subst, option_map}
use Rattle.lexical_form.specs.Tokens as tokens
use Rattle.py_lexer.specs.Views.{quotes}
use Rattle.py_tree.specs.FieldView.{view_convert, view_spec}
use Rattle.py_lines.specs.FieldEnds.{tail_says, is_whole, FieldRead}
use Rattle.py_lines.specs.FieldSteps.{inside}
use Rattle.py_lines.proofs.FieldEndLaws.{no_tail, not_whole, whole_field}
use Rattle.py_lines.proofs.field_ends.measured.Goals as goal

pub returns-in_default : goal.returns-in_default
returns-in_default c =
    no_tail (quotes c.args.q) c.args.text.now (inside c.in_ok-found.found) c.in_ok-found.rest.now c.in_ok-found.ensures (ap tail_says (sym c.as_bytes.ensures.value) ∙ sym c.in_default.ensures)

pub returns-then-not-is_whole : goal.returns-then-not-is_whole
returns-then-not-is_whole c =
    let size = c.saturating_sub-len.ensures ∙ ap (λ xs. length xs - length c.in-Some.behind.now) c.as_bytes-bytes.ensures.value in
    let tests = ap (λ xs. is_whole (quotes c.args.q) (inside c.in_ok-found.found) (take c.saturating_sub-len.result xs)) (sym c.as_bytes-bytes.ensures.value) ∙ (sym c.is_whole.ensures ∙ c.if-not-is_whole.true) in
    not_whole (quotes c.args.q) c.args.text.now (inside c.in_ok-found.found) c.in_ok-found.rest.now c.in_ok-found.ensures (view_convert c.in-Some.convert) (option_map view_spec c.in-Some.spec) c.in-Some.behind.now
    (ap tail_says (sym c.as_bytes.ensures.value) ∙ sym c.in-Some.ensures) c.saturating_sub-len.result size tests

pub returns : goal.returns
returns c =
    let size = c.saturating_sub-len.ensures ∙ ap (λ xs. length xs - length c.in-Some.behind.now) c.as_bytes-bytes.ensures.value in
    let tests = ap (λ xs. is_whole (quotes c.args.q) (inside c.in_ok-found.found) (take c.saturating_sub-len.result xs)) (sym c.as_bytes-bytes.ensures.value) ∙ (sym c.is_whole.ensures ∙ c.if-not-is_whole.false) in
    let whole = whole_field (quotes c.args.q) c.args.text.now (inside c.in_ok-found.found) c.in_ok-found.rest.now c.utf8.text c.in_ok-found.ensures (view_convert c.in-Some.convert) (option_map view_spec c.in-Some.spec) c.in-Some.behind.now
    (ap tail_says (sym c.as_bytes.ensures.value) ∙ sym c.in-Some.ensures) c.saturating_sub-len.result size tests in
    let piece = c.field_piece-piece.ensures ∙ ap (λ ts. tokens.field ts (view_convert c.in-Some.convert) (option_map view_spec c.in-Some.spec)) c.of-tokens.ensures.view in
    subst (λ p. FieldRead (quotes c.args.q) c.args.text.now c.saturating_sub-len.result p) (sym piece) whole
