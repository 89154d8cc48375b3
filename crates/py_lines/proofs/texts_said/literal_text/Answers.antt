-- The text that is read is the whole spelling, or the spelling is that of no text.
use Rattle.std.proofs.Common.{◌≡◌, ◌∙◌, ℕ, ◌-◌, List, length, string_bytes, sym, ap, subst, None}
use Rattle.lexical_form.specs.TextReader.{part_at, items_at}
use Rattle.py_lexer.specs.Views.{quotes}
use Rattle.py_lines.specs.TextsSaid.{TextRead, text_opened_says}
use Rattle.py_lines.proofs.TextWhole.{text_opens, text_opens_cut, text_says, never_opened, never_read, more_behind}
use Rattle.py_lines.proofs.texts_said.literal_text.Goals as goal

pub returns-in_default : goal.returns-in_default
returns-in_default c = never_opened c.args.spelling.now (ap text_opened_says (sym c.as_bytes-bytes.ensures.value) ∙ sym c.in_default.ensures)

pub split_at-requires : goal.split_at-requires
split_at-requires c =
    let opens = text_opens c.args.spelling.now (quotes c.in-Some.q) c.in-Some.inside.now (ap text_opened_says (sym c.as_bytes-bytes.ensures.value) ∙ sym c.in-Some.ensures) in
    let size = c.saturating_sub.ensures ∙ ap (λ (xs : List ℕ). length xs - length c.in-Some.inside.now) c.as_bytes-bytes.ensures.value in
    let cut = text_opens_cut c.args.spelling.now (quotes c.in-Some.q) c.in-Some.inside.now c.saturating_sub.result c.utf8.spelling opens size in
    cut.boundary

pub characters-requires : goal.characters-requires
characters-requires c =
    let opens = text_opens c.args.spelling.now (quotes c.in-Some.q) c.in-Some.inside.now (ap text_opened_says (sym c.as_bytes-bytes.ensures.value) ∙ sym c.in-Some.ensures) in
    opens.quote

pub returns-in_default-2 : goal.returns-in_default-2
returns-in_default-2 c =
    let opens = text_opens c.args.spelling.now (quotes c.in-Some.q) c.in-Some.inside.now (ap text_opened_says (sym c.as_bytes-bytes.ensures.value) ∙ sym c.in-Some.ensures) in
    let size = c.saturating_sub.ensures ∙ ap (λ (xs : List ℕ). length xs - length c.in-Some.inside.now) c.as_bytes-bytes.ensures.value in
    let cut = text_opens_cut c.args.spelling.now (quotes c.in-Some.q) c.in-Some.inside.now c.saturating_sub.result c.utf8.spelling opens size in
    let none = subst (λ (xs : List ℕ). items_at part_at (quotes c.in-Some.q) xs ≡ None) (c.split_at.ensures.back ∙ cut.back) (rw c.in_default-2.is at c.in_ok-characters.ensures) in
    never_read c.args.spelling.now (quotes c.in-Some.q) c.in-Some.inside.now opens none

pub returns-then-not-is_empty : goal.returns-then-not-is_empty
returns-then-not-is_empty c =
    let opens = text_opens c.args.spelling.now (quotes c.in-Some.q) c.in-Some.inside.now (ap text_opened_says (sym c.as_bytes-bytes.ensures.value) ∙ sym c.in-Some.ensures) in
    let size = c.saturating_sub.ensures ∙ ap (λ (xs : List ℕ). length xs - length c.in-Some.inside.now) c.as_bytes-bytes.ensures.value in
    let cut = text_opens_cut c.args.spelling.now (quotes c.in-Some.q) c.in-Some.inside.now c.saturating_sub.result c.utf8.spelling opens size in
    let read = subst (λ (xs : List ℕ). TextRead (quotes c.in-Some.q) xs (string_bytes c.in-Some-2.characters) c.in-Some-2.behind.now) (c.split_at.ensures.back ∙ cut.back) (rw c.in-Some-2.is at c.in_ok-characters.ensures) in
    more_behind c.args.spelling.now (quotes c.in-Some.q) c.in-Some.inside.now (string_bytes c.in-Some-2.characters) c.in-Some-2.behind.now opens read (sym c.is_empty.ensures ∙ c.if-not-is_empty.true)

pub returns : goal.returns
returns c =
    let opens = text_opens c.args.spelling.now (quotes c.in-Some.q) c.in-Some.inside.now (ap text_opened_says (sym c.as_bytes-bytes.ensures.value) ∙ sym c.in-Some.ensures) in
    let size = c.saturating_sub.ensures ∙ ap (λ (xs : List ℕ). length xs - length c.in-Some.inside.now) c.as_bytes-bytes.ensures.value in
    let cut = text_opens_cut c.args.spelling.now (quotes c.in-Some.q) c.in-Some.inside.now c.saturating_sub.result c.utf8.spelling opens size in
    let read = subst (λ (xs : List ℕ). TextRead (quotes c.in-Some.q) xs (string_bytes c.in-Some-2.characters) c.in-Some-2.behind.now) (c.split_at.ensures.back ∙ cut.back) (rw c.in-Some-2.is at c.in_ok-characters.ensures) in
    text_says c.args.spelling.now (quotes c.in-Some.q) c.in-Some.inside.now (string_bytes c.in-Some-2.characters) c.in-Some-2.behind.now opens read (sym c.is_empty.ensures ∙ c.if-not-is_empty.false)
