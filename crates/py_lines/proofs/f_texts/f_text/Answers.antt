-- What is cut off is the f-text at the front.
use Rattle.std.proofs.Common.{◌∙◌, ℕ, ◌-◌, List, length, ap, subst}
use Rattle.std.specs.Prelude.{map}
use Rattle.py_tokens.specs.TokenView.{view_piece}
use Rattle.py_lexer.specs.Views.{quotes}
use Rattle.py_lines.specs.PieceView.{built}
use Rattle.py_lines.specs.PiecesRead.{PiecesRead}
use Rattle.py_lines.proofs.FTextCutLaws.{opens_cut, f_cut}
use Rattle.py_lines.proofs.f_texts.f_text.Goals as goal

pub split_at-requires : goal.split_at-requires
split_at-requires c =
    let size = c.saturating_sub.ensures ∙ ap (λ (xs : List ℕ). length xs - length c.args.inside.now) c.as_bytes-bytes.ensures.value in
    let cut = opens_cut c.args.text.now (quotes c.args.q) c.args.inside.now c.saturating_sub.result c.utf8.text c.requires size in
    cut.boundary

pub returns : goal.returns
returns c =
    let before = c.saturating_sub.ensures ∙ ap (λ (xs : List ℕ). length xs - length c.args.inside.now) c.as_bytes-bytes.ensures.value in
    let cut = opens_cut c.args.text.now (quotes c.args.q) c.args.inside.now c.saturating_sub.result c.utf8.text c.requires before in
    let within = c.split_at.ensures.back ∙ cut.back in
    let read = subst (λ (xs : List ℕ). PiecesRead (quotes c.args.q) xs (built c.in-Some.said) c.in-Some.behind.now) within (rw c.in-Some.is at c.in_ok-said.ensures) in
    let size = c.saturating_sub-len.ensures ∙ ap (λ (xs : List ℕ). length xs - length c.in-Some.behind.now) c.as_bytes-bytes.ensures.value in
    f_cut c.args.text.now (quotes c.args.q) c.args.inside.now (built c.in-Some.said) c.in-Some.behind.now c.saturating_sub-len.result (map view_piece c.in_ok-all.all.items) c.utf8.text c.requires read size c.in_ok-all.ensures
