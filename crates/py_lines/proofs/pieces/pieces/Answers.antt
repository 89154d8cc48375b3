-- A step takes items; the end is where the closing quotes stand, or where no item does.
use Rattle.std.proofs.Common.{◌∙◌, List, ℕ, sym, ap, subst}
use Rattle.lexical_form.specs.Tokens.{Piece}
use Rattle.lexical_form.specs.Texts.{side}
use Rattle.lexical_form.specs.TextReader.{behind}
use Rattle.py_lexer.specs.Views.{quotes}
use Rattle.py_lines.specs.PieceView.{built}
use Rattle.py_lines.proofs.ItemLaws.{PiecesReached, pieces_start, pieces_stepped, pieces_failed, pieces_closed}
use Rattle.py_lines.proofs.pieces.pieces.Goals as goal

pub loop-behind-init : goal.loop-behind-init
loop-behind-init c = record {
  reached = subst (λ (s : List Piece × List ℕ). PiecesReached (quotes c.args.q) c.args.text.now s c.args.text.now) (sym c.new-said.ensures) (pieces_start (quotes c.args.q) c.args.text.now);
  text = c.utf8.text;
}

pub returns-in-Some : goal.returns-in-Some
returns-in-Some c =
    pieces_closed (quotes c.args.q) c.args.text.now (built c.loop-behind.said) c.loop-behind.rest.now c.in-Some.behind.now c.requires c.loop-behind.invariant.reached
    (ap (behind (side (quotes c.args.q))) (sym c.as_bytes.ensures.value) ∙ sym c.in-Some.ensures)

pub returns-in_default-2 : goal.returns-in_default-2
returns-in_default-2 c =
    pieces_failed (quotes c.args.q) c.args.text.now (built c.loop-behind.said) c.loop-behind.rest.now c.requires c.loop-behind.invariant.reached
    (ap (behind (side (quotes c.args.q))) (sym c.as_bytes.ensures.value) ∙ sym c.in_default.ensures) (rw c.in_default-2.is at c.in_ok-behind.ensures.steps)

pub loop-behind-smaller : goal.loop-behind-smaller
loop-behind-smaller c =
    let r = pieces_stepped (quotes c.args.q) c.args.text.now (built c.loop-behind.said) c.loop-behind.rest.now (built c.item.new.self) c.in-Some-2.behind.now c.requires c.loop-behind.invariant.reached
    (rw c.in-Some-2.is at c.in_ok-behind.ensures.steps) in r.shorter

pub loop-behind-preserved : goal.loop-behind-preserved
loop-behind-preserved c =
    let r = pieces_stepped (quotes c.args.q) c.args.text.now (built c.loop-behind.said) c.loop-behind.rest.now (built c.item.new.self) c.in-Some-2.behind.now c.requires c.loop-behind.invariant.reached
    (rw c.in-Some-2.is at c.in_ok-behind.ensures.steps) in
    record { reached = r.reached; text = rw c.in-Some-2.is at c.in_ok-behind.ensures.text }
