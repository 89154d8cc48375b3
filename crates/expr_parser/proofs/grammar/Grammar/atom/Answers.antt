use Rattle.std.proofs.Common.{◌+◌, Some, sym, ap, ◌∙◌}
use Rattle.syntax_reading.specs.Reading.{read}
use Rattle.syntax_words.proofs.Beginnings.{operand}
use Rattle.syntax_words.specs.AtomView.{view_atom}
use Rattle.syntax_words.specs.WordView.{words_of}
use Rattle.expr_parser.proofs.Walks.{atom_none, atom_on}
use Rattle.expr_parser.proofs.grammar.Grammar.atom.Goals as goal

pub returns-in_default-clause-value : goal.returns-in_default-clause-value
returns-in_default-clause-value g c =
    let b = c.args.self.now.below in
    atom_none (read b) (b + 1) (words_of c.args.words) (sym c.in_default.ensures)

pub returns-in_ok-name-in-Name-clause-value : goal.returns-in_ok-name-in-Name-clause-value
returns-in_ok-name-in-Name-clause-value g c =
    let b = c.args.self.now.below in
    let us = words_of c.in-Some.rest in
    atom_on (read b) (b + 1) (words_of c.args.words) us (view_atom c.in-Some.atom) (sym c.in-Some.ensures)
    ∙ (ap (λ a. operand (read b) (b + 1) (view_atom a) us) c.in-Name.is ∙ ap (λ t. Some (t, us)) (sym c.in_ok-name-in-Name.ensures.tree))

pub returns-in_ok-literal-in-Literal-clause-value : goal.returns-in_ok-literal-in-Literal-clause-value
returns-in_ok-literal-in-Literal-clause-value g c =
    let b = c.args.self.now.below in
    let us = words_of c.in-Some.rest in
    atom_on (read b) (b + 1) (words_of c.args.words) us (view_atom c.in-Some.atom) (sym c.in-Some.ensures)
    ∙ (ap (λ a. operand (read b) (b + 1) (view_atom a) us) c.in-Literal.is ∙ ap (λ t. Some (t, us)) (sym c.in_ok-literal-in-Literal.ensures.tree))

pub returns-in-FText-clause-value : goal.returns-in-FText-clause-value
returns-in-FText-clause-value g c =
    let b = c.args.self.now.below in
    let us = words_of c.in-Some.rest in
    let e = atom_on (read b) (b + 1) (words_of c.args.words) us (view_atom c.in-Some.atom) (sym c.in-Some.ensures)
    ∙ ap (λ a. operand (read b) (b + 1) (view_atom a) us) c.in-FText.is in
    rw e c.f_text.ensures.value

pub returns-in-Bracket-clause-value : goal.returns-in-Bracket-clause-value
returns-in-Bracket-clause-value g c =
    let b = c.args.self.now.below in
    let us = words_of c.in-Some.rest in
    let e = atom_on (read b) (b + 1) (words_of c.args.words) us (view_atom c.in-Some.atom) (sym c.in-Some.ensures)
    ∙ ap (λ a. operand (read b) (b + 1) (view_atom a) us) c.in-Bracket.is in
    rw e c.bracketed.ensures.value
