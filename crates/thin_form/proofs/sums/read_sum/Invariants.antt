-- The terms read so far make the tree, and what is left is read as it would be from there.
use Rattle.std.proofs.Common.{◌≡◌, Bor, List, ℕ}
use Rattle.std.specs.Prelude.{option_map}
use Rattle.thin_form.specs.SliderNames.{as_elements}
use Rattle.thin_form.specs.Sums.{read_sum, read_more}
use Rattle.thin_form.specs.Words.{words, words_left}
use Rattle.form_meaning.specs.Thin.{terms}
use Rattle.py_tree.specs.View.{view}
use Rattle.thin_form.proofs.sums.read_sum.Given as goal

abbrev pub invariant-loop-terms : goal.invariant-loop-terms
invariant-loop-terms l = record {
  count : l._terms ≡ terms (view l.tree);
  same : read_sum (as_elements l.elements) (words l.fn.text) ≡ read_more (as_elements l.elements) (view l.tree) (words_left (option_map (λ (t : Bor (List ℕ)). t.now) l.rest));
}
