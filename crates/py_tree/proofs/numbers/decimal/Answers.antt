-- Digits are read by `parse` where their number fits.
use Rattle.std.proofs.Common.{◌≡◌, true, ◌∙◌}
use Rattle.std.specs.List.{list_all}
use Rattle.py_tree.specs.Names.{is_digit}
use Rattle.py_tree.proofs.Numerals.{parsed}
use Rattle.py_tree.proofs.numbers.decimal.Goals as goal

pub returns : goal.returns
returns c =
    let digits : list_all is_digit c.args.word.now ≡ true = cc in
    c.ok.ensures.value ∙ parsed c.args.word.now c.parse.result c.requires digits c.parse.ensures.value.0
