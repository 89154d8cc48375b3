-- What is left of the names comes behind what is there.
use Rattle.std.proofs.Common.{◌≡◌, ◌++◌, drop}
use Rattle.syntax_form.specs.Printing.{names_tokens, later_names}
use Rattle.expr_tokens.specs.Parts.{parts_tokens, parts_depth}
use Rattle.expr_tokens.proofs.lists.push_names.Given as goal

abbrev pub invariant-loop-name : goal.invariant-loop-name
invariant-loop-name l = record {
  tokens : parts_tokens l.parts.items ++ later_names (drop l.name-index l.later) ≡ parts_tokens l.fn.parts.items ++ names_tokens l.names;
  depth : parts_depth l.parts.items ≡ parts_depth l.fn.parts.items;
}
