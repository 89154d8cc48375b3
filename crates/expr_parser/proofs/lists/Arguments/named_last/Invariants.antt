use Rattle.std.proofs.Common.{◌≡◌, drop}
use Rattle.syntax_reading.specs.Parts.{named_last}
use Rattle.expr_parser.specs.ListView.{seen_arguments}
use Rattle.expr_parser.proofs.Walks.{after_named}
use Rattle.expr_parser.proofs.lists.Arguments.named_last.Given as goal

abbrev pub invariant-loop-argument : goal.invariant-loop-argument
invariant-loop-argument l = named_last (seen_arguments l.self.items.items) ≡ after_named l.named (seen_arguments (drop l.argument-index l.self.items.items))
