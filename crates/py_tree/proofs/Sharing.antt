-- Threads may share trees. Each fact stands here once, since a search for it from nothing, as at a call that shares a notebook, comes to its limits.
use denote.Param.Send.{IsSync, sendable}
use denote.Param.SendFields.{variants_sync, declared_sync, as_row_sync}
use Rattle.std.proofs.Crossing.{crosses}
use Rattle.std.proofs.MapsCrossing.{String-sync}
use Rattle.sqlite_items.proofs.boxed.Boxed.TheSendSync as boxed
use Rattle.py_tree.specs.contracts.expr.Expr as expr
use Rattle.py_tree.specs.contracts.expr.Argument as argument
use Rattle.py_tree.specs.contracts.tree.Line as line
use Rattle.py_tree.specs.contracts.tree.Block as block
use Rattle.py_tree.specs.contracts.tree.CellCode as cell_code
use Rattle.py_tree.proofs.expr.Argument.TheLaws.TheKnot as expressions
use Rattle.py_tree.proofs.tree.Block.TheLaws.TheKnot as blocks
use Rattle.py_tree.proofs.expr.Comparison.TheSendSync as comparison
use Rattle.py_tree.proofs.tree.Augment.TheSendSync as augment
use Rattle.py_tree.proofs.row.Row.TheSendSync as row
use Rattle.py_tree.proofs.spec.Align.TheSendSync as align
use Rattle.py_tree.proofs.spec.Convert.TheSendSync as convert
use Rattle.py_tree.proofs.spec.Form.TheSendSync as form
use Rattle.py_tree.proofs.spec.Spec.TheSendSync as spec
use Rattle.py_tree.proofs.spellings.Spelling.TheSendSync as spelling
use Rattle.py_tree.proofs.spellings.Spellings.TheSendSync as spellings
use Rattle.py_tree.proofs.token.Token.TheSendSync as token
use Rattle.py_tree.proofs.token.TokenKind.TheSendSync as token_kind

-- what trees hold beside trees
ruleset shared_parts = (sendable, crosses, String-sync, as_row_sync, variants_sync, declared_sync, boxed.the_sync, comparison.the_sync, comparison.the_field_sync, augment.the_sync, augment.the_field_sync, row.the_sync, align.the_sync, align.the_field_sync, convert.the_sync, convert.the_field_sync, form.the_sync, form.the_field_sync, spec.the_sync, spec.the_field_sync, spelling.the_sync, spellings.the_sync, token.the_sync, token.the_field_sync, token_kind.the_sync, token_kind.the_field_sync)

expression_sync : IsSync expr.the_row
expression_sync = search (shared_parts, expressions.sync-Expr) depth 40 fits 6000

argument_sync : IsSync argument.the_row
argument_sync = search (shared_parts, expressions.sync-Argument) depth 40 fits 6000

ruleset shared = (shared_parts, expression_sync, argument_sync)

-- the fields of each form of a line
line_sync : IsSync line.the_row
line_sync = variants_sync line.enum (
  search shared,
  (
    search shared,
    (
      search shared,
      (
        search shared,
        (
          search shared,
          (
            search shared,
            (
              search shared,
              (
                search shared,
                (
                  search shared,
                  (
                    search shared,
                    (
                      search shared,
                      (
                        search shared,
                        (
                          search shared,
                          (
                            search shared,
                            (
                              search shared,
                              (
                                search shared,
                                (
                                  search shared,
                                  (
                                    search shared,
                                    (
                                      search shared,
                                      (
                                        search shared,
                                        (search shared, (search shared, (search shared, (search shared, (search shared, tt))))),
                                      ),
                                    ),
                                  ),
                                ),
                              ),
                            ),
                          ),
                        ),
                      ),
                    ),
                  ),
                ),
              ),
            ),
          ),
        ),
      ),
    ),
  ),
)

block_sync : IsSync block.the_row
block_sync = search (shared_parts, line_sync, blocks.sync-Block) depth 60 fits 6000

pub cell_sync : IsSync cell_code.the_row
cell_sync = search (shared_parts, block_sync) depth 60 fits 6000
