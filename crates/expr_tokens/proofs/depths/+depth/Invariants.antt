-- What is left of a list is no deeper than the deepest so far, or is what is as deep as all of it.
use Rattle.std.proofs.Common.{◌≡◌, max, drop}
use Rattle.py_tree.specs.ExprView.{views, view_arguments, view_links, view_pairs, view_pieces}
use Rattle.syntax_form.specs.Depth.{list_depth, argument_depth, link_depth, pair_depth, piece_depth}
use Rattle.expr_tokens.specs.Capped.{capped}
use Rattle.expr_tokens.proofs.depths.+depth.Given as goal

abbrev pub invariant-list_depth-loop-item : goal.invariant-list_depth-loop-item
invariant-list_depth-loop-item l =
    max l.deepest (capped (list_depth (views (drop l.item-index l.items))))
    ≡ capped (list_depth (views l.items))

abbrev pub invariant-link_depth-loop-link : goal.invariant-link_depth-loop-link
invariant-link_depth-loop-link l =
    max l.deepest (capped (link_depth (view_links (drop l.link-index l.links))))
    ≡ capped (link_depth (view_links l.links))

abbrev pub invariant-argument_depth-loop-argument : goal.invariant-argument_depth-loop-argument
invariant-argument_depth-loop-argument l =
    max l.deepest (capped (argument_depth (view_arguments (drop l.argument-index l.arguments))))
    ≡ capped (argument_depth (view_arguments l.arguments))

abbrev pub invariant-pair_depth-loop-pair : goal.invariant-pair_depth-loop-pair
invariant-pair_depth-loop-pair l =
    max l.deepest (capped (pair_depth (view_pairs (drop l.pair-index l.pairs))))
    ≡ capped (pair_depth (view_pairs l.pairs))

abbrev pub invariant-piece_depth-loop-piece : goal.invariant-piece_depth-loop-piece
invariant-piece_depth-loop-piece l =
    max l.deepest (capped (piece_depth (view_pieces (drop l.piece-index l.pieces))))
    ≡ capped (piece_depth (view_pieces l.pieces))
