-- Lists of a tree, seen by their items.
use Rattle.std.proofs.Common.{◌≡◌, ℕ, Bool, List, [], ◌∷◌, refl, sym, ap, ◌∙◌}
use denote.Hole.Carrier.{roll}
use Rattle.py_tree.specs.Names.{Name}
use Rattle.py_tree.specs.ExprView.{view, view_comparison, view_argument, view_arguments, view_link, view_links, view_pair, view_pairs, view_piece, view_pieces, argument_step, expr_step, piece_step, link_step, pair_step}
use Rattle.py_tree.specs.Expressions.{Tree, Links, Arguments, positional, keyword, Pairs, Pieces, link, pair}
use Rattle.py_tree.specs.declared.expr.Argument.{Argument, out-Argument, roll-Argument, roll-out-Argument, fold-roll-Argument}
use Rattle.py_tree.specs.declared.expr.Argument.TheOpen.{Argument-F, Expr-F, TextPiece-F}
use Rattle.py_tree.specs.declared.expr.Argument.TheVariants.{Positional, Keyword}
use Rattle.py_tree.specs.declared.expr.Comparison.{Comparison}
use Rattle.py_tree.specs.declared.expr.Expr.TheVariants.{Dict, Call, FText, Chain}
use Rattle.py_tree.specs.declared.expr.Expr.{Expr, roll-Expr, fold-roll-Expr}
use Rattle.py_tree.specs.declared.expr.Link.{Link, out-Link, roll-out-Link, fold-roll-Link}
use Rattle.py_tree.specs.declared.expr.Pair.{Pair, out-Pair, roll-out-Pair, fold-roll-Pair}
use Rattle.py_tree.specs.declared.expr.TextPiece.{TextPiece, out-TextPiece, roll-TextPiece, roll-out-TextPiece, fold-roll-TextPiece}
use Rattle.py_tree.specs.Expressions as form
use Rattle.syntax_reading.specs.Parts as items
use Rattle.expr_parser.specs.ListView.{argument_form, seen_argument, seen_arguments, seen_pair, seen_pairs, seen_link, seen_links}
use Rattle.expr_parser.specs.TextView.{put, put_all, text_form, seen_text, seen_texts}

pub pairs_seen : (ps : List Pair) → view_pairs ps ≡ items.pairs_of (seen_pairs ps)
pairs_seen [] = refl
pairs_seen (p ∷ ps) = one p (view_pairs ps) ∙ ap (pair (seen_pair p).0 (seen_pair p).1) (pairs_seen ps)
  where
    one : (q : Pair) (rest : Pairs) → view_pair q rest ≡ pair (seen_pair q).0 (seen_pair q).1 rest
    one q rest = ap (λ (r : Pair). view_pair r rest) (sym (roll-out-Pair q))
        ∙ ap (λ (f : Pairs → Pairs). f rest) (fold-roll-Pair _ Tree _ _ _ argument_step expr_step piece_step link_step pair_step (out-Pair q))

pub links_seen : (ls : List Link) → view_links ls ≡ items.links_of (seen_links ls)
links_seen [] = refl
links_seen (l ∷ ls) = one l (view_links ls) ∙ ap (link (seen_link l).0 (seen_link l).1) (links_seen ls)
  where
    one : (q : Link) (rest : Links) → view_link q rest ≡ link (seen_link q).0 (seen_link q).1 rest
    one q rest = ap (λ (r : Link). view_link r rest) (sym (roll-out-Link q))
        ∙ ap (λ (f : Links → Links). f rest) (fold-roll-Link _ Tree _ _ _ argument_step expr_step piece_step link_step pair_step (out-Link q))

abbrev put_argument : items.Argument → Arguments → Arguments
put_argument (items.plain t) rest = positional t rest
put_argument (items.named x t) rest = keyword x t rest

positional_is : (e : Expr) (rest : Arguments) → view_argument (Positional e) rest ≡ positional (view e) rest
unfolding roll-Argument roll
positional_is e rest =
    ap (λ (f : Arguments → Arguments). f rest) (fold-roll-Argument _ Tree _ _ _ argument_step expr_step piece_step link_step pair_step (Argument-F.Positional e))

keyword_is : (x : Name) (e : Expr) (rest : Arguments) → view_argument (Keyword x e) rest ≡ keyword x (view e) rest
unfolding roll-Argument roll
keyword_is x e rest =
    ap (λ (f : Arguments → Arguments). f rest) (fold-roll-Argument _ Tree _ _ _ argument_step expr_step piece_step link_step pair_step (Argument-F.Keyword x e))

form_is : (f : Argument-F Argument Expr TextPiece Link Pair) (rest : Arguments) → view_argument (roll-Argument f) rest ≡ put_argument (argument_form f) rest
unfolding roll-Argument roll
form_is (Argument-F.Positional e) rest = positional_is e rest
form_is (Argument-F.Keyword x e) rest = keyword_is x e rest

pub arguments_seen : (args : List Argument) → view_arguments args ≡ items.arguments_of (seen_arguments args)
arguments_seen [] = refl
arguments_seen (a ∷ args) = one a (view_arguments args) ∙ ap (put_argument (seen_argument a)) (arguments_seen args) ∙ put_is (seen_argument a) (seen_arguments args)
  where
    put_is : (b : items.Argument) (bs : List items.Argument) → put_argument b (items.arguments_of bs) ≡ items.arguments_of (b ∷ bs)
    put_is (items.plain t) bs = refl
    put_is (items.named x t) bs = refl

    one : (b : Argument) (rest : Arguments) → view_argument b rest ≡ put_argument (seen_argument b) rest
    one b rest = ap (λ (r : Argument). view_argument r rest) (sym (roll-out-Argument b)) ∙ form_is (out-Argument b) rest

text_is : (f : TextPiece-F Argument Expr TextPiece Link Pair) (rest : Pieces) → view_piece (roll-TextPiece f) rest ≡ put (text_form f) rest
unfolding roll-TextPiece roll
text_is (TextPiece-F.Chars cs) rest =
    ap (λ (f : Pieces → Pieces). f rest) (fold-roll-TextPiece _ Tree _ _ _ argument_step expr_step piece_step link_step pair_step (TextPiece-F.Chars cs))
text_is (TextPiece-F.Field e c s) rest =
    ap (λ (f : Pieces → Pieces). f rest) (fold-roll-TextPiece _ Tree _ _ _ argument_step expr_step piece_step link_step pair_step (TextPiece-F.Field e c s))

pub texts_seen : (ps : List TextPiece) → view_pieces ps ≡ put_all (seen_texts ps) form.no_piece
texts_seen [] = refl
texts_seen (p ∷ ps) = one p (view_pieces ps) ∙ ap (put (seen_text p)) (texts_seen ps)
  where
    one : (q : TextPiece) (rest : Pieces) → view_piece q rest ≡ put (seen_text q) rest
    one q rest = ap (λ (r : TextPiece). view_piece r rest) (sym (roll-out-TextPiece q)) ∙ text_is (out-TextPiece q) rest

-- ---- expressions of the code

pub is_dict : (ps : List Pair) (comma : Bool) → view (Dict ps comma) ≡ form.dict (items.pairs_of (seen_pairs ps)) comma
unfolding roll-Expr roll
is_dict ps comma =
    fold-roll-Expr _ Tree _ _ _ argument_step expr_step piece_step link_step pair_step (Expr-F.Dict ps comma) ∙ ap (λ qs. form.dict qs comma) (pairs_seen ps)

pub is_call : (e : Expr) (args : List Argument) (comma : Bool) → view (Call e args comma) ≡ form.call (view e) (items.arguments_of (seen_arguments args)) comma
unfolding roll-Expr roll
is_call e args comma =
    fold-roll-Expr _ Tree _ _ _ argument_step expr_step piece_step link_step pair_step (Expr-F.Call e args comma)
    ∙ ap (λ bs. form.call (view e) bs comma) (arguments_seen args)

pub is_f_text : (cs : List ℕ) (ps : List TextPiece) → view (FText cs ps) ≡ form.f_text cs (put_all (seen_texts ps) form.no_piece)
unfolding roll-Expr roll
is_f_text cs ps =
    fold-roll-Expr _ Tree _ _ _ argument_step expr_step piece_step link_step pair_step (Expr-F.FText cs ps) ∙ ap (form.f_text cs) (texts_seen ps)

pub is_chain : (e u : Expr) (c : Comparison) (ls : List Link) →
    view (Chain e c u ls) ≡ form.chain (view e) (view_comparison c) (view u) (items.links_of (seen_links ls))
unfolding roll-Expr roll
is_chain e u c ls =
    fold-roll-Expr _ Tree _ _ _ argument_step expr_step piece_step link_step pair_step (Expr-F.Chain e c u ls)
    ∙ ap (form.chain (view e) (view_comparison c) (view u)) (links_seen ls)
