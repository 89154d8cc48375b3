-- Which of the words of names it is.
use Rattle.std.proofs.Common.{◌∙◌, sym, ap, Some, None}
use Rattle.std.specs.Prelude.{option_map}
use Rattle.syntax_words.specs.FixedView.{view_fixed}
use Rattle.syntax_words.proofs.TokenWords.{free_word, constant_word, keyword_word}
use Rattle.syntax_words.proofs.word_list.sense_of_name.Goals as goal

pub returns-then-is_free : goal.returns-then-is_free
returns-then-is_free c = free_word c.args.token.now _ c.requires c.items-spelling.ensures (sym c.is_free.ensures ∙ c.if-is_free.true)

pub returns-then-is_constant : goal.returns-then-is_constant
returns-then-is_constant c =
    constant_word c.args.token.now _ c.requires c.items-spelling.ensures (sym c.is_free.ensures ∙ c.if-is_free.false)
    (sym c.is_constant.ensures ∙ c.if-is_constant.true)

pub returns-in-Some : goal.returns-in-Some
returns-in-Some c =
    keyword_word c.args.token.now _ (Some (view_fixed c.in-Some.fixed)) c.requires c.items-spelling.ensures
    (sym c.is_free.ensures ∙ c.if-is_free.false) (sym c.is_constant.ensures ∙ c.if-is_constant.false)
    (ap (option_map view_fixed) (sym c.in-Some.is) ∙ c.fixed_keyword.ensures)

pub returns-in-None : goal.returns-in-None
returns-in-None c =
    keyword_word c.args.token.now _ None c.requires c.items-spelling.ensures (sym c.is_free.ensures ∙ c.if-is_free.false)
    (sym c.is_constant.ensures ∙ c.if-is_constant.false) (ap (option_map view_fixed) (sym c.in-None.is) ∙ c.fixed_keyword.ensures)
