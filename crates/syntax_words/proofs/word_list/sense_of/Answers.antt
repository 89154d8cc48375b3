-- Which word it is, by its kind.
use Rattle.std.proofs.Common.{◌∙◌, sym, ap, Some, None}
use Rattle.std.specs.Prelude.{option_map}
use Rattle.syntax_words.specs.FixedView.{view_fixed}
use Rattle.syntax_words.proofs.TokenWords.{number_word, text_word, f_text_word, mark_word}
use Rattle.syntax_words.proofs.word_list.sense_of.Goals as goal

pub returns-in-Number : goal.returns-in-Number
returns-in-Number c = number_word c.args.token.now c.in-Number.is

pub returns-in-Text : goal.returns-in-Text
returns-in-Text c = text_word c.args.token.now c.in-Text.is

pub returns-in-FText : goal.returns-in-FText
returns-in-FText c = f_text_word c.args.token.now c.in-FText.pieces c.in-FText.is

pub returns-in-Some : goal.returns-in-Some
returns-in-Some c =
    mark_word c.args.token.now _ (Some (view_fixed c.in-Some.fixed)) c.in-Mark.is c.items.ensures
    (ap (option_map view_fixed) (sym c.in-Some.is) ∙ c.fixed_mark.ensures)

pub returns-in-None : goal.returns-in-None
returns-in-None c =
    mark_word c.args.token.now _ None c.in-Mark.is c.items.ensures (ap (option_map view_fixed) (sym c.in-None.is) ∙ c.fixed_mark.ensures)
