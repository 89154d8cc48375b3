-- Data of the code as definitions see it.
use Rattle.lexical_form.specs.Texts as pure
use Rattle.py_lexer.specs.declared.texts.Quotes.{Quotes}
use Rattle.lexical_form.specs.Plain as plains
use Rattle.py_lexer.specs.declared.plain.PlainKind.{PlainKind}
use Rattle.py_lexer.specs.declared.plain.PlainKind.TheVariants as kinds

abbrev pub quotes : Quotes → pure.Quotes
quotes q = record { mark = q.mark; three = q.three; raw = q.raw }

abbrev pub plain_kind : PlainKind → plains.PlainKind
plain_kind kinds.Name = plains.name
plain_kind kinds.Number = plains.number
plain_kind kinds.Text = plains.text
plain_kind kinds.Mark = plains.mark
