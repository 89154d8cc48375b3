-- What the code's open brackets stand for.
use Rattle.std.specs.Prelude.{List, map, reverse}
use Rattle.lexical_form.specs.Lines as pure
use Rattle.py_lexer.specs.declared.brackets.Bracket.{Bracket}
use Rattle.py_lexer.specs.declared.brackets.Brackets.{Brackets}

abbrev pub view_bracket : Bracket → pure.Bracket
view_bracket b = record { closing = b.closing; line = b.line }

abbrev pub opened : Brackets → List pure.Bracket
opened b = reverse (map view_bracket b.stack.items)
