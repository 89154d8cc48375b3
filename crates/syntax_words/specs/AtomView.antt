-- What begins an operand, as the code gives it.
use Rattle.py_tokens.specs.TokenView.{view_pieces}
use Rattle.syntax_reading.specs.Words.{literal_of}
use Rattle.syntax_words.specs.Beginnings as pure
use Rattle.syntax_words.specs.TableView.{view_bracket}
use Rattle.syntax_words.specs.declared.atom.Atom.{Atom}
use Rattle.syntax_words.specs.declared.atom.Atom.TheVariants as atom

abbrev pub view_atom : Atom → pure.Atom
view_atom (atom.Name x) = pure.name x.now
view_atom (atom.Literal k cs) = pure.literal (literal_of k cs.now)
view_atom (atom.FText cs ps) = pure.f_text cs.now (view_pieces ps.now)
view_atom (atom.Bracket b) = pure.bracket (view_bracket b)
