-- How tightly words bind to what stands before them, and what they open.
use Rattle.std.specs.Prelude.{ℕ, List, [], ◌∷◌}
use Rattle.syntax_reading.specs.Words.{Fixed, if_, or_, and_, not_, in_, is_, plus, minus, star, stars, slashes, percent, equal, unequal, less, at_most, greater, at_least, assign, round_open, square_open, brace_open, dot, Word, name, literal, f_text, fixed, other}

-- how tightly a word binds to what stands before it
abbrev pub binding : Fixed → ℕ
binding if_ = 1
binding or_ = 2
binding and_ = 3
binding not_ = 5
binding in_ = 5
binding is_ = 5
binding plus = 6
binding minus = 6
binding star = 7
binding stars = 9
binding slashes = 7
binding percent = 7
binding equal = 5
binding unequal = 5
binding less = 5
binding at_most = 5
binding greater = 5
binding at_least = 5
binding round_open = 10
binding square_open = 10
binding dot = 10
-- a name with `=` behind it is the name of an argument
binding assign = 12
binding f = 0

abbrev pub binds : List Word → ℕ
binds [] = 0
binds (fixed f ∷ ts) = binding f
binds (w ∷ ts) = 0

-- the level of the loosest form that begins so
abbrev pub opening : Fixed → ℕ
opening not_ = 4
opening plus = 8
opening minus = 8
opening round_open = 11
opening square_open = 11
opening brace_open = 11
opening f = 0

abbrev pub opens : List Word → ℕ
opens [] = 0
opens (name x ∷ ts) = 11
opens (literal t ∷ ts) = 11
opens (f_text cs ps ∷ ts) = 11
opens (fixed f ∷ ts) = opening f
opens (other t ∷ ts) = 0
