-- Tokens that are spelled as tokens of their kind.
use Rattle.std.specs.Prelude.{List, [], ◌∷◌, ⊤}
use Rattle.lexical_form.specs.Longest.{Stands}
use Rattle.lexical_form.specs.LogicalLines.{Line}
use Rattle.lexical_form.specs.Tokens.{Token}

-- each may stand alone
abbrev pub AreTokens : List Token → Type 0
AreTokens [] = ⊤
AreTokens (t ∷ ts) = Stands t [] × AreTokens ts

-- those of each line
abbrev pub HoldTokens : List Line → Type 0
HoldTokens [] = ⊤
HoldTokens (l ∷ ls) = AreTokens l.tokens × HoldTokens ls
