use Rattle.syntax_form.proofs.LineTokens.{of_tokens}
use Rattle.syntax_form.proofs.laws.lines_of_tokens.Goals as goal

pub returns : goal.returns
returns c = λ bytes lines h. of_tokens bytes lines h.1
