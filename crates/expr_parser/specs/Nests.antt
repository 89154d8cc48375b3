-- A function value that reads what lies deeper.
use Rattle.std.specs.Prelude.{ℕ}
use Rattle.std.specs.declared.alloc.Global.{Global}
use Rattle.py_tree.specs.ExprView.{view}
use Rattle.syntax_reading.specs.Reading.{read}
use Rattle.syntax_words.specs.TableView.{view_level}
use Rattle.syntax_words.specs.WordView.{words_of}
use Rattle.syntax_words.specs.declared.level.Level.{Level}
use Rattle.syntax_words.specs.declared.word.Words.{Words}
use Rattle.expr_parser.specs.Reads.{Given, Reads, Within}
use Rattle.expr_parser.specs.declared.part.Part.{Part}

pub record Nests (room : ℕ) (pre : Global → Words → ℕ → Level → Type 0)
    (post : Global → Words → ℕ → Level → Given Part → Type 0) : Type 0 where
  pub callable : (alloc : Global) (words : Words) (level : Level) → pre alloc words room level
  pub reads : (alloc : Global) (words : Words) (level : Level) (r : Given Part) →
      post alloc words room level r → Reads (λ p. view p.expr) r (read room (view_level level) (words_of words))
  pub shallow : (alloc : Global) (words : Words) (level : Level) (r : Given Part) →
      post alloc words room level r → Within (λ p. p.depth) room r
