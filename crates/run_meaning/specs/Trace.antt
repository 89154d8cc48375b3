-- What a run of code does, with no budget.
use Rattle.std.specs.Prelude.{ℕ, List}
use Rattle.py_value.specs.declared.error_kind.ErrorKind.{ErrorKind}

-- In order: the steps that it is charged, each on a line, and the lines that it prints; and at the end what it gives, or the
-- error, with its line, that ends it.
pub data Trace (A : Type 0) : Type 0 where
  Gives : A → Trace A
  Faults : (kind : ErrorKind) → (line : ℕ) → Trace A
  Charges : (amount line : ℕ) → Trace A → Trace A
  Prints : (text : List ℕ) → Trace A → Trace A

infixl 10 ◌>>=◌
-- goes on with what the first part gives
abbrev pub ◌>>=◌ : {A B : Type 0} → Trace A → (A → Trace B) → Trace B
(Gives a) >>= f = f a
(Faults k l) >>= f = Faults k l
(Charges n l t) >>= f = Charges n l (t >>= f)
(Prints x t) >>= f = Prints x (t >>= f)
