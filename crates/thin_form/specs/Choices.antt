-- Readings that may come to nothing, one after the other.
use Rattle.std.specs.Prelude.{Option, None, Some}

infixl 10 ◌>>=◌
abbrev pub ◌>>=◌ : {A B : Type 0} → Option A → (A → Option B) → Option B
None >>= f = None
(Some x) >>= f = f x

abbrev pub choose : {A B : Type 0} → Option A → (A → Option B) → Option B → Option B
choose None f other = other
choose (Some x) f other = f x
