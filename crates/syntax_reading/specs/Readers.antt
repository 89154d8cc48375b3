-- Readers: functions from words to something and the words behind it.
use Rattle.std.specs.Prelude.{Bool, true, false, if◌then◌else◌, List, [], ◌∷◌, Option, Some, None}
use Rattle.syntax_reading.specs.Words.{Fixed, Word, fixed, same}

-- something, and the words after it
abbrev pub Read : Type 0 → Type 0
Read A = Option (A × List Word)

abbrev pub Reader : Type 0 → Type 0
Reader A = List Word → Read A

infixl 10 ◌>>=◌
abbrev pub ◌>>=◌ : {A B : Type 0} → Read A → (A → Reader B) → Read B
None >>= f = None
(Some p) >>= f = f p.0 p.1

abbrev pub choose : {A B : Type 0} → Read A → (B → Reader A) → Read B → Read A
choose other_way take None = other_way
choose other_way take (Some p) = take p.0 p.1

-- what a table says of a word
abbrev pub at_word : {B : Type 0} → (Fixed → Option B) → Word → Option B
at_word table (fixed f) = table f
at_word table w = None

abbrev pub with_rest : {B : Type 0} → List Word → Option B → Read B
with_rest ts None = None
with_rest ts (Some b) = Some (b, ts)

-- the first word, where the table has it
abbrev pub first_in : {B : Type 0} → (Fixed → Option B) → Reader B
first_in table [] = None
first_in table (w ∷ ts) = with_rest ts (at_word table w)

-- the next word is one of a table
abbrev pub on_table : {A B : Type 0} → (Fixed → Option B) → Read A → (B → Reader A) → Reader A
on_table table other_way take ts = choose other_way take (first_in table ts)

abbrev pub is_word : Fixed → Fixed → Option (Unit {0})
is_word f g = if same f g then Some tt else None

-- the next word is this one
abbrev pub on : {A : Type 0} → Fixed → Read A → Reader A → Reader A
on f other_way take = on_table (is_word f) other_way (λ u. take)

abbrev pub guarded : {A : Type 0} → Bool → Read A → Read A
guarded true r = r
guarded false r = None

-- what ends a list: a word, or the end of the line
pub data Closing : Type 0 where
  by : Fixed → Closing
  at_end : Closing

abbrev pub at_nothing : {A : Type 0} → Read A → Reader A → Reader A
at_nothing other_way take [] = take []
at_nothing other_way take (w ∷ ts) = other_way

abbrev pub on_closing : {A : Type 0} → Closing → Read A → Reader A → Reader A
on_closing (by f) other_way take ts = on f other_way take ts
on_closing at_end other_way take ts = at_nothing other_way take ts

abbrev pub is_some : {A : Type 0} → List A → Bool
is_some [] = false
is_some (x ∷ xs) = true
