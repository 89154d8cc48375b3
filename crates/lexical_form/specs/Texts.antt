-- Texts: a prefix, quotes, items, the same quotes (Python language reference, section 2.4.1).
use Rattle.std.specs.Prelude.{ℕ, zero, suc, Bool, false, if◌then◌else◌, not, ◌&&◌, ◌||◌, ◌==◌, nat_le, ◌≤◌, ⊤, List, [], ◌∷◌, ◌++◌, codes, length}
use Rattle.std.specs.List.{list_all, flat_map}
use Rattle.py_tree.specs.Names.{is_digit, is_among}
use Rattle.lexical_form.specs.Bytes.{is_empty, starts, is_quote, is_hex, hex_number, is_character}

-- the quote, whether three of them stand on each side, and whether a backslash only stands for itself
pub record Quotes : Type 0 where
  pub mark : ℕ
  pub three : Bool
  pub raw : Bool

-- a byte that stands for itself, or a backslash and what belongs to it
pub data Part : Type 0 where
  plain : ℕ → Part
  escape : List ℕ → Part

-- A part, and the quotes directly before it: between three quotes one or two of them may stand before a part; three end the text.
pub record Item (P : Type 0) : Type 0 where
  pub before : ℕ
  pub part : P

pub record Text : Type 0 where
  pub prefix : List ℕ
  pub quotes : Quotes
  pub items : List (Item Part)

-- neither the quote, nor a backslash; a line end stands only between three quotes
abbrev pub is_plain : Quotes → ℕ → Bool
is_plain q c = not (c == q.mark) && not (c == 92) && (q.three || not (c == 10))

-- how many hexadecimal digits follow `\x`, `\u` and `\U`
abbrev pub hex_digits : ℕ → ℕ
hex_digits c = if c == 120 then 2 else if c == 117 then 4 else if c == 85 then 8 else 0

-- how many bytes belong to an escape beyond the one behind its backslash
abbrev pub further : Quotes → ℕ → ℕ
further q c = if q.raw then 0 else hex_digits c

-- An escape that says something: its hexadecimal digits are the number of a character; and where it has none, it begins neither with a
-- digit nor with `N`, which Python reads as the number and as the name of a character.
abbrev pub is_meant : ℕ → List ℕ → Bool
is_meant c digits =
    if hex_digits c == 0 then not (is_digit c) && not (c == 78) else list_all is_hex digits && is_character (hex_number digits)

-- The bytes may follow a backslash, as all that belongs to it. A line end does so only between three quotes. In a raw text any byte does.
abbrev pub is_escape : Quotes → List ℕ → Bool
is_escape q [] = false
is_escape q (c ∷ cs) = (length cs == further q c) && (q.three || not (c == 10)) && (q.raw || is_meant c cs)

abbrev pub is_part : Quotes → Part → Bool
is_part q (plain c) = is_plain q c
is_part q (escape cs) = is_escape q cs

abbrev pub part_spelling : Part → List ℕ
part_spelling (plain c) = c ∷ []
part_spelling (escape cs) = 92 ∷ cs

abbrev pub most_before : Quotes → ℕ
most_before q = if q.three then 2 else 0

abbrev pub is_item : {P : Type 0} → (Quotes → P → Bool) → Quotes → Item P → Bool
is_item good q i = nat_le i.before (most_before q) && good q i.part

-- the same of parts that no test tells
abbrev pub GoodItem : {P : Type 0} → Quotes → (P → Type 0) → Item P → Type 0
GoodItem q Good i = (i.before ≤ most_before q) × Good i.part

abbrev pub AreItems : {P : Type 0} → Quotes → (P → Type 0) → List (Item P) → Type 0
AreItems q Good [] = ⊤
AreItems q Good (i ∷ is) = GoodItem q Good i × AreItems q Good is

abbrev pub repeated : ℕ → ℕ → List ℕ
repeated zero c = []
repeated (suc n) c = c ∷ repeated n c

abbrev pub item_spelling : {P : Type 0} → (P → List ℕ) → Quotes → Item P → List ℕ
item_spelling spell q i = repeated i.before q.mark ++ spell i.part

-- the quotes on one side
abbrev pub side : Quotes → List ℕ
side q = if q.three then q.mark ∷ q.mark ∷ q.mark ∷ [] else q.mark ∷ []

abbrev pub text_prefixes : List (List ℕ)
text_prefixes = codes "r" ∷ codes "R" ∷ []

-- no prefix, or one that says that backslashes stand for themselves
abbrev pub is_text_prefix : List ℕ → Bool → Bool
is_text_prefix [] raw = not raw
is_text_prefix (c ∷ cs) raw = raw && is_among (c ∷ cs) text_prefixes

abbrev pub is_text : Text → Bool
is_text t = is_text_prefix t.prefix t.quotes.raw && is_quote t.quotes.mark && list_all (is_item is_part t.quotes) t.items

abbrev pub text_spelling : Text → List ℕ
text_spelling t = t.prefix ++ side t.quotes ++ flat_map (item_spelling part_spelling t.quotes) t.items ++ side t.quotes

-- an empty text of two quotes, directly before a third
abbrev pub is_before_third : {P : Type 0} → Quotes → List P → List ℕ → Bool
is_before_third q items rest = not q.three && is_empty items && starts (λ c. c == q.mark) rest
