-- Reading a text.
use Rattle.std.specs.Prelude.{ℕ, ◌+◌, Bool, if◌then◌else◌, ◌==◌, List, [], ◌∷◌, take, drop, Option, Some, None}
use Rattle.lexical_form.specs.Bytes.{starts_two}
use Rattle.lexical_form.specs.Reading.{Read, read_all}
use Rattle.lexical_form.specs.Texts.{Quotes, Part, plain, escape, Item, is_plain, further, is_escape, side}

-- how many quotes stand at the front: two at most, and only between three quotes
abbrev pub lead_one : ℕ → List ℕ → ℕ
lead_one m [] = 0
lead_one m (c ∷ cs) = if c == m then 1 else 0

abbrev pub lead_two : ℕ → List ℕ → ℕ
lead_two m [] = 0
lead_two m (c ∷ cs) = if c == m then 1 + lead_one m cs else 0

abbrev pub lead : Quotes → List ℕ → ℕ
lead q ts = if q.three then lead_two q.mark ts else 0

-- an escape, of which the backslash is read
abbrev pub escape_at : Quotes → List ℕ → Read Part
escape_at q [] = None
escape_at q (c ∷ cs) = let e = c ∷ take (further q c) cs in if is_escape q e then Some (escape e, drop (further q c) cs) else None

abbrev pub part_at : Quotes → List ℕ → Read Part
part_at q [] = None
part_at q (c ∷ cs) = if c == 92 then escape_at q cs else if is_plain q c then Some (plain c, cs) else None

abbrev pub behind_quotes : {P : Type 0} → ℕ → Read P → Read (Item P)
behind_quotes n None = None
behind_quotes n (Some p) = Some (record { before = n; part = p.0 }, p.1)

abbrev pub item_at : {P : Type 0} → (Quotes → List ℕ → Read P) → Quotes → List ℕ → Read (Item P)
item_at at q ts = behind_quotes (lead q ts) (at q (drop (lead q ts) ts))

-- behind these bytes, if they stand at the front
abbrev pub behind : List ℕ → List ℕ → Option (List ℕ)
behind [] ts = Some ts
behind (q ∷ qs) [] = None
behind (q ∷ qs) (c ∷ cs) = if c == q then behind qs cs else None

abbrev pub with_items : {P : Type 0} → List P → Option (List ℕ) → Read (List P)
with_items ps None = None
with_items ps (Some rest) = Some (ps, rest)

-- the items up to the closing quotes, and what is behind these
abbrev pub items_at : {P : Type 0} → (Quotes → List ℕ → Read P) → Quotes → List ℕ → Read (List (Item P))
items_at at q ts = let r = read_all (λ (s : Unit {0}). item_at at q) (λ s i. s) tt ts in with_items r.0 (behind (side q) r.1)

-- the quotes that open, of which the first is read: three where there are three
abbrev pub opening : Bool → ℕ → List ℕ → Quotes
opening raw c cs = record { mark = c; three = starts_two c cs; raw = raw }

abbrev pub behind_opening : Quotes → List ℕ → List ℕ
behind_opening q cs = if q.three then drop 2 cs else cs
