-- A loop over a text's items.
use Rattle.std.proofs.Common.{◌≡◌, ℕ, ◌<◌, true, List, length, Some, None, refl, sym, ap, subst, ◌∙◌, length-append, arith}
use Rattle.lexical_form.specs.Bytes.{is_quote}
use Rattle.lexical_form.specs.Reading.{Read}
use Rattle.lexical_form.specs.Texts.{Quotes, GoodItem, Item, Part, part_spelling, item_spelling}
use Rattle.lexical_form.specs.TextReader.{part_at, item_at}
use Rattle.py_lexer.specs.Ends.{rest_of, item_end, items_end}
use Rattle.py_lexer.proofs.EndLaws.{item_end_is}
use Rattle.lexical_form.proofs.Basics.{some_is, not_some}
use Rattle.lexical_form.proofs.Runs.{Reads, read_step, read_stop}
use Rattle.lexical_form.proofs.Items.{item_reads}
use Rattle.lexical_form.proofs.TextLaws.{IsPart, text_parts}

abbrev reads : (q : Quotes) → is_quote q.mark ≡ true → Reads (item_spelling part_spelling q) (λ (s : Unit {0}) (i : Item Part) (more : List ℕ). GoodItem q (IsPart q) i) (λ (s : Unit {0}). item_at part_at q)
reads q k = item_reads q part_spelling (IsPart q) part_at (text_parts q k)

-- an item was read
pub record ItemRead (q : Quotes) (ts more : List ℕ) : Type 0 where
  pub same : items_end q ts ≡ items_end q more
  pub shorter : length more < length ts

item_is : (q : Quotes) → is_quote q.mark ≡ true → (ts more : List ℕ) (r : Read (Item Part)) → item_at part_at q ts ≡ r → rest_of r ≡ Some more → ItemRead q ts more
item_is q k ts more None e f = not_some more f
item_is q k ts more (Some r) e f =
    let same : r.1 ≡ more = some_is r.1 more f in
    let step = read_step (item_spelling part_spelling q) (λ (s : Unit {0}) (i : Item Part) (more : List ℕ). GoodItem q (IsPart q) i) (λ (s : Unit {0}) (i : Item Part). s) (λ (s : Unit {0}). item_at part_at q) (reads q k) tt ts r.0 r.1 e in
    let found = (reads q k).found tt ts r.0 r.1 e in
    let some = (reads q k).some tt r.0 r.1 found.0 in
    let l = ap length found.1 ∙ length-append (item_spelling part_spelling q r.0) r.1 in
    subst (λ xs. ItemRead q ts xs) same (record { same = ap (λ (x : List (Item Part) × List ℕ). x.1) step; shorter = omega arith })

pub item_read : (q : Quotes) (ts more : List ℕ) → is_quote q.mark ≡ true → item_end q ts ≡ Some more → ItemRead q ts more
item_read q ts more k e = item_is q k ts more (item_at part_at q ts) refl (item_end_is q ts ∙ e)

none_is : (q : Quotes) → is_quote q.mark ≡ true → (ts : List ℕ) (r : Read (Item Part)) → item_at part_at q ts ≡ r → rest_of r ≡ None → items_end q ts ≡ ts
none_is q k ts None e f =
    ap (λ (x : List (Item Part) × List ℕ). x.1) (read_stop (item_spelling part_spelling q) (λ (s : Unit {0}) (i : Item Part) (more : List ℕ). GoodItem q (IsPart q) i) (λ (s : Unit {0}) (i : Item Part). s) (λ (s : Unit {0}). item_at part_at q) (reads q k) tt ts e)
none_is q k ts (Some r) e f = not_some r.1 (sym f)

pub item_none : (q : Quotes) (ts : List ℕ) → is_quote q.mark ≡ true → item_end q ts ≡ None → items_end q ts ≡ ts
item_none q ts k e = none_is q k ts (item_at part_at q ts) refl (item_end_is q ts ∙ e)
