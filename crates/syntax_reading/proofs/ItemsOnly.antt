-- Lists: what spells items is read as those items.
use Rattle.std.proofs.Common.{◌≡◌, ℕ, zero, suc, ◌+◌, ◌<◌, ◌≤◌, Bool, true, false, List, [], ◌∷◌, ◌++◌, length, Some, None, refl, sym, ap, ◌∙◌, append_assoc, append-nil, arith}
use Rattle.syntax_reading.specs.Words as is
use Rattle.py_tree.specs.Expressions.{Tree}
use Rattle.syntax_reading.specs.Words.{literal_of, is_none_spelled, Fixed, Word, fixed}
use Rattle.syntax_reading.specs.Readers.{Reader, ◌>>=◌, choose, Closing, on_closing, is_some}
use Rattle.syntax_reading.specs.Items.{after_item, items, items_on, each}
use Rattle.syntax_reading.proofs.Binding.{opens}
use Rattle.syntax_reading.proofs.Spelling.{closes, spell_more, spell_all, spell}
use Rattle.syntax_reading.proofs.Choices.{Ends}
use Rattle.syntax_reading.proofs.ItemsFound.{some_after, AllGood}
use Rattle.syntax_reading.proofs.EachFound.{spell_each}
use Rattle.syntax_reading.proofs.Following.{CloseFine, on_closing_at, on_closing_shut, no_comma, spell_longer}

-- what is spelled as an item is read as it
pub record ItemLaws {I : Type 0} (item : Reader I) (c : Closing) (spell_item : I → List Word → List Word) (Good : I → Type 0) (May : List Word → Type 0) : Type 0 where
  pub only : (i : I) (rest : List Word) → Good i → May rest → item (spell_item i rest) ≡ Some (i, rest)
  pub may_comma : (rest : List Word) → May (fixed is.comma ∷ rest)
  pub may_close : (rest : List Word) → Ends c rest → May (closes c rest)
  pub begins : (i : I) (rest : List Word) → Good i → 1 ≤ opens (spell_item i rest)
  pub longer : (i : I) (rest : List Word) → length rest ≤ length (spell_item i rest)
  pub fine : CloseFine c

module _ {I : Type 0} (item : Reader I) (c : Closing) (spell_item : I → List Word → List Word) (Good : I → Type 0) (May : List Word → Type 0) (laws : ItemLaws item c spell_item Good May) where
  may_more : (xs : List I) (b : Bool) (rest : List Word) → Ends c rest → May (spell_more spell_item xs b c rest)
  may_more [] true rest n = laws.may_comma (closes c rest)
  may_more [] false rest n = laws.may_close rest n
  may_more (i ∷ xs) b rest n = laws.may_comma (spell_item i (spell_more spell_item xs b c rest))

  pub items_closed : (n : ℕ) (found : List I) (rest : List Word) → 0 < n → Ends c rest → items item c n found (closes c rest) ≡ Some ((found, is_some found), rest)
  unfolding items
  items_closed zero found rest p e = absurd (omega arith)
  items_closed (suc n) found rest p e =
      on_closing_at c (item (closes c rest) >>= λ i. after_item item c (items item c n (found ++ i ∷ [])) (found ++ i ∷ [])) (λ us. Some ((found, is_some found), us)) rest e

  -- one item more
  items_step : (i : I) (xs : List I) (found : List I) (b : Bool) (rest : List Word) (n : ℕ) → Good i → Ends c rest →
      after_item item c (items item c n (found ++ i ∷ [])) (found ++ i ∷ []) (spell_more spell_item xs b c rest) ≡ Some (((found ++ i ∷ []) ++ xs, b), rest) →
      items item c (suc n) found (spell_all spell_item (i ∷ xs) b c rest) ≡ Some ((found ++ i ∷ xs, b), rest)
  unfolding items
  items_step i xs found b rest n g e later =
      let after = spell_more spell_item xs b c rest in
      let ts = spell_item i after in
      let step : I → Reader (List I × Bool) = λ j. after_item item c (items item c n (found ++ j ∷ [])) (found ++ j ∷ []) in
      let open_one = on_closing_shut c (item ts >>= step) (λ us. Some ((found, is_some found), us)) ts laws.fine (laws.begins i after g) in
      let read_one = laws.only i after g (may_more xs b rest e) in
      open_one ∙ (ap (λ r. r >>= step) read_one ∙ (later ∙ ap (λ ys. Some ((ys, b), rest)) (append_assoc found (i ∷ []) xs)))

  pub after_only : (xs : List I) (found : List I) (b : Bool) (rest : List Word) (n : ℕ) → is_some found ≡ true → AllGood Good xs → Ends c rest → length (spell_more spell_item xs b c rest) ≤ n →
      after_item item c (items item c n found) found (spell_more spell_item xs b c rest) ≡ Some ((found ++ xs, b), rest)
  after_only [] found true rest n s g e long =
      items_closed n found rest (omega arith) e ∙ (ap (λ k. Some ((found, k), rest)) s ∙ ap (λ ys. Some ((ys, true), rest)) (sym (append-nil found)))
  after_only [] found false rest n s g e long =
      no_comma c (on_closing c None (λ us. Some ((found, false), us)) (closes c rest)) (items item c n found) rest laws.fine e ∙
      (on_closing_at c None (λ us. Some ((found, false), us)) rest e ∙ ap (λ ys. Some ((ys, false), rest)) (sym (append-nil found)))
  after_only (i ∷ xs) found b rest zero s g e long = absurd (omega arith)
  after_only (i ∷ xs) found b rest (suc n) s g e long =
      let longer = laws.longer i (spell_more spell_item xs b c rest) in
      items_step i xs found b rest n g.0 e (after_only xs (found ++ i ∷ []) b rest n (some_after found i) g.1 e (omega arith))

  pub items_next : (i : I) (xs : List I) (found : List I) (b : Bool) (rest : List Word) (n : ℕ) → AllGood Good (i ∷ xs) → Ends c rest → length (spell_all spell_item (i ∷ xs) b c rest) < n →
      items item c n found (spell_all spell_item (i ∷ xs) b c rest) ≡ Some ((found ++ i ∷ xs, b), rest)
  items_next i xs found b rest zero g e long = absurd (omega arith)
  items_next i xs found b rest (suc n) g e long =
      let longer = laws.longer i (spell_more spell_item xs b c rest) in
      items_step i xs found b rest n g.0 e (after_only xs (found ++ i ∷ []) b rest n (some_after found i) g.1 e (omega arith))

  -- all items, from the beginning
  pub all_only : (xs : List I) (b : Bool) (rest : List Word) (n : ℕ) → AllGood Good xs → (b ≡ true → is_some xs ≡ true) → Ends c rest → length (spell_all spell_item xs b c rest) < n →
      items item c n [] (spell_all spell_item xs b c rest) ≡ Some ((xs, b), rest)
  all_only [] true rest n g h e long = absurd (cc (h refl))
  all_only [] false rest n g h e long = items_closed n [] rest (omega arith) e
  all_only (i ∷ xs) b rest n g h e long = items_next i xs [] b rest n g e long

  -- after a first item
  pub on_only : (i : I) (xs : List I) (b : Bool) (rest : List Word) → AllGood Good xs → Ends c rest → items_on item c i (spell_more spell_item xs b c rest) ≡ Some ((i ∷ xs, b), rest)
  on_only i xs b rest g e = after_only xs (i ∷ []) b rest (length (spell_more spell_item xs b c rest) + 1) refl g e (omega arith)

-- what is repeated
pub record EachLaws {B : Type 0} (start : Reader B) (inner : Reader Tree) (begin : B → List Word → List Word) (Good : Tree → Type 0) (May : List Word → Type 0) : Type 0 where
  pub only : (t : Tree) (rest : List Word) → Good t → May rest → inner (spell t rest) ≡ Some (t, rest)
  pub starts : (b : B) (rest : List Word) → start (begin b rest) ≡ Some (b, rest)
  pub may_start : (b : B) (rest : List Word) → May (begin b rest)
  pub longer : (b : B) (rest : List Word) → length rest < length (begin b rest)

module _ {B : Type 0} (start : Reader B) (inner : Reader Tree) (begin : B → List Word → List Word) (Good : Tree → Type 0) (May : List Word → Type 0) (laws : EachLaws start inner begin Good May) where
  pub may_each : (ls : List (B × Tree)) (rest : List Word) → May rest → May (spell_each begin ls rest)
  may_each [] rest m = m
  may_each (l ∷ ls) rest m = laws.may_start l.0 (spell l.1 (spell_each begin ls rest))

  pub each_only : (ls : List (B × Tree)) (rest : List Word) (n : ℕ) (found : List (B × Tree)) → AllGood (λ l. Good l.1) ls → May rest → start rest ≡ None → length (spell_each begin ls rest) < n →
      each start inner n found (spell_each begin ls rest) ≡ Some (found ++ ls, rest)
  unfolding each
  each_only ls rest zero found g m s long = absurd (omega arith)
  each_only [] rest (suc n) found g m s long = rw s (ap (λ ys. Some (ys, rest)) (sym (append-nil found)))
  each_only (l ∷ ls) rest (suc n) found g m s long =
      let b = l.0 in
      let t = l.1 in
      let after = spell_each begin ls rest in
      let step : B → Reader (List (B × Tree)) = λ b' us. inner us >>= λ t'. each start inner n (found ++ (b', t') ∷ []) in
      let longer = laws.longer b (spell t after) in
      let longer_still = spell_longer t after in
      let later = each_only ls rest n (found ++ l ∷ []) g.1 m s (omega arith) in
      ap (choose (Some (found, begin b (spell t after))) step) (laws.starts b (spell t after)) ∙
      (ap (λ r. r >>= λ t'. each start inner n (found ++ (b, t') ∷ [])) (laws.only t after g.0 (may_each ls rest m)) ∙
      (later ∙ ap (λ ys. Some (ys, rest)) (append_assoc found (l ∷ []) ls)))
