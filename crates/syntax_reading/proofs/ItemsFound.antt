-- Lists with commas: what reading gives is spelled so.
use Rattle.std.proofs.Common.{◌≡◌, ℕ, zero, suc, ◌+◌, inl, inr, Bool, true, false, List, [], ◌∷◌, ◌++◌, length, Option, Some, None, refl, sym, ap, ◌∙◌, subst, append_assoc, append-nil}
use Rattle.syntax_reading.specs.Words as is
use Rattle.syntax_reading.specs.Words.{Fixed, Word, fixed}
use Rattle.syntax_reading.specs.Readers.{Reader, ◌>>=◌, Closing, on_closing, is_some}
use Rattle.syntax_reading.specs.Items.{after_item, items, items_on}
use Rattle.syntax_reading.proofs.Spelling.{closes, closed, spell_more, spell_all}
use Rattle.syntax_reading.proofs.Choices.{bind_ok, on_ok, on_closing_ok, Ends}

pub some_after : {I : Type 0} (found : List I) (i : I) → is_some (found ++ i ∷ []) ≡ true
some_after [] i = refl
some_after (j ∷ js) i = refl

abbrev pub AllGood : {I : Type 0} → (I → Type 0) → List I → Type 0
AllGood Good [] = Unit {0}
AllGood Good (i ∷ xs) = Good i × AllGood Good xs

abbrev pub IsItem : {I : Type 0} → Reader I → (I → List Word → List Word) → (I → Type 0) → Type 0
IsItem {I} item spell_item Good = (ts : List Word) (y : I × List Word) → item ts ≡ Some y → (ts ≡ spell_item y.0 y.1) × Good y.0

-- two items, or one and a comma
abbrev pub is_many : {I : Type 0} → List I → Bool → Bool
is_many [] comma = false
is_many (i ∷ []) comma = comma
is_many (i ∷ j ∷ xs) comma = true

-- no list that closes so begins with a comma where it closes
abbrev pub ClosesApart : Closing → Type 0
ClosesApart c = (us rest : List Word) → Ends c rest → (fixed is.comma ∷ us) ≡ closes c rest → ⊥

-- the items that followed those found, and how they end
pub record More {I : Type 0} (spell_item : I → List Word → List Word) (Good : I → Type 0) (c : Closing) (found : List I) (ts : List Word) (a : List I × Bool) (rest : List Word) : Type 0 where
  pub new : List I
  pub all : a.0 ≡ found ++ new
  pub good : AllGood Good new
  pub spelled : ts ≡ spell_more spell_item new a.1 c rest
  pub ends : Ends c rest

-- all items
pub record All {I : Type 0} (spell_item : I → List Word → List Word) (Good : I → Type 0) (c : Closing) (ts : List Word) (a : List I × Bool) (rest : List Word) : Type 0 where
  pub good : AllGood Good a.0
  pub spelled : ts ≡ spell_all spell_item a.0 a.1 c rest
  pub has : a.1 ≡ true → is_some a.0 ≡ true
  pub ends : Ends c rest

module _ {I : Type 0} (item : Reader I) (c : Closing) (spell_item : I → List Word → List Word) (Good : I → Type 0) (sound : IsItem item spell_item Good) where
  abbrev MoreHere : List I → List Word → List I × Bool → List Word → Type 0
  MoreHere found ts a rest = More spell_item Good c found ts a rest

  -- where the list ends
  stops : (found : List I) (comma : Bool) (ts us : List Word) (y : (List I × Bool) × List Word) → ts ≡ closed comma c us → Ends c us → Some ((found, comma), us) ≡ Some y → MoreHere found ts y.0 y.1
  stops found comma ts us y e n is =
      let a : (found, comma) ≡ y.0 = cc (is) in
      let after : us ≡ y.1 = cc (is) in
      record {
        new = [];
        all = sym (ap (λ p. p.0) a) ∙ sym (append-nil found);
        good = tt;
        spelled = e ∙ (ap (λ k. closed k c us) (ap (λ p. p.1) a) ∙ ap (closed y.0.1 c) after);
        ends = subst (Ends c) after n;
      }

  pub after_more : (further : Reader (List I × Bool)) (found : List I) (ts : List Word) (y : (List I × Bool) × List Word) →
      ((us : List Word) → further us ≡ Some y → MoreHere found (fixed is.comma ∷ us) y.0 y.1) →
      after_item item c further found ts ≡ Some y → MoreHere found ts y.0 y.1
  after_more further found ts y h e = elim (on_ok is.comma (on_closing c None (λ us. Some ((found, false), us)) ts) further ts y e) [
    | inl t ↦ (let m = h t.0 t.2 in record { new = m.new; all = m.all; good = m.good; spelled = t.1 ∙ m.spelled; ends = m.ends })
    | inr o ↦ elim (on_closing_ok c None (λ us. Some ((found, false), us)) ts y o) [
      | inl t ↦ stops found false ts t.0 y t.1 t.3 t.2
      | inr n ↦ absurd (cc)
    ]
  ]

  one_more : (found : List I) (i : I) (ts us : List Word) (a : List I × Bool) (rest : List Word) → ts ≡ spell_item i us → Good i → MoreHere (found ++ i ∷ []) us a rest →
      MoreHere found (fixed is.comma ∷ ts) a rest
  one_more found i ts us a rest e g m =
      record {
        new = i ∷ m.new;
        all = m.all ∙ append_assoc found (i ∷ []) m.new;
        good = (g, m.good);
        spelled = ap (λ vs. fixed is.comma ∷ vs) (e ∙ ap (spell_item i) m.spelled);
        ends = m.ends;
      }

  pub items_more : (n : ℕ) (found : List I) (ts : List Word) (y : (List I × Bool) × List Word) → is_some found ≡ true → items item c n found ts ≡ Some y →
      MoreHere found (fixed is.comma ∷ ts) y.0 y.1
  unfolding items
  items_more zero found ts y s e = absurd (cc)
  items_more (suc n) found ts y s e =
      let step = λ (i : I). after_item item c (items item c n (found ++ i ∷ [])) (found ++ i ∷ []) in
      elim (on_closing_ok c (item ts >>= step) (λ us. Some ((found, is_some found), us)) ts y e) [
        | inl t ↦ (
            let last : ◌≡◌ {A = Option ((List I × Bool) × List Word)} (Some ((found, true), t.0)) (Some y) = ap (λ b. Some ((found, b), t.0)) (sym s) ∙ t.2 in
            stops found true (fixed is.comma ∷ ts) t.0 y (ap (λ vs. fixed is.comma ∷ vs) t.1) t.3 last)
        | inr o ↦ (
            let b = bind_ok (item ts) step y o in
            let i = b.0.0 in
            let s = sound ts b.0 b.1 in
            let found_more = found ++ i ∷ [] in
            let m = after_more (items item c n found_more) found_more b.0.1 y (λ us g. items_more n found_more us y (some_after found i) g) b.2 in
            one_more found i ts b.0.1 y.0 y.1 s.0 s.1 m)
      ]

  all_of : (i : I) (ts us : List Word) (a : List I × Bool) (rest : List Word) → ts ≡ spell_item i us → Good i → MoreHere (i ∷ []) us a rest → All spell_item Good c ts a rest
  all_of i ts us a rest e g m =
      let is : (i ∷ m.new) ≡ a.0 = sym m.all in
      record {
        good = subst (AllGood Good) is (g, m.good);
        spelled = (e ∙ ap (spell_item i) m.spelled) ∙ ap (λ xs. spell_all spell_item xs a.1 c rest) is;
        has = λ h. ap is_some (sym is);
        ends = m.ends;
      }

  pub items_all : (n : ℕ) (ts : List Word) (y : (List I × Bool) × List Word) → items item c n [] ts ≡ Some y → All spell_item Good c ts y.0 y.1
  unfolding items
  items_all zero ts y e = absurd (cc)
  items_all (suc n) ts y e =
      let step = λ (i : I). after_item item c (items item c n (i ∷ [])) (i ∷ []) in
      elim (on_closing_ok c (item ts >>= step) (λ us. Some (([], false), us)) ts y e) [
        | inl t ↦ (
            let a : ◌≡◌ {A = List I × Bool} ([], false) y.0 = cc (t.2) in
            let after : t.0 ≡ y.1 = cc (t.2) in
            record {
              good = subst (λ p. AllGood Good p.0) a tt;
              spelled = t.1 ∙ (ap (closes c) after ∙ ap (λ p. spell_all spell_item p.0 p.1 c y.1) a);
              has = subst (λ p. p.1 ≡ true → is_some p.0 ≡ true) a (λ h. absurd (cc));
              ends = subst (Ends c) after t.3;
            })
        | inr o ↦ (
            let b = bind_ok (item ts) step y o in
            let i = b.0.0 in
            let s = sound ts b.0 b.1 in
            let m = after_more (items item c n (i ∷ [])) (i ∷ []) b.0.1 y (λ us g. items_more n (i ∷ []) us y refl g) b.2 in
            all_of i ts b.0.1 y.0 y.1 s.0 s.1 m)
      ]

  -- after a first item
  pub items_on_all : (i : I) (before ts : List Word) (y : (List I × Bool) × List Word) → before ≡ spell_item i ts → Good i → items_on item c i ts ≡ Some y →
      All spell_item Good c before y.0 y.1
  items_on_all i before ts y s g e =
      let n = length ts + 1 in
      all_of i before ts y.0 y.1 s g (after_more (items item c n (i ∷ [])) (i ∷ []) ts y (λ us h. items_more n (i ∷ []) us y refl h) e)

  -- after a first item and a comma
  pub items_later_all : (n : ℕ) (i : I) (before ts : List Word) (y : (List I × Bool) × List Word) → before ≡ spell_item i (fixed is.comma ∷ ts) → Good i →
      items item c n (i ∷ []) ts ≡ Some y → All spell_item Good c before y.0 y.1
  items_later_all n i before ts y s g e = all_of i before (fixed is.comma ∷ ts) y.0 y.1 s g (items_more n (i ∷ []) ts y refl e)

  pub items_many : (n : ℕ) (i : I) (ts : List Word) (y : (List I × Bool) × List Word) → ClosesApart c → items item c n (i ∷ []) ts ≡ Some y → is_many y.0.0 y.0.1 ≡ true
  items_many n i ts y apart e = let m = items_more n (i ∷ []) ts y refl e in ap (λ xs. is_many xs y.0.1) m.all ∙ by_new m.new y.0.1 m.spelled
    where
      by_new : (new : List I) (b : Bool) → (fixed is.comma ∷ ts) ≡ spell_more spell_item new b c y.1 → is_many (i ∷ new) b ≡ true
      by_new [] true s = refl
      by_new [] false s = absurd (apart ts y.1 (let m = items_more n (i ∷ []) ts y refl e in m.ends) s)
      by_new (j ∷ new) b s = refl
