-- What serde_json reads has its names in order.
use Rattle.std.proofs.Common.{◌≡◌, ◌∙◌, refl, sym, ap, subst, ℕ, List, Option, Some, None, option_map, option_and_then, Ordering, Less, Equal, Greater, nat_cmp}
use Rattle.std.proofs.lemmas.Cmp.{nat_list_cmp_total}
use Rattle.std.specs.Cmp.Lexicographic.{slice_cmp}
use Rattle.std.specs.Ordering.{match_ordering, ordering_reverse}
use Rattle.json.specs.Json as json
use Rattle.json.specs.Lex.{tokens}
use Rattle.serde_json.specs.Data.{Num, Data, null, boolean, number, string, array, object, Items, no_items, item, Members, no_members, member, put}
use Rattle.serde_json.specs.Read.{number_of, of_json, of_items, of_members, max_depth}
use Rattle.message_meaning.specs.Messages.{IsMessage, items_in}
use Rattle.messages.specs.declared.message.Message.TheVariants.{Set}
use Rattle.messages.specs.declared.message.SetItem.{SetItem}
use Rattle.message_meaning.specs.Order.{IsBefore, Ascend}

abbrev IsBelow : List ℕ → Members → Type 0
IsBelow k no_members = Unit {0}
IsBelow k (member l d ms) = slice_cmp nat_cmp k l ≡ Less

abbrev mutual
  InOrder : Data → Type 0
  InOrder null = Unit {0}
  InOrder (boolean b) = Unit {0}
  InOrder (number n) = Unit {0}
  InOrder (string s) = Unit {0}
  InOrder (array ds) = AllInOrder ds
  InOrder (object ms) = NamesInOrder ms

  AllInOrder : Items → Type 0
  AllInOrder no_items = Unit {0}
  AllInOrder (item d ds) = InOrder d × AllInOrder ds

  NamesInOrder : Members → Type 0
  NamesInOrder no_members = Unit {0}
  NamesInOrder (member k d ms) = IsBelow k ms × (InOrder d × NamesInOrder ms)

below_at : (o : Ordering) (l k m : List ℕ) (d e : Data) (ms later : Members) → slice_cmp nat_cmp l k ≡ Less → slice_cmp nat_cmp l m ≡ Less
    → IsBelow l (match_ordering o (member k d (member m e ms)) (member m d ms) (member m e later))
below_at Less l k m d e ms later a b = a
below_at Equal l k m d e ms later a b = b
below_at Greater l k m d e ms later a b = b

below_put : (l k : List ℕ) (d : Data) (ms : Members) → slice_cmp nat_cmp l k ≡ Less → IsBelow l ms → IsBelow l (put k d ms)
below_put l k d no_members a b = a
below_put l k d (member m e ms) a b = below_at (slice_cmp nat_cmp k m) l k m d e ms (put k d ms) a b

put_at : (o : Ordering) (k l : List ℕ) (d e : Data) (ms later : Members) → slice_cmp nat_cmp k l ≡ o → InOrder d → NamesInOrder (member l e ms)
    → (slice_cmp nat_cmp l k ≡ Less → IsBelow l later) → NamesInOrder later
    → NamesInOrder (match_ordering o (member k d (member l e ms)) (member l d ms) (member l e later))
put_at Less k l d e ms later is hd h b n = (is, (hd, h))
put_at Equal k l d e ms later is hd h b n = (h.0, (hd, h.1.1))
put_at Greater k l d e ms later is hd h b n =
    let under : slice_cmp nat_cmp l k ≡ Less = nat_list_cmp_total.antisymm l k ∙ ap ordering_reverse is in
    (b under, (h.1.0, n))

put_order : (k : List ℕ) (d : Data) (ms : Members) → InOrder d → NamesInOrder ms → NamesInOrder (put k d ms)
put_order k d no_members hd h = (tt, (hd, tt))
put_order k d (member l e ms) hd h =
    put_at (slice_cmp nat_cmp k l) k l d e ms (put k d ms) refl hd h (λ under. below_put l k d ms under h.0) (put_order k d ms hd h.1.1)

abbrev pick : {A : Type 0} → A → Option A → A
pick d None = d
pick d (Some a) = a

by_map : {A B : Type 0} (P : A → Type 0) (Q : B → Type 0) (f : A → B) → ((a : A) → P a → Q (f a)) → (o : Option A) → ((a : A) → o ≡ Some a → P a)
    → (b : B) → option_map f o ≡ Some b → Q b
by_map P Q f to None all b e = absurd (cc)
by_map P Q f to (Some a) all b e = subst Q (ap (pick (f a)) e) (to a (all a refl))

by_then : {A B : Type 0} (Q : B → Type 0) (f : A → Option B) (o : Option A) → ((a : A) → o ≡ Some a → (b : B) → f a ≡ Some b → Q b)
    → (b : B) → option_and_then f o ≡ Some b → Q b
by_then Q f None all b e = absurd (cc)
by_then Q f (Some a) all b e = all a refl b e

mutual
  ordered : (j : json.Json) (d : Data) → of_json j ≡ Some d → InOrder d
  ordered json.null d e = subst InOrder (ap (pick null) e) tt
  ordered (json.boolean b) d e = subst InOrder (ap (pick null) e) tt
  ordered (json.number s) d e = by_map (λ (n : Num). Unit {0}) InOrder number (λ n h. tt) (number_of s) (λ n h. tt) d e
  ordered (json.string s) d e = subst InOrder (ap (pick null) e) tt
  ordered (json.array js) d e = by_map AllInOrder InOrder array (λ ds h. h) (of_items js) (ordered_items js) d e
  ordered (json.object ms) d e = by_map NamesInOrder InOrder object (λ ns h. h) (of_members ms no_members) (ordered_members ms no_members tt) d e

  ordered_items : (js : json.Items) (ds : Items) → of_items js ≡ Some ds → AllInOrder ds
  ordered_items json.no_items ds e = subst AllInOrder (ap (pick no_items) e) tt
  ordered_items (json.item j js) ds e =
      by_then AllInOrder (λ d. option_map (item d) (of_items js)) (of_json j)
      (λ d is. by_map AllInOrder AllInOrder (item d) (λ rest h. (ordered j d is, h)) (of_items js) (ordered_items js)) ds e

  ordered_members : (js : json.Members) (found : Members) → NamesInOrder found → (ms : Members) → of_members js found ≡ Some ms → NamesInOrder ms
  ordered_members json.no_members found h ms e = subst NamesInOrder (ap (pick found) e) h
  ordered_members (json.member k j js) found h ms e =
      by_then NamesInOrder (λ d. of_members js (put k d found)) (of_json j)
      (λ d is. ordered_members js (put k d found) (put_order k d found (ordered j d is) h)) ms e

first_of : (k : List ℕ) (ms : Members) → IsBelow k ms → IsBefore k (items_in ms)
first_of k no_members h = tt
first_of k (member l d ms) h = h

ascend_in : (ms : Members) → NamesInOrder ms → Ascend (items_in ms)
ascend_in no_members h = tt
ascend_in (member k d ms) h = (first_of k ms h.0, ascend_in ms h.1.1)

pub ascend : (bytes : List ℕ) (items : List SetItem) → IsMessage bytes (Set items) → Ascend items
ascend bytes items (short, d, (utf8, text), (ms, is, same)) =
    let whole : InOrder d = by_then InOrder of_json (option_and_then (λ p. json.if_last p.0 p.1) (json.value max_depth (tokens bytes))) (λ j e. ordered j) d text in
    let inner = subst InOrder is whole in
    subst Ascend (sym same) (ascend_in ms inner.1.0)
