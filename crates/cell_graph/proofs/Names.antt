-- Names in lists of references, and names that were seen before.
use Rattle.std.proofs.Common.{◌≡◌, Bool, true, false, cond, ◌||◌, List, [], ◌∷◌, ◌++◌, filter, Bor, refl, sym, ap, ◌∙◌, append_assoc, if◌then◌else◌}
use Rattle.std.specs.List.{list_any}
use Rattle.std.specs.Str.{bytes_eq}
use Rattle.std.specs.Cmp.Lexicographic.{nat_list_eq_equiv}
use Rattle.std.proofs.lemmas.List.Folds.{list_any-append}
use Rattle.py_tree.specs.Names.{Name, is_among, first_seen_after}
use Rattle.cell_graph.specs.Texts.{texts}

pub same_either_way : (x y : Name) → bytes_eq x y ≡ bytes_eq y x
same_either_way x y = nat_list_eq_equiv.symm x y

-- a test of the names behind references
pub any_text : (q : Name) (ks : List (Bor Name)) → list_any (λ (k : Bor Name). bytes_eq q k.now) ks ≡ is_among q (texts ks)
any_text q [] = refl
any_text q (k ∷ ks) = λ i. same_either_way q k.now i || any_text q ks i

pub texts-append : (xs ys : List (Bor Name)) → texts (xs ++ ys) ≡ texts xs ++ texts ys
texts-append [] ys = refl
texts-append (x ∷ xs) ys = ap (λ rest. x.now ∷ rest) (texts-append xs ys)

text_kept : (b : Bool) (x : Bor Name) (us : List (Bor Name)) (vs : List Name) → texts us ≡ vs → texts (cond b (x ∷ us) us) ≡ cond b (x.now ∷ vs) vs
text_kept true x us vs e = ap (λ rest. x.now ∷ rest) e
text_kept false x us vs e = e

pub texts-filter : (p : Name → Bool) (xs : List (Bor Name)) → texts (filter (λ (r : Bor Name). p r.now) xs) ≡ filter p (texts xs)
texts-filter p [] = refl
texts-filter p (x ∷ xs) = text_kept (p x.now) x (filter (λ (r : Bor Name). p r.now) xs) (filter p (texts xs)) (texts-filter p xs)

-- only which names were seen matters, and not where they stand
pub seen_alike : (s t : List Name) → ((q : Name) → is_among q s ≡ is_among q t) → (xs : List Name) → first_seen_after s xs ≡ first_seen_after t xs
seen_alike s t h [] = refl
seen_alike s t h (x ∷ xs) = λ i. cond (h x i) (seen_alike s t h xs i) (x ∷ seen_alike (x ∷ s) (x ∷ t) (λ q. ap (λ b. bytes_eq x q || b) (h q)) xs i)

or_last : (a b : Bool) → (a || b) ≡ (b || (a || false))
or_last true true = refl
or_last true false = refl
or_last false true = refl
or_last false false = refl

-- a name that is seen goes last, or was seen before
pub seen_last : (s : List Name) (x : Name) (xs : List Name) → first_seen_after (x ∷ s) xs ≡ first_seen_after (s ++ x ∷ []) xs
seen_last s x xs = seen_alike (x ∷ s) (s ++ x ∷ []) (λ q. or_last (bytes_eq x q) (is_among q s) ∙ sym (list_any-append (λ y. bytes_eq y q) s (x ∷ []))) xs

-- a set of references after an insert, where these names are to follow
pub set_after_insert : (ks : List (Bor Name)) (k : Bor Name) (rest : List Name)
    → texts (if list_any (λ (o : Bor Name). bytes_eq k.now o.now) ks then ks else ks ++ k ∷ [])
    ++ first_seen_after (texts (if list_any (λ (o : Bor Name). bytes_eq k.now o.now) ks then ks else ks ++ k ∷ [])) rest
    ≡ texts ks ++ first_seen_after (texts ks) (k.now ∷ rest)
set_after_insert ks k rest = by (list_any (λ (o : Bor Name). bytes_eq k.now o.now) ks) (sym (any_text k.now ks))
  where
    by : (b : Bool) → is_among k.now (texts ks) ≡ b → texts (if b then ks else ks ++ k ∷ []) ++ first_seen_after (texts (if b then ks else ks ++ k ∷ [])) rest ≡ texts ks ++ first_seen_after (texts ks) (k.now ∷ rest)
    by true e = ap (λ b. texts ks ++ cond b (first_seen_after (texts ks) rest) (k.now ∷ first_seen_after (k.now ∷ texts ks) rest)) (sym e)
    by false e =
        ap (λ names. names ++ first_seen_after names rest) (texts-append ks (k ∷ []))
        ∙ append_assoc (texts ks) (k.now ∷ []) (first_seen_after (texts ks ++ k.now ∷ []) rest)
        ∙ ap (λ names. texts ks ++ k.now ∷ names) (sym (seen_last (texts ks) k.now rest))
        ∙ ap (λ b. texts ks ++ cond b (first_seen_after (texts ks) rest) (k.now ∷ first_seen_after (k.now ∷ texts ks) rest)) (sym e)

pub filter_alike : {X : Type 0} (f g : X → Bool) → ((x : X) → f x ≡ g x) → (xs : List X) → filter f xs ≡ filter g xs
filter_alike f g h [] = refl
filter_alike f g h (x ∷ xs) = λ i. cond (h x i) (x ∷ filter_alike f g h xs i) (filter_alike f g h xs i)
