-- Names in a set of references.
use Rattle.std.proofs.Common.{◌≡◌, Bool, true, false, cond, ◌||◌, List, [], ◌∷◌, map, Bor, refl, sym, ◌∙◌}
use Rattle.std.specs.BTreeMap.{is_at}
use Rattle.std.specs.BTreeSet.{BTreeSet, Updates}
use Rattle.std.specs.Cmp.Lexicographic.{slice_cmp, nat_list_eq_equiv}
use Rattle.std.specs.List.{list_any}
use Rattle.std.specs.Ordering.{nat_cmp}
use Rattle.std.specs.Str.{bytes_eq}
use Rattle.std.proofs.lemmas.Map.Text.{is_eq-slice_cmp}
use Rattle.py_tree.specs.Names.{Name, is_among}

-- the names behind references
abbrev pub names_of : List (Bor Name) → List Name
names_of = map (λ (r : Bor Name). r.now)

-- the test of one reference is that of its name
same_name : (x : Name) (k : Bor Name) → is_at (λ (r : Bor Name). slice_cmp nat_cmp x r.now) k ≡ bytes_eq k.now x
same_name x k = is_eq-slice_cmp x k.now ∙ nat_list_eq_equiv.symm x k.now

-- looking a name up
pub has_name : (x : Name) (ks : List (Bor Name)) → list_any (is_at (λ (r : Bor Name). slice_cmp nat_cmp x r.now)) ks ≡ is_among x (names_of ks)
has_name x [] = refl
has_name x (k ∷ ks) = λ i. same_name x k i || has_name x ks i

kept_or_added : (b c : Bool) → cond b true c ≡ (c || b)
kept_or_added true true = refl
kept_or_added true false = refl
kept_or_added false true = refl
kept_or_added false false = refl

-- the names after an insert
pub name_added : (s n : BTreeSet (Bor Name)) (k : Bor Name) → Updates (λ (x y : Bor Name). slice_cmp nat_cmp x.now y.now) s n k true → (x : Name)
    → is_among x (names_of n.keys) ≡ (is_among x (names_of s.keys) || bytes_eq k.now x)
name_added s n k u x =
    let q : Bor Name = record { ref_ptr = (0, 0); now = x } in
    sym (has_name x n.keys) ∙ (u.0 q
    ∙ ((λ i. cond (is_eq-slice_cmp k.now x i) true (has_name x s.keys i)) ∙ kept_or_added (bytes_eq k.now x) (is_among x (names_of s.keys))))
