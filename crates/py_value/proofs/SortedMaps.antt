-- Maps whose names rise: what `put` and `where_name` do to their look-ups, that both keep the order, and that two such maps with the
-- same look-ups are the same.
use Rattle.std.proofs.Common.{◌≡◌, ◌∙◌, refl, sym, ap, subst, ℕ, Bool, true, false, cond, List, [], ◌∷◌, Option, Some, None}
use Rattle.std.specs.Str.{bytes_eq}
use Rattle.std.specs.Cmp.Lexicographic.{slice_cmp}
use Rattle.std.specs.Ordering.{nat_cmp, is_eq, ordering_reverse}
use Rattle.std.specs.declared.cmp.Ordering.{Ordering}
use Rattle.std.specs.declared.cmp.Ordering.TheVariants.{Less, Equal, Greater}
use Rattle.std.proofs.lemmas.Cmp.{nat_list_cmp_total}
use Rattle.std.proofs.lemmas.Map.Lookups.{exact_bytes}
use Rattle.std.proofs.lemmas.Map.Text.{is_eq-slice_cmp}
use Rattle.std.proofs.lemmas.Option.{none-some, same_Some}
use Rattle.std.proofs.lemmas.Slice.Eq.{bytes_eq-Decides}
use Rattle.py_value.specs.Maps.{Map, look_up, put, put_by, where_name, IsBelow, IsSortedMap}

-- ---- names that differ

apart_by : (x y : List ℕ) (o : Ordering) → slice_cmp nat_cmp x y ≡ o → is_eq o ≡ false → bytes_eq x y ≡ false
apart_by x y o h off = sym (is_eq-slice_cmp x y) ∙ ap is_eq h ∙ off

turned : (x y : List ℕ) (o : Ordering) → slice_cmp nat_cmp x y ≡ o → slice_cmp nat_cmp y x ≡ ordering_reverse o
turned x y o h = nat_list_cmp_total.antisymm y x ∙ ap ordering_reverse h

pub same_name : (x y : List ℕ) → x ≡ y → bytes_eq x y ≡ true
same_name x y = (bytes_eq-Decides x y).1

pub name_of : (x y : List ℕ) → bytes_eq x y ≡ true → x ≡ y
name_of x y = (bytes_eq-Decides x y).0

-- ---- look-ups at the first entry

first_found : {V : Type 0} (x : List ℕ) (e : List ℕ × V) (es : Map V) → bytes_eq e.0 x ≡ true → look_up x (e ∷ es) ≡ Some e.1
first_found x e es h = ap (λ b. cond b (Some e.1) (look_up x es)) h

first_passed : {V : Type 0} (x : List ℕ) (e : List ℕ × V) (es : Map V) → bytes_eq e.0 x ≡ false → look_up x (e ∷ es) ≡ look_up x es
first_passed x e es h = ap (λ b. cond b (Some e.1) (look_up x es)) h

-- ---- look-ups after a value is put

put_found : {V : Type 0} (o : Ordering) (x : List ℕ) (v : V) (e : List ℕ × V) (es later : Map V) → slice_cmp nat_cmp x e.0 ≡ o
    → look_up x later ≡ Some v → look_up x (put_by o x v e es later) ≡ Some v
put_found Less x v e es later is h = first_found x (x, v) (e ∷ es) (same_name x x refl)
put_found Equal x v e es later is h = first_found x (e.0, v) es (same_name e.0 x (sym (exact_bytes x e.0 is)))
put_found Greater x v e es later is h = first_passed x e later (apart_by e.0 x Less (turned x e.0 Greater is) refl) ∙ h

-- the value that was put
pub look_up-put : {V : Type 0} (x : List ℕ) (v : V) (m : Map V) → look_up x (put x v m) ≡ Some v
look_up-put x v [] = first_found x (x, v) [] (same_name x x refl)
look_up-put x v (e ∷ es) = put_found (slice_cmp nat_cmp x e.0) x v e es (put x v es) refl (look_up-put x v es)

put_passed : {V : Type 0} (o : Ordering) (x y : List ℕ) (v : V) (e : List ℕ × V) (es later : Map V) → slice_cmp nat_cmp x e.0 ≡ o
    → bytes_eq x y ≡ false → look_up y later ≡ look_up y es → look_up y (put_by o x v e es later) ≡ look_up y (e ∷ es)
put_passed Less x y v e es later is off h = first_passed y (x, v) (e ∷ es) off
put_passed Equal x y v e es later is off h =
    let apart : bytes_eq e.0 y ≡ false = ap (λ n. bytes_eq n y) (sym (exact_bytes x e.0 is)) ∙ off in
    first_passed y (e.0, v) es apart ∙ sym (first_passed y e es apart)
put_passed Greater x y v e es later is off h = ap (cond (bytes_eq e.0 y) (Some e.1)) h

-- another name has what it had
pub look_up-put_other : {V : Type 0} (x y : List ℕ) (v : V) (m : Map V) → bytes_eq x y ≡ false → look_up y (put x v m) ≡ look_up y m
look_up-put_other x y v [] off = first_passed y (x, v) [] off
look_up-put_other x y v (e ∷ es) off =
    put_passed (slice_cmp nat_cmp x e.0) x y v e es (put x v es) refl off (look_up-put_other x y v es off)

-- ---- look-ups in the entries that pass a test

chosen_by : {V : Type 0} (t b : Bool) (p : List ℕ → Bool) (x : List ℕ) (e : List ℕ × V) (es : Map V) → p e.0 ≡ t → bytes_eq e.0 x ≡ b
    → look_up x (where_name p es) ≡ cond (p x) (look_up x es) None
    → look_up x (cond t (e ∷ where_name p es) (where_name p es)) ≡ cond (p x) (cond b (Some e.1) (look_up x es)) None
chosen_by true true p x e es on is h =
    let passes : p x ≡ true = ap p (sym (name_of e.0 x is)) ∙ on in
    first_found x e (where_name p es) is ∙ sym (ap (λ c. cond c (Some e.1) None) passes)
chosen_by true false p x e es on is h = first_passed x e (where_name p es) is ∙ h
chosen_by false true p x e es on is h =
    let fails : p x ≡ false = ap p (sym (name_of e.0 x is)) ∙ on in
    h ∙ ap (λ c. cond c (look_up x es) None) fails ∙ sym (ap (λ c. cond c (Some e.1) None) fails)
chosen_by false false p x e es on is h = h

either_none : {V : Type 0} (b : Bool) (o : Option V) → o ≡ None → o ≡ cond b o None
either_none true o h = refl
either_none false o h = h

-- the entry of a name that passes the test
pub look_up-where_name : {V : Type 0} (p : List ℕ → Bool) (x : List ℕ) (m : Map V) → look_up x (where_name p m) ≡ cond (p x) (look_up x m) None
look_up-where_name p x [] = either_none (p x) None refl
look_up-where_name p x (e ∷ es) = chosen_by (p e.0) (bytes_eq e.0 x) p x e es refl refl (look_up-where_name p x es)

pub look_up-where_on : {V : Type 0} (p : List ℕ → Bool) (x : List ℕ) (m : Map V) → p x ≡ true → look_up x (where_name p m) ≡ look_up x m
look_up-where_on p x m on = look_up-where_name p x m ∙ ap (λ b. cond b (look_up x m) None) on

pub look_up-where_off : {V : Type 0} (p : List ℕ → Bool) (x : List ℕ) (m : Map V) → p x ≡ false → look_up x (where_name p m) ≡ None
look_up-where_off p x m off = look_up-where_name p x m ∙ ap (λ b. cond b (look_up x m) None) off

-- a name without an entry
pub look_up-where_none : {V : Type 0} (p : List ℕ → Bool) (x : List ℕ) (m : Map V) → look_up x m ≡ None → look_up x (where_name p m) ≡ None
look_up-where_none p x m h = look_up-where_name p x m ∙ ap (λ o. cond (p x) o None) h ∙ sym (either_none (p x) None refl)

-- ---- the order is kept

below_rest : {V : Type 0} (x : List ℕ) (e : List ℕ × V) (es : Map V) → slice_cmp nat_cmp x e.0 ≡ Less → IsBelow e.0 es → IsBelow x es
below_rest x e [] h s = tt
below_rest x e (f ∷ fs) h s = nat_list_cmp_total.trans x e.0 f.0 h s

below_put_by : {V : Type 0} (o : Ordering) (y x : List ℕ) (v : V) (e : List ℕ × V) (es later : Map V) → slice_cmp nat_cmp y x ≡ Less
    → slice_cmp nat_cmp y e.0 ≡ Less → IsBelow y (put_by o x v e es later)
below_put_by Less y x v e es later h k = h
below_put_by Equal y x v e es later h k = k
below_put_by Greater y x v e es later h k = k

below_put : {V : Type 0} (y x : List ℕ) (v : V) (m : Map V) → slice_cmp nat_cmp y x ≡ Less → IsBelow y m → IsBelow y (put x v m)
below_put y x v [] h k = h
below_put y x v (e ∷ es) h k = below_put_by (slice_cmp nat_cmp x e.0) y x v e es (put x v es) h k

sorted_put_by : {V : Type 0} (o : Ordering) (x : List ℕ) (v : V) (e : List ℕ × V) (es : Map V) → slice_cmp nat_cmp x e.0 ≡ o
    → IsSortedMap (e ∷ es) → IsSortedMap (put x v es) → IsSortedMap (put_by o x v e es (put x v es))
sorted_put_by Less x v e es is s h = (is, s)
sorted_put_by Equal x v e es is s h = s
sorted_put_by Greater x v e es is s h = (below_put e.0 x v es (turned x e.0 Greater is) s.0, h)

pub sorted_put : {V : Type 0} (x : List ℕ) (v : V) (m : Map V) → IsSortedMap m → IsSortedMap (put x v m)
sorted_put x v [] s = (tt, tt)
sorted_put x v (e ∷ es) s = sorted_put_by (slice_cmp nat_cmp x e.0) x v e es refl s (sorted_put x v es s.1)

below_where : {V : Type 0} (p : List ℕ → Bool) (x : List ℕ) (m : Map V) → IsBelow x m → IsSortedMap m → IsBelow x (where_name p m)
below_where p x [] h s = tt
below_where p x (e ∷ es) h s =
    elim (p e.0) as (λ b. IsBelow x (cond b (e ∷ where_name p es) (where_name p es)))
    [ true ↦ h | false ↦ below_where p x es (below_rest x e es h s.0) s.1 ]

pub sorted_where_name : {V : Type 0} (p : List ℕ → Bool) (m : Map V) → IsSortedMap m → IsSortedMap (where_name p m)
sorted_where_name p [] s = tt
sorted_where_name p (e ∷ es) s =
    elim (p e.0) as (λ b. IsSortedMap (cond b (e ∷ where_name p es) (where_name p es)))
    [ true ↦ (below_where p e.0 es s.0 s.1, sorted_where_name p es s.1) | false ↦ sorted_where_name p es s.1 ]

-- ---- look-ups determine the map

-- a name that is less than all names isn't found
unbound_below : {V : Type 0} (x : List ℕ) (m : Map V) → IsBelow x m → IsSortedMap m → look_up x m ≡ None
unbound_below x [] h s = refl
unbound_below x (e ∷ es) h s =
    first_passed x e es (apart_by e.0 x Greater (turned x e.0 Less h) refl) ∙ unbound_below x es (below_rest x e es h s.0) s.1

-- the first name of one map can't be less than all names of the other
no_less : {V : Type 0} (e : List ℕ × V) (es n : Map V) → IsBelow e.0 n → IsSortedMap n → look_up e.0 (e ∷ es) ≡ look_up e.0 n → ⊥
no_less e es n h s same = none-some e.1 (sym (unbound_below e.0 n h s) ∙ sym same ∙ first_found e.0 e es (same_name e.0 e.0 refl))

-- look-ups in what follows the first entries
later_same : {V : Type 0} (b : Bool) (e f : List ℕ × V) (es fs : Map V) (x : List ℕ) → bytes_eq e.0 x ≡ b → e.0 ≡ f.0
    → IsSortedMap (e ∷ es) → IsSortedMap (f ∷ fs) → look_up x (e ∷ es) ≡ look_up x (f ∷ fs) → look_up x es ≡ look_up x fs
later_same true e f es fs x is same s t h =
    let here : e.0 ≡ x = name_of e.0 x is in
    let left : look_up x es ≡ None = unbound_below x es (subst (λ y. IsBelow y es) here s.0) s.1 in
    let right : look_up x fs ≡ None = unbound_below x fs (subst (λ y. IsBelow y fs) (sym same ∙ here) t.0) t.1 in
    left ∙ sym right
later_same false e f es fs x off same s t h =
    sym (first_passed x e es off) ∙ h ∙ first_passed x f fs (ap (λ n. bytes_eq n x) (sym same) ∙ off)

same_first : {V : Type 0} (e f : List ℕ × V) (es fs : Map V) → e.0 ≡ f.0 → look_up e.0 (e ∷ es) ≡ look_up e.0 (f ∷ fs) → e.1 ≡ f.1
same_first e f es fs same h =
    same_Some e.1 f.1 (sym (first_found e.0 e es (same_name e.0 e.0 refl)) ∙ h ∙ first_found e.0 f fs (same_name f.0 e.0 (sym same)))

joined_by : {V : Type 0} (o : Ordering) (e f : List ℕ × V) (es fs : Map V) → slice_cmp nat_cmp e.0 f.0 ≡ o → IsSortedMap (e ∷ es)
    → IsSortedMap (f ∷ fs) → ((x : List ℕ) → look_up x (e ∷ es) ≡ look_up x (f ∷ fs))
    → (((x : List ℕ) → look_up x es ≡ look_up x fs) → es ≡ fs) → e ∷ es ≡ f ∷ fs
joined_by Less e f es fs is s t h rest = absurd (no_less e es (f ∷ fs) is t (h e.0))
joined_by Greater e f es fs is s t h rest = absurd (no_less f fs (e ∷ es) (turned e.0 f.0 Greater is) s (sym (h f.0)))
joined_by Equal e f es fs is s t h rest =
    let name : e.0 ≡ f.0 = exact_bytes e.0 f.0 is in
    let found : e.1 ≡ f.1 = same_first e f es fs name (h e.0) in
    let more : es ≡ fs = rest (λ x. later_same (bytes_eq e.0 x) e f es fs x refl name s t (h x)) in
    λ i. (name i, found i) ∷ more i

-- sorted maps that have the same at every name are the same
pub same_maps : {V : Type 0} (m n : Map V) → IsSortedMap m → IsSortedMap n → ((x : List ℕ) → look_up x m ≡ look_up x n) → m ≡ n
same_maps [] [] s t h = refl
same_maps [] (f ∷ fs) s t h = absurd (no_less f fs [] tt tt (sym (h f.0)))
same_maps (e ∷ es) [] s t h = absurd (no_less e es [] tt tt (h e.0))
same_maps (e ∷ es) (f ∷ fs) s t h =
    joined_by (slice_cmp nat_cmp e.0 f.0) e f es fs refl s t h (same_maps es fs s.1 t.1)
