-- Look-up, insertion and removal in a map's entries, seen by the names of the entries.
use Rattle.std.proofs.Common.{◌≡◌, ℕ, Bool, true, false, cond, List, [], ◌∷◌, refl, sym, ap, ◌∙◌, not}
use Rattle.std.specs.Prelude.{string_bytes, String, Some, None}
use Rattle.std.specs.Str.{bytes_eq}
use Rattle.std.specs.String.{string_cmp}
use Rattle.std.specs.Ordering.{nat_cmp, match_ordering}
use Rattle.std.specs.Cmp.Lexicographic.{slice_cmp}
use Rattle.std.specs.declared.cmp.Ordering.{Ordering}
use Rattle.std.specs.declared.cmp.Ordering.TheVariants.{Less, Equal, Greater}
use Rattle.std.specs.declared.alloc.Global.{Global}
use Rattle.std.specs.Map.{lookup, remove_entry}
use Rattle.std.specs.BTreeMap.{is_at, insert_entry}
use Rattle.std.proofs.lemmas.Map.Text.{is_eq-slice_cmp}
use Rattle.std.proofs.lemmas.Slice.Eq.{bytes_eq-Decides}
use Rattle.py_value.specs.Maps.{Map, look_up, put, put_by, where_name}
use Rattle.py_value.specs.Named.{name_entries}

same_bytes : (xs ys : List ℕ) (a b : Bool) → a ≡ bytes_eq xs ys → b ≡ bytes_eq ys xs → a ≡ b
same_bytes xs ys true true p q = refl
same_bytes xs ys false false p q = refl
same_bytes xs ys true false p q =
    let back : bytes_eq ys xs ≡ true = (bytes_eq-Decides ys xs).1 (sym ((bytes_eq-Decides xs ys).0 (sym p))) in cc
same_bytes xs ys false true p q =
    let back : bytes_eq xs ys ≡ true = (bytes_eq-Decides xs ys).1 (sym ((bytes_eq-Decides ys xs).0 (sym q))) in cc

-- whether the key is found for the name
abbrev test : List ℕ → String Global → Bool
test name = is_at (λ k. slice_cmp nat_cmp name (string_bytes k))

test_is : (name : List ℕ) (k : String Global) → test name k ≡ bytes_eq (string_bytes k) name
test_is name k = is_eq-slice_cmp name (string_bytes k) ∙ same_bytes name (string_bytes k) _ _ refl refl

pub looked_up : {V : Type 0} (name : List ℕ) (es : List (String Global × V)) → lookup (test name) es ≡ look_up name (name_entries es)
looked_up name [] = refl
looked_up name (e ∷ es) = λ i. cond (test_is name e.0 i) (Some e.1) (looked_up name es i)

inserted_by : {V : Type 0} (o : Ordering) (k : String Global) (v : V) (e : String Global × V) (es later : List (String Global × V)) (after : Map V) →
    name_entries later ≡ after →
    name_entries (match_ordering o ((k, v) ∷ e ∷ es) ((e.0, v) ∷ es) (e ∷ later)) ≡ put_by o (string_bytes k) v (string_bytes e.0, e.1) (name_entries es) after
inserted_by Less k v e es later after h = refl
inserted_by Equal k v e es later after h = refl
inserted_by Greater k v e es later after h = λ i. (string_bytes e.0, e.1) ∷ h i

pub inserted : {V : Type 0} (k : String Global) (v : V) (es : List (String Global × V)) → name_entries (insert_entry string_cmp es k v) ≡ put (string_bytes k) v (name_entries es)
inserted k v [] = refl
inserted k v (e ∷ es) = inserted_by (string_cmp k e.0) k v e es _ _ (inserted k v es)

-- another name than this
abbrev other : List ℕ → List ℕ → Bool
other name x = not (bytes_eq x name)

absent_by : {V : Type 0} (b : Bool) (found : V) (name : List ℕ) (e : List ℕ × V) (es : Map V) → cond b (Some found) (look_up name es) ≡ None →
    (look_up name es ≡ None → where_name (other name) es ≡ es) → cond (not b) (e ∷ where_name (other name) es) (where_name (other name) es) ≡ e ∷ es
absent_by true found name e es h more = absurd (cc)
absent_by false found name e es h more = λ i. e ∷ more h i

absent : {V : Type 0} (name : List ℕ) (es : Map V) → look_up name es ≡ None → where_name (other name) es ≡ es
absent name [] h = refl
absent name (e ∷ es) h = absent_by (bytes_eq e.0 name) e.1 name e es h (absent name es)

removed_by : {V : Type 0} (b : Bool) (name : List ℕ) (e : String Global × V) (es later : List (String Global × V)) → test name e.0 ≡ b →
    (lookup (test name) later ≡ None → name_entries later ≡ where_name (other name) (name_entries es)) → lookup (test name) (cond b es (e ∷ later)) ≡ None →
    name_entries (cond b es (e ∷ later)) ≡ cond (not b) ((string_bytes e.0, e.1) ∷ where_name (other name) (name_entries es)) (where_name (other name) (name_entries es))
removed_by true name e es later is more h = sym (absent name (name_entries es) (sym (looked_up name es) ∙ h))
removed_by false name e es later is more h =
    let rest : lookup (test name) later ≡ None = sym (ap (λ b. cond b (Some e.1) (lookup (test name) later)) is) ∙ h in
    λ i. (string_bytes e.0, e.1) ∷ more rest i

removed_once : {V : Type 0} (name : List ℕ) (es : List (String Global × V)) → lookup (test name) (remove_entry (test name) es) ≡ None →
    name_entries (remove_entry (test name) es) ≡ where_name (other name) (name_entries es)
removed_once name [] h = refl
removed_once name (e ∷ es) h =
    removed_by (test name e.0) name e es (remove_entry (test name) es) refl (removed_once name es) h
    ∙ λ i. cond (not (test_is name e.0 i)) ((string_bytes e.0, e.1) ∷ where_name (other name) (name_entries es)) (where_name (other name) (name_entries es))

-- a name that isn't found any more after one entry is taken out
pub removed : {V : Type 0} (name : List ℕ) (es later : List (String Global × V)) → later ≡ remove_entry (test name) es → lookup (test name) later ≡ None →
    name_entries later ≡ where_name (other name) (name_entries es)
removed name es later is h = ap name_entries is ∙ removed_once name es (sym (ap (lookup (test name)) is) ∙ h)
