-- The place of a key, and what stands there.
use Rattle.std.proofs.Common.{◌≡◌, ℕ, ◌<◌, ◌+◌, true, false, cond, List, [], ◌∷◌, ◌++◌, length, drop, get_or, set, arith, sym, ap, ◌∙◌, refl, suc, Option, Some, None}
use Rattle.std.specs.Option.{option_map}
use Rattle.std.proofs.lemmas.List.{drop_more, map-set}
use Rattle.std.proofs.Math.ListN.{get_or-map}
use Rattle.std.proofs.Math.Seq.{drop-length}
use Rattle.py_value.specs.declared.types.Data.{Data}
use Rattle.py_value.specs.declared.types.Value.{Value}
use Rattle.py_value.specs.declared.types.Value.TheVariants as V
use Rattle.py_value.specs.View.{data_of, pair_of, pairs_of}
use Rattle.py_value.specs.Eq.{eq_of}
use Rattle.py_value.specs.Dicts.{place_of, item_of, with_pair}
use Rattle.py_value.proofs.Equals.{pairs_long}

-- the place among the pairs from i on, counted from the first pair of all
abbrev pub place_from : Data → List (Value × Value) → ℕ → Option ℕ
place_from key vs i = option_map (λ n. i + n) (place_of key (pairs_of (drop i vs)))

place_step : (key : Data) (vs : List (Value × Value)) (i : ℕ) (d : Value × Value) → i < length vs → place_of key (pairs_of (drop i vs)) ≡ cond (eq_of key (data_of (get_or vs i d).0)) (Some 0) (option_map (λ n. suc n) (place_of key (pairs_of (drop (i + 1) vs))))
place_step key vs i d h = rw (drop_more vs i d h) refl

map_suc : (i : ℕ) (o : Option ℕ) → option_map (λ n. i + n) (option_map (λ n. suc n) o) ≡ option_map (λ n. (i + 1) + n) o
map_suc i None = refl
map_suc i (Some n) = let e : i + suc n ≡ (i + 1) + n = omega arith in ap (λ m. Some m) e

map_zero : (o : Option ℕ) → option_map (λ n. 0 + n) o ≡ o
map_zero None = refl
map_zero (Some n) = let e : 0 + n ≡ n = omega arith in ap (λ m. Some m) e

pub place_here : (key : Data) (vs : List (Value × Value)) (i : ℕ) (d : Value × Value) → i < length vs → eq_of key (data_of (get_or vs i d).0) ≡ true → place_from key vs i ≡ Some i
place_here key vs i d h e = rw (place_step key vs i d h, e) (let f : i + 0 ≡ i = omega arith in ap (λ m. Some m) f)

pub place_else : (key : Data) (vs : List (Value × Value)) (i : ℕ) (d : Value × Value) → i < length vs → eq_of key (data_of (get_or vs i d).0) ≡ false → place_from key vs i ≡ place_from key vs (i + 1)
place_else key vs i d h e = rw (place_step key vs i d h, e) (map_suc i _)

pub place_all : (key : Data) (vs : List (Value × Value)) → place_from key vs 0 ≡ place_of key (pairs_of vs)
place_all key vs = map_zero _

pub place_end : (key : Data) (vs : List (Value × Value)) (i : ℕ) → i ≡ length vs → place_from key vs i ≡ None
place_end key vs i h = rw (h, drop-length vs) refl

-- what a search for a key uses
pub ruleset places = (place_here, place_else, place_all, place_end)

unmap : (o : Option ℕ) (i : ℕ) → option_map (λ n. suc n) o ≡ Some i → (j : ℕ) × ((o ≡ Some j) × (i ≡ suc j))
unmap None i h = cc
unmap (Some j) i h = (j, (refl, cc))

unmap_none : (o : Option ℕ) → option_map (λ n. suc n) o ≡ None → o ≡ None
unmap_none None h = refl
unmap_none (Some j) h = cc

-- what is at the place of a key
record Found (key item : Data) (pairs : List (Data × Data)) (i : ℕ) (d : Data × Data) : Type 0 where
  pub within : i < length pairs
  pub item_is : item_of key pairs ≡ Some (get_or pairs i d).1
  pub put : with_pair key item pairs ≡ set pairs i ((get_or pairs i d).0, item)

found_next : (key item : Data) (p : Data × Data) (pairs : List (Data × Data)) (i j : ℕ) (d : Data × Data) → i ≡ suc j → eq_of key p.0 ≡ false → Found key item pairs j d → Found key item (p ∷ pairs) i d
found_next key item p pairs i j d e f r = rw e (record { within = omega (arith, r.within); item_is = rw f r.item_is; put = rw f (ap (λ (x : List (Data × Data)). p ∷ x) r.put) })

found_first : (key item : Data) (p : Data × Data) (pairs : List (Data × Data)) (i : ℕ) (d : Data × Data) → i ≡ 0 → eq_of key p.0 ≡ true → Found key item (p ∷ pairs) i d
found_first key item p pairs i d e f = rw e (record { within = omega arith; item_is = rw f refl; put = rw f refl })

found : (key item : Data) (pairs : List (Data × Data)) (i : ℕ) (d : Data × Data) → place_of key pairs ≡ Some i → Found key item pairs i d
found key item [] i d h = cc
found key item (p ∷ pairs) i d h =
    elim (eq_of key p.0) as (λ b. eq_of key p.0 ≡ b → cond b (Some 0) (option_map (λ n. suc n) (place_of key pairs)) ≡ Some i → Found key item (p ∷ pairs) i d) [
      | true ↦ λ f e. found_first key item p pairs i d (cc) f
      | false ↦ λ f e. let u = unmap (place_of key pairs) i e in found_next key item p pairs i u.0 d u.1.1 f (found key item pairs u.0 d u.1.0)
    ]
    refl h

-- what follows where a key has no place
record Absent (key item : Data) (pairs : List (Data × Data)) : Type 0 where
  pub item_is : item_of key pairs ≡ None
  pub put : with_pair key item pairs ≡ pairs ++ (key, item) ∷ []

absent : (key item : Data) (pairs : List (Data × Data)) → place_of key pairs ≡ None → Absent key item pairs
absent key item [] h = record { item_is = refl; put = refl }
absent key item (p ∷ pairs) h =
    elim (eq_of key p.0) as (λ b. eq_of key p.0 ≡ b → cond b (Some 0) (option_map (λ n. suc n) (place_of key pairs)) ≡ None → Absent key item (p ∷ pairs)) [
      | true ↦ λ f e. cc
      | false ↦ λ f e. let r = absent key item pairs (unmap_none _ e) in record { item_is = rw f r.item_is; put = rw f (ap (λ (x : List (Data × Data)). p ∷ x) r.put) }
    ]
    refl h

pub found_item : (key : Data) (vs : List (Value × Value)) (i : ℕ) (d : Value × Value) → place_of key (pairs_of vs) ≡ Some i → item_of key (pairs_of vs) ≡ Some (data_of (get_or vs i d).1)
found_item key vs i d h = (found key key (pairs_of vs) i (pair_of d) h).item_is ∙ ap (λ (p : Data × Data). Some p.1) (get_or-map pair_of vs i d)

pub found_within : (key : Data) (vs : List (Value × Value)) (i : ℕ) → place_of key (pairs_of vs) ≡ Some i → i < length vs
found_within key vs i h = omega (arith, (found key key (pairs_of vs) i (key, key) h).within, pairs_long vs)

pub absent_item : (key : Data) (vs : List (Value × Value)) → place_of key (pairs_of vs) ≡ None → item_of key (pairs_of vs) ≡ None
absent_item key vs h = (absent key key (pairs_of vs) h).item_is

-- what a look-up uses
pub ruleset looks = (found_item, found_within, absent_item)

-- the pairs after the item of a key that is there was replaced
pub put_found : (key : Data) (item : Value) (vs ws : List (Value × Value)) (i : ℕ) → place_of key (pairs_of vs) ≡ Some i → ((d : Value × Value) → ws ≡ set vs i ((get_or vs i d).0, item)) → pairs_of ws ≡ with_pair key (data_of item) (pairs_of vs)
put_found key item vs ws i h e =
    let d : Value × Value = (V.None, V.None) in
    ap pairs_of (e d)
    ∙ map-set pair_of vs i _
    ∙ sym ((found key (data_of item) (pairs_of vs) i (pair_of d) h).put ∙ ap (λ (p : Data × Data). set (pairs_of vs) i (p.0, data_of item)) (get_or-map pair_of vs i d))

pairs_of-append : (vs ws : List (Value × Value)) → pairs_of (vs ++ ws) ≡ pairs_of vs ++ pairs_of ws
pairs_of-append [] ws = refl
pairs_of-append (v ∷ vs) ws = ap (λ (x : List (Data × Data)). pair_of v ∷ x) (pairs_of-append vs ws)

-- the pairs after a key that wasn't there was added
pub put_absent : (key item : Value) (vs ws : List (Value × Value)) → place_of (data_of key) (pairs_of vs) ≡ None → ws ≡ vs ++ (key, item) ∷ [] → pairs_of ws ≡ with_pair (data_of key) (data_of item) (pairs_of vs)
put_absent key item vs ws h e = ap pairs_of e ∙ pairs_of-append vs ((key, item) ∷ []) ∙ sym (absent (data_of key) (data_of item) (pairs_of vs) h).put

-- what setting a pair uses
pub ruleset puts = (found_within, put_found, put_absent)
