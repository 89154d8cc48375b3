-- Python's equality, level by level.
use Rattle.std.proofs.Common.{◌≡◌, ℕ, ℤ, ◌<◌, ◌+◌, ◌==◌, ◌&&◌, ◌||◌, Bool, true, false, List, [], ◌∷◌, map, length, drop, get_or, arith, sym, ap, ◌∙◌, refl}
use Rattle.std.proofs.lemmas.Bool.{and_parts}
use Rattle.std.proofs.lemmas.Bool.Decides.{nat_tests}
use Rattle.std.proofs.lemmas.List.{drop_more}
use Rattle.py_value.specs.declared.types.Data.{Data}
use Rattle.py_value.specs.declared.kinds.Kind.{Kind}
use Rattle.py_value.specs.declared.types.Data.TheOpen.{Data-F}
use Rattle.py_value.specs.declared.types.Data.TheVariants as D
use Rattle.py_value.specs.declared.types.Data.TheVariants.{rolls-None, rolls-Bool, rolls-Int, rolls-Text, rolls-List, rolls-Tuple, rolls-Dict, rolls-Element, rolls-Html}
use Rattle.py_value.specs.declared.types.Data.TheFolds.{fold-roll-Data}
use Rattle.py_value.specs.declared.types.Value.{Value}
use Rattle.py_value.specs.declared.types.Value.TheVariants as V
use Rattle.py_value.specs.View.{data_of, all_of, pair_of, pairs_of}
use Rattle.py_value.specs.Whole.{bit, number_of}
use Rattle.py_value.specs.Eq.{number_eq, eq_of, eq_step, eq_level, each_eq, each_passes, one_passes, all_pass, has_pair, pairs_in}
use Rattle.py_value.proofs.Levels.{value_of-data_of}

-- the tests of the items' equality tell what equality tells
each : (cs ds : List Data) → each_passes (map eq_of cs) ds ≡ each_eq cs ds
each [] [] = refl
each [] (d ∷ ds) = refl
each (c ∷ cs) [] = refl
each (c ∷ cs) (d ∷ ds) = ap (λ x. eq_of c d && x) (each cs ds)

abbrev tests : Data × Data → (Data → Bool) × (Data → Bool)
tests p = (eq_of p.0, eq_of p.1)

one : (p : Data × Data) (qs : List (Data × Data)) → one_passes (tests p) qs ≡ has_pair p qs
one p [] = refl
one p (q ∷ qs) = ap (λ x. (eq_of p.0 q.0 && eq_of p.1 q.1) || x) (one p qs)

all : (ps qs : List (Data × Data)) → all_pass (map tests ps) qs ≡ pairs_in ps qs
all [] qs = refl
all (p ∷ ps) qs = ap (λ x. x && all_pass (map tests ps) qs) (one p qs) ∙ ap (λ x. has_pair p qs && x) (all ps qs)

tests_long : (ps : List (Data × Data)) → length (map tests ps) ≡ length ps
tests_long [] = refl
tests_long (p ∷ ps) = omega (arith, tests_long ps)

at : (x : Data-F (Data → Bool)) (v : Value) → eq_step x (data_of v) ≡ eq_level x v
at x v = ap (eq_level x) (value_of-data_of v)

pub eq-None : (v : Value) → eq_of D.None (data_of v) ≡ eq_level Data-F.None v
eq-None v = ap (λ (d : Data). eq_of d (data_of v)) (sym rolls-None) ∙ ap (λ (f : Data → Bool). f (data_of v)) (fold-roll-Data (Data → Bool) eq_step _) ∙ at Data-F.None v

pub eq-Bool : (b : Bool) (v : Value) → eq_of (D.Bool b) (data_of v) ≡ number_eq (bit b) (number_of v)
eq-Bool b v = ap (λ (d : Data). eq_of d (data_of v)) (sym (rolls-Bool b)) ∙ ap (λ (f : Data → Bool). f (data_of v)) (fold-roll-Data (Data → Bool) eq_step _) ∙ at (Data-F.Bool b) v

pub eq-Int : (n : ℤ) (v : Value) → eq_of (D.Int n) (data_of v) ≡ number_eq n (number_of v)
eq-Int n v = ap (λ (d : Data). eq_of d (data_of v)) (sym (rolls-Int n)) ∙ ap (λ (f : Data → Bool). f (data_of v)) (fold-roll-Data (Data → Bool) eq_step _) ∙ at (Data-F.Int n) v

pub eq-Text : (t : List ℕ) (v : Value) → eq_of (D.Text t) (data_of v) ≡ eq_level (Data-F.Text t) v
eq-Text t v = ap (λ (d : Data). eq_of d (data_of v)) (sym (rolls-Text t)) ∙ ap (λ (f : Data → Bool). f (data_of v)) (fold-roll-Data (Data → Bool) eq_step _) ∙ at (Data-F.Text t) v

pub eq-Html : (t : List ℕ) (v : Value) → eq_of (D.Html t) (data_of v) ≡ false
eq-Html t v = ap (λ (d : Data). eq_of d (data_of v)) (sym (rolls-Html t)) ∙ ap (λ (f : Data → Bool). f (data_of v)) (fold-roll-Data (Data → Bool) eq_step _) ∙ at (Data-F.Html t) v

pub eq-Element : (kind : Kind) (name : List ℕ) (params : List (Data × Data)) (initial present : Data) (v : Value) → eq_of (D.Element kind name params initial present) (data_of v) ≡ false
eq-Element kind name params initial present v =
    ap (λ (d : Data). eq_of d (data_of v)) (sym (rolls-Element kind name params initial present))
    ∙ ap (λ (f : Data → Bool). f (data_of v)) (fold-roll-Data (Data → Bool) eq_step _)
    ∙ at (Data-F.Element kind name (map tests params) (eq_of initial) (eq_of present)) v

pub eq-List : (cs : List Data) (v : Value) → eq_of (D.List cs) (data_of v) ≡ eq_level (Data-F.List (map eq_of cs)) v
eq-List cs v = ap (λ (d : Data). eq_of d (data_of v)) (sym (rolls-List cs)) ∙ ap (λ (f : Data → Bool). f (data_of v)) (fold-roll-Data (Data → Bool) eq_step _) ∙ at (Data-F.List (map eq_of cs)) v

pub eq-List-List : (cs ds : List Data) → eq_of (D.List cs) (D.List ds) ≡ each_eq cs ds
eq-List-List cs ds = eq-List cs (V.List ds) ∙ each cs ds

pub eq-Tuple : (cs : List Data) (v : Value) → eq_of (D.Tuple cs) (data_of v) ≡ eq_level (Data-F.Tuple (map eq_of cs)) v
eq-Tuple cs v = ap (λ (d : Data). eq_of d (data_of v)) (sym (rolls-Tuple cs)) ∙ ap (λ (f : Data → Bool). f (data_of v)) (fold-roll-Data (Data → Bool) eq_step _) ∙ at (Data-F.Tuple (map eq_of cs)) v

pub eq-Tuple-Tuple : (cs ds : List Data) → eq_of (D.Tuple cs) (D.Tuple ds) ≡ each_eq cs ds
eq-Tuple-Tuple cs ds = eq-Tuple cs (V.Tuple ds) ∙ each cs ds

pub eq-Dict : (ps : List (Data × Data)) (v : Value) → eq_of (D.Dict ps) (data_of v) ≡ eq_level (Data-F.Dict (map tests ps)) v
eq-Dict ps v = ap (λ (d : Data). eq_of d (data_of v)) (sym (rolls-Dict ps)) ∙ ap (λ (f : Data → Bool). f (data_of v)) (fold-roll-Data (Data → Bool) eq_step _) ∙ at (Data-F.Dict (map tests ps)) v

eq-Dict-Dict : (ps qs : List (Data × Data)) → eq_of (D.Dict ps) (D.Dict qs) ≡ ((length ps == length qs) && pairs_in ps qs)
eq-Dict-Dict ps qs = eq-Dict ps (V.Dict qs) ∙ ap (λ n. (n == length qs) && all_pass (map tests ps) qs) (tests_long ps) ∙ ap (λ x. (length ps == length qs) && x) (all ps qs)

each_eq_long : (cs ds : List Data) → each_eq cs ds ≡ true → length cs ≡ length ds
each_eq_long [] [] h = refl
each_eq_long [] (d ∷ ds) h = cc
each_eq_long (c ∷ cs) [] h = cc
each_eq_long (c ∷ cs) (d ∷ ds) h = omega (arith, each_eq_long cs ds (and_parts (eq_of c d) (each_eq cs ds) h).1)

pub all_long : (vs : List Value) → length (all_of vs) ≡ length vs
all_long [] = refl
all_long (v ∷ vs) = omega (arith, all_long vs)

pub pairs_long : (vs : List (Value × Value)) → length (pairs_of vs) ≡ length vs
pairs_long [] = refl
pairs_long (v ∷ vs) = omega (arith, pairs_long vs)

-- lists of other lengths aren't equal
pub others_long : (vs ws : List Value) → (length vs ≡ length ws → ⊥) → each_eq (all_of vs) (all_of ws) ≡ false
others_long vs ws h =
    elim (each_eq (all_of vs) (all_of ws)) as (λ b. each_eq (all_of vs) (all_of ws) ≡ b → b ≡ false) [
      | true ↦ λ e. absurd (h (omega (arith, each_eq_long (all_of vs) (all_of ws) e, all_long vs, all_long ws)))
      | false ↦ λ e. refl
    ]
    refl

-- the items from i on are equal where the first ones are and those after them
pub each_eq_step : (vs ws : List Value) (i : ℕ) (d e : Value) → i < length vs → i < length ws → each_eq (all_of (drop i vs)) (all_of (drop i ws)) ≡ (eq_of (data_of (get_or vs i d)) (data_of (get_or ws i e)) && each_eq (all_of (drop (i + 1) vs)) (all_of (drop (i + 1) ws)))
each_eq_step vs ws i d e h k = rw (drop_more vs i d h, drop_more ws i e k) refl

pub pairs_in_step : (vs : List (Value × Value)) (qs : List (Data × Data)) (i : ℕ) (d : Value × Value) → i < length vs → pairs_in (pairs_of (drop i vs)) qs ≡ (has_pair (pair_of (get_or vs i d)) qs && pairs_in (pairs_of (drop (i + 1) vs)) qs)
pairs_in_step vs qs i d h = rw (drop_more vs i d h) refl

pub has_pair_step : (p : Data × Data) (vs : List (Value × Value)) (i : ℕ) (d : Value × Value) → i < length vs → has_pair p (pairs_of (drop i vs)) ≡ ((eq_of p.0 (data_of (get_or vs i d).0) && eq_of p.1 (data_of (get_or vs i d).1)) || has_pair p (pairs_of (drop (i + 1) vs)))
has_pair_step p vs i d h = rw (drop_more vs i d h) refl

if_same : (m n : ℕ) (x : Bool) → m ≡ n → ((m == n) && x) ≡ x
if_same m n x h = grind (arith, nat_tests)

if_other : (m n : ℕ) (x : Bool) → (m ≡ n → ⊥) → ((m == n) && x) ≡ false
if_other m n x h = grind (arith, nat_tests)

pub dicts_alike : (vs ws : List (Value × Value)) → length vs ≡ length ws → eq_of (D.Dict (pairs_of vs)) (D.Dict (pairs_of ws)) ≡ pairs_in (pairs_of vs) (pairs_of ws)
dicts_alike vs ws h = let e : length (pairs_of vs) ≡ length (pairs_of ws) = omega (arith, pairs_long vs, pairs_long ws) in eq-Dict-Dict _ _ ∙ if_same _ _ _ e

pub dicts_other : (vs ws : List (Value × Value)) → (length vs ≡ length ws → ⊥) → eq_of (D.Dict (pairs_of vs)) (D.Dict (pairs_of ws)) ≡ false
dicts_other vs ws h = let f : length (pairs_of vs) ≡ length (pairs_of ws) → ⊥ = λ e. h (omega (arith, e, pairs_long vs, pairs_long ws)) in eq-Dict-Dict _ _ ∙ if_other _ _ _ f

-- what the proof of equality uses
pub ruleset equals = (others_long, dicts_alike, dicts_other, each_eq_step, pairs_in_step, has_pair_step, eq-None, eq-Bool, eq-Int, eq-Text, eq-Html, eq-Element, eq-List-List, eq-Tuple-Tuple, eq-List, eq-Tuple, eq-Dict)
