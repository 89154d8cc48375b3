-- Sizes, level by level.
use Rattle.std.proofs.Common.{◌≡◌, ℕ, ℤ, ◌<◌, ◌+◌, ◌/◌, Bool, List, [], ◌∷◌, length, take, get_or, arith, sym, ap, ◌∙◌, zero, suc, add-one}
use Rattle.py_value.specs.declared.types.Data.{Data}
use Rattle.py_value.specs.declared.kinds.Kind.{Kind}
use Rattle.py_value.specs.declared.types.Data.TheVariants as D
use Rattle.py_value.specs.declared.types.Data.TheVariants.{rolls-None, rolls-Bool, rolls-Int, rolls-Text, rolls-List, rolls-Tuple, rolls-Dict, rolls-Element, rolls-Html}
use Rattle.py_value.specs.declared.types.Data.TheFolds.{fold-Data, fold-roll-Data}
use Rattle.py_value.specs.declared.types.Value.{Value}
use Rattle.py_value.specs.View.{data_of, all_of, pairs_of}
use Rattle.py_value.specs.Size.{charge_step, charges_of, size_of, size_of_all, size_of_pairs, size_step}

pub size-None : size_of D.None ≡ 1
size-None = ap (fold-Data ℕ size_step) (sym rolls-None) ∙ fold-roll-Data ℕ size_step _

pub size-Bool : (b : Bool) → size_of (D.Bool b) ≡ 1
size-Bool b = ap (fold-Data ℕ size_step) (sym (rolls-Bool b)) ∙ fold-roll-Data ℕ size_step _

pub size-Int : (n : ℤ) → size_of (D.Int n) ≡ 1
size-Int n = ap (fold-Data ℕ size_step) (sym (rolls-Int n)) ∙ fold-roll-Data ℕ size_step _

pub size-Text : (t : List ℕ) → size_of (D.Text t) ≡ 1 + length t / 16
size-Text t = ap (fold-Data ℕ size_step) (sym (rolls-Text t)) ∙ fold-roll-Data ℕ size_step _

pub size-Html : (t : List ℕ) → size_of (D.Html t) ≡ 1 + length t / 16
size-Html t = ap (fold-Data ℕ size_step) (sym (rolls-Html t)) ∙ fold-roll-Data ℕ size_step _

pub size-List : (items : List Data) → size_of (D.List items) ≡ size_of_all items + 1
size-List items = ap (fold-Data ℕ size_step) (sym (rolls-List items)) ∙ fold-roll-Data ℕ size_step _

pub size-Tuple : (items : List Data) → size_of (D.Tuple items) ≡ size_of_all items + 1
size-Tuple items = ap (fold-Data ℕ size_step) (sym (rolls-Tuple items)) ∙ fold-roll-Data ℕ size_step _

pub size-Dict : (pairs : List (Data × Data)) → size_of (D.Dict pairs) ≡ size_of_pairs pairs + 1
size-Dict pairs = ap (fold-Data ℕ size_step) (sym (rolls-Dict pairs)) ∙ fold-roll-Data ℕ size_step _

pub size-Element : (kind : Kind) (name : List ℕ) (params : List (Data × Data)) (initial present : Data) → size_of (D.Element kind name params initial present) ≡ 1
size-Element kind name params initial present = ap (fold-Data ℕ size_step) (sym (rolls-Element kind name params initial present)) ∙ fold-roll-Data ℕ size_step _

size_next : (vs : List Value) (i : ℕ) (d : Value) → i < length vs → size_of_all (all_of (take (suc i) vs)) ≡ size_of_all (all_of (take i vs)) + size_of (data_of (get_or vs i d))
size_next [] i d h = omega arith
size_next (v ∷ vs) zero d h = omega arith
size_next (v ∷ vs) (suc i) d h = omega (arith, size_next vs i d (omega arith))

pub size_more : (vs : List Value) (i : ℕ) (d : Value) → i < length vs → size_of_all (all_of (take (i + 1) vs)) ≡ size_of_all (all_of (take i vs)) + size_of (data_of (get_or vs i d))
size_more vs i d h = rw add-one (size_next vs i d h)

size_pairs_next : (vs : List (Value × Value)) (i : ℕ) (d : Value × Value) → i < length vs → size_of_pairs (pairs_of (take (suc i) vs)) ≡ size_of_pairs (pairs_of (take i vs)) + (size_of (data_of (get_or vs i d).0) + size_of (data_of (get_or vs i d).1))
size_pairs_next [] i d h = omega arith
size_pairs_next (v ∷ vs) zero d h = omega arith
size_pairs_next (v ∷ vs) (suc i) d h = omega (arith, size_pairs_next vs i d (omega arith))

pub size_pairs_more : (vs : List (Value × Value)) (i : ℕ) (p : Value × Value) → i < length vs → p ≡ get_or vs i p → size_of_pairs (pairs_of (take (i + 1) vs)) ≡ size_of_pairs (pairs_of (take i vs)) + (size_of (data_of p.0) + size_of (data_of p.1))
size_pairs_more vs i p h e =
    rw add-one (size_pairs_next vs i p h)
    ∙ ap (λ (q : Value × Value). size_of_pairs (pairs_of (take i vs)) + (size_of (data_of q.0) + size_of (data_of q.1))) (sym e)

charges_next : (vs : List Value) (i : ℕ) (d : Value) → i < length vs → charges_of (take (suc i) vs) ≡ charges_of (take i vs) + charge_step (get_or vs i d) (size_of (data_of (get_or vs i d)))
charges_next [] i d h = omega arith
charges_next (v ∷ vs) zero d h = omega arith
charges_next (v ∷ vs) (suc i) d h = omega (arith, charges_next vs i d (omega arith))

pub charges_more : (vs : List Value) (i : ℕ) (d : Value) → i < length vs → charges_of (take (i + 1) vs) ≡ charges_of (take i vs) + charge_step (get_or vs i d) (size_of (data_of (get_or vs i d)))
charges_more vs i d h = rw add-one (charges_next vs i d h)

pub ruleset sizes = (size-None, size-Bool, size-Int, size-Text, size-Html, size-List, size-Tuple, size-Dict, size-Element, size_more)
