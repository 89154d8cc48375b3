-- Why values can't be keys, level by level, and that setting a pair keeps the keys keys.
use Rattle.std.proofs.Common.{◌≡◌, ℕ, ℤ, ◌<◌, ◌+◌, Bool, true, false, cond, List, [], ◌∷◌, length, drop, get_or, sym, ap, ◌∙◌, refl, Option, Some, None}
use Rattle.std.proofs.lemmas.List.{drop_more}
use Rattle.py_value.specs.declared.types.Data.{Data}
use Rattle.py_value.specs.declared.types.Data.TheVariants as D
use Rattle.py_value.specs.declared.types.Data.TheVariants.{rolls-None, rolls-Bool, rolls-Int, rolls-Text, rolls-List, rolls-Tuple, rolls-Dict, rolls-Element, rolls-Html}
use Rattle.py_value.specs.declared.types.Data.TheFolds.{fold-Data, fold-roll-Data}
use Rattle.py_value.specs.declared.types.Value.{Value}
use Rattle.py_value.specs.declared.kinds.Kind.{Kind}
use Rattle.py_value.specs.declared.op_fault.OpFault.{OpFault}
use Rattle.py_value.specs.declared.op_fault.OpFault.TheVariants.{WrongType, Subset}
use Rattle.py_value.specs.View.{data_of, all_of}
use Rattle.py_value.specs.Eq.{eq_of}
use Rattle.py_value.specs.Keys.{key_step, key_fault, key_fault_of_all, IsKey, KeysOf}
use Rattle.py_value.specs.Dicts.{with_pair}

pub key_fault-None : key_fault D.None ≡ None
key_fault-None = ap (fold-Data (Option OpFault) key_step) (sym rolls-None) ∙ fold-roll-Data (Option OpFault) key_step _

pub key_fault-Bool : (b : Bool) → key_fault (D.Bool b) ≡ None
key_fault-Bool b = ap (fold-Data (Option OpFault) key_step) (sym (rolls-Bool b)) ∙ fold-roll-Data (Option OpFault) key_step _

pub key_fault-Int : (n : ℤ) → key_fault (D.Int n) ≡ None
key_fault-Int n = ap (fold-Data (Option OpFault) key_step) (sym (rolls-Int n)) ∙ fold-roll-Data (Option OpFault) key_step _

pub key_fault-Text : (t : List ℕ) → key_fault (D.Text t) ≡ None
key_fault-Text t = ap (fold-Data (Option OpFault) key_step) (sym (rolls-Text t)) ∙ fold-roll-Data (Option OpFault) key_step _

pub key_fault-List : (items : List Data) → key_fault (D.List items) ≡ Some WrongType
key_fault-List items = ap (fold-Data (Option OpFault) key_step) (sym (rolls-List items)) ∙ fold-roll-Data (Option OpFault) key_step _

pub key_fault-Tuple : (items : List Data) → key_fault (D.Tuple items) ≡ key_fault_of_all items
key_fault-Tuple items = ap (fold-Data (Option OpFault) key_step) (sym (rolls-Tuple items)) ∙ fold-roll-Data (Option OpFault) key_step _

pub key_fault-Dict : (pairs : List (Data × Data)) → key_fault (D.Dict pairs) ≡ Some WrongType
key_fault-Dict pairs = ap (fold-Data (Option OpFault) key_step) (sym (rolls-Dict pairs)) ∙ fold-roll-Data (Option OpFault) key_step _

pub key_fault-Element : (kind : Kind) (name : List ℕ) (params : List (Data × Data)) (initial present : Data) → key_fault (D.Element kind name params initial present) ≡ Some Subset
key_fault-Element kind name params initial present = ap (fold-Data (Option OpFault) key_step) (sym (rolls-Element kind name params initial present)) ∙ fold-roll-Data (Option OpFault) key_step _

pub key_fault-Html : (t : List ℕ) → key_fault (D.Html t) ≡ Some Subset
key_fault-Html t = ap (fold-Data (Option OpFault) key_step) (sym (rolls-Html t)) ∙ fold-roll-Data (Option OpFault) key_step _

-- of the items from i on, the first can't be a key
pub fault_here : (vs : List Value) (i : ℕ) (d : Value) (fault : OpFault) → i < length vs → key_fault (data_of (get_or vs i d)) ≡ Some fault → key_fault_of_all (all_of (drop i vs)) ≡ Some fault
fault_here vs i d fault h e = rw (drop_more vs i d h, e) refl

-- of the items from i on, the first may be a key
pub fault_later : (vs : List Value) (i : ℕ) (d : Value) → i < length vs → key_fault (data_of (get_or vs i d)) ≡ None → key_fault_of_all (all_of (drop i vs)) ≡ key_fault_of_all (all_of (drop (i + 1) vs))
fault_later vs i d h e = rw (drop_more vs i d h, e) refl

pub ruleset key_faults = (key_fault-None, key_fault-Bool, key_fault-Int, key_fault-Text, key_fault-List, key_fault-Tuple, key_fault-Dict, key_fault-Element, key_fault-Html, fault_here, fault_later)

-- setting a pair whose key may be one keeps that all keys may
pub keys_kept : (key item : Data) (pairs : List (Data × Data)) → IsKey key → KeysOf pairs → KeysOf (with_pair key item pairs)
keys_kept key item [] may all = (may, tt)
keys_kept key item (p ∷ pairs) may all =
    elim (eq_of key p.0) as (λ b. KeysOf (cond b ((p.0, item) ∷ pairs) (p ∷ with_pair key item pairs))) [
      | true ↦ all
      | false ↦ (all.0, keys_kept key item pairs may all.1)
    ]
