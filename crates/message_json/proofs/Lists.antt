-- Lists that grow at their ends.
use Rattle.std.proofs.Common.{◌≡◌, refl, sym, ap, List, [], ◌∷◌, ◌++◌, append_assoc, append-nil, ℕ, Option, Some, None, option_map, map, Bool, true, false, cond, bytes_eq, codes, length, ◌<◌, arith}
use Rattle.py_value.specs.declared.types.Data.TheVariants as D
use Rattle.py_value.specs.declared.types.Value.TheVariants as V
use Rattle.py_value.specs.View.{all_of}
use Rattle.message_meaning.specs.Computed.{said_at}
use Rattle.messages.specs.declared.message.Message.{Message}
use Rattle.serde_json.proofs.Views.{Entry}
use Rattle.serde_json.specs.View.{members_view}

abbrev pub behind : List (List ℕ) → Option (List (List ℕ)) → Option (List (List ℕ))
behind done o = option_map (λ texts. done ++ texts) o

pub behind_none : (o : Option (List (List ℕ))) → o ≡ behind [] o
behind_none None = refl
behind_none (Some a) = refl

pub behind_one : (done : List (List ℕ)) (s : List ℕ) (o : Option (List (List ℕ))) → behind done (option_map (λ texts. s ∷ texts) o) ≡ behind (done ++ s ∷ []) o
behind_one done s None = refl
behind_one done s (Some a) = ap Some (sym (append_assoc done (s ∷ []) a))

pub texts_push : (done : List (List ℕ)) (s : List ℕ) → map V.Text done ++ V.Text s ∷ [] ≡ map V.Text (done ++ s ∷ [])
texts_push [] s = refl
texts_push (t ∷ done) s = ap (λ vs. V.Text t ∷ vs) (texts_push done s)

pub texts_data : (done : List (List ℕ)) → all_of (map V.Text done) ≡ map D.Text done
texts_data [] = refl
texts_data (t ∷ done) = ap (λ ds. D.Text t ∷ ds) (texts_data done)

-- where there is a member, no opening and no close is said
none_either : {A : Type 0} (a : Bool) (o : Option A) → o ≡ None → cond a None o ≡ None
none_either true o e = refl
none_either false o e = e

pub only_sets : (k : List ℕ) (es : List Entry) → 0 < length es → bytes_eq k (codes "set") ≡ false → said_at k (members_view es) ≡ None
only_sets k [] h e = absurd (omega arith)
only_sets k (m ∷ es) h e =
    rw e (none_either {A = Message} (bytes_eq k (codes "open")) (cond (bytes_eq k (codes "close")) None None) (none_either {A = Message} (bytes_eq k (codes "close")) None refl))

pub texts_done : (done : List (List ℕ)) → behind done (Some []) ≡ Some done
texts_done done = ap Some (append-nil done)

pub none_left : {A : Type 0} (left : List A) → length left ≡ 0 → left ≡ []
none_left [] e = refl
none_left (a ∷ more) e = absurd (omega arith)
