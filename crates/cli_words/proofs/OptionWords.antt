-- Words that give a value to an option.
use Rattle.std.proofs.Common.{◌≡◌, ℕ, Bool, true, false, cond, codes, List, ◌∷◌, ◌++◌, length, take, drop, Option, None, Some, Bor, refl, sym, ap, ◌∙◌}
use Rattle.std.specs.Prelude.{option_map, MatchOption}
use Rattle.std.specs.Str.{bytes_eq}
use Rattle.std.specs.Str.Pattern.{FindsTextPrefix, StripsPrefix}
use Rattle.std.proofs.Math.Seq.{take-append_seam, drop-append_seam}
use Rattle.std.proofs.lemmas.List.{take-append-drop}
use Rattle.std.proofs.lemmas.Slice.Eq.{bytes_eq-Decides}
use Rattle.std.proofs.lemmas.Bool.{and_from}
use Rattle.std.specs.List.{list_all}
use Rattle.command_meaning.specs.Commands.{is_positional}
use Rattle.command_meaning.specs.Services.{is_named, is_option, port_of, service, service_of, visitors_of, workers_of}

-- the value behind the name
abbrev pub value_in : (name word : List ℕ) → Option (List ℕ)
value_in name word = cond (is_named name word) (Some (drop (length name) word)) None

behind : (name value : List ℕ) → value_in name (name ++ value) ≡ Some value
behind name value =
    rw ((bytes_eq-Decides _ _).1 (take-append_seam name value)) (ap Some (drop-append_seam name value))

named : (name word : List ℕ) → is_named name word ≡ true → word ≡ name ++ drop (length name) word
named name word e =
    sym (take-append-drop (length name) word) ∙ ap (λ front. front ++ drop (length name) word) ((bytes_eq-Decides (take (length name) word) name).0 e)

none_by : (name word : List ℕ) → ((value : List ℕ) → word ≡ name ++ value → ⊥) → None ≡ value_in name word
none_by name word never = helper (is_named name word) (λ e. never (drop (length name) word) (named name word e)) where
  helper : (b : Bool) → (b ≡ true → ⊥) → None ≡ cond {A = Option (List ℕ)} b (Some (drop (length name) word)) None
  helper true never = absurd (never refl)
  helper false never = refl

-- what a search for the name at the front finds
pub found : (name word : List ℕ) (r : Option (Bor (List ℕ)))
    → MatchOption r (FindsTextPrefix name word None) (λ x. StripsPrefix (FindsTextPrefix name) word x.now)
    → option_map (λ (t : Bor (List ℕ)). t.now) r ≡ value_in name word
found name word None never = none_by name word never
found name word (Some x) h =
    let is : word ≡ name ++ x.now = h.1.1 ∙ ap (λ t. name ++ t) (sym h.2) in
    sym (ap (value_in name) is ∙ behind name x.now)

-- `run`, a file and options ask for a service if all its numbers are given
pub asked_for : (word file : List ℕ) (options : List (List ℕ)) → bytes_eq word (codes "run") ≡ true → is_positional file ≡ true
    → list_all is_option options ≡ true
    → service_of (word ∷ file ∷ options) ≡ service file (port_of options) (workers_of options) (visitors_of options)
asked_for word file options run named known = rw (and_from _ _ (and_from _ _ run named) known) refl

pub same_service : {p q w x v y : Option ℕ} → (file : List ℕ) → p ≡ q → w ≡ x → v ≡ y → service file p w v ≡ service file q x y
same_service {q = q} {w = w} {x = x} {v = v} file a b e = ap (λ n. service file n w v) a ∙ (ap (λ n. service file q n v) b ∙ ap (λ n. service file q x n) e)
