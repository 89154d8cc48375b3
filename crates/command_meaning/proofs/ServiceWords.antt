-- What follows for words that ask for a service.
use Rattle.std.proofs.Common.{◌≡◌, ℕ, ◌≤◌, Bool, true, false, cond, List, [], ◌∷◌, Option, None, Some, refl, sym, subst, codes, arith}
use Rattle.std.specs.Prelude.{IfSome}
use Rattle.std.proofs.lemmas.Bool.{and_parts, leb-true}
use Rattle.std.proofs.lemmas.Option.{same_Some}
use Rattle.std.proofs.lemmas.Slice.Eq.{bytes_eq-Decides}
use Rattle.command_meaning.specs.Commands.{command_of}
use Rattle.command_meaning.specs.Services.{Service, given, number_in, service, service_of, port_of, values_of, workers_of, visitors_of}
use Rattle.py_tree.specs.Numbers.{number_of}

-- a choice that came to something
some_by : {A : Type 0} (b : Bool) (o : Option A) (y : A) → cond b o None ≡ Some y → (b ≡ true) × (o ≡ Some y)
some_by true o y e = (refl, e)
some_by false o y e = absurd (cc)

-- ---- no command

no_command : (file : List ℕ) (options : List (List ℕ)) → command_of (codes "run" ∷ file ∷ options) ≡ None
no_command file [] = refl
no_command file (script ∷ []) = refl
no_command file (script ∷ more ∷ words) = refl

pub apart : (words : List (List ℕ)) (s : Service) → service_of words ≡ Some s → command_of words ≡ None
apart [] s e = refl
apart (word ∷ []) s e = refl
apart (word ∷ file ∷ options) s e =
    let tests = (some_by _ _ s e).0 in
    let run = (bytes_eq-Decides word (codes "run")).0 (and_parts _ _ (and_parts _ _ tests).0).0 in
    subst (λ w. command_of (w ∷ file ∷ options) ≡ None) (sym run) (no_command file options)

-- ---- the numbers

IsWithin : ℕ → ℕ → Type 0
IsWithin most n = (1 ≤ n) × (n ≤ most)

in_range : (most : ℕ) (value : List ℕ) (n : ℕ) → number_in most value ≡ Some n → IsWithin most n
unfolding IsWithin
in_range most value n e =
    let tests = some_by _ (Some (number_of value)) n e in
    let is = same_Some (number_of value) n tests.1 in
    let low = leb-true 1 (number_of value) (and_parts _ _ (and_parts _ _ tests.0).0).1 in
    let high = leb-true (number_of value) most (and_parts _ _ tests.0).1 in
    (subst (λ k. 1 ≤ k) is low, subst (λ k. k ≤ most) is high)

given_in : (most : ℕ) (usual : Option ℕ) (values : List (List ℕ)) (n : ℕ) → IfSome usual (IsWithin most) → given most usual values ≡ Some n → IsWithin most n
given_in most usual [] n h e = subst (λ o. IfSome o (IsWithin most)) e h
given_in most usual (value ∷ []) n h e = in_range most value n e
given_in most usual (value ∷ other ∷ values) n h e = absurd (cc)

-- the numbers of a service are the given ones
record AreGiven (s : Service) (port workers visitors : Option ℕ) : Type 0 where
  port_is : port ≡ Some s.port
  workers_are : workers ≡ Some s.workers
  visitors_are : visitors ≡ Some s.visitors

are_given : (file : List ℕ) (port workers visitors : Option ℕ) (s : Service) → service file port workers visitors ≡ Some s → AreGiven s port workers visitors
are_given file (Some port) (Some workers) (Some visitors) s e =
    let is = same_Some (record { file = file; port = port; workers = workers; visitors = visitors }) s e in
    subst (λ t. AreGiven t (Some port) (Some workers) (Some visitors)) is (record { port_is = refl; workers_are = refl; visitors_are = refl })
are_given file (Some port) (Some workers) None s e = absurd (cc)
are_given file (Some port) None visitors s e = absurd (cc)
are_given file None workers visitors s e = absurd (cc)

asked_for : (words : List (List ℕ)) (s : Service) → service_of words ≡ Some s
    → (options : List (List ℕ)) × AreGiven s (port_of options) (workers_of options) (visitors_of options)
asked_for [] s e = absurd (cc)
asked_for (word ∷ []) s e = absurd (cc)
asked_for (word ∷ file ∷ options) s e = (options, are_given file _ _ _ s (some_by _ _ s e).1)

pub port : (words : List (List ℕ)) (s : Service) → service_of words ≡ Some s → (1 ≤ s.port) × (s.port ≤ 65535)
unfolding IsWithin
port words s e = let asked = asked_for words s e in given_in 65535 None (values_of (codes "--port=") asked.0) s.port tt asked.1.port_is

pub workers : (words : List (List ℕ)) (s : Service) → service_of words ≡ Some s → (1 ≤ s.workers) × (s.workers ≤ 64)
unfolding IsWithin
workers words s e = let asked = asked_for words s e in given_in 64 (Some 4) (values_of (codes "--workers=") asked.0) s.workers (omega arith, omega arith) asked.1.workers_are

pub visitors : (words : List (List ℕ)) (s : Service) → service_of words ≡ Some s → (1 ≤ s.visitors) × (s.visitors ≤ 1000000000)
unfolding IsWithin
visitors words s e = let asked = asked_for words s e in given_in 1000000000 (Some 1000000000) (values_of (codes "--visitors=") asked.0) s.visitors (omega arith, omega arith) asked.1.visitors_are

-- what is given without a usual number is in its range
pub given_within : (most : ℕ) (values : List (List ℕ)) → IfSome (given most None values) (λ n. n ≤ most)
unfolding IsWithin
given_within most values = if_some (given most None values) (λ n e. (given_in most None values n tt e).1) where
  if_some : (o : Option ℕ) → ((n : ℕ) → o ≡ Some n → n ≤ most) → IfSome o (λ n. n ≤ most)
  if_some None h = tt
  if_some (Some n) h = h n refl
