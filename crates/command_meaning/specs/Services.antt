-- Words that ask for a notebook to be served. They have the form `run FILE` with options behind it, each `--NAME=VALUE`, in any order.
use Rattle.std.specs.Prelude.{ℕ, Bool, cond, ◌&&◌, ◌||◌, nat_le, List, [], ◌∷◌, length, take, drop, codes, Option, Some, None}
use Rattle.std.specs.List.{list_all}
use Rattle.std.specs.Str.{bytes_eq}
use Rattle.command_meaning.specs.Commands.{is_positional}
use Rattle.py_tree.specs.Numbers.{is_number, number_of}

-- What is to be served: the notebook of a file, at a port, by so many workers, of whom each lets in visitors so often.
pub record Service : Type 0 where
  pub file : List ℕ
  pub port : ℕ
  pub workers : ℕ
  pub visitors : ℕ

-- a word begins with this name, that of an option
abbrev pub is_named : (name word : List ℕ) → Bool
is_named name word = bytes_eq (take (length name) word) name

-- the values that words give to the option of this name, in their order
abbrev pub values_of : (name : List ℕ) → (words : List (List ℕ)) → List (List ℕ)
values_of name [] = []
values_of name (word ∷ words) = cond (is_named name word) (drop (length name) word ∷ values_of name words) (values_of name words)

-- the number from 1 to `most` that a value spells
abbrev pub number_in : (most : ℕ) → List ℕ → Option ℕ
number_in most value = cond (is_number value && nat_le 1 (number_of value) && nat_le (number_of value) most) (Some (number_of value)) None

-- the number that the values of an option give: that of the only one, the usual one where there is none, and no number where there are several
abbrev pub given : (most : ℕ) → (usual : Option ℕ) → List (List ℕ) → Option ℕ
given most usual [] = usual
given most usual (value ∷ []) = number_in most value
given most usual (value ∷ other ∷ values) = None

-- a word gives one of the three options
abbrev pub is_option : List ℕ → Bool
is_option word = is_named (codes "--port=") word || is_named (codes "--workers=") word || is_named (codes "--visitors=") word

abbrev pub port_of : List (List ℕ) → Option ℕ
port_of options = given 65535 None (values_of (codes "--port=") options)

abbrev pub workers_of : List (List ℕ) → Option ℕ
workers_of options = given 64 (Some 4) (values_of (codes "--workers=") options)

abbrev pub visitors_of : List (List ℕ) → Option ℕ
visitors_of options = given 1000000000 (Some 1000000000) (values_of (codes "--visitors=") options)

-- a service, where all its numbers are given
abbrev pub service : (file : List ℕ) → (port workers visitors : Option ℕ) → Option Service
service file (Some port) (Some workers) (Some visitors) = Some (record { file = file; port = port; workers = workers; visitors = visitors })
service file (Some port) (Some workers) None = None
service file (Some port) None visitors = None
service file None workers visitors = None

-- the service that the words ask for, and none for other words
abbrev pub service_of : List (List ℕ) → Option Service
service_of [] = None
service_of (word ∷ []) = None
service_of (word ∷ file ∷ options) =
    cond (bytes_eq word (codes "run") && is_positional file && list_all is_option options)
    (service file (port_of options) (workers_of options) (visitors_of options)) None
