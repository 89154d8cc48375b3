-- Words that ask for a command which waits for nobody. The program's own name is no word.
use Rattle.std.specs.Prelude.{ℕ, Bool, false, cond, not, ◌&&◌, ◌==◌, List, [], ◌∷◌, codes, Option, Some, None}
use Rattle.std.specs.Str.{bytes_eq}

-- the command that the words ask for: to open a notebook, or to play a script of visitors of one
pub data Command : Type 0 where
  Once : (file : List ℕ) → Command
  Play : (file script : List ℕ) → Command

-- the file of the notebook
abbrev pub notebook_of : Command → List ℕ
notebook_of (Once file) = file
notebook_of (Play file script) = file

-- a word that isn't empty and doesn't begin with `-`
abbrev pub is_positional : List ℕ → Bool
is_positional [] = false
is_positional (c ∷ cs) = not (c == 45)

-- the command of words of the form `once FILE` or `script FILE SCRIPT`, and none for other words
abbrev pub command_of : List (List ℕ) → Option Command
command_of [] = None
command_of (word ∷ []) = None
command_of (word ∷ file ∷ []) = cond (bytes_eq word (codes "once") && is_positional file) (Some (Once file)) None
command_of (word ∷ file ∷ script ∷ []) =
    cond (bytes_eq word (codes "script") && is_positional file && is_positional script) (Some (Play file script)) None
command_of (word ∷ file ∷ script ∷ more ∷ words) = None
