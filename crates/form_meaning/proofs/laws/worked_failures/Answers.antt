-- The beginnings of the inputs fit, one line more doesn't, and no cells have them as their file.
use Rattle.std.proofs.Common.{◌≡◌, ℕ, ◌≤◌, List, [], ◌∷◌, ◌++◌, refl, arith, lit≤, ap, sym, Bool, nat_eq, get_or}
use Rattle.std.proofs.lemmas.Bool.{false≢true}
use Rattle.std.specs.Prelude.{codes, take, length}
use Rattle.py_tree.specs.Trees.{Cell}
use Rattle.form_meaning.specs.Fails.{LinesFit, IsFormless}
use Rattle.form_meaning.specs.Thin.{file_lines}
use Rattle.py_tree.specs.TextLines.{text_of}
use Rattle.form_meaning.proofs.Failures.{bare, are_bare}
use Rattle.form_meaning.proofs.laws.worked_failures.Goals as goal

-- ---- the empty file

first_fits : LinesFit bare [] 0
first_fits =
    record { cells = []; rest = []; fits = refl; long = lit≤ tt; few = lit≤ tt; text = refl; alone = λ before line after cut alone more. cc }

none_more : LinesFit bare [] 1 → ⊥
none_more h = let e = h.text in cc

none_formed : IsFormless []
none_formed nb form = let e = form.text in cc

pub returns-clause-empty : goal.returns-clause-empty
returns-clause-empty c = (lit≤ tt, bare, are_bare [] refl, first_fits, none_more, none_formed)

-- ---- a line behind the file of no cells

abbrev bytes : List ℕ
bytes = text_of (file_lines [] ++ codes "q" ∷ [])

four_fit : LinesFit bare bytes 4
four_fit =
    record { cells = []; rest = codes "q\n"; fits = refl; long = lit≤ tt; few = lit≤ tt; text = refl; alone = λ before line after cut alone more. cc }

-- the byte at 33, which is the first behind the two lines of the head, is `@`
abbrev has_cell : List ℕ → Bool
has_cell l = nat_eq (get_or l 33 0) 64

five_fit : (cells : List Cell) (rest : List ℕ) → 5 ≤ length (file_lines cells) → bytes ≡ text_of (take 5 (file_lines cells)) ++ rest → ⊥
five_fit [] rest long text = omega arith
five_fit (c ∷ cells) rest long text = false≢true (ap has_cell text)

-- as many bytes as these
abbrev is_as_long : List ℕ → Bool
is_as_long l = nat_eq (length l) (length bytes)

none_formed_behind : (nb : List Cell) → bytes ≡ text_of (file_lines nb) → ⊥
none_formed_behind [] text = false≢true (sym (ap is_as_long text))
none_formed_behind (c ∷ nb) text = false≢true (ap has_cell text)

pub returns-clause-behind : goal.returns-clause-behind
returns-clause-behind c =
    (lit≤ tt, bare, are_bare bytes refl, four_fit, λ h. five_fit h.cells h.rest h.long h.text, λ nb form. none_formed_behind nb form.text)
