-- The reserved words are the keywords and file names, and after them the builtins.
use Rattle.std.proofs.Common.{◌≡◌, ◌∙◌, sym, ap, Bool, true, false, ◌||◌, List, [], ◌∷◌, ◌++◌}
use Rattle.std.specs.Prelude.{codes}
use Rattle.py_tree.specs.Names.{Name, is_among, keywords, unused_keywords, builtins, reserved}
use Rattle.py_tree.proofs.NamesOf.{among_append}
use Rattle.py_tree.proofs.names.is_reserved.Goals as goal

abbrev others : List Name
others = keywords ++ unused_keywords ++ codes "app" ∷ codes "marimo" ∷ codes "mo" ∷ []

-- a word is reserved if it is among these or is a builtin
reserved_by : (word : Name) (other : Bool) → is_among word others ≡ other → is_among word reserved ≡ (other || is_among word builtins)
reserved_by word other known = among_append word others builtins ∙ ap (λ b. b || is_among word builtins) known

pub returns-then-contains : goal.returns-then-contains
returns-then-contains c =
    c.if-contains.true ∙ sym (reserved_by c.args.word.now true (sym c.contains.ensures.value ∙ c.if-contains.true))

pub returns-else-contains : goal.returns-else-contains
returns-else-contains c =
    c.is_builtin.ensures ∙ sym (reserved_by c.args.word.now false (sym c.contains.ensures.value ∙ c.if-contains.false))
