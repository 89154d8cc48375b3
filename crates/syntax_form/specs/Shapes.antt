-- What lists in an expression may be: where a comma stands behind the last item, which arguments come last, how many targets there are
-- (Python language reference, sections 6.2 and 6.3.4).
use Rattle.std.specs.Prelude.{◌≡◌, Bool, true, false, List, [], ◌∷◌, ⊤}
use Rattle.py_tree.specs.Names.{Name}
use Rattle.py_tree.specs.Expressions.{Trees, none, more, Arguments, no_argument, positional, keyword, Pairs, no_pair, pair}

-- a comma stands behind the last item only where there is one
abbrev pub CommaBehind : Trees → Bool → Type 0
CommaBehind none comma = comma ≡ false
CommaBehind (more t ts) comma = ⊤

abbrev pub CommaBehindPairs : Pairs → Bool → Type 0
CommaBehindPairs no_pair comma = comma ≡ false
CommaBehindPairs (pair key item ps) comma = ⊤

abbrev pub CommaBehindArguments : Arguments → Bool → Type 0
CommaBehindArguments no_argument comma = comma ≡ false
CommaBehindArguments (positional t args) comma = ⊤
CommaBehindArguments (keyword x t args) comma = ⊤

abbrev pub CommaBehindNames : List Name → Bool → Type 0
CommaBehindNames [] comma = comma ≡ false
CommaBehindNames (x ∷ xs) comma = ⊤

-- one item and a comma, or two items or more
abbrev pub IsBare : Trees → Bool → Type 0
IsBare none comma = ⊥
IsBare (more t none) comma = comma ≡ true
IsBare (more t (more u ts)) comma = ⊤

-- and in brackets also no item
abbrev pub IsTuple : Trees → Bool → Type 0
IsTuple none comma = comma ≡ false
IsTuple (more t ts) comma = IsBare (more t ts) comma

-- arguments with names alone
abbrev pub AreNamed : Arguments → Type 0
AreNamed no_argument = ⊤
AreNamed (positional t args) = ⊥
AreNamed (keyword x t args) = AreNamed args

-- those with names stand behind the others
abbrev pub NamedLast : Arguments → Type 0
NamedLast no_argument = ⊤
NamedLast (positional t args) = NamedLast args
NamedLast (keyword x t args) = AreNamed args

-- each of them
abbrev pub AreEach : (Name → Type 0) → List Name → Type 0
AreEach Good [] = ⊤
AreEach Good (x ∷ xs) = Good x × AreEach Good xs

-- one name or more
abbrev pub AreTargets : (Name → Type 0) → List Name → Type 0
AreTargets Good [] = ⊥
AreTargets Good (x ∷ xs) = Good x × AreEach Good xs
