-- Items xs the lists of a tree.
use Rattle.std.proofs.Common.{◌≡◌, ℕ, ◌≤◌, Bool, true, false, List, [], ◌∷◌, refl, ap, arith}
use Rattle.syntax_reading.specs.Words as is
use Rattle.py_tree.specs.Names.{Name}
use Rattle.py_tree.specs.Expressions.{Tree, Comparison, Trees, none, more, Links, done, link, Arguments, no_argument, positional, keyword, Pairs, no_pair, pair, trees_of}
use Rattle.syntax_form.specs.Depth.{depth, list_depth, link_depth, argument_depth, pair_depth}
use Rattle.syntax_form.specs.Levels.{level}
use Rattle.syntax_form.specs.Shapes.{CommaBehind, CommaBehindPairs, CommaBehindArguments, AreNamed, NamedLast}
use Rattle.syntax_reading.specs.Words.{is_free, Fixed, Word, name, fixed}
use Rattle.syntax_reading.specs.Readers.{Closing, by, is_some}
use Rattle.syntax_reading.specs.Parts.{Argument, plain, named, arguments_of, all_named, named_last, pairs_of, links_of, tests_of}
use Rattle.syntax_reading.proofs.Shaped.{IsFree, AreFree, AreFreeTargets, Shaped, AllShaped, LinksShaped, ArgumentsShaped, PairsShaped}
use Rattle.syntax_reading.proofs.Spelling.{spell_more, spell_all, comparison_then, spell, spell_list, spell_later, spell_links, spell_arguments, spell_later_arguments, spell_pairs, spell_later_pairs, spell_tests}
use Rattle.syntax_reading.proofs.ItemsFound.{AllGood}
use Rattle.syntax_reading.proofs.EachFound.{spell_each}

-- a tree of the grammar that may stand where this level is asked for, at most this deep
pub record Fits (k room : ℕ) (t : Tree) : Type 0 where
  pub shaped : Shaped t
  pub high : k ≤ level t
  pub shallow : depth t ≤ room

-- ---- trees

later_of : (ts : List Tree) (b : Bool) (c : Closing) (r : List Word) → spell_later (trees_of ts) b c r ≡ spell_more spell ts b c r
later_of [] b c r = refl
later_of (t ∷ ts) b c r = ap (λ ws. fixed is.comma ∷ spell t ws) (later_of ts b c r)

pub list_of_items : (ts : List Tree) (b : Bool) (c : Closing) (r : List Word) → spell_list (trees_of ts) b c r ≡ spell_all spell ts b c r
list_of_items [] b c r = refl
list_of_items (t ∷ ts) b c r = ap (spell t) (later_of ts b c r)

pub all_shaped : (k room : ℕ) (ts : List Tree) → AllGood (Fits k room) ts → AllShaped k (trees_of ts) × (list_depth (trees_of ts) ≤ room)
all_shaped k room [] g = (tt, omega arith)
all_shaped k room (t ∷ ts) g = let h = all_shaped k room ts g.1 in let f = g.0 in let s = f.shallow in let d = h.1 in ((f.high, f.shaped, h.0), omega arith)

pub comma_behind : (ts : List Tree) (b : Bool) → (b ≡ true → is_some ts ≡ true) → CommaBehind (trees_of ts) b
comma_behind [] true h = absurd (cc (h refl))
comma_behind [] false h = refl
comma_behind (t ∷ ts) b h = tt

-- ---- pairs

abbrev pub spell_pair : Tree × Tree → List Word → List Word
spell_pair p r = spell p.0 (fixed is.colon ∷ spell p.1 r)

abbrev pub PairFits : ℕ → Tree × Tree → Type 0
PairFits room p = Fits 1 room p.0 × Fits 1 room p.1

later_pairs : (ps : List (Tree × Tree)) (b : Bool) (r : List Word) → spell_later_pairs (pairs_of ps) b r ≡ spell_more spell_pair ps b (by is.brace_close) r
later_pairs [] b r = refl
later_pairs (p ∷ ps) b r = ap (λ ws. fixed is.comma ∷ spell_pair p ws) (later_pairs ps b r)

pub pairs_of_items : (ps : List (Tree × Tree)) (b : Bool) (r : List Word) → spell_pairs (pairs_of ps) b r ≡ spell_all spell_pair ps b (by is.brace_close) r
pairs_of_items [] b r = refl
pairs_of_items (p ∷ ps) b r = ap (spell_pair p) (later_pairs ps b r)

pub pairs_shaped : (room : ℕ) (ps : List (Tree × Tree)) → AllGood (PairFits room) ps → PairsShaped (pairs_of ps) × (pair_depth (pairs_of ps) ≤ room)
pairs_shaped room [] g = (tt, omega arith)
pairs_shaped room (p ∷ ps) g =
    let h = pairs_shaped room ps g.1 in
    let k = g.0.0 in
    let i = g.0.1 in
    let d = h.1 in
    let s = k.shallow in
    let u = i.shallow in
    ((k.high, k.shaped, i.high, i.shaped, h.0), omega arith)

pub pair_comma : (ps : List (Tree × Tree)) (b : Bool) → (b ≡ true → is_some ps ≡ true) → CommaBehindPairs (pairs_of ps) b
pair_comma [] true h = absurd (cc (h refl))
pair_comma [] false h = refl
pair_comma (p ∷ ps) b h = tt

-- ---- arguments

abbrev pub spell_argument : Argument → List Word → List Word
spell_argument (plain t) r = spell t r
spell_argument (named x t) r = name x ∷ fixed is.assign ∷ spell t r

abbrev pub ArgumentFits : ℕ → Argument → Type 0
ArgumentFits room (plain t) = Fits 1 room t
ArgumentFits room (named x t) = IsFree x × Fits 1 room t

later_args : (xs : List Argument) (b : Bool) (r : List Word) → spell_later_arguments (arguments_of xs) b r ≡ spell_more spell_argument xs b (by is.round_close) r
later_args [] b r = refl
later_args (plain t ∷ xs) b r = ap (λ ws. fixed is.comma ∷ spell t ws) (later_args xs b r)
later_args (named x t ∷ xs) b r = ap (λ ws. fixed is.comma ∷ name x ∷ fixed is.assign ∷ spell t ws) (later_args xs b r)

pub arguments_of_items : (xs : List Argument) (b : Bool) (r : List Word) → spell_arguments (arguments_of xs) b r ≡ spell_all spell_argument xs b (by is.round_close) r
arguments_of_items [] b r = refl
arguments_of_items (plain t ∷ xs) b r = ap (spell t) (later_args xs b r)
arguments_of_items (named x t ∷ xs) b r = ap (λ ws. name x ∷ fixed is.assign ∷ spell t ws) (later_args xs b r)

pub arguments_shaped : (room : ℕ) (xs : List Argument) → AllGood (ArgumentFits room) xs → ArgumentsShaped (arguments_of xs) × (argument_depth (arguments_of xs) ≤ room)
arguments_shaped room [] g = (tt, omega arith)
arguments_shaped room (plain t ∷ xs) g =
    let h = arguments_shaped room xs g.1 in let f = g.0 in let s = f.shallow in let d = h.1 in ((f.high, f.shaped, h.0), omega arith)
arguments_shaped room (named x t ∷ xs) g =
    let h = arguments_shaped room xs g.1 in let f = g.0.1 in let s = f.shallow in let d = h.1 in ((g.0.0, f.high, f.shaped, h.0), omega arith)

pub argument_comma : (xs : List Argument) (b : Bool) → (b ≡ true → is_some xs ≡ true) → CommaBehindArguments (arguments_of xs) b
argument_comma [] true h = absurd (cc (h refl))
argument_comma [] false h = refl
argument_comma (plain t ∷ xs) b h = tt
argument_comma (named x t ∷ xs) b h = tt

pub are_named : (xs : List Argument) → all_named xs ≡ true → AreNamed (arguments_of xs)
are_named [] h = tt
are_named (plain t ∷ xs) h = absurd (cc)
are_named (named x t ∷ xs) h = are_named xs h

pub named_are_last : (xs : List Argument) → named_last xs ≡ true → NamedLast (arguments_of xs)
named_are_last [] h = tt
named_are_last (plain t ∷ xs) h = named_are_last xs h
named_are_last (named x t ∷ xs) h = are_named xs h

-- ---- names

pub are_names : (xs : List Name) → AllGood IsFree xs → AreFree xs
are_names [] g = tt
are_names (x ∷ xs) g = (g.0, are_names xs g.1)

pub are_targets : (xs : List Name) → is_some xs ≡ true → AllGood IsFree xs → AreFreeTargets xs
are_targets [] h g = absurd (cc)
are_targets (x ∷ xs) h g = (g.0, are_names xs g.1)

-- ---- links and tests

pub links_of_each : (ls : List (Comparison × Tree)) (r : List Word) → spell_links (links_of ls) r ≡ spell_each comparison_then ls r
links_of_each [] r = refl
links_of_each (l ∷ ls) r = ap (λ ws. comparison_then l.0 (spell l.1 ws)) (links_of_each ls r)

pub links_shaped : (room : ℕ) (ls : List (Comparison × Tree)) → AllGood (λ l. Fits 6 room l.1) ls → LinksShaped (links_of ls) × (link_depth (links_of ls) ≤ room)
links_shaped room [] g = (tt, omega arith)
links_shaped room (l ∷ ls) g = let h = links_shaped room ls g.1 in let f = g.0 in let s = f.shallow in let d = h.1 in ((f.high, f.shaped, h.0), omega arith)

abbrev pub if_then : Unit {0} → List Word → List Word
if_then u r = fixed is.if_ ∷ r

pub tests_of_each : (ls : List (Unit {0} × Tree)) (r : List Word) → spell_tests (tests_of ls) r ≡ spell_each if_then ls r
tests_of_each [] r = refl
tests_of_each (l ∷ ls) r = ap (λ ws. fixed is.if_ ∷ spell l.1 ws) (tests_of_each ls r)

pub tests_shaped : (room : ℕ) (ls : List (Unit {0} × Tree)) → AllGood (λ l. Fits 2 room l.1) ls → AllShaped 2 (tests_of ls) × (list_depth (tests_of ls) ≤ room)
tests_shaped room [] g = (tt, omega arith)
tests_shaped room (l ∷ ls) g = let h = tests_shaped room ls g.1 in let f = g.0 in let s = f.shallow in let d = h.1 in ((f.high, f.shaped, h.0), omega arith)

-- ---- the lists of a tree as items

abbrev pub list_trees : Trees → List Tree
list_trees none = []
list_trees (more t ts) = t ∷ list_trees ts

pub trees_of_list : (ts : Trees) → trees_of (list_trees ts) ≡ ts
trees_of_list none = refl
trees_of_list (more t ts) = ap (more t) (trees_of_list ts)

pub all_fit : (k room : ℕ) (ts : Trees) → AllShaped k ts → list_depth ts ≤ room → AllGood (Fits k room) (list_trees ts)
all_fit k room none l d = tt
all_fit k room (more t ts) l d = (record { shaped = l.1; high = l.0; shallow = omega arith }, all_fit k room ts l.2 (omega arith))

abbrev pub list_links : Links → List (Comparison × Tree)
list_links done = []
list_links (link c t ls) = (c, t) ∷ list_links ls

pub links_of_list : (ls : Links) → links_of (list_links ls) ≡ ls
links_of_list done = refl
links_of_list (link c t ls) = ap (link c t) (links_of_list ls)

pub links_fit : (room : ℕ) (ls : Links) → LinksShaped ls → link_depth ls ≤ room → AllGood (λ l. Fits 6 room l.1) (list_links ls)
links_fit room done l d = tt
links_fit room (link c t ls) l d = (record { shaped = l.1; high = l.0; shallow = omega arith }, links_fit room ls l.2 (omega arith))

abbrev pub list_tests : Trees → List (Unit {0} × Tree)
list_tests none = []
list_tests (more t ts) = (tt, t) ∷ list_tests ts

pub tests_of_list : (ts : Trees) → tests_of (list_tests ts) ≡ ts
tests_of_list none = refl
tests_of_list (more t ts) = ap (more t) (tests_of_list ts)

pub tests_fit : (room : ℕ) (ts : Trees) → AllShaped 2 ts → list_depth ts ≤ room → AllGood (λ l. Fits 2 room l.1) (list_tests ts)
tests_fit room none l d = tt
tests_fit room (more t ts) l d = (record { shaped = l.1; high = l.0; shallow = omega arith }, tests_fit room ts l.2 (omega arith))

abbrev pub list_arguments : Arguments → List Argument
list_arguments no_argument = []
list_arguments (positional t args) = plain t ∷ list_arguments args
list_arguments (keyword x t args) = named x t ∷ list_arguments args

pub arguments_of_list : (args : Arguments) → arguments_of (list_arguments args) ≡ args
arguments_of_list no_argument = refl
arguments_of_list (positional t args) = ap (positional t) (arguments_of_list args)
arguments_of_list (keyword x t args) = ap (keyword x t) (arguments_of_list args)

pub arguments_fit : (room : ℕ) (args : Arguments) → ArgumentsShaped args → argument_depth args ≤ room → AllGood (ArgumentFits room) (list_arguments args)
arguments_fit room no_argument l d = tt
arguments_fit room (positional t args) l d = (record { shaped = l.1; high = l.0; shallow = omega arith }, arguments_fit room args l.2 (omega arith))
arguments_fit room (keyword x t args) l d = ((l.0, record { shaped = l.2; high = l.1; shallow = omega arith }), arguments_fit room args l.3 (omega arith))

named_all : (args : Arguments) → AreNamed args → all_named (list_arguments args) ≡ true
named_all no_argument h = refl
named_all (positional t args) h = absurd h
named_all (keyword x t args) h = named_all args h

pub last_named : (args : Arguments) → NamedLast args → named_last (list_arguments args) ≡ true
last_named no_argument h = refl
last_named (positional t args) h = last_named args h
last_named (keyword x t args) h = named_all args h

pub some_argument : (args : Arguments) (b : Bool) → CommaBehindArguments args b → b ≡ true → is_some (list_arguments args) ≡ true
some_argument no_argument true c h = absurd (cc)
some_argument no_argument false c h = absurd (cc)
some_argument (positional t args) b c h = refl
some_argument (keyword x t args) b c h = refl

abbrev pub list_pairs : Pairs → List (Tree × Tree)
list_pairs no_pair = []
list_pairs (pair k t ps) = (k, t) ∷ list_pairs ps

pub pairs_of_list : (ps : Pairs) → pairs_of (list_pairs ps) ≡ ps
pairs_of_list no_pair = refl
pairs_of_list (pair k t ps) = ap (pair k t) (pairs_of_list ps)

pub pairs_fit : (room : ℕ) (ps : Pairs) → PairsShaped ps → pair_depth ps ≤ room → AllGood (PairFits room) (list_pairs ps)
pairs_fit room no_pair l d = tt
pairs_fit room (pair k t ps) l d =
    ((record { shaped = l.1; high = l.0; shallow = omega arith }, record { shaped = l.3; high = l.2; shallow = omega arith }), pairs_fit room ps l.4 (omega arith))

pub names_good : (xs : List Name) → AreFree xs → AllGood IsFree xs
names_good [] h = tt
names_good (x ∷ xs) h = (h.0, names_good xs h.1)

pub targets_good : (xs : List Name) → AreFreeTargets xs → AllGood IsFree xs
targets_good [] h = absurd h
targets_good (x ∷ xs) h = (h.0, names_good xs h.1)
