-- The names that a cell defines and references, by tests of one name.
use Rattle.std.proofs.Common.{◌≡◌, ◌∙◌, refl, sym, ap, subst, Bool, true, false, cond, not, ◌&&◌, ◌||◌, List, [], ◌∷◌, ◌++◌}
use Rattle.std.specs.Prelude.{filter}
use Rattle.std.specs.Str.{bytes_eq}
use Rattle.std.proofs.lemmas.Bool.{both_ways, or_parts}
use Rattle.std.proofs.lemmas.List.Folds.{list_any-append}
use Rattle.std.proofs.lemmas.Slice.Eq.{bytes_eq-Decides}
use Rattle.py_tree.specs.Names.{Name, is_among, first_seen, first_seen_after, is_local}
use Rattle.py_tree.specs.Scope.{defs, refs, bound, read_names, is_free}
use Rattle.py_tree.specs.Trees.{Cell}

-- ---- tests of names in lists

-- names that the test takes for equal
pub name_of : (x y : Name) → bytes_eq x y ≡ true → x ≡ y
name_of x y = (bytes_eq-Decides x y).0

pub among_append : (x : Name) (xs ys : List Name) → is_among x (xs ++ ys) ≡ (is_among x xs || is_among x ys)
among_append x xs ys = list_any-append (λ other. bytes_eq other x) xs ys

-- a name that is in no part of a list
pub not_among_append : (x : Name) (xs ys : List Name) → is_among x (xs ++ ys) ≡ false → (is_among x xs ≡ false) × (is_among x ys ≡ false)
not_among_append x xs ys h = or_parts (is_among x xs) (is_among x ys) (sym (among_append x xs ys) ∙ h)

-- one that a test keeps
kept_by : (p : Name → Bool) (x y : Name) (ys : List Name) (b t : Bool) → bytes_eq y x ≡ b → p y ≡ t
    → is_among x (filter p ys) ≡ (is_among x ys && p x)
    → is_among x (cond t (y ∷ filter p ys) (filter p ys)) ≡ ((b || is_among x ys) && p x)
kept_by p x y ys true true same on h =
    let passes : p x ≡ true = ap p (sym (name_of y x same)) ∙ on in
    ap (λ c. c || is_among x (filter p ys)) same ∙ sym passes
kept_by p x y ys true false same off h =
    let fails : p x ≡ false = ap p (sym (name_of y x same)) ∙ off in
    h ∙ ap (λ c. is_among x ys && c) fails ∙ none (is_among x ys) ∙ sym fails
  where
    none : (b : Bool) → (b && false) ≡ false
    none true = refl
    none false = refl
kept_by p x y ys false true apart on h = ap (λ c. c || is_among x (filter p ys)) apart ∙ h
kept_by p x y ys false false apart off h = h

pub among_filter : (p : Name → Bool) (x : Name) (xs : List Name) → is_among x (filter p xs) ≡ (is_among x xs && p x)
among_filter p x [] = refl
among_filter p x (y ∷ ys) = kept_by p x y ys (bytes_eq y x) (p y) refl refl (among_filter p x ys)

-- ---- names that are seen first

or_skip : (a b c : Bool) → (a ≡ true → c ≡ true) → (c || b) ≡ (c || (a || b))
or_skip true b c h = ap (λ d. d || b) (h refl) ∙ sym (ap (λ d. d || true) (h refl))
or_skip false b c h = refl

or_turn : (a b c : Bool) → (c || (a || b)) ≡ ((a || c) || b)
or_turn true b true = refl
or_turn true b false = refl
or_turn false b c = refl

known : (x y : Name) (seen : List Name) → is_among y seen ≡ true → bytes_eq y x ≡ true → is_among x seen ≡ true
known x y seen among same = subst (λ n. is_among n seen ≡ true) (name_of y x same) among

-- one name more, which was seen or wasn't
seen_more : (x y : Name) (seen names first later : List Name) (b : Bool) → is_among y seen ≡ b
    → (is_among x seen || is_among x first) ≡ (is_among x seen || is_among x names)
    → ((bytes_eq y x || is_among x seen) || is_among x later) ≡ ((bytes_eq y x || is_among x seen) || is_among x names)
    → (is_among x seen || is_among x (cond b first (y ∷ later))) ≡ (is_among x seen || (bytes_eq y x || is_among x names))
seen_more x y seen names first later true among h k = h ∙ or_skip (bytes_eq y x) (is_among x names) (is_among x seen) (known x y seen among)
seen_more x y seen names first later false off h k =
    or_turn (bytes_eq y x) (is_among x later) (is_among x seen) ∙ k ∙ sym (or_turn (bytes_eq y x) (is_among x names) (is_among x seen))

seen_or : (x : Name) (seen names : List Name) → (is_among x seen || is_among x (first_seen_after seen names)) ≡ (is_among x seen || is_among x names)
seen_or x seen [] = refl
seen_or x seen (y ∷ names) =
    seen_more x y seen names (first_seen_after seen names) (first_seen_after (y ∷ seen) names) (is_among y seen) refl (seen_or x seen names) (seen_or x (y ∷ seen) names)

-- a name is seen first where it is among the names
pub among_first_seen : (x : Name) (names : List Name) → is_among x (first_seen names) ≡ is_among x names
among_first_seen x names = seen_or x [] names

-- ---- the names of a cell

-- a name is defined where it is bound and has no leading underscore
pub among_defs : (x : Name) (c : Cell) → is_among x (defs c) ≡ (is_among x (bound c.body) && not (is_local x))
among_defs x c = among_first_seen x (filter (λ y. not (is_local y)) (bound c.body)) ∙ among_filter (λ y. not (is_local y)) x (bound c.body)

-- a name that isn't defined and has no leading underscore isn't bound
pub not_bound : (x : Name) (c : Cell) → is_among x (defs c) ≡ false → is_local x ≡ false → is_among x (bound c.body) ≡ false
not_bound x c h plain = by (is_among x (bound c.body)) (is_local x) plain (sym (among_defs x c) ∙ h)
  where
    by : (a b : Bool) → b ≡ false → (a && not b) ≡ false → a ≡ false
    by true b p e = absurd (both_ways (not b) e (ap not p))
    by false b p e = refl

-- what a cell references is read there and free
pub among_refs : (x : Name) (c : Cell) → is_among x (refs c) ≡ (is_among x (read_names c.body) && is_free (bound c.body) x)
among_refs x c = among_first_seen x (filter (is_free (bound c.body)) (read_names c.body)) ∙ among_filter (is_free (bound c.body)) x (read_names c.body)
