-- The table of the cells that reference each name.
use Rattle.std.proofs.Common.{◌≡◌, ℕ, ◌+◌, ◌<◌, Bool, true, false, cond, not, ◌&&◌, ◌||◌, ◌==◌, List, [], ◌∷◌, ◌++◌, length, get_or, take, Some, None, refl, sym, ap, ◌∙◌, nat_cmp, arith}
use Rattle.std.specs.Prelude.{unwrap_or}
use Rattle.std.specs.List.{list_any}
use Rattle.std.specs.Str.{bytes_eq}
use Rattle.std.specs.Ordering.{is_eq}
use Rattle.std.specs.Cmp.Lexicographic.{slice_cmp}
use Rattle.std.specs.declared.cmp.Ordering.{Ordering}
use Rattle.std.specs.declared.cmp.Ordering.TheVariants.{Less, Equal, Greater}
use Rattle.std.proofs.lemmas.Bool.{both_ways}
use Rattle.std.proofs.lemmas.List.{take_more}
use Rattle.std.proofs.lemmas.Map.Text.{is_eq-slice_cmp}
use Rattle.std.proofs.lemmas.Slice.Eq.{bytes_eq-Decides}
use Rattle.py_tree.specs.Names.{Name, is_among}
use Rattle.py_tree.specs.Scope.{refs}
use Rattle.py_tree.specs.Trees.{Cell}
use Rattle.py_tree.proofs.NamesOf.{among_append}
use Rattle.py_value.specs.Maps.{Map, look_up, put, put_by, where_name}
use Rattle.graph_meaning.specs.Graph.{is_in, refs_of}
use Rattle.graph_meaning.specs.Reruns.{reads_one}
use Rattle.cell_graph.specs.Tables.{AreRefs}
use Rattle.cell_graph.specs.Readers.{cells_at, HasReaders}
use Rattle.cell_graph.proofs.LookUps.{within, names_kept}
use Rattle.cell_graph.proofs.Names.{same_either_way}
use Rattle.cell_graph.proofs.Counts.{is_in_push}

-- ---- look-ups after a change

cond_twice : {X : Type 0} (b : Bool) (x y z : X) → cond b x z ≡ cond b x (cond b y z)
cond_twice true x y z = refl
cond_twice false x y z = refl

cond_swapped : {X : Type 0} (b n : Bool) (x y z : X) → (b ≡ true → n ≡ true → ⊥) → cond b y (cond n x z) ≡ cond n x (cond b y z)
cond_swapped true true x y z h = absurd (h refl refl)
cond_swapped true false x y z h = refl
cond_swapped false n x y z h = refl

-- a name is put
put_at : {V : Type 0} (q name : Name) (v : V) (e : Name × V) (es later : Map V) (o : Ordering) → slice_cmp nat_cmp name e.0 ≡ o
    → look_up q later ≡ cond (bytes_eq name q) (Some v) (look_up q es)
    → look_up q (put_by o name v e es later) ≡ cond (bytes_eq name q) (Some v) (cond (bytes_eq e.0 q) (Some e.1) (look_up q es))
put_at q name v e es later Less is rest = refl
put_at q name v e es later Equal is rest =
    let eq : bytes_eq name e.0 ≡ true = sym (is_eq-slice_cmp name e.0) ∙ ap is_eq is in
    let same : name ≡ e.0 = (bytes_eq-Decides name e.0).0 eq in
    cond_twice (bytes_eq e.0 q) (Some v) (Some e.1) (look_up q es) ∙ ap (λ (n : Name). cond (bytes_eq n q) (Some v) (cond (bytes_eq e.0 q) (Some e.1) (look_up q es))) (sym same)
put_at q name v e es later Greater is rest =
    let off : bytes_eq name e.0 ≡ false = sym (is_eq-slice_cmp name e.0) ∙ ap is_eq is in
    ap (cond (bytes_eq e.0 q) (Some e.1)) rest
    ∙ cond_swapped (bytes_eq e.0 q) (bytes_eq name q) (Some v) (Some e.1) (look_up q es)
    (λ here there. both_ways _ off ((bytes_eq-Decides name e.0).1 ((bytes_eq-Decides name q).0 there ∙ sym ((bytes_eq-Decides e.0 q).0 here))))

look_up-put : {V : Type 0} (q name : Name) (v : V) (es : Map V) → look_up q (put name v es) ≡ cond (bytes_eq name q) (Some v) (look_up q es)
look_up-put q name v [] = refl
look_up-put q name v (e ∷ es) = put_at q name v e es (put name v es) (slice_cmp nat_cmp name e.0) refl (look_up-put q name v es)

cond_same : {X : Type 0} (b : Bool) (x : X) → x ≡ cond b x x
cond_same true x = refl
cond_same false x = refl

-- a name is taken out
look_up-where : {V : Type 0} (q name : Name) (es : Map V) → look_up q (where_name (λ x. not (bytes_eq x name)) es) ≡ cond (bytes_eq name q) None (look_up q es)
look_up-where q name [] = cond_same (bytes_eq name q) None
look_up-where q name (e ∷ es) = by (bytes_eq e.0 name) refl (look_up-where q name es)
  where
    by : (b : Bool) → bytes_eq e.0 name ≡ b → look_up q (where_name (λ x. not (bytes_eq x name)) es) ≡ cond (bytes_eq name q) None (look_up q es)
        → look_up q (cond (not b) (e ∷ where_name (λ x. not (bytes_eq x name)) es) (where_name (λ x. not (bytes_eq x name)) es))
        ≡ cond (bytes_eq name q) None (cond (bytes_eq e.0 q) (Some e.1) (look_up q es))
    by true is rest =
        let same : e.0 ≡ name = (bytes_eq-Decides e.0 name).0 is in
        rest ∙ cond_twice (bytes_eq name q) None (Some e.1) (look_up q es) ∙ ap (λ (n : Name). cond (bytes_eq name q) None (cond (bytes_eq n q) (Some e.1) (look_up q es))) (sym same)
    by false is rest =
        ap (cond (bytes_eq e.0 q) (Some e.1)) rest
        ∙ cond_swapped (bytes_eq e.0 q) (bytes_eq name q) None (Some e.1) (look_up q es)
        (λ here there. both_ways _ is ((bytes_eq-Decides e.0 name).1 ((bytes_eq-Decides e.0 q).0 here ∙ sym ((bytes_eq-Decides name q).0 there))))

-- ---- a cell more at a name

module _ (table : Map (List ℕ)) (name : Name) (cell : ℕ) where
  abbrev left : Map (List ℕ)
  left = where_name (λ x. not (bytes_eq x name)) table

  -- the cells at each name, once the cells at one are taken out and put back with one more
  pub one_more : (x : Name) (c : ℕ) → is_in c (cells_at (put name (cells_at table name ++ cell ∷ []) left) x) ≡ (is_in c (cells_at table x) || ((cell == c) && bytes_eq name x))
  one_more x c =
      ap (λ o. is_in c (unwrap_or o [])) (look_up-put x name (cells_at table name ++ cell ∷ []) left ∙ ap (cond (bytes_eq name x) (Some (cells_at table name ++ cell ∷ []))) (look_up-where x name table))
      ∙ by (bytes_eq name x) refl
    where
      by : (b : Bool) → bytes_eq name x ≡ b
          → is_in c (unwrap_or (cond b (Some (cells_at table name ++ cell ∷ [])) (cond b None (look_up x table))) []) ≡ (is_in c (cells_at table x) || ((cell == c) && b))
      by true e =
          let same : name ≡ x = (bytes_eq-Decides name x).0 e in
          is_in_push c cell (cells_at table name) ∙ (λ i. is_in c (cells_at table (same i)) || both (cell == c) i)
        where
          both : (b : Bool) → (b || false) ≡ (b && true)
          both true = refl
          both false = refl
      by false e = last (is_in c (cells_at table x)) (cell == c)
        where
          last : (a b : Bool) → a ≡ (a || (b && false))
          last true b = refl
          last false true = refl
          last false false = refl

-- a name more of those of the cell
pub name_more : (names : List Name) (i : ℕ) (name : Name) → i < length names → name ≡ get_or names i name → (x : Name) (old : Bool) (here : Bool)
    → ((old || (here && is_among x (take i names))) || (here && bytes_eq name x)) ≡ (old || (here && is_among x (take (i + 1) names)))
name_more names i name lt is x old here =
    joined old here (is_among x (take i names)) (bytes_eq name x)
    ∙ ap (λ b. old || (here && b)) (sym (ap (is_among x) (take_more names i name lt ∙ ap (λ y. take i names ++ y ∷ []) (sym is)) ∙ among_append x (take i names) (name ∷ [])))
  where
    joined : (a h b t : Bool) → ((a || (h && b)) || (h && t)) ≡ (a || (h && (b || (t || false))))
    joined true h b t = refl
    joined false false b t = refl
    joined false true true t = refl
    joined false true false true = refl
    joined false true false false = refl

-- ---- the cells of the table

module _ (nb : List Cell) (referenced : List (List Name)) (kept : AreRefs nb referenced) (table : Map (List ℕ)) (has : HasReaders referenced table) where
  pub reader_inside : (x : Name) (c : ℕ) → is_in c (cells_at table x) ≡ true → c < length nb
  reader_inside x c h = let low = within referenced x c (sym (has.each x c) ∙ h) in omega (arith, kept.count)

  pub is_reader : (x : Name) (c : ℕ) → is_in c (cells_at table x) ≡ is_among x (refs_of nb c)
  is_reader x c = has.each x c ∙ ap (is_among x) (names_kept refs nb referenced kept c)

-- ---- names in two lists

any_alike : {X : Type 0} (p q : X → Bool) → ((x : X) → p x ≡ q x) → (xs : List X) → list_any p xs ≡ list_any q xs
any_alike p q h [] = refl
any_alike p q h (x ∷ xs) = λ i. h x i || any_alike p q h xs i

any_of_two : {X : Type 0} (p q : X → Bool) (xs : List X) → list_any (λ x. p x || q x) xs ≡ (list_any p xs || list_any q xs)
any_of_two p q [] = refl
any_of_two p q (x ∷ xs) = ap (λ b. (p x || q x) || b) (any_of_two p q xs) ∙ joined (p x) (q x) (list_any p xs) (list_any q xs)
  where
    joined : (a b c d : Bool) → ((a || b) || (c || d)) ≡ ((a || c) || (b || d))
    joined true b c d = refl
    joined false true true d = refl
    joined false true false d = refl
    joined false false c d = refl

none_of : {X : Type 0} (xs : List X) → false ≡ list_any (λ _. false) xs
none_of [] = refl
none_of (x ∷ xs) = none_of xs

-- one of the first is among the second where one of the second is among the first
common : (xs ys : List Name) → list_any (λ x. is_among x ys) xs ≡ list_any (λ y. is_among y xs) ys
common [] ys = none_of ys
common (x ∷ xs) ys =
    (λ i. any_alike (λ o. bytes_eq o x) (bytes_eq x) (λ o. same_either_way o x) ys i || common xs ys i)
    ∙ sym (any_of_two (bytes_eq x) (λ y. is_among y xs) ys)

-- a cell references one of the names where it is one of the cells at one of them
pub reads_by : (nb : List Cell) (table : Map (List ℕ)) → ((x : Name) (c : ℕ) → is_in c (cells_at table x) ≡ is_among x (refs_of nb c))
    → (names : List Name) (c : ℕ) (test : Name → Bool) → ((x : Name) → test x ≡ is_in c (cells_at table x)) → list_any test names ≡ reads_one nb names c
reads_by nb table is names c test at = any_alike test (λ x. is_among x (refs_of nb c)) (λ x. at x ∙ is x c) names ∙ common names (refs_of nb c)
