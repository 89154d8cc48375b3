-- Texts of values, level by level.
use Rattle.std.proofs.Common.{◌≡◌, ◌∙◌, ap, sym, refl, subst, ℕ, zero, suc, ◌+◌, ◌<◌, ◌≤◌, Bool, false, cond, ◌==◌, List, [], ◌∷◌, ◌++◌, append_assoc, append-nil, add-one, arith, length, map, take, get_or}
use Rattle.std.proofs.lemmas.Grind.{flat_map-append}
use Rattle.std.proofs.lemmas.Bool.Decides.{nat_tests}
use Rattle.std.specs.Prelude.{◌≢◌, codes, flat_map, OnOk, Result, Ok, Err}
use Rattle.std.specs.Fmt.{signed_decimal}
use Rattle.py_value.specs.declared.kinds.Kind.{Kind}
use Rattle.py_value.specs.declared.types.Data.{Data}
use Rattle.py_value.specs.declared.types.Data.TheVariants as D
use Rattle.py_value.specs.declared.types.Data.TheVariants.{rolls-None, rolls-Bool, rolls-Int, rolls-Text, rolls-List, rolls-Tuple, rolls-Dict, rolls-Element, rolls-Html}
use Rattle.py_value.specs.declared.types.Data.TheFolds.{fold-Data, fold-roll-Data}
use Rattle.py_value.specs.declared.types.Value.{Value}
use Rattle.py_value.specs.declared.types.Value.TheVariants as V
use Rattle.py_value.specs.View.{data_of, value_of, all_of, pairs_of}
use Rattle.py_value.proofs.Levels.{data_of-value_of}
use Rattle.py_value.specs.Quoted.{text_literal}
use Rattle.py_value.specs.Texts.{Spelling, plain_spelling, truth_text, comma_list, separator, tuple_end, items_text, pair_text, pairs_text, param_text, params_text, shown, spelling_step, spelling_of, spelling_of_pair, str_of, repr_of}

-- each level
spelling-None : spelling_of D.None ≡ plain_spelling (codes "None")
spelling-None = ap (fold-Data Spelling spelling_step) (sym rolls-None) ∙ fold-roll-Data Spelling spelling_step _

spelling-Bool : (b : Bool) → spelling_of (D.Bool b) ≡ plain_spelling (truth_text b)
spelling-Bool b = ap (fold-Data Spelling spelling_step) (sym (rolls-Bool b)) ∙ fold-roll-Data Spelling spelling_step _

spelling-Int : (n : _) → spelling_of (D.Int n) ≡ plain_spelling (signed_decimal n)
spelling-Int n = ap (fold-Data Spelling spelling_step) (sym (rolls-Int n)) ∙ fold-roll-Data Spelling spelling_step _

spelling-Text : (t : List ℕ) → spelling_of (D.Text t) ≡ record { str = t; repr = text_literal t }
spelling-Text t = ap (fold-Data Spelling spelling_step) (sym (rolls-Text t)) ∙ fold-roll-Data Spelling spelling_step _

spelling-List : (ds : List Data) → spelling_of (D.List ds) ≡ plain_spelling (codes "[" ++ (items_text (map spelling_of ds) ++ codes "]"))
spelling-List ds = ap (fold-Data Spelling spelling_step) (sym (rolls-List ds)) ∙ fold-roll-Data Spelling spelling_step _

spelling-Tuple : (ds : List Data) → spelling_of (D.Tuple ds) ≡ plain_spelling (codes "(" ++ (items_text (map spelling_of ds) ++ tuple_end (length (map spelling_of ds))))
spelling-Tuple ds = ap (fold-Data Spelling spelling_step) (sym (rolls-Tuple ds)) ∙ fold-roll-Data Spelling spelling_step _

spelling-Dict : (ps : List (Data × Data)) → spelling_of (D.Dict ps) ≡ plain_spelling (codes "{" ++ (pairs_text (map spelling_of_pair ps) ++ codes "}"))
spelling-Dict ps = ap (fold-Data Spelling spelling_step) (sym (rolls-Dict ps)) ∙ fold-roll-Data Spelling spelling_step _

spelling-Element : (k : Kind) (t : List ℕ) (ps : List (Data × Data)) (m n : Data) → spelling_of (D.Element k t ps m n) ≡ plain_spelling (shown k t (map spelling_of_pair ps))
spelling-Element k t ps m n = ap (fold-Data Spelling spelling_step) (sym (rolls-Element k t ps m n)) ∙ fold-roll-Data Spelling spelling_step _

spelling-Html : (t : List ℕ) → spelling_of (D.Html t) ≡ plain_spelling t
spelling-Html t = ap (fold-Data Spelling spelling_step) (sym (rolls-Html t)) ∙ fold-roll-Data Spelling spelling_step _

abbrev repr : Spelling → List ℕ
repr s = s.repr

-- `repr` of each variant
pub repr-None : repr_of D.None ≡ codes "None"
repr-None = ap repr spelling-None

pub repr-Bool : (b : Bool) → repr_of (D.Bool b) ≡ truth_text b
repr-Bool b = ap repr (spelling-Bool b)

pub repr-Int : (n : _) → repr_of (D.Int n) ≡ signed_decimal n
repr-Int n = ap repr (spelling-Int n)

pub repr-Text : (t : List ℕ) → repr_of (D.Text t) ≡ text_literal t
repr-Text t = ap repr (spelling-Text t)

pub repr-List : (ds : List Data) → repr_of (D.List ds) ≡ codes "[" ++ (items_text (map spelling_of ds) ++ codes "]")
repr-List ds = ap repr (spelling-List ds)

length-spelled : (ds : List Data) → length (map spelling_of ds) ≡ length ds
length-spelled [] = refl
length-spelled (d ∷ ds) = omega (arith, length-spelled ds)

pub length-all : (vs : List Value) → length (all_of vs) ≡ length vs
length-all [] = refl
length-all (v ∷ vs) = omega (arith, length-all vs)

pub repr-Tuple : (ds : List Data) → repr_of (D.Tuple ds) ≡ codes "(" ++ (items_text (map spelling_of ds) ++ tuple_end (length ds))
repr-Tuple ds = ap repr (spelling-Tuple ds) ∙ ap (λ n. codes "(" ++ (items_text (map spelling_of ds) ++ tuple_end n)) (length-spelled ds)

pub repr-Dict : (ps : List (Data × Data)) → repr_of (D.Dict ps) ≡ codes "{" ++ (pairs_text (map spelling_of_pair ps) ++ codes "}")
repr-Dict ps = ap repr (spelling-Dict ps)

pub repr-Element : (k : Kind) (t : List ℕ) (ps : List (Data × Data)) (m n : Data) → repr_of (D.Element k t ps m n) ≡ shown k t (map spelling_of_pair ps)
repr-Element k t ps m n = ap repr (spelling-Element k t ps m n)

pub repr-Html : (t : List ℕ) → repr_of (D.Html t) ≡ t
repr-Html t = ap repr (spelling-Html t)

-- `str` of a text is the text, and of another value its `repr`
abbrev pub str_by : Value → List ℕ
str_by (V.Text t) = t
str_by v = repr_of (data_of v)

both : (t : List ℕ) (s : Spelling) → s ≡ plain_spelling t → s.str ≡ s.repr
both t s h = ap (λ (s : Spelling). s.str) h ∙ sym (ap repr h)

pub str_is : (v : Value) → str_of (data_of v) ≡ str_by v
str_is V.None = both _ _ spelling-None
str_is (V.Bool b) = both _ _ (spelling-Bool b)
str_is (V.Int n) = both _ _ (spelling-Int n)
str_is (V.Text t) = ap (λ (s : Spelling). s.str) (spelling-Text t)
str_is (V.List ds) = both _ _ (spelling-List ds)
str_is (V.Tuple ds) = both _ _ (spelling-Tuple ds)
str_is (V.Dict ps) = both _ _ (spelling-Dict ps)
str_is (V.Element e) = both _ _ (spelling-Element e.kind e.name e.params e.initial e.present)
str_is (V.Html t) = both _ _ (spelling-Html t)

pub str-Text : (t : List ℕ) → str_of (D.Text t) ≡ t
str-Text t = ap (λ (s : Spelling). s.str) (spelling-Text t)

reprs : (ds : List Data) → map repr (map spelling_of ds) ≡ map repr_of ds
reprs [] = refl
reprs (d ∷ ds) = ap (λ z. repr_of d ∷ z) (reprs ds)

pub items_are : (ds : List Data) → items_text (map spelling_of ds) ≡ comma_list (map repr_of ds)
items_are ds = ap comma_list (reprs ds)

pair_reprs : (ps : List (Data × Data)) → map pair_text (map spelling_of_pair ps) ≡ map (λ (p : Data × Data). repr_of p.0 ++ (codes ": " ++ repr_of p.1)) ps
pair_reprs [] = refl
pair_reprs (p ∷ ps) = ap (λ z. (repr_of p.0 ++ (codes ": " ++ repr_of p.1)) ∷ z) (pair_reprs ps)

pub pairs_are : (ps : List (Data × Data)) → pairs_text (map spelling_of_pair ps) ≡ comma_list (map (λ (p : Data × Data). repr_of p.0 ++ (codes ": " ++ repr_of p.1)) ps)
pairs_are ps = ap comma_list (pair_reprs ps)

other_str : (v : Value) → ((t : List ℕ) → data_of v ≢ D.Text t) → str_of (data_of v) ≡ repr_of (data_of v)
other_str (V.Text t) h = absurd (h t refl)
other_str v h = str_is v

pub str_of_others : (d : Data) → ((t : List ℕ) → d ≢ D.Text t) → str_of d ≡ repr_of d
str_of_others d h =
    let Same : Data → Type 0 = λ e. ((t : List ℕ) → e ≢ D.Text t) → str_of e ≡ repr_of e in
    subst Same (data_of-value_of d) (other_str (value_of d)) h

-- one more text in a list
listed_last : (ts : List (List ℕ)) (t : List ℕ) → comma_list (ts ++ t ∷ []) ≡ comma_list ts ++ (separator (length ts) ++ t)
listed_last [] t = append-nil t
listed_last (u ∷ us) t =
    let later : (length (u ∷ us) == 0) ≡ false = grind (arith, nat_tests) in
    ap (λ z. u ++ z) (flat_map-append (λ x. codes ", " ++ x) us (t ∷ []) ∙ ap (λ z. flat_map (λ x. codes ", " ++ x) us ++ z) (append-nil (codes ", " ++ t)))
    ∙ sym (append_assoc u (flat_map (λ x. codes ", " ++ x) us) (codes ", " ++ t))
    ∙ ap (λ b. comma_list (u ∷ us) ++ (cond b [] (codes ", ") ++ t)) (sym later)

-- one more item
items_next : (vs : List Value) (i : ℕ) (d : Value) → i < length vs
    → map repr (map spelling_of (all_of (take (suc i) vs))) ≡ map repr (map spelling_of (all_of (take i vs))) ++ repr_of (data_of (get_or vs i d)) ∷ []
items_next [] i d h = absurd (omega arith)
items_next (v ∷ vs) zero d h = refl
items_next (v ∷ vs) (suc i) d h = ap (λ z. repr_of (data_of v) ∷ z) (items_next vs i d (omega arith))

items_long : (vs : List Value) (i : ℕ) → i ≤ length vs → length (map repr (map spelling_of (all_of (take i vs)))) ≡ i
items_long vs zero h = refl
items_long [] (suc i) h = absurd (omega arith)
items_long (v ∷ vs) (suc i) h = omega (arith, items_long vs i (omega arith))

pub items_more : (vs : List Value) (i : ℕ) (d : Value) → i < length vs
    → items_text (map spelling_of (all_of (take (i + 1) vs))) ≡ items_text (map spelling_of (all_of (take i vs))) ++ (separator i ++ repr_of (data_of (get_or vs i d)))
items_more vs i d h =
    let long : length (map repr (map spelling_of (all_of (take i vs)))) ≡ i = items_long vs i (omega arith) in
    rw add-one
    (ap comma_list (items_next vs i d h) ∙ listed_last (map repr (map spelling_of (all_of (take i vs)))) (repr_of (data_of (get_or vs i d)))
    ∙ ap (λ n. items_text (map spelling_of (all_of (take i vs))) ++ (separator n ++ repr_of (data_of (get_or vs i d)))) long)

-- one more pair
abbrev spelled : Value × Value → Spelling × Spelling
spelled p = (spelling_of (data_of p.0), spelling_of (data_of p.1))

pairs_next : (ps : List (Value × Value)) (i : ℕ) (d : Value × Value) → i < length ps
    → map pair_text (map spelling_of_pair (pairs_of (take (suc i) ps))) ≡ map pair_text (map spelling_of_pair (pairs_of (take i ps))) ++ pair_text (spelled (get_or ps i d)) ∷ []
pairs_next [] i d h = absurd (omega arith)
pairs_next (p ∷ ps) zero d h = refl
pairs_next (p ∷ ps) (suc i) d h = ap (λ z. pair_text (spelled p) ∷ z) (pairs_next ps i d (omega arith))

pairs_long : (ps : List (Value × Value)) (i : ℕ) → i ≤ length ps → length (map pair_text (map spelling_of_pair (pairs_of (take i ps)))) ≡ i
pairs_long ps zero h = refl
pairs_long [] (suc i) h = absurd (omega arith)
pairs_long (p ∷ ps) (suc i) h = omega (arith, pairs_long ps i (omega arith))

pub pairs_more : (ps : List (Value × Value)) (i : ℕ) (d : Value × Value) → i < length ps
    → pairs_text (map spelling_of_pair (pairs_of (take (i + 1) ps)))
    ≡ pairs_text (map spelling_of_pair (pairs_of (take i ps))) ++ (separator i ++ (repr_of (data_of (get_or ps i d).0) ++ (codes ": " ++ repr_of (data_of (get_or ps i d).1))))
pairs_more ps i d h =
    let long : length (map pair_text (map spelling_of_pair (pairs_of (take i ps)))) ≡ i = pairs_long ps i (omega arith) in
    rw add-one
    (ap comma_list (pairs_next ps i d h) ∙ listed_last (map pair_text (map spelling_of_pair (pairs_of (take i ps)))) (pair_text (spelled (get_or ps i d)))
    ∙ ap (λ n. pairs_text (map spelling_of_pair (pairs_of (take i ps))) ++ (separator n ++ pair_text (spelled (get_or ps i d)))) long)

-- one more parameter
params_next : (ps : List (Value × Value)) (i : ℕ) (d : Value × Value) → i < length ps
    → map spelling_of_pair (pairs_of (take (suc i) ps)) ≡ map spelling_of_pair (pairs_of (take i ps)) ++ spelled (get_or ps i d) ∷ []
params_next [] i d h = absurd (omega arith)
params_next (p ∷ ps) zero d h = refl
params_next (p ∷ ps) (suc i) d h = ap (λ z. spelled p ∷ z) (params_next ps i d (omega arith))

pub params_more : (ps : List (Value × Value)) (i : ℕ) (d : Value × Value) → i < length ps
    → params_text (map spelling_of_pair (pairs_of (take (i + 1) ps)))
    ≡ params_text (map spelling_of_pair (pairs_of (take i ps))) ++ (codes " " ++ (str_of (data_of (get_or ps i d).0) ++ (codes "=" ++ repr_of (data_of (get_or ps i d).1))))
params_more ps i d h =
    rw add-one
    (ap params_text (params_next ps i d h) ∙ flat_map-append param_text (map spelling_of_pair (pairs_of (take i ps))) (spelled (get_or ps i d) ∷ [])
    ∙ ap (λ z. params_text (map spelling_of_pair (pairs_of (take i ps))) ++ z) (append-nil (param_text (spelled (get_or ps i d)))))

-- one part after another
pub two_parts : (old s t a b : List ℕ) → s ≡ old ++ a → t ≡ s ++ b → t ≡ old ++ (a ++ b)
two_parts old s t a b first then = then ∙ ap (λ z. z ++ b) first ∙ append_assoc old a b

-- three parts, the last of them where memory is enough
pub in_brackets : {E : Type 0} (r : Result (Unit {0}) E) (old s t u a b c : List ℕ) → s ≡ old ++ a → t ≡ s ++ b → OnOk r (u ≡ t ++ c) → OnOk r (u ≡ old ++ (a ++ (b ++ c)))
in_brackets (Ok x) old s t u a b c first then last =
    two_parts s t u b c then last ∙ ap (λ z. z ++ (b ++ c)) first ∙ append_assoc old a (b ++ c)
in_brackets (Err e) old s t u a b c first then last = tt

pub ruleset texts = (repr-None, repr-Bool, repr-Int, repr-Text, repr-List, repr-Tuple, repr-Dict, repr-Element, repr-Html, str_is, length-all, items_more, pairs_more, params_more)
