-- Each trace has one run and its cut beginnings, and each budget picks one of them.
use Rattle.std.proofs.Common.{◌≡◌, ℕ, ◌+◌, ◌-◌, ◌<◌, ◌≤◌, Bool, true, false, if◌then◌else◌, nat_le, List, [], ◌∷◌, ◌++◌, refl, ap, ◌∙◌, sym, arith, append_assoc, append-nil, length, leb-true, leb-false}
use Rattle.std.proofs.lemmas.Bool.{le-leb, lt-leb}
use Rattle.py_value.specs.declared.error_kind.ErrorKind.{ErrorKind}
use Rattle.run_meaning.specs.Trace.{Trace, Gives, Faults, Charges, Prints}
use Rattle.run_meaning.specs.Spending.{Spending, Got, Failed, Spent, pay, show, spend, then_spend}
use Rattle.run_meaning.specs.Runs.{Mark, Charge, Printed, End, Done, Fault, Cut, IsRun, done, fault, cut, charge, print, Alike, same, first_cut, second_cut, cost, printed_lines, Picks, HasOneRun}

-- ---- two runs

-- one more mark before both
more : {A : Type 0} (m : Mark) (ms ms' : List Mark) (e e' : End A) → Alike ms ms' e e' → Alike (m ∷ ms) (m ∷ ms') e e'
more m ms ms' e e' (same p q) = same (ap (λ x. m ∷ x) p) q
more m ms ms' e e' (first_cut p q) = first_cut p (q.0, ap (λ x. m ∷ x) q.1)
more m ms ms' e e' (second_cut p q) = second_cut p (q.0, ap (λ x. m ∷ x) q.1)

alike : {A : Type 0} {t : Trace A} {ms ms' : List Mark} {e e' : End A} → IsRun t ms e → IsRun t ms' e' → Alike ms ms' e e'
alike done done = same refl refl
alike fault fault = same refl refl
alike cut cut = same refl refl
alike cut (charge {ms = ms} r) = first_cut refl (ms, refl)
alike (charge {ms = ms} r) cut = second_cut refl (ms, refl)
alike (charge r) (charge r') = more _ _ _ _ _ (alike r r')
alike (print r) (print r') = more _ _ _ _ _ (alike r r')

-- ---- the run that isn't cut

abbrev Whole : {A : Type 0} → Trace A → Type 0
Whole {A} t = (ms : List Mark) × (e : End A) × IsRun t ms e × (e ≡ Cut → ⊥)

whole : {A : Type 0} (t : Trace A) → Whole t
whole (Gives a) = ([], Done a, done, λ h. cc)
whole (Faults k n) = ([], Fault k n, fault, λ h. cc)
whole (Charges n line t) = let w = whole t in (Charge n line ∷ w.0, w.1, charge w.2, w.3)
whole (Prints x t) = let w = whole t in (Printed x ∷ w.0, w.1, print w.2, w.3)

-- ---- what a budget picks

-- what a budget picks of a trace, with lines printed before it
abbrev From : {A : Type 0} → List (List ℕ) → Trace A → ℕ → Spending A → Type 0
From c t budget (Got a left console) = (ms : List Mark) × IsRun t ms (Done a) × (cost ms + left ≡ budget) × (console ≡ c ++ printed_lines ms)
From c t budget (Failed k line left console) =
    (ms : List Mark) × IsRun t ms (Fault k line) × (cost ms + left ≡ budget) × (console ≡ c ++ printed_lines ms)
From c t budget (Spent line left console) =
    (ms : List Mark) × (n : ℕ) × IsRun t (ms ++ Charge n line ∷ []) Cut × (cost ms + left ≡ budget) × (left < n) × (console ≡ c ++ printed_lines ms)

after_charge : {A : Type 0} (n line budget : ℕ) (c : List (List ℕ)) (t : Trace A) (s : Spending A) → n ≤ budget
    → From c t (budget - n) s → From c (Charges n line t) budget s
after_charge n line budget c t (Got a left console) le h = (Charge n line ∷ h.0, charge h.1, omega (arith, h.2), h.3)
after_charge n line budget c t (Failed k l left console) le h = (Charge n line ∷ h.0, charge h.1, omega (arith, h.2), h.3)
after_charge n line budget c t (Spent l left console) le h = (Charge n line ∷ h.0, h.1, charge h.2, omega (arith, h.3), h.4, h.5)

after_print : {A : Type 0} (x : List ℕ) (budget : ℕ) (c : List (List ℕ)) (t : Trace A) (s : Spending A)
    → From (c ++ x ∷ []) t budget s → From c (Prints x t) budget s
after_print x budget c t (Got a left console) h = (Printed x ∷ h.0, print h.1, h.2, h.3 ∙ append_assoc c (x ∷ []) (printed_lines h.0))
after_print x budget c t (Failed k l left console) h = (Printed x ∷ h.0, print h.1, h.2, h.3 ∙ append_assoc c (x ∷ []) (printed_lines h.0))
after_print x budget c t (Spent l left console) h = (Printed x ∷ h.0, h.1, print h.2, h.3, h.4, h.5 ∙ append_assoc c (x ∷ []) (printed_lines h.0))

fits_or_not : {A : Type 0} (n line budget : ℕ) (c : List (List ℕ)) (t : Trace A) (b : Bool) → nat_le n budget ≡ b
    → From c t (budget - n) (spend t (budget - n) c)
    → From c (Charges n line t) budget (then_spend (if b then Got (tt {0}) (budget - n) c else Spent line budget c) (λ _. spend t))
fits_or_not n line budget c t true e h = after_charge n line budget c t _ (leb-true n budget e) h
fits_or_not n line budget c t false e h = ([], n, cut, omega arith, leb-false n budget e, sym (append-nil c))

picked_from : {A : Type 0} (t : Trace A) (budget : ℕ) (c : List (List ℕ)) → From c t budget (spend t budget c)
unfolding pay show
picked_from (Gives a) budget c = ([], done, omega arith, sym (append-nil c))
picked_from (Faults k n) budget c = ([], fault, omega arith, sym (append-nil c))
picked_from (Charges n line t) budget c = fits_or_not n line budget c t (nat_le n budget) refl (picked_from t (budget - n) c)
picked_from (Prints x t) budget c = after_print x budget c t _ (picked_from t budget (c ++ x ∷ []))

picks : {A : Type 0} (t : Trace A) (budget : ℕ) (s : Spending A) → From [] t budget s → Picks (IsRun t) budget s
picks t budget (Got a left console) h = h
picks t budget (Failed k line left console) h = h
picks t budget (Spent line left console) h = h

-- ---- a budget picks nothing else

fits : {A : Type 0} (n line budget : ℕ) (c : List (List ℕ)) (t : Trace A) (s : Spending A) → n ≤ budget → s ≡ spend t (budget - n) c → s ≡ spend (Charges n line t) budget c
unfolding pay show
fits n line budget c t s le e =
    let yes : nat_le n budget ≡ true = le-leb n budget le in
    e ∙ sym (ap (λ b. then_spend (if b then Got (tt {0}) (budget - n) c else Spent line budget c) (λ _. spend t)) yes)

passes : {A : Type 0} (n line budget : ℕ) (c : List (List ℕ)) (t : Trace A) (s : Spending A) → budget < n → s ≡ Spent line budget c → s ≡ spend (Charges n line t) budget c
unfolding pay show
passes n line budget c t s lt e =
    let no : nat_le n budget ≡ false = lt-leb n budget lt in
    e ∙ sym (ap (λ b. then_spend (if b then Got (tt {0}) (budget - n) c else Spent line budget c) (λ _. spend t)) no)

got_only : {A : Type 0} (t : Trace A) (budget : ℕ) (c : List (List ℕ)) (a : A) (left : ℕ) (console : List (List ℕ)) (ms : List Mark) → IsRun t ms (Done a)
    → cost ms + left ≡ budget → console ≡ c ++ printed_lines ms → Got a left console ≡ spend t budget c
unfolding pay show
got_only t budget c a left console ms done e p = let same_left : left ≡ budget = omega (arith, e) in (λ i. Got a (same_left i) ((p ∙ append-nil c) i))
got_only t budget c a left console ms (charge {n = n} {line = line} {t = t'} {ms = ms'} r) e p =
    fits n line budget c t' (Got a left console) (omega (arith, e)) (got_only t' (budget - n) c a left console ms' r (omega (arith, e)) p)
got_only t budget c a left console ms (print {x = x} {t = t'} {ms = ms'} r) e p =
    got_only t' budget (c ++ x ∷ []) a left console ms' r e (p ∙ sym (append_assoc c (x ∷ []) (printed_lines ms')))

failed_only : {A : Type 0} (t : Trace A) (budget : ℕ) (c : List (List ℕ)) (k : ErrorKind) (l left : ℕ) (console : List (List ℕ)) (ms : List Mark) → IsRun t ms (Fault k l)
    → cost ms + left ≡ budget → console ≡ c ++ printed_lines ms → Failed k l left console ≡ spend t budget c
unfolding pay show
failed_only t budget c k l left console ms fault e p = let same_left : left ≡ budget = omega (arith, e) in (λ i. Failed k l (same_left i) ((p ∙ append-nil c) i))
failed_only t budget c k l left console ms (charge {n = n} {line = line} {t = t'} {ms = ms'} r) e p =
    fits n line budget c t' (Failed k l left console) (omega (arith, e)) (failed_only t' (budget - n) c k l left console ms' r (omega (arith, e)) p)
failed_only t budget c k l left console ms (print {x = x} {t = t'} {ms = ms'} r) e p =
    failed_only t' budget (c ++ x ∷ []) k l left console ms' r e (p ∙ sym (append_assoc c (x ∷ []) (printed_lines ms')))

-- the first mark of several, and those behind it
abbrev first : List Mark → Mark
first [] = Charge 0 0
first (m ∷ ms) = m

abbrev behind : List Mark → List Mark
behind [] = []
behind (m ∷ ms) = ms

abbrev amount : Mark → ℕ
amount (Charge n line) = n
amount (Printed x) = 0

abbrev line_in : Mark → ℕ
line_in (Charge n line) = line
line_in (Printed x) = 0

-- no run is cut before a charge
not_before : {A : Type 0} {t : Trace A} {rest : List Mark} → IsRun t rest Cut → rest ≡ [] → ⊥
not_before cut e = let h = ap length e in omega (arith, h)
not_before (charge r) e = let h = ap length e in omega (arith, h)
not_before (print r) e = let h = ap length e in omega (arith, h)

not_none : (ms : List Mark) (m : Mark) → [] ≡ ms ++ m ∷ [] → ⊥
not_none [] m e = let h = ap length e in omega (arith, h)
not_none (x ∷ ms) m e = let h = ap length e in omega (arith, h)

spent_only : {A : Type 0} (t : Trace A) (budget : ℕ) (c : List (List ℕ)) (l left : ℕ) (console : List (List ℕ)) (ms rest : List Mark) (n : ℕ) → IsRun t rest Cut
    → rest ≡ ms ++ Charge n l ∷ [] → cost ms + left ≡ budget → left < n → console ≡ c ++ printed_lines ms → Spent l left console ≡ spend t budget c
unfolding pay show
spent_only t budget c l left console [] rest n (cut {n = n'} {line = l'} {t = t'}) e used lt p =
    let same_n : n' ≡ n = ap (λ ms. amount (first ms)) e in
    let same_l : l' ≡ l = ap (λ ms. line_in (first ms)) e in
    let same_left : left ≡ budget = omega (arith, used) in
    passes n' l' budget c t' (Spent l left console) (omega (arith, same_n, used, lt)) (λ i. Spent (sym same_l i) (same_left i) ((p ∙ append-nil c) i))
spent_only t budget c l left console (m ∷ ms) rest n cut e used lt p = absurd (not_none ms (Charge n l) (ap behind e))
spent_only t budget c l left console [] rest n (charge r) e used lt p = absurd (not_before r (ap behind e))
spent_only t budget c l left console (m ∷ ms) rest n (charge {n = n'} {line = l'} {t = t'} {ms = ms'} r) e used lt p =
    let same_m : Charge n' l' ≡ m = ap first e in
    let costs : n' + cost ms ≡ cost (m ∷ ms) = ap (λ m. cost (m ∷ ms)) same_m in
    let prints : printed_lines ms ≡ printed_lines (m ∷ ms) = ap (λ m. printed_lines (m ∷ ms)) same_m in
    fits n' l' budget c t' (Spent l left console) (omega (arith, costs, used))
    (spent_only t' (budget - n') c l left console ms ms' n r (ap behind e) (omega (arith, costs, used)) lt (p ∙ ap (λ x. c ++ x) (sym prints)))
spent_only t budget c l left console [] rest n (print r) e used lt p = absurd (not_before r (ap behind e))
spent_only t budget c l left console (m ∷ ms) rest n (print {x = x} {t = t'} {ms = ms'} r) e used lt p =
    let same_m : Printed x ≡ m = ap first e in
    let costs : cost ms ≡ cost (m ∷ ms) = ap (λ m. cost (m ∷ ms)) same_m in
    let prints : x ∷ printed_lines ms ≡ printed_lines (m ∷ ms) = ap (λ m. printed_lines (m ∷ ms)) same_m in
    spent_only t' budget (c ++ x ∷ []) l left console ms ms' n r (ap behind e) (let u = used in omega (arith, costs, u)) lt
    (p ∙ ap (λ x. c ++ x) (sym prints) ∙ sym (append_assoc c (x ∷ []) (printed_lines ms)))

only : {A : Type 0} (t : Trace A) (budget : ℕ) (s : Spending A) → Picks (IsRun t) budget s → s ≡ spend t budget []
only t budget (Got a left console) h = got_only t budget [] a left console h.0 h.1 h.2 h.3
only t budget (Failed k l left console) h = failed_only t budget [] k l left console h.0 h.1 h.2 h.3
only t budget (Spent l left console) h = spent_only t budget [] l left console h.0 (h.0 ++ Charge h.1 l ∷ []) h.1 h.2 refl h.3 h.4 h.5

pub one_run : {A : Type 0} (t : Trace A) → HasOneRun t
one_run t = record {
  alike = λ ms ms' e e' r r'. alike r r';
  whole = whole t;
  picked = λ budget. picks t budget (spend t budget []) (picked_from t budget []);
  only = only t;
}
