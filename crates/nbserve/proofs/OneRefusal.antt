-- Bytes are accepted, or refused for one reason.
use Rattle.std.proofs.Common.{◌≡◌, ℕ, ◌<◌, eqb, ⊎_elim, List, [], ◌∷◌, length, Some, None, refl, sym, ap, ◌∙◌, subst, arith}
use Rattle.std.proofs.lemmas.Bool.{cases_lt, eq-eqb, or_left}
use Rattle.std.proofs.lemmas.Bool.Decides.{same_from_decides}
use Rattle.std.proofs.lemmas.List.Elements.{filter_agree}
use Rattle.std.proofs.lemmas.Option.{same_Some}
use Rattle.form_meaning.specs.Thin.{IsForm}
use Rattle.graph_meaning.specs.Graph.{all_cells, is_in, name_again, first_definer, IsDoubled, NoneDoubled, AreCyclic, NoneCyclic}
use Rattle.program_meaning.specs.Program.{IsAccepted, Refusal, Thin, Doubly, Cycle, FailsFirst}
use Rattle.py_tree.specs.Names.{Name}
use Rattle.py_tree.specs.Trees.{Cell}
use Rattle.thin_form.proofs.OneFailure.{formless, same_failure}
use Rattle.thin_form.proofs.OneToOne.{same_form}

-- bytes are the file of one notebook
pub one_notebook : (bytes : List ℕ) (nb other : List Cell) → IsForm bytes nb → IsForm bytes other → nb ≡ other
one_notebook = same_form

-- ---- the name that is defined again

-- a cell defines a name again or none
some_again : (nb : List Cell) (x : Name) (c : ℕ) → name_again nb c ≡ Some x → name_again nb c ≡ None → ⊥
some_again nb x c some none = let bad : None ≡ Some x = sym none ∙ some in cc

-- two cells aren't both the first that defines a name again
same_second : (nb : List Cell) (x y : Name) (first first' second second' : ℕ) → IsDoubled nb x first second → IsDoubled nb y first' second' → second ≡ second'
same_second nb x y first first' second second' p q = ⊎_elim
    (λ less. absurd (some_again nb x second p.again (q.soonest second less)))
    (λ no_less. ⊎_elim
    (λ more. absurd (some_again nb y second' q.again (p.soonest second' more)))
    (λ no_more. omega arith)
    (cases_lt second' second))
    (cases_lt second second')

same_doubled : (nb : List Cell) (x y : Name) (first first' second second' : ℕ) → IsDoubled nb x first second → IsDoubled nb y first' second' → Doubly x first second ≡ Doubly y first' second'
same_doubled nb x y first first' second second' p q =
    let c : second ≡ second' = same_second nb x y first first' second second' p q in
    let name : x ≡ y = same_Some x y (sym p.again ∙ (ap (name_again nb) c ∙ q.again)) in
    let earliest : first ≡ first' = same_Some first first' (sym p.earliest ∙ (ap (first_definer nb) name ∙ q.earliest)) in
    cc

-- ---- the cells of cycles

same_cyclic : (nb : List Cell) (cells others : List ℕ) → AreCyclic nb cells → AreCyclic nb others → cells ≡ others
same_cyclic nb cells others p q =
    let agree : (c : ℕ) → is_in c cells ≡ is_in c others = λ c. same_from_decides (is_in c cells) (is_in c others) (p.each c, p.every c) (q.each c, q.every c) in
    p.rising ∙ (filter_agree (λ c. is_in c cells) (λ c. is_in c others) agree (all_cells nb) ∙ sym q.rising)

some_cyclic : (nb : List Cell) (cells : List ℕ) → AreCyclic nb cells → 0 < length cells → NoneCyclic nb → ⊥
some_cyclic nb [] cyclic some free = omega arith
some_cyclic nb (c ∷ cs) cyclic some free =
    free c (cyclic.each c (or_left (eqb c c) _ (eq-eqb c c refl)))

-- ---- one reason

pub none_refused : (bytes : List ℕ) (nb : List Cell) (why : Refusal) → IsAccepted bytes nb → FailsFirst bytes why → ⊥
none_refused bytes nb (Thin line) ok fails = formless bytes line fails nb ok.form
none_refused bytes nb (Doubly x first second) ok fails =
    let same = same_form bytes nb fails.0 ok.form fails.1 in
    some_again fails.0 x second fails.2.again (subst NoneDoubled same ok.once second)
none_refused bytes nb (Cycle cells) ok fails =
    let same = same_form bytes nb fails.0 ok.form fails.1 in
    some_cyclic fails.0 cells fails.2.all fails.2.some (subst NoneCyclic same ok.free)

pub same_refusal : (bytes : List ℕ) (a b : Refusal) → FailsFirst bytes a → FailsFirst bytes b → a ≡ b
same_refusal bytes (Thin m) (Thin n) p q = ap Thin (same_failure bytes m n p q)
same_refusal bytes (Thin m) (Doubly y first second) p q = absurd (formless bytes m p q.0 q.1)
same_refusal bytes (Thin m) (Cycle others) p q = absurd (formless bytes m p q.0 q.1)
same_refusal bytes (Doubly x first second) (Thin n) p q = absurd (formless bytes n q p.0 p.1)
same_refusal bytes (Doubly x first second) (Doubly y first' second') p q =
    let same = same_form bytes q.0 p.0 q.1 p.1 in
    same_doubled p.0 x y first first' second second' p.2 (subst (λ (nb : List Cell). IsDoubled nb y first' second') same q.2)
same_refusal bytes (Doubly x first second) (Cycle others) p q =
    let same = same_form bytes q.0 p.0 q.1 p.1 in
    absurd (some_again p.0 x second p.2.again (subst NoneDoubled same q.2.once second))
same_refusal bytes (Cycle cells) (Thin n) p q = absurd (formless bytes n q p.0 p.1)
same_refusal bytes (Cycle cells) (Doubly y first second) p q =
    let same = same_form bytes p.0 q.0 p.1 q.1 in
    absurd (some_again q.0 y second q.2.again (subst NoneDoubled same p.2.once second))
same_refusal bytes (Cycle cells) (Cycle others) p q =
    let same = same_form bytes q.0 p.0 q.1 p.1 in
    ap Cycle (same_cyclic p.0 cells others p.2.all (subst (λ (nb : List Cell). AreCyclic nb others) same q.2.all))
