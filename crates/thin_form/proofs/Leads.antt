-- Lines that fit one after the other.
use Rattle.std.proofs.Common.{◌≡◌, ℕ, ◌+◌, true, cond, not, IsTrue, List, [], ◌∷◌, ◌++◌, refl, sym, ◌∙◌, arith, subst}
use Rattle.std.specs.List.{count_by}
use Rattle.std.specs.Str.{bytes_eq}
use Rattle.std.proofs.lemmas.Bool.{and_from, false≢true}
use Rattle.std.proofs.lemmas.List.Sums.{sum_by-append}
use Rattle.std.proofs.lemmas.Slice.Eq.{bytes_eq-Decides}
use Rattle.thin_form.specs.FileParts.{BeginsWith}
use Rattle.py_tree.specs.TextLines.{is_unbroken}
use Rattle.thin_form.specs.Places.{Place, AfterAlone, IsBody, IsShared, Fits, first, second, decorator, main, definition, body, next_body, next_decorator, next_main, alone, decorator_behind, main_behind, last, Leads, none, then_fits}
use Rattle.py_tree.proofs.Breaks.{are_unbroken}
use Rattle.thin_form.proofs.OneLine.{line_one, line_unbroken, not_last}
use Rattle.thin_form.proofs.Parts.{untrue}
use Rattle.form_meaning.specs.Fails.{is_body_line, IsAlone}
use Rattle.form_meaning.specs.Thin.{Elements, is_line, stands_alone, line_text, decorator_line, main_line, last_line}
use Rattle.py_tree.specs.Trees.{Head}

heads : (b c : ℕ) (x y line : List ℕ) → (b ≡ c → ⊥) → line ≡ b ∷ x → line ≡ c ∷ y → ⊥
heads b c x y line h e f = h cc

-- ---- body lines

pub shared_body : (es : Elements) (line : List ℕ) → IsShared es line → IsBody es line
shared_body es line s = (s.0, s.1, s.3)

pub alone_body : (es : Elements) (line : List ℕ) → IsAlone es line → IsBody es line
alone_body es line a = (a.0, a.1, a.3)

-- a body line has an indent
pub space : (es : Elements) (line : List ℕ) → IsBody es line → BeginsWith 32 line
space es line b = (_, b.2)

-- the line of a body counts as one
pub line_is_body : (es : Elements) (h : Head) → IsTrue (is_line es h) → is_body_line (line_text h) ≡ true
line_is_body es h p = untrue (bytes_eq (line_text h) last_line) (λ f. not_last es h p ((bytes_eq-Decides (line_text h) last_line).0 f))

pub body_is : (es : Elements) (line : List ℕ) → IsBody es line → is_body_line line ≡ true
body_is es line b = rw b.2 (line_is_body es b.0 b.1)

-- no line both stands alone and may have others beside it
pub alone_or_shared : (es : Elements) (line : List ℕ) → IsAlone es line → IsShared es line → ⊥
alone_or_shared es line a s =
    let same : s.0 ≡ a.0 = line_one es es s.0 a.0 s.1 a.1 (sym s.3 ∙ a.3) in
    let shared : IsTrue (not (stands_alone a.0)) = rw same at s.2 in
    false≢true (rw a.2 at shared)

-- ---- the place after a line

no_body : (es : Elements) (b : ℕ) (x line : List ℕ) → (b ≡ 32 → ⊥) → line ≡ b ∷ x → IsBody es line → ⊥
no_body es b x line h e found = let s = space es line found in heads b 32 x s.0 line h e s.1

decorator_or_main : (line : List ℕ) → line ≡ decorator_line → line ≡ main_line → ⊥
decorator_or_main line e f = heads 64 105 _ _ line (λ p. omega arith) e f

decorator_or_body : (es : Elements) (line : List ℕ) → line ≡ decorator_line → IsBody es line → ⊥
decorator_or_body es line e b = no_body es 64 _ line (λ p. omega arith) e b

main_or_body : (es : Elements) (line : List ℕ) → line ≡ main_line → IsBody es line → ⊥
main_or_body es line e b = no_body es 105 _ line (λ p. omega arith) e b

-- a line that fits leads to one place
pub fits_once : (es : Elements) (p q r : Place) (line : List ℕ) → Fits es p line q → Fits es p line r → q ≡ r
fits_once es p q r line (first l e) (first m f) = refl
fits_once es p q r line (second l e) (second m f) = refl
fits_once es p q r line (decorator l e) (decorator m f) = refl
fits_once es p q r line (decorator l e) (main m f) = absurd (decorator_or_main l e f)
fits_once es p q r line (main l e) (decorator m f) = absurd (decorator_or_main l f e)
fits_once es p q r line (main l e) (main m f) = refl
fits_once es p q r line (definition l e) (definition m f) = refl
fits_once es p q r line (body l e) (body m f) = refl
fits_once es p q r line (body l e) (alone m f) = absurd (alone_or_shared es l f e)
fits_once es p q r line (alone l e) (body m f) = absurd (alone_or_shared es l e f)
fits_once es p q r line (alone l e) (alone m f) = refl
fits_once es p q r line (next_body l e) (next_body m f) = refl
fits_once es p q r line (next_body l e) (next_decorator m f) = absurd (decorator_or_body es l f (shared_body es l e))
fits_once es p q r line (next_body l e) (next_main m f) = absurd (main_or_body es l f (shared_body es l e))
fits_once es p q r line (next_decorator l e) (next_body m f) = absurd (decorator_or_body es l e (shared_body es l f))
fits_once es p q r line (next_decorator l e) (next_decorator m f) = refl
fits_once es p q r line (next_decorator l e) (next_main m f) = absurd (decorator_or_main l e f)
fits_once es p q r line (next_main l e) (next_body m f) = absurd (main_or_body es l e (shared_body es l f))
fits_once es p q r line (next_main l e) (next_decorator m f) = absurd (decorator_or_main l f e)
fits_once es p q r line (next_main l e) (next_main m f) = refl
fits_once es p q r line (decorator_behind l e) (decorator_behind m f) = refl
fits_once es p q r line (decorator_behind l e) (main_behind m f) = absurd (decorator_or_main l e f)
fits_once es p q r line (main_behind l e) (decorator_behind m f) = absurd (decorator_or_main l f e)
fits_once es p q r line (main_behind l e) (main_behind m f) = refl
fits_once es p q r line (last l e) (last m f) = refl

-- behind a line that stands alone
pub after_alone : (es : Elements) (p q : Place) (line : List ℕ) → Fits es p line q → IsAlone es line → q ≡ AfterAlone
after_alone es p q line (first l e) a = absurd (no_body es 105 _ l (λ h. omega arith) e (alone_body es l a))
after_alone es p q line (second l e) a = absurd (no_body es 97 _ l (λ h. omega arith) e (alone_body es l a))
after_alone es p q line (decorator l e) a = absurd (decorator_or_body es l e (alone_body es l a))
after_alone es p q line (main l e) a = absurd (main_or_body es l e (alone_body es l a))
after_alone es p q line (definition l e) a = absurd (no_body es 100 _ l (λ h. omega arith) e (alone_body es l a))
after_alone es p q line (body l e) a = absurd (alone_or_shared es l a e)
after_alone es p q line (next_body l e) a = absurd (alone_or_shared es l a e)
after_alone es p q line (next_decorator l e) a = absurd (decorator_or_body es l e (alone_body es l a))
after_alone es p q line (next_main l e) a = absurd (main_or_body es l e (alone_body es l a))
after_alone es p q line (alone l e) a = refl
after_alone es p q line (decorator_behind l e) a = absurd (decorator_or_body es l e (alone_body es l a))
after_alone es p q line (main_behind l e) a = absurd (main_or_body es l e (alone_body es l a))
after_alone es p q line (last l e) a = absurd (not_last es a.0 a.1 (sym a.3 ∙ e))

-- only such a line leads there
pub only_alone : (es : Elements) (p q : Place) (line : List ℕ) → q ≡ AfterAlone → Fits es p line q → IsAlone es line
only_alone es p q line same (first l e) = absurd cc
only_alone es p q line same (second l e) = absurd cc
only_alone es p q line same (decorator l e) = absurd cc
only_alone es p q line same (main l e) = absurd cc
only_alone es p q line same (definition l e) = absurd cc
only_alone es p q line same (body l e) = absurd cc
only_alone es p q line same (next_body l e) = absurd cc
only_alone es p q line same (next_decorator l e) = absurd cc
only_alone es p q line same (next_main l e) = absurd cc
only_alone es p q line same (alone l e) = e
only_alone es p q line same (decorator_behind l e) = absurd cc
only_alone es p q line same (main_behind l e) = absurd cc
only_alone es p q line same (last l e) = absurd cc

-- ---- lines one after the other

pub leads-append : (es : Elements) (p q r : Place) (xs ys : List (List ℕ)) → Leads es p xs q → Leads es q ys r → Leads es p (xs ++ ys) r
leads-append es p q r xs ys (none o) b = b
leads-append es p q r xs ys (then_fits o m n line lines f a) b = then_fits o m r line (lines ++ ys) f (leads-append es m n r lines ys a b)

pub leads-one : (es : Elements) (p q : Place) (line : List ℕ) → Fits es p line q → Leads es p (line ∷ []) q
leads-one es p q line f = then_fits p q q line [] f (none q)

-- a first line fits, and the others lead on
pub opened : (es : Elements) (p r : Place) (line : List ℕ) (lines : List (List ℕ)) → Leads es p (line ∷ lines) r → (q : Place) × Fits es p line q × Leads es q lines r
opened es p r line lines (then_fits from q to l rest fit lead) = (q, fit, lead)

no_lines : (es : Elements) (p r : Place) → Leads es p [] r → p ≡ r
no_lines es p r (none q) = refl

-- the only line fits
pub one_fits : (es : Elements) (p r : Place) (line : List ℕ) → Leads es p (line ∷ []) r → Fits es p line r
one_fits es p r line lead =
    let o = opened es p r line [] lead in
    let F : Place → Type 0 = λ q. Fits es p line q in
    subst F (no_lines es o.0 r o.2) o.1

-- the lines up to somewhere lead to a place
pub leads_parts : (es : Elements) (p r : Place) (xs ys : List (List ℕ)) → Leads es p (xs ++ ys) r → (q : Place) × Leads es p xs q × Leads es q ys r
leads_parts es p r [] ys a = (p, none p, a)
leads_parts es p r (x ∷ xs) ys a =
    let o = opened es p r x (xs ++ ys) a in
    let t = leads_parts es o.0 r xs ys o.2 in
    (t.0, then_fits p o.0 t.0 x xs o.1 t.1, t.2)

-- lines that fit lead to one place
pub leads_once : (es : Elements) (p q r : Place) (lines : List (List ℕ)) → Leads es p lines q → Leads es p lines r → q ≡ r
leads_once es p q r lines (none s) b = no_lines es s r b
leads_once es p q r lines (then_fits from s to line rest fit lead) b =
    let o = opened es from r line rest b in
    let L : Place → Type 0 = λ t. Leads es t rest r in
    leads_once es s to r rest lead (subst L (sym (fits_once es from s o.0 line fit o.1)) o.2)

-- no line of those that fit holds a `\n`
body_unbroken : (es : Elements) (line : List ℕ) → IsBody es line → IsTrue (is_unbroken line)
body_unbroken es line b = rw b.2 (line_unbroken es b.0 b.1)

fits_unbroken : (es : Elements) (p q : Place) (line : List ℕ) → Fits es p line q → IsTrue (is_unbroken line)
fits_unbroken es p q line (first l e) = rw e refl
fits_unbroken es p q line (second l e) = rw e refl
fits_unbroken es p q line (decorator l e) = rw e refl
fits_unbroken es p q line (main l e) = rw e refl
fits_unbroken es p q line (definition l e) = rw e refl
fits_unbroken es p q line (body l e) = body_unbroken es l (shared_body es l e)
fits_unbroken es p q line (next_body l e) = body_unbroken es l (shared_body es l e)
fits_unbroken es p q line (next_decorator l e) = rw e refl
fits_unbroken es p q line (next_main l e) = rw e refl
fits_unbroken es p q line (alone l e) = body_unbroken es l (alone_body es l e)
fits_unbroken es p q line (decorator_behind l e) = rw e refl
fits_unbroken es p q line (main_behind l e) = rw e refl
fits_unbroken es p q line (last l e) = rw e refl

pub leads_unbroken : (es : Elements) (p q : Place) (lines : List (List ℕ)) → Leads es p lines q → IsTrue (are_unbroken lines)
leads_unbroken es p q lines (none s) = refl
leads_unbroken es p q lines (then_fits from s to line rest fit lead) =
    and_from _ _ (fits_unbroken es from s line fit) (leads_unbroken es s to rest lead)

-- ---- how many lines are body lines

pub count-append : (xs ys : List (List ℕ)) → count_by is_body_line (xs ++ ys) ≡ count_by is_body_line xs + count_by is_body_line ys
count-append xs ys = sum_by-append (λ (l : List ℕ). cond (is_body_line l) 1 0) xs ys
