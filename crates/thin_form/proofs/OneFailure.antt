-- Bytes are a file of the form, or fail at one line.
use Rattle.std.proofs.Common.{◌≡◌, ℕ, zero, suc, ◌+◌, ◌<◌, ◌≤◌, ◌⊎◌, inl, inr, ⊎_elim, List, [], ◌∷◌, ◌++◌, take, refl, ap, ◌∙◌, subst, append_assoc, append-nil, arith}
use Rattle.std.specs.Prelude.{codes}
use Rattle.std.specs.List.{count_by}
use Rattle.std.proofs.lemmas.Bool.{cases_lt}
use Rattle.std.proofs.lemmas.List.Sums.{sum_by-append}
use Rattle.thin_form.specs.Places.{Place, First, Fits, Leads}
use Rattle.thin_form.proofs.Beginnings.{alone_last, take_leads}
use Rattle.thin_form.proofs.FileElements.{one_elements}
use Rattle.thin_form.proofs.Leads.{leads_parts, opened}
use Rattle.py_tree.proofs.Breaks.{text-append}
use Rattle.thin_form.proofs.Stops.{alone_only}
use Rattle.form_meaning.specs.Fails.{is_body_line, IsAlone, IsFormless, LinesFit, FailsAt}
use Rattle.form_meaning.specs.Thin.{Elements, decorator_line, main_line, file_lines}
use Rattle.py_tree.specs.TextLines.{text_of}

-- ---- the line at which bytes fail

-- bytes that fail at a line are no file
pub formless : (bytes : List ℕ) (n : ℕ) → FailsAt bytes n → IsFormless bytes
formless bytes zero fails = λ nb form. let short = form.short in omega arith
formless bytes (suc k) fails = fails.5

-- fewer lines, and those that come after them
record IsFront {A : Type 0} (k j : ℕ) (xs : List A) : Type 0 where
  more : List A
  parts : take j xs ≡ take k xs ++ more

front : {A : Type 0} (k j : ℕ) (xs : List A) → k ≤ j → IsFront k j xs
front zero j xs le = record { more = take j xs; parts = refl }
front (suc k) zero xs le = absurd (omega arith)
front (suc k) (suc j) [] le = record { more = []; parts = refl }
front (suc k) (suc j) (x ∷ xs) le =
    let rest = front k j xs (omega arith) in
    record { more = rest.more; parts = ap (λ l. x ∷ l) rest.parts }

-- no line with an indent comes behind one that stands alone
no_space : (b : ℕ) (x y : List ℕ) → (b ≡ 32 → ⊥) → b ∷ x ≡ 32 ∷ y → ⊥
no_space b x y h e = h cc

no_indent : (next : List ℕ) (more : List (List ℕ)) (rest after : List ℕ) → (next ≡ decorator_line) ⊎ (next ≡ main_line) → text_of (next ∷ more) ++ rest ≡ codes "    " ++ after → ⊥
no_indent next more rest after (inl e) i = no_space 64 _ _ (λ p. omega arith) (rw e at i)
no_indent next more rest after (inr e) i = no_space 105 _ _ (λ p. omega arith) (rw e at i)

apart : (es : Elements) (q : Place) (xs more before : List (List ℕ)) (line rest after : List ℕ) → Leads es First (xs ++ more) q → (xs ++ more ≡ before ++ line ∷ [] → rest ≡ codes "    " ++ after → ⊥) → xs ≡ before ++ line ∷ [] → IsAlone es line → text_of more ++ rest ≡ codes "    " ++ after → ⊥
apart es q xs [] before line rest after lead last e a i = last (append-nil xs ∙ e) i
apart es q xs (next ∷ more) before line rest after lead last e a i =
    let w = leads_parts es First q xs (next ∷ more) lead in
    let o = opened es w.0 q next more w.2 in
    let F : Place → Type 0 = λ p. Fits es p next o.0 in
    let fit = subst F (alone_last es First w.0 xs before line w.1 e a) o.1 in
    no_indent next more rest after (alone_only es next o.0 fit) i

-- bytes that begin with some lines begin with fewer
begins_before : (es : Elements) (bytes : List ℕ) (k j : ℕ) → k ≤ j → LinesFit es bytes j → LinesFit es bytes k
begins_before es bytes k j le b =
    let lines = file_lines b.cells in
    let f = front k j lines le in
    let led = take_leads es j b.cells b.fits in
    let P : List (List ℕ) → Type 0 = λ l. Leads es First l led.0 in
    let sum : count_by is_body_line (take j lines) ≡ count_by is_body_line (take k lines) + count_by is_body_line f.more =
    ap (count_by is_body_line) f.parts ∙ sum_by-append _ (take k lines) f.more in
    let text : text_of (take j lines) ≡ text_of (take k lines) ++ text_of f.more =
    ap text_of f.parts ∙ text-append (take k lines) f.more in
    record {
      cells = b.cells;
      rest = text_of f.more ++ b.rest;
      fits = b.fits;
      long = omega (arith, b.long);
      few = omega (arith, b.few);
      text = b.text ∙ (ap (λ t. t ++ b.rest) text ∙ append_assoc (text_of (take k lines)) (text_of f.more) b.rest);
      alone = λ before line after e a i. apart es led.0 (take k lines) f.more before line b.rest after (subst P f.parts led.1) (λ last indent. b.alone before line after (f.parts ∙ last) a indent) e a i;
    }

-- no line before the one at which bytes fail
none_before : (bytes : List ℕ) (k j : ℕ) → k < j → FailsAt bytes (suc k) → FailsAt bytes (suc j) → ⊥
none_before bytes k j lt first second =
    let L : Elements → Type 0 = λ es. LinesFit es bytes j in
    let same = one_elements bytes second.1 first.1 second.2 first.2 in
    first.4 (begins_before first.1 bytes (suc k) j (omega arith) (subst L same second.3))

same_place : (bytes : List ℕ) (k j : ℕ) → FailsAt bytes (suc k) → FailsAt bytes (suc j) → k ≡ j
same_place bytes k j first second = ⊎_elim
    (λ less. absurd (none_before bytes k j less first second))
    (λ no_less. ⊎_elim
    (λ more. absurd (none_before bytes j k more second first))
    (λ no_more. omega arith)
    (cases_lt j k))
    (cases_lt k j)

pub same_failure : (bytes : List ℕ) (m n : ℕ) → FailsAt bytes m → FailsAt bytes n → m ≡ n
same_failure bytes zero zero p q = refl
same_failure bytes zero (suc j) p q = absurd (let short = q.0 in omega arith)
same_failure bytes (suc k) zero p q = absurd (let short = p.0 in omega arith)
same_failure bytes (suc k) (suc j) p q = ap suc (same_place bytes k j p q)
