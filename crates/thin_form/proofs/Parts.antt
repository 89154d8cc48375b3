-- What the tests of lines, bodies and cells say, part by part.
use Rattle.std.proofs.Common.{◌≡◌, ◌⊎◌, inl, inr, ℕ, ◌+◌, ◌≤◌, Bool, true, false, not, ◌&&◌, IsTrue, refl, arith}
use Rattle.std.specs.Prelude.{nat_le}
use Rattle.std.proofs.lemmas.Bool.{and_parts, and_from, or_cases, eqb-true, eq-eqb, false≢true, leb-true}
use Rattle.form_meaning.specs.Thin.{Elements, is_line, stands_alone, is_empty, is_plain, are_lines, line_count, is_cell, is_whole}
use Rattle.py_tree.specs.Trees.{Head, stmt, Stmts, end, then_comes, Cell}

pub empty_block : (b : Stmts) → IsTrue (is_empty b) → b ≡ end
empty_block end e = refl
empty_block (then_comes s b) e = absurd (false≢true e)

-- the first line of a body, and those after it
pub record FirstLine (es : Elements) (n number : ℕ) (head : Head) (block rest : Stmts) : Type 0 where
  pub at : number ≡ n
  pub fits : IsTrue (is_line es head)
  pub empty : block ≡ end
  pub more : IsTrue (are_lines es (n + 1) rest)

pub first_line : (es : Elements) (n number : ℕ) (head : Head) (block rest : Stmts) → IsTrue (are_lines es n (then_comes (stmt number head block) rest)) → FirstLine es n number head block rest
first_line es n number head block rest fits =
    let all = and_parts _ _ fits in
    let line = and_parts _ _ all.0 in
    let start = and_parts _ _ line.0 in
    record { at = eqb-true number n start.0; fits = start.1; empty = empty_block block line.1; more = all.1 }

-- a line before others
pub line_before : (es : Elements) (n : ℕ) (head : Head) (rest : Stmts) → IsTrue (is_line es head) → IsTrue (are_lines es (n + 1) rest) → IsTrue (are_lines es n (then_comes (stmt n head end) rest))
line_before es n head rest fits more = and_from _ _ (and_from _ _ (and_from _ _ (eq-eqb n n refl) fits) refl) more

pub record CellParts (es : Elements) (n : ℕ) (c : Cell) : Type 0 where
  pub at : c.line ≡ n
  pub some : IsTrue (not (is_empty c.body))
  pub fits : IsTrue (are_lines es (n + 2) c.body)
  pub whole : IsTrue (is_whole c.body)

pub cell_parts : (es : Elements) (n : ℕ) (c : Cell) → IsTrue (is_cell es n c) → CellParts es n c
cell_parts es n c fits =
    let all = and_parts _ _ fits in
    let body = and_parts _ _ all.0 in
    let start = and_parts _ _ body.0 in
    record { at = eqb-true c.line n start.0; some = start.1; fits = body.1; whole = all.1 }

pub cell_from : (es : Elements) (n : ℕ) (c : Cell) → CellParts es n c → IsTrue (is_cell es n c)
cell_from es n c p = and_from _ _ (and_from _ _ (and_from _ _ (eq-eqb c.line n p.at) p.some) p.fits) p.whole

true_or_not : (b : Bool) → IsTrue b ⊎ IsTrue (not b)
true_or_not true = inl refl
true_or_not false = inr refl

pub untrue : (b : Bool) → (IsTrue b → ⊥) → IsTrue (not b)
untrue true h = absurd (h refl)
untrue false h = refl

-- the first line of a whole body stands alone, or none does
pub whole_parts : (k : ℕ) (h : Head) (block rest : Stmts) → IsTrue (is_whole (then_comes (stmt k h block) rest)) → (IsTrue (stands_alone h) × (rest ≡ end)) ⊎ (IsTrue (not (stands_alone h)) × IsTrue (is_plain rest))
whole_parts k h block end e = elim (true_or_not (stands_alone h)) as (λ _. (IsTrue (stands_alone h) × (end ≡ end)) ⊎ (IsTrue (not (stands_alone h)) × IsTrue (is_plain end))) [
  | inl alone ↦ inl (alone, refl)
  | inr shared ↦ inr (shared, refl)
]
whole_parts k h block (then_comes s rest) e = elim (or_cases (nat_le (line_count rest + 1 + 1) 1) (not (stands_alone h) && is_plain (then_comes s rest)) e) as (λ _. (IsTrue (stands_alone h) × (then_comes s rest ≡ end)) ⊎ (IsTrue (not (stands_alone h)) × IsTrue (is_plain (then_comes s rest)))) [
  | inl few ↦ let n : line_count rest + 1 + 1 ≤ 1 = leb-true _ _ few in absurd (omega arith)
  | inr plain ↦ let w = and_parts _ _ plain in inr (w.0, w.1)
]
