-- The indent, then the bytes up to the first `\n`.
use Rattle.std.proofs.Common.{◌≡◌, ◌++◌, [], ◌∷◌, List, ℕ, Option, Some, None, MatchOption, IsTrue, ap, ◌∙◌}
use Rattle.std.proofs.lemmas.Bool.Decides.{Decides-eqb}
use Rattle.std.proofs.lemmas.Slice.Eq.{strip_prefix_is}
use denote.Ref.{Bor}
use Rattle.py_tree.specs.TextLines.{is_unbroken}
use Rattle.thin_form.proofs.reader.indented.Goals as goal

behind : (line text rest bytes : List ℕ) → bytes ≡ 32 ∷ 32 ∷ 32 ∷ 32 ∷ line → bytes ≡ 32 ∷ 32 ∷ 32 ∷ 32 ∷ (text ++ 10 ∷ rest) → line ≡ text ++ 10 ∷ rest
behind line text rest bytes e f = cc

-- what is said of the bytes behind the indent is said of all of them
with_indent : (bytes line : List ℕ) (r : Option (Bor (List ℕ) × Bor (List ℕ))) → bytes ≡ 32 ∷ 32 ∷ 32 ∷ 32 ∷ line → MatchOption r ((text rest : List ℕ) → line ≡ text ++ 10 ∷ rest → ⊥) (λ p. IsTrue (is_unbroken p.0.now) × (line ≡ p.0.now ++ 10 ∷ p.1.now)) → MatchOption r ((text rest : List ℕ) → bytes ≡ 32 ∷ 32 ∷ 32 ∷ 32 ∷ (text ++ 10 ∷ rest) → ⊥) (λ p. IsTrue (is_unbroken p.0.now) × (bytes ≡ 32 ∷ 32 ∷ 32 ∷ 32 ∷ (p.0.now ++ 10 ∷ p.1.now)))
with_indent bytes line None e h = λ text rest f. h text rest (behind line text rest bytes e f)
with_indent bytes line (Some p) e h = (h.0, e ∙ ap (λ l. 32 ∷ 32 ∷ 32 ∷ 32 ∷ l) h.1)

pub returns : goal.returns
returns c =
    let line = c.in_ok-strip_prefix.field-0 in
    let first = strip_prefix_is Decides-eqb c.args.bytes.now (32 ∷ 32 ∷ 32 ∷ 32 ∷ []) (Some line) c.in_ok-strip_prefix.ensures.cases in
    with_indent c.args.bytes.now line.now c.whole_line.result first c.whole_line.ensures
