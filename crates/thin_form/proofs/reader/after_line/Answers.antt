-- The line's bytes, then a `\n`.
use Rattle.std.proofs.Common.{◌≡◌, ◌++◌, [], ◌∷◌, List, ℕ, ◌≢◌, Option, Some, None, MatchOption, append_assoc, sym, ap, ◌∙◌}
use Rattle.std.proofs.lemmas.Bool.Decides.{Decides-eqb}
use Rattle.std.proofs.lemmas.Slice.Eq.{strip_prefix_is}
use Rattle.std.proofs.lemmas.List.{append_cancel_left}
use denote.Ref.{Bor}
use Rattle.thin_form.proofs.reader.after_line.Goals as goal

-- what the second step says, from what the first one says
joined : (bytes line middle : List ℕ) (r : Option (Bor (List ℕ))) → bytes ≡ line ++ middle → MatchOption r ((rest : List ℕ) → middle ≢ 10 ∷ [] ++ rest) (λ x. middle ≡ 10 ∷ [] ++ x.now) → MatchOption r ((rest : List ℕ) → bytes ≡ line ++ 10 ∷ [] ++ [] ++ rest → ⊥) (λ x. bytes ≡ line ++ 10 ∷ [] ++ [] ++ x.now)
joined bytes line middle None e h = λ rest f. h rest (append_cancel_left line _ _ (sym e ∙ f ∙ simp append_assoc))
joined bytes line middle (Some x) e h = simp append_assoc (e ∙ ap (λ m. line ++ m) h)

pub returns-in_err-strip_prefix : goal.returns-in_err-strip_prefix
returns-in_err-strip_prefix c =
    let h = strip_prefix_is Decides-eqb c.args.bytes.now c.args.line.now None c.in_err-strip_prefix.ensures.cases in
    rw c.from_residual.ensures (λ rest f. h (10 ∷ rest) (simp append_assoc at f))

pub returns : goal.returns
returns c =
    let bytes = c.args.bytes.now in
    let line = c.args.line.now in
    let middle = c.in_ok-strip_prefix.field-0 in
    let first = strip_prefix_is Decides-eqb bytes line (Some middle) c.in_ok-strip_prefix.ensures.cases in
    let second = strip_prefix_is Decides-eqb middle.now (10 ∷ []) c.strip_prefix-2.result c.strip_prefix-2.ensures.cases in
    joined bytes line middle.now c.strip_prefix-2.result first second
