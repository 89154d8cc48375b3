-- Lines after lines.
use Rattle.std.proofs.Common.{ℕ, ◌+◌, List, [], ◌++◌, refl, sym, ap, ◌∙◌, append_assoc, length-append, arith}
use Rattle.thin_form.specs.FileParts.{At, IsPast}
use Rattle.py_tree.specs.TextLines.{text_of}
use Rattle.py_tree.proofs.Breaks.{text-append}

pub past_none : (a : At) → IsPast a a [] 0
past_none a = record { bytes = refl; line = omega arith; room = omega arith }

pub past_on : (a b c : At) (xs ys : List (List ℕ)) (m n : ℕ) → IsPast a b xs m → IsPast b c ys n → IsPast a c (xs ++ ys) (m + n)
past_on a b c xs ys m n p q = record {
  bytes = p.bytes ∙ (ap (λ (l : List ℕ). text_of xs ++ l) q.bytes ∙ (sym (append_assoc (text_of xs) (text_of ys) c.bytes) ∙ ap (λ (l : List ℕ). l ++ c.bytes) (sym (text-append xs ys))));
  line = omega (arith, p.line, q.line, length-append xs ys);
  room = omega (arith, p.room, q.room);
}
