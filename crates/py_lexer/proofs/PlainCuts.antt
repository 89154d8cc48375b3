-- What the code cuts off a text is the token.
use Rattle.std.proofs.Common.{◌≡◌, ℕ, ◌-◌, List, ◌++◌, length, take, drop, Option, Some, None, refl, sym, ap, subst, ◌∙◌, length-append, arith}
use Rattle.std.specs.Str.{IsUtf8}
use Rattle.std.proofs.Math.Seq.{take-append_seam, drop-append_seam}
use Rattle.lexical_form.specs.Reading.{Read}
use Rattle.lexical_form.specs.Plain.{PlainKind, Plain, LongestPlain}
use Rattle.lexical_form.specs.PlainReader.{next_plain}
use Rattle.py_lexer.specs.Ends.{plain_end}
use Rattle.py_lexer.specs.Cutting.{PlainCut}
use Rattle.lexical_form.proofs.Basics.{some_is, not_some}
use Rattle.lexical_form.proofs.PlainLaws.{plain, plain_found}
use Rattle.lexical_form.proofs.PlainLongest.{local_stands, read_longest}
use Rattle.py_lexer.proofs.PlainEnds.{outline, plain_outline}
use Rattle.py_lexer.proofs.LastBytes.{plain_ends, boundary}

cut_of : (ts : List ℕ) (k : PlainKind) (cs rest : List ℕ) → IsUtf8 ts → next_plain ts ≡ Some (plain k cs, rest) → PlainCut ts (length ts - length rest) k
cut_of ts k cs rest u e =
    let f = plain_found ts (plain k cs) rest e in
    let front : ts ≡ cs ++ rest = f.front in
    let l = ap length front ∙ length-append cs rest in
    let n : length cs ≡ length ts - length rest = omega arith in
    let t : take (length cs) ts ≡ cs = ap (take (length cs)) front ∙ take-append_seam cs rest in
    let d : drop (length cs) ts ≡ rest = ap (drop (length cs)) front ∙ drop-append_seam cs rest in
    subst (λ n. PlainCut ts n k) n (record {
      in_range = omega arith;
      boundary = boundary ts cs rest u (plain_ends k cs rest (local_stands k cs rest f.stands)) front;
      read = e ∙ (ap (λ (xs : List ℕ). Some (plain k xs, rest)) (sym t) ∙ ap (λ (xs : List ℕ). Some (plain k (take (length cs) ts), xs)) (sym d));
    })

cut_by : (ts : List ℕ) (r : Read Plain) (k : PlainKind) (rest : List ℕ) → IsUtf8 ts → next_plain ts ≡ r → ◌≡◌ {A = Option (PlainKind × List ℕ)} (outline r) (Some (k, rest)) → PlainCut ts (length ts - length rest) k
cut_by ts None k rest u e f = not_some (k, rest) f
cut_by ts (Some p) k rest u e f =
    let same = some_is {A = PlainKind × List ℕ} (Plain.kind p.0, p.1) (k, rest) f in
    let kind : Plain.kind p.0 ≡ k = ap (λ (x : PlainKind × List ℕ). x.0) same in
    let behind : p.1 ≡ rest = ap (λ (x : PlainKind × List ℕ). x.1) same in
    subst (λ x. PlainCut ts (length ts - length rest) x) kind (subst (λ (xs : List ℕ). PlainCut ts (length ts - length xs) (Plain.kind p.0)) behind (cut_of ts (Plain.kind p.0) (Plain.spelling p.0) p.1 u e))

pub plain_cut : (ts : List ℕ) (k : PlainKind) (rest : List ℕ) → IsUtf8 ts → plain_end ts ≡ Some (k, rest) → PlainCut ts (length ts - length rest) k
plain_cut ts k rest u e = cut_by ts (next_plain ts) k rest u refl (plain_outline ts ∙ e)

pub plain_none : (ts : List ℕ) → plain_end ts ≡ None → next_plain ts ≡ None
plain_none ts e = go (next_plain ts) (plain_outline ts ∙ e)
  where
    go : (r : Read Plain) → outline r ≡ None → r ≡ None
    go None h = refl
    go (Some p) h = not_some (Plain.kind p.0, p.1) (sym h)

pub cut_longest : (ts : List ℕ) (n : ℕ) (k : PlainKind) (front behind : List ℕ) → PlainCut ts n k → front ≡ take n ts → behind ≡ drop n ts → LongestPlain ts (plain k front) behind
cut_longest ts n k front behind c f b =
    read_longest ts (plain k front) behind (PlainCut.read c ∙ sym (ap (λ (xs : List ℕ). Some (plain k xs, behind)) f ∙ ap (λ (xs : List ℕ). Some (plain k (take n ts), xs)) b))
