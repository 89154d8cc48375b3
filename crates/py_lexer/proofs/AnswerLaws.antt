-- From the cut of the readable text to the answer about the bytes.
use Rattle.std.proofs.Common.{◌≡◌, Bool, true, ℕ, List, sym, subst}
use Rattle.std.specs.Prelude.{Result, Ok, Err}
use Rattle.std.specs.Str.{IsUtf8}
use Rattle.lexical_form.specs.LogicalLines.{Spelled}
use Rattle.lexical_form.specs.Lines.{Line, State, Cut}
use Rattle.lexical_form.specs.Readable.{readable, is_readable}
use Rattle.py_lexer.specs.declared.fault.LexFault.{LexFault}
use Rattle.py_lexer.specs.declared.fault.LexFault.TheVariants as fault
use Rattle.py_lexer.specs.Answers.{Ends, Answers, Answered}
use Rattle.py_lexer.specs.Clean.{is_clean}
use Rattle.py_lexer.proofs.CleanLaws.{clean_is}
use Rattle.lexical_form.proofs.CutLaws.{cut_spells, cut_refuses}

pub answered : (whole : Bool) (text : List ℕ) (s : State) (rest : List ℕ) (r : Result (List Line) LexFault) → Cut text s rest → Ends whole s rest r → Answered whole text r
answered whole text s rest (Ok ls) c e = (s, rest, c, e)
answered whole text s rest (Err (fault.Token n)) c e = (s, rest, c, e)
answered whole text s rest (Err (fault.NotUtf8 n)) c e = e
answered whole text s rest (Err fault.Memory) c e = tt

pub answers : (bytes : List ℕ) (r : Result (List Line) LexFault) → IsUtf8 bytes → Answered (is_readable bytes) (readable bytes) r → Answers bytes r
answers bytes (Ok ls) u a = (u, subst (Spelled bytes) (sym a.3.1) (cut_spells bytes a.0 a.1 a.2 a.3.0))
answers bytes (Err (fault.Token n)) u a = (u, cut_refuses bytes a.0 a.1 n a.2 a.3)
answers bytes (Err (fault.NotUtf8 n)) u a = absurd a
answers bytes (Err fault.Memory) u a = tt

-- of clean bytes, as they stand
pub clean_answers : (bytes : List ℕ) (r : Result (List Line) LexFault) → IsUtf8 bytes → is_clean bytes ≡ true → Answered true bytes r → Answers bytes r
clean_answers bytes r u c a =
    let p = clean_is bytes c in
    answers bytes r u (subst (λ b. Answered b (readable bytes) r) (sym p.whole) (subst (λ xs. Answered true xs r) (sym p.same) a))
