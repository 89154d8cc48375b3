-- What stands before a `\r\n` is read as it stands, and reading goes on at its `\n`.
use Rattle.std.proofs.Common.{ℕ, List, ◌++◌, ◌∙◌, ap, sym, drop}
use Rattle.lexical_form.specs.Readable.{readable}
use Rattle.py_lexer.specs.Clean.{starts_return}
use Rattle.py_lexer.proofs.EvenFronts.{no_return, at_return}
use Rattle.py_lexer.proofs.file_text.before_return.Goals as goal

pub returns-then-not-starts_return-clause-reads : goal.returns-then-not-starts_return-clause-reads
returns-then-not-starts_return-clause-reads c =
    let there = ap starts_return (sym (c.as_bytes.ensures.value ∙ c.split_even.ensures.behind)) in
    no_return c.args.bytes.now (there ∙ (sym c.starts_return.ensures ∙ c.if-not-starts_return.true))

pub returns-clause-reads : goal.returns-clause-reads
returns-clause-reads c =
    let there = ap starts_return (sym (c.as_bytes.ensures.value ∙ c.split_even.ensures.behind)) in
    let behind = c.split_at.ensures.back ∙ ap (λ (xs : List ℕ). drop 1 xs) c.split_even.ensures.behind in
    let read = at_return c.args.bytes.now c.split_at.result.1.now (there ∙ (sym c.starts_return.ensures ∙ c.if-not-starts_return.false)) behind in
    (read.0 ∙ ap (λ (xs : List ℕ). xs ++ readable c.split_at.result.1.now) (sym c.split_even.ensures.front), read.1)
