-- The bytes up to the first `\n`.
use Rattle.std.proofs.Common.{◌≡◌, ◌+◌, ◌-◌, drop, take, length, length-drop, arith}
use Rattle.std.proofs.lemmas.List.{take_all}
use Rattle.py_tree.proofs.Breaks.{cut_at, no_cut}
use Rattle.py_tree.proofs.text_lines.whole_line.Goals as goal

pub returns-in_err-end : goal.returns-in_err-end
returns-in_err-end c = rw c.from_residual.ensures (λ line rest e. no_cut c.args.bytes.now line rest c.in_err-end.ensures e)

pub returns : goal.returns
returns c =
    let bytes = c.args.bytes.now in
    let end = c.in_ok-end.end in
    let cut = cut_at bytes end c.in_ok-end.ensures in
    let all : take (length bytes - (end + 1)) (drop (end + 1) bytes) ≡ drop (end + 1) bytes = take_all _ _ (omega (arith, length-drop (end + 1) bytes)) in
    (cut.unbroken, rw all cut.parts)
