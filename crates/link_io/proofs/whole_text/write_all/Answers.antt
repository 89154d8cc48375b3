-- What was taken before, and the piece.
use Rattle.std.proofs.Common.{◌∙◌, ap, arith, take, ◌++◌, append_assoc}
use Rattle.link_io.proofs.Taken.{took_both, two_parts}
use Rattle.link_io.proofs.whole_text.write_all.Goals as goal

pub loop-rest-preserved : goal.loop-rest-preserved
loop-rest-preserved g c =
    let inv = c.loop-rest.invariant in
    let n = c.in-Ok.count in
    let r = c.loop-rest.rest.now in
    let done = inv.1.0 in (
      omega (arith, inv.0, c.in-Ok.ensures.later),
      (
        done ++ take n r,
        append_assoc done (take n r) _ ∙ ap (λ z. done ++ z) (two_parts n r c.in-Ok.ensures.within) ∙ inv.1.1,
        took_both _ _ _ done (take n r) inv.1.2 c.in-Ok.ensures.taken,
      ),
    )
