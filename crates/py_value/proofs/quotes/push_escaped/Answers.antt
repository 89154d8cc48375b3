-- The run goes on, or is written with what stands for the next byte.
use Rattle.std.proofs.Common.{◌≡◌, ◌∙◌, ap, sym, subst, ◌++◌, ◌-◌, ◌<◌, true, take, drop, get_or, length, refl, arith}
use Rattle.std.proofs.lemmas.Str.{IsCharBoundary-start, IsCharBoundary-after_ascii}
use Rattle.std.specs.Str.{IsCharBoundary}
use Rattle.py_value.specs.Quoted.{escaped_byte, is_escaped}
use Rattle.py_value.proofs.EscapeRuns.{run_begins, run_longer}
use Rattle.py_value.proofs.LiteralBytes.{escape_written, escaped_ascii, plain}
use Rattle.py_value.proofs.quotes.push_escaped.Goals as goal
use Rattle.py_value.proofs.quotes.push_escaped.Goals.{then-needs_escape+in_ok-push_str+in_ok-push_escape, else-needs_escape}

pub loop-i-init : goal.loop-i-init
loop-i-init c = record {
  order = omega arith;
  boundary = IsCharBoundary-start c.args.text.now c.utf8.text;
  written = refl;
}

pub loop-i-preserved : goal.loop-i-preserved
loop-i-preserved c =
    let q = c.args.quote in
    let text = c.args.text.now in
    let old = c.args.out.now in
    let start = c.loop-i.start in
    let i = c.loop-i.i in
    let x = get_or c.as_bytes-byte-items.result.now i 0 in
    let is : x ≡ get_or text i 0 = ap (λ z. get_or z i 0) c.as_bytes-byte-items.ensures.value in
    let within : i < length text = omega arith in
    elim c.if-needs_escape.branch [
      | then-needs_escape+in_ok-push_str+in_ok-push_escape w ↦
          let test : is_escaped q x ≡ true = sym c.needs_escape.ensures ∙ w.if-needs_escape.true in
          let ascii = escaped_ascii q (get_or text i 0) c.requires (ap (is_escaped q) (sym is) ∙ test) in
          let run : w.push_str.new.self ≡ c.loop-i.out ++ take (i - start) (drop start text) = w.in_ok-push_str.ensures.ok ∙ ap (λ z. c.loop-i.out ++ z) w.range.ensures.value in
          record {
            order = omega arith;
            boundary = subst (IsCharBoundary text) (sym w.start-is) (IsCharBoundary-after_ascii text i c.utf8.text within ascii);
            written =
                run_begins c.if-needs_escape.out _ text c.if-needs_escape.start i w.start-is
                (w.out-is ∙ escape_written q x c.loop-i.out w.push_str.new.self w.push_escape.new.out old text start i within is test run w.in_ok-push_escape.ensures c.loop-i.invariant.written);
          }
      | else-needs_escape w ↦
          let e = run_longer (escaped_byte q) c.loop-i.out old text start i c.loop-i.invariant.order within (plain q (get_or text i 0) (ap (is_escaped q) (sym is) ∙ sym c.needs_escape.ensures ∙ w.if-needs_escape.false)) c.loop-i.invariant.written in
          record {
            order = omega arith;
            boundary = subst (IsCharBoundary text) (sym w.start-is) c.loop-i.invariant.boundary;
            written = cc;
          }
    ]
