-- The run goes on, or is written with what stands for the next byte.
use Rattle.std.proofs.Common.{◌≡◌, ◌∙◌, ap, sym, ◌++◌, ◌-◌, take, drop, get_or, arith}
use Rattle.std.proofs.lemmas.Grind.{common_steps}
use Rattle.frame_meaning.specs.FrameText.{escaped_byte}
use Rattle.py_value.proofs.EscapeRuns.{run_begins, run_longer, run_written}
use Rattle.nb_json.proofs.PlainBytes.{plain}
use Rattle.nb_json.proofs.json_text.push_escaped.Goals as goal
use Rattle.nb_json.proofs.json_text.push_escaped.Goals.{then-needs_escape+in_ok-extend_from_slice+in_ok-push_escaped_byte, else-needs_escape}

pub loop-i-preserved : goal.loop-i-preserved
loop-i-preserved c =
    let out = c.loop-i.out.items in
    let old = c.args.out.now.items in
    let text = c.args.text.now in
    let start = c.loop-i.start in
    let i = c.loop-i.i in
    elim c.if-needs_escape.branch [
      | then-needs_escape+in_ok-extend_from_slice+in_ok-push_escaped_byte w ↦
          let run : w.extend_from_slice.new.self.items ≡ out ++ take (i - start) (drop start text) = grind (arith, common_steps, w.in_ok-extend_from_slice.ensures.items) in
          let byte : w.push_escaped_byte.new.out.items ≡ w.extend_from_slice.new.self.items ++ escaped_byte (get_or text i 0) = w.in_ok-push_escaped_byte.ensures in
          record {
            order = omega arith;
            written =
                run_begins c.if-needs_escape.out.items _ text c.if-needs_escape.start i w.start-is
                (ap (λ z. z.items) w.out-is ∙ byte ∙ ap (λ z. z ++ escaped_byte (get_or text i 0)) run ∙ run_written escaped_byte out old text start i c.loop-i-test.true c.loop-i.invariant.written);
          }
      | else-needs_escape w ↦
          let e = run_longer escaped_byte out old text start i c.loop-i.invariant.order c.loop-i-test.true (plain (get_or text i 0) (sym c.needs_escape.ensures ∙ w.if-needs_escape.false)) c.loop-i.invariant.written in
          record {
            order = omega arith;
            written = cc;
          }
    ]
