-- What is written, with the run that isn't written yet, is the text so far.
use Rattle.std.proofs.Common.{◌≡◌, ◌≤◌, ◌-◌, ◌++◌, drop, take}
use Rattle.std.specs.Prelude.{flat_map}
use Rattle.frame_meaning.specs.FrameText.{escaped_byte}
use Rattle.nb_json.proofs.json_text.push_escaped.Given as goal

abbrev pub invariant-loop-i : goal.invariant-loop-i
invariant-loop-i l = record {
  order : l.start ≤ l.i;
  written : l.out.items ++ take (l.i - l.start) (drop l.start l.text) ≡ l.fn.out.items ++ flat_map escaped_byte (take l.i l.text);
}
