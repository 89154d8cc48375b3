-- What is written, with the run that isn't written yet, is the text so far.
use Rattle.std.proofs.Common.{◌≡◌, ◌≤◌, ◌-◌, ◌++◌, drop, take}
use Rattle.std.specs.Prelude.{flat_map}
use Rattle.std.specs.Str.{IsCharBoundary}
use Rattle.py_value.specs.Quoted.{escaped_byte}
use Rattle.py_value.proofs.quotes.push_escaped.Given as goal

abbrev pub invariant-loop-i : goal.invariant-loop-i
invariant-loop-i l = record {
  order : l.start ≤ l.i;
  boundary : IsCharBoundary l.text l.start;
  written : l.out ++ take (l.i - l.start) (drop l.start l.text) ≡ l.fn.out ++ flat_map (escaped_byte l.quote) (take l.i l.text);
}
