-- What is written and what is left make the whole.
use Rattle.std.proofs.Common.{◌≡◌, ◌∷◌, ◌++◌, drop}
use Rattle.std.specs.Prelude.{flat_map}
use Rattle.frame_meaning.specs.FrameText.{json_string}
use Rattle.nb_json.proofs.frame_json.push_further_lines.Given as goal

abbrev pub invariant-loop-line : goal.invariant-loop-line
invariant-loop-line l =
    l.out.items ++ flat_map (λ line. 44 ∷ json_string line) (drop l.line-index l.lines)
    ≡ l.fn.out.items ++ flat_map (λ line. 44 ∷ json_string line) l.lines
