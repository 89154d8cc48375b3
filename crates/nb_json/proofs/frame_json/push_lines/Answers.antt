-- The first line, and the others each after a comma.
use Rattle.std.proofs.Common.{◌≡◌, ◌∙◌, ap, sym, ◌∷◌, ◌++◌, [], append_assoc, arith}
use Rattle.std.proofs.lemmas.Grind.{common_steps}
use Rattle.std.specs.Prelude.{flat_map, map}
use Rattle.std.specs.List.{join_with_byte}
use Rattle.frame_meaning.specs.FrameText.{json_string}
use Rattle.nb_json.proofs.Joined.{joined, last_part, moved}
use Rattle.nb_json.proofs.frame_json.push_lines.Goals as goal

pub returns : goal.returns
returns c =
    let old = c.args.out.now.items in
    let begun = c.extend_from_slice-2.new.self.items in
    let one = c.push_quoted.new.out.items in
    let all = c.push_further_lines.new.out.items in
    let first = c.in-Some.first.now in
    let others = c.in-Some.others.now in
    let lines : c.args.lines.now ≡ first ∷ others = grind (arith, common_steps, c.in-Some.ensures.cases, c.in-Some.first-is, c.in-Some.others-is) in
    let text : c.as_bytes.result.now ≡ first = c.as_bytes.ensures.value ∙ c.items.ensures in
    let further = flat_map (λ line. 44 ∷ json_string line) others in
    let rest = further ++ 93 ∷ [] in
    let whole = joined first others ∙ ap (λ z. join_with_byte 44 (map json_string z)) (sym lines) in
    last_part c.extend_from_slice-3.result all (93 ∷ []) c.extend_from_slice-3.new.self.items _ c.extend_from_slice-3.ensures.items
    (
    moved all one further (93 ∷ []) c.in_ok-push_further_lines.ensures
    ∙ moved one begun (json_string first) rest (c.in_ok-push_quoted.ensures ∙ ap (λ z. begun ++ json_string z) text)
    ∙ moved begun old (91 ∷ []) (json_string first ++ rest) c.in_ok-extend_from_slice.ensures.items
    ∙ ap (λ z. old ++ 91 ∷ z) (sym (append_assoc (json_string first) further (93 ∷ [])) ∙ ap (λ z. z ++ 93 ∷ []) whole)
    )
