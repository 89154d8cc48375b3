-- One part after the other.
use Rattle.std.proofs.Common.{◌≡◌, ◌∙◌, ap, ◌∷◌, ◌++◌, []}
use Rattle.std.specs.Prelude.{codes, decimal, map}
use Rattle.frame_meaning.specs.FrameText.{array, error_text, member, output_text, json_string, status_name}
use Rattle.nb_json.proofs.Joined.{five_members, last_part, two_more}
use Rattle.nb_json.proofs.frame_json.push_cell.Goals as goal

pub returns : goal.returns
returns c =
    let frame = c.args.frame.now in
    let number = decimal frame.cell in
    let lines = array (map json_string frame.console) in
    let error = error_text frame.error in
    let output = output_text frame.output in
    let status = json_string (status_name frame.status) in
    let old = c.args.out.now.items in
    let s1 = c.extend_from_slice.new.self.items in
    let s2 = c.push_number.new.out.items in
    let s3 = c.extend_from_slice-2.new.self.items in
    let s4 = c.push_lines.new.out.items in
    let s5 = c.extend_from_slice-3.new.self.items in
    let s6 = c.push_error.new.out.items in
    let s7 = c.extend_from_slice-4.new.self.items in
    let s8 = c.push_output.new.out.items in
    let s9 = c.extend_from_slice-5.new.self.items in
    let s10 = c.push_quoted.new.out.items in
    let e4 : s4 ≡ s3 ++ lines = c.in_ok-push_lines.ensures ∙ ap (λ z. s3 ++ array (map json_string z)) c.items.ensures in
    let e10 : s10 ≡ s9 ++ status = c.in_ok-push_quoted.ensures ∙ ap (λ z. s9 ++ json_string z) c.status_text.ensures in
    let p1 = codes "{\"cell\":" in
    let p3 = codes ",\"console\":" in
    let p5 = codes ",\"error\":" in
    let p7 = codes ",\"output\":" in
    let p9 = codes ",\"status\":" in
    let r8 = p9 ++ (status ++ 125 ∷ []) in
    let r6 = p7 ++ (output ++ r8) in
    let r4 = p5 ++ (error ++ r6) in
    let r2 = p3 ++ (lines ++ r4) in
    last_part c.extend_from_slice-6.result s10 (125 ∷ []) c.extend_from_slice-6.new.self.items _ c.extend_from_slice-6.ensures.items
    (
    two_more s8 s9 s10 p9 status (125 ∷ []) c.in_ok-extend_from_slice-5.ensures.items e10
    ∙ two_more s6 s7 s8 p7 output r8 c.in_ok-extend_from_slice-4.ensures.items c.in_ok-push_output.ensures
    ∙ two_more s4 s5 s6 p5 error r6 c.in_ok-extend_from_slice-3.ensures.items c.in_ok-push_error.ensures
    ∙ two_more s2 s3 s4 p3 lines r4 c.in_ok-extend_from_slice-2.ensures.items e4
    ∙ two_more old s1 s2 p1 number r2 c.in_ok-extend_from_slice.ensures.items c.in_ok-push_number.ensures
    ∙ ap
    (λ z. old ++ 123 ∷ z)
    (
    five_members
    (member (codes "cell") number)
    (member (codes "console") lines)
    (member (codes "error") error)
    (member (codes "output") output)
    (member (codes "status") status)
    (125 ∷ [])
    )
    )
