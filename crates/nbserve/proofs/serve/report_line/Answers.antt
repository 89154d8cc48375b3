-- The line has the numbers of the report.
use Rattle.std.proofs.Common.{◌≡◌, List, ℕ, string_bytes, codes, decimal, ◌++◌, refl, ◌∙◌, ap}
use Rattle.std.proofs.lemmas.List.{append_assoc}
use Rattle.nbserve.specs.Service.{report_line}
use Rattle.nbserve.proofs.serve.report_line.Goals as goal

pub returns : goal.returns
returns c =
    let r = c.args.report.now in
    let front : List ℕ = codes "visitors " ++ (decimal r.visitors ++ (codes " closed " ++ (decimal r.closed ++ (codes " links " ++ decimal r.links)))) in
    let back : List ℕ = codes " memory " ++ (decimal r.memory ++ (codes " many " ++ (decimal r.many ++ (codes " doors " ++ (decimal r.doors ++ codes "\n"))))) in
    let first : string_bytes c.in_ok-line.line ≡ front = c.in_ok-line.ensures.ok in
    let both : string_bytes c.write.new.self ≡ string_bytes c.in_ok-line.line ++ back = c.in_ok-write.ensures.bytes in
    let whole : front ++ back ≡ report_line r = simp (append_assoc) refl in
    both ∙ (ap (λ line. line ++ back) first ∙ whole)
