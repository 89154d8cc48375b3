-- What the call told of the buffer holds of the bytes.
use Rattle.std.proofs.Common.{◌++◌, length, take, rules, arith, ◌≡◌, subst, List, ℕ}
use Rattle.std.specs.Prelude.{Option, Some}
use Rattle.std.proofs.lemmas.Grind.{common_steps}
use Rattle.link_io.specs.Outside.{ReadsAt, HasNext}
use Rattle.link_io.proofs.Pieces.{told, next_piece}
use Rattle.link_io.proofs.whole_file.read_piece.Goals as goal

pub returns-in-Ok-extend_from_slice-clause-read : goal.returns-in-Ok-extend_from_slice-clause-read
returns-in-Ok-extend_from_slice-clause-read g c =
    let before = c.args.bytes.now.items in
    let old = c.args.buffer.now in
    let new = c.read_at.new.buf in
    let e : c.len.result ≡ length before = search rules in
    let count = c.in-Ok.count in
    let now = c.extend_from_slice.new.self.items in
    let grown : before ++ take count new ≡ now = grind (arith, common_steps, c.in-Ok-extend_from_slice.ensures.items) in
    told (g.F.Files.holds c.args.files.now c.args.name.now) (λ (t : Option (List ℕ)). (all : List ℕ) × (t ≡ Some all) × ReadsAt all c.len.result old new count)
    (λ (t : Option (List ℕ)). (all : List ℕ) × (t ≡ Some all) × HasNext all before now count) c.in-Ok.ensures.read
    (λ t r. (r.0, r.1, subst (λ z. HasNext r.0 before z count) grown (next_piece r.0 before old new c.len.result count e c.requires r.2)))
