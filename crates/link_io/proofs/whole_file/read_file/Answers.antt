-- Each piece goes on where the last one ended.
use Rattle.std.proofs.Common.{◌≡◌, ◌∙◌, refl, sym, subst, rules, arith, List, ℕ}
use Rattle.std.proofs.lemmas.Grind.{common_steps}
use Rattle.std.specs.Prelude.{Option, Some, IfSome}
use Rattle.link_io.specs.Outside.{HasNext}
use Rattle.link_io.proofs.Pieces.{IsBeginning, nothing_read, next_begun}
use Rattle.link_io.proofs.whole_file.read_file.Goals as goal

pub loop-buffer-init : goal.loop-buffer-init
loop-buffer-init g c =
    let told = g.F.Files.holds c.args.files.now c.args.name.now in
    record {
      beginning = subst (IsBeginning told) (sym c.new-bytes.ensures.items) (nothing_read told);
      short = search rules;
      same = λ other. refl;
      later = omega arith;
    }

pub loop-buffer-preserved : goal.loop-buffer-preserved
loop-buffer-preserved g c =
    let told = g.F.Files.holds c.args.files.now c.args.name.now in
    let before = c.loop-buffer.bytes.items in
    let now = c.read_piece.new.bytes.items in
    record {
      beginning = next_begun told before now c.in-Ok.field-0 c.loop-buffer.invariant.beginning
          (subst (λ o. IfSome o (λ (t : Option (List ℕ)). (all : List ℕ) × (t ≡ Some all) × HasNext all before now c.in-Ok.field-0)) (c.loop-buffer.invariant.same c.args.name.now) c.in-Ok.ensures.read);
      short = grind (arith, common_steps, c.in-Ok.ensures.grown, c.in-Ok.ensures.within);
      same = λ other. c.in-Ok.ensures.same other ∙ c.loop-buffer.invariant.same other;
      later = omega (arith, c.in-Ok.ensures.later, c.loop-buffer.invariant.later);
    }
