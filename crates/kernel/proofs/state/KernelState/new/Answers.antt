-- No cell has a frame before the opening.
use Rattle.std.proofs.Common.{◌≡◌, ◌∙◌, ◌<◌, refl, sym, ap, subst, length, arith}
use Rattle.std.specs.Prelude.{None, replicate}
use Rattle.std.proofs.lemmas.List.{length-replicate}
use Rattle.std.proofs.lemmas.List.Elements.{All-nil}
use Rattle.kernel.specs.KernelState.{IsPlain}
use Rattle.kernel.specs.Visit.{newest_in}
use Rattle.kernel.proofs.Newest.{none_at}
use Rattle.kernel.proofs.state.KernelState.new.Goals as goal

pub returns-clause-kept : goal.returns-clause-kept
returns-clause-kept c =
    let all : c.loop.index ≡ length c.args.notebook.now = omega (arith, ap length c.cells-items.ensures.cells) in
    record {
      runnable = c.requires;
      once = c.cells-items.ensures.once;
      free = c.cells-items.ensures.free;
      count = ap length c.loop.invariant ∙ length-replicate c.loop.index None ∙ all;
      plain = subst IsPlain (sym c.new-2.ensures) refl;
      cells = All-nil (λ k. k < length c.args.notebook.now);
      within = tt;
      stands = record {
        env = c.new-2.ensures;
        present = c.new.ensures;
        newest = λ k. ap (λ fs. newest_in fs k) c.loop.invariant ∙ none_at c.loop.index k;
        left = refl;
      };
    }

pub returns-clause-new : goal.returns-clause-new
returns-clause-new c =
    let all : c.loop.index ≡ length c.args.notebook.now = omega (arith, ap length c.cells-items.ensures.cells) in
    record {
      notebook = refl;
      budget_is = refl;
      phase = refl;
      present = c.new.ensures;
      env = c.new-2.ensures;
      newest = c.loop.invariant ∙ ap (λ n. replicate n None) all;
      pending_is = refl;
    }
