-- The next cell runs or is cancelled, and what is kept goes on from it.
use Rattle.std.proofs.Common.{◌+◌, ◌<◌, false, sym, subst, arith}
use Rattle.std.specs.Prelude.{Some}
use Rattle.std.specs.Vec.{vec_len, with_item}
use Rattle.frames.specs.declared.frame.Frame.TheVariants as frame
use Rattle.kernel.specs.Pending.{cells_of}
use Rattle.kernel.specs.KernelState.{IsKept, visit_of}
use Rattle.kernel.specs.Visit.{Gives}
use Rattle.kernel.specs.declared.pending.Pending.TheVariants as pending
use Rattle.kernel.specs.declared.state.KernelState.{KernelState}
use Rattle.kernel.proofs.NextFrame.{Did, at_most, cell_there, did_gives, did_kept, first_costs, next_at, next_here, standing}
use Rattle.kernel.proofs.state.KernelState.next_of.Goals as goal

pub run_cell-requires-clause-there : goal.run_cell-requires-clause-there
run_cell-requires-clause-there g c =
    let cell = c.in-Some.cell.now in
    let at = c.in-Some.ensures.lookup.3 in
    cell_there c.args.self.now c.args.cells c.args.taken cell c.requires.kept
    (next_at c.items.result.now (cells_of c.args.cells) c.args.taken cell c.items.ensures at.0 (at.1 cell))

pub index_mut-requires : goal.index_mut-requires
index_mut-requires g c =
    let s = c.args.self.now in
    let cell = c.in-Some.cell.now in
    let at = c.in-Some.ensures.lookup.3 in
    let next = next_at c.items.result.now (cells_of c.args.cells) c.args.taken cell c.items.ensures at.0 (at.1 cell) in
    let there = cell_there s c.args.cells c.args.taken cell c.requires.kept next in
    subst (λ (t : KernelState). cell < vec_len t.newest) (sym c.run_cell.ensures.others) (omega (arith, s.newest.ok.0, there, c.requires.kept.count))

pub returns-in_err-frame-clause-most : goal.returns-in_err-frame-clause-most
returns-in_err-frame-clause-most g c =
    let at = c.in-Some.ensures.lookup.3 in
    let next = next_here c.args.self.now c.args.cells c.args.taken c.in-Some.cell.now c.requires.kept
    (next_at c.items.result.now (cells_of c.args.cells) c.args.taken c.in-Some.cell.now c.items.ensures at.0 (at.1 c.in-Some.cell.now)) in
    (c.run_cell.ensures.least, at_most _ _ c.args.steps.now c.run_cell.new.steps (first_costs _ _ _ _ _ next.1) (c.run_cell.ensures.most next.0 next.1.code_is))

pub returns-in_err-given-clause-most : goal.returns-in_err-given-clause-most
returns-in_err-given-clause-most g c =
    let at = c.in-Some.ensures.lookup.3 in
    let next = next_here c.args.self.now c.args.cells c.args.taken c.in-Some.cell.now c.requires.kept
    (next_at c.items.result.now (cells_of c.args.cells) c.args.taken c.in-Some.cell.now c.items.ensures at.0 (at.1 c.in-Some.cell.now)) in
    (c.run_cell.ensures.least, at_most _ _ c.args.steps.now c.run_cell.new.steps (first_costs _ _ _ _ _ next.1) (c.run_cell.ensures.most next.0 next.1.code_is))

pub returns : goal.returns
returns g c =
    let s = c.args.self.now in
    let cell = c.in-Some.cell.now in
    let at = c.in-Some.ensures.lookup.3 in
    let env = c.run_cell.new.self.env in
    let f = c.in_ok-frame.frame in
    let next = next_here s c.args.cells c.args.taken cell c.requires.kept
    (next_at c.items.result.now (cells_of c.args.cells) c.args.taken cell c.items.ensures at.0 (at.1 cell)) in
    let code = next.0 in
    let did : Did s c.args.cells c.args.taken cell code env f = record {
      next = next.1;
      frame = c.in_ok-frame.ensures.frame code next.1.code_is;
      env_is = c.in_ok-frame.ensures.env code next.1.code_is;
      plain = c.in_ok-frame.ensures.plain;
    } in
    let new = λ (t : KernelState). record t { newest = with_item t.newest cell (Some f); pending = pending.Results c.args.cells (c.args.taken + 1) } in
    record {
      kept = subst (λ t. IsKept (new t)) (sym c.run_cell.ensures.others) (did_kept s c.args.cells c.args.taken cell code env f did);
      gives = subst
          (λ t. Gives (frame.Cell c.in_ok-given.given) (visit_of false (standing s c.args.cells c.args.taken)) (visit_of false (new t)) c.args.steps.now c.run_cell.new.steps)
          (sym c.run_cell.ensures.others)
          (did_gives s c.args.cells c.args.taken cell code env f did c.in_ok-given.given c.in_ok-given.ensures c.args.steps.now c.run_cell.new.steps
          (c.in_ok-frame.ensures.steps code next.1.code_is));
      newest = tt;
      most = (c.run_cell.ensures.least, at_most _ _ c.args.steps.now c.run_cell.new.steps (first_costs _ _ _ _ _ next.1) (c.run_cell.ensures.most code next.1.code_is));
    }
