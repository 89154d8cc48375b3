-- What the evaluator answers shows the run.
use Rattle.std.proofs.Common.{◌∙◌, ap, ◌+◌, arith}
use Rattle.py_tree.specs.View.{view_cell}
use Rattle.kernel.specs.KernelState.{run_of}
use Rattle.kernel.specs.CellRun.{settled}
use Rattle.kernel.proofs.CellRun.{run_here, frame_shown, cost_shown, env_shown}
use Rattle.kernel.proofs.Results.{if_ok_along, on_ok_always}
use Rattle.kernel.proofs.state.KernelState.run_code.Goals as goal

pub returns-clause-frame : goal.returns-clause-frame
returns-clause-frame g c =
    let shows = run_here c.in_ok-ran.ran c.run_block.new.env c.args.self.now (view_cell c.args.code.now) c.args.own.now c.requires.own c.in_ok-ran.ensures.run in
    if_ok_along c.ran_frame.result _ _ (frame_shown c.args.cell c.in_ok-ran.ran c.run_block.new.env c.args.self.now.budget (run_of c.args.self.now (view_cell c.args.code.now)) shows) c.ran_frame.ensures

pub returns-clause-env : goal.returns-clause-env
returns-clause-env g c =
    let code = view_cell c.args.code.now in
    let shows = run_here c.in_ok-ran.ran c.run_block.new.env c.args.self.now code c.args.own.now c.requires.own c.in_ok-ran.ensures.run in
    on_ok_always c.ran_frame.result _
    (c.settle.ensures ∙ ap (λ names. settled c.in_ok-ran.ran.end names c.run_block.new.env) c.requires.defs
    ∙ env_shown code c.in_ok-ran.ran c.args.self.now.env c.run_block.new.env c.args.self.now.budget (run_of c.args.self.now code) c.requires.plain_code c.requires.plain c.requires.removed c.in_ok-ran.ensures.kept shows)

pub returns-clause-steps : goal.returns-clause-steps
returns-clause-steps g c =
    let shows = run_here c.in_ok-ran.ran c.run_block.new.env c.args.self.now (view_cell c.args.code.now) c.args.own.now c.requires.own c.in_ok-ran.ensures.run in
    on_ok_always c.ran_frame.result _
    (c.in_ok-ran.ensures.steps ∙ ap (λ n. c.args.steps.now + n) (cost_shown c.in_ok-ran.ran c.run_block.new.env c.args.self.now.budget (run_of c.args.self.now (view_cell c.args.code.now)) shows))

pub returns-clause-most : goal.returns-clause-most
returns-clause-most g c =
    let shows = run_here c.in_ok-ran.ran c.run_block.new.env c.args.self.now (view_cell c.args.code.now) c.args.own.now c.requires.own c.in_ok-ran.ensures.run in
    let counted = c.in_ok-ran.ensures.steps in
    let cost = cost_shown c.in_ok-ran.ran c.run_block.new.env c.args.self.now.budget (run_of c.args.self.now (view_cell c.args.code.now)) shows in
    omega (arith, counted, cost)
