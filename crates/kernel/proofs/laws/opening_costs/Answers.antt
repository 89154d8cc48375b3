-- The answer to the opening is the results of the whole notebook and their number, which costs nothing.
use Rattle.std.proofs.Common.{◌≡◌, ◌∙◌, ap, ℕ, List, [], ◌∷◌, ◌++◌, length, append-nil, add-zero, Some}
use Rattle.messages.specs.declared.message.Message.TheVariants.{Open}
use Rattle.std.specs.Prelude.{sum, sum_by}
use Rattle.std.proofs.lemmas.List.Sums.{sum_by-append}
use Rattle.visit_meaning.proofs.ResultsOf.{all_costs}
use Rattle.visit_meaning.specs.Answer.{Part, at_no_cost, results, work}
use Rattle.visit_meaning.specs.Whole.{whole}
use Rattle.frames.specs.declared.frame.Frame.TheVariants as frame
use Rattle.py_tree.specs.Trees.{Cell}
use Rattle.kernel.proofs.laws.opening_costs.Goals as goal

open_work : (nb : List Cell) (budget : ℕ) → work nb budget (Some Open ∷ []) ≡ sum (whole nb budget []).costs
open_work nb budget =
    let count : Part = at_no_cost (frame.Done (length (results nb budget []))) in
    ap (sum_by (λ (p : Part). p.cost)) (append-nil (results nb budget [] ++ count ∷ []))
    ∙ sum_by-append (λ (p : Part). p.cost) (results nb budget []) (count ∷ [])
    ∙ add-zero (sum_by (λ (p : Part). p.cost) (results nb budget []))
    ∙ all_costs nb budget []

pub returns : goal.returns
returns c = record { whole = open_work }
