-- What a visitor is sent who sets several sliders at once.
use Rattle.std.proofs.Common.{◌≡◌, ◌∙◌, refl, ap, ℕ, List, [], ◌∷◌, Some, None}
use Rattle.std.specs.Prelude.{codes, filter, pos}
use Rattle.std.specs.Fmt.{digits}
use Rattle.py_tree.specs.Trees.{Cell}
use Rattle.py_value.specs.ElementData.{ElementData, with_present}
use Rattle.py_value.specs.Elements.{slider}
use Rattle.py_value.specs.Maps.{Map}
use Rattle.py_value.specs.declared.types.Data.TheVariants as D
use Rattle.py_value.specs.declared.types.Value.{Value}
use Rattle.py_value.specs.declared.types.Value.TheVariants as V
use Rattle.messages.specs.declared.message.Message.TheVariants.{Set}
use Rattle.messages.specs.declared.message.SetItem.{SetItem}
use Rattle.frames.specs.declared.frame.Frame.TheVariants as frame
use Rattle.graph_meaning.specs.Graph.{order}
use Rattle.graph_meaning.specs.Reruns.{rerun}
use Rattle.run_meaning.specs.Meaning.{Env}
use Rattle.run_meaning.specs.Spending.{pay, show}
use Rattle.run_meaning.specs.declared.binding.Binding.TheVariants.{Plain, Module}
use Rattle.visit_meaning.specs.Answer.{Answered, On, Part, answer, answer_by, answer_set, answer_with, at_no_cost, counted, first_unfit, first_unknown, is_result_of, names_of, present_after, priced, values_sent}
use Rattle.visit_meaning.specs.Whole.{Progress, whole, with_cell, with_cells}
use Rattle.program_meaning.specs.Program.{usual_budget}
use Rattle.program_meaning.specs.SetSamples.{chained, kept, sent, two_sliders}
use Rattle.program_meaning.proofs.SliderAnswers.{ok, plain, result}
use Rattle.py_value.proofs.Computes.{same_text, a_number, a_text}

-- the slider of these bounds, at a value
abbrev slider_at : List ℕ → (low high now : ℕ) → ElementData
slider_at x low high now =
    with_present (D.Int (pos now)) (slider x
    ((D.Text (codes "start"), D.Int (pos low)) ∷ (D.Text (codes "stop"), D.Int (pos high)) ∷ (D.Text (codes "step"), D.Int (pos 1)) ∷
    (D.Text (codes "value"), D.Int (pos low)) ∷ (D.Text (codes "label"), D.Text []) ∷ []) (pos low))

-- ---- four cells run one after the other

abbrev nothing_yet : Progress
nothing_yet = record { env = []; frames = []; costs = [] }

abbrev imported : Progress
imported = record { env = (codes "mo", Module) ∷ []; frames = ok 0 None ∷ []; costs = 1 ∷ [] }

after_four : (nb : List Cell) (ui : Map Value) (p q r s : Progress) → order nb ≡ 0 ∷ 1 ∷ 2 ∷ 3 ∷ []
    → with_cell nb usual_budget ui nothing_yet 0 ≡ p → with_cell nb usual_budget ui p 1 ≡ q → with_cell nb usual_budget ui q 2 ≡ r
    → with_cell nb usual_budget ui r 3 ≡ s → whole nb usual_budget ui ≡ s
after_four nb ui p q r s cells first second third fourth =
    ap (λ cs. with_cells nb usual_budget ui cs nothing_yet) cells
    ∙ ap (with_cells nb usual_budget ui (1 ∷ 2 ∷ 3 ∷ [])) first
    ∙ ap (with_cells nb usual_budget ui (2 ∷ 3 ∷ [])) second
    ∙ ap (with_cells nb usual_budget ui (3 ∷ [])) third
    ∙ fourth

-- the results of these cells
abbrev of_cells : List ℕ → Progress → List Part
of_cells cells p = filter (λ (q : Part). is_result_of cells q.frame) (priced p.frames p.costs)

-- ---- two sliders

abbrev s_made : ℕ → Progress
s_made n =
    record { env = (codes "mo", Module) ∷ (codes "s", Plain (V.Element (slider_at (codes "s") 0 10 n))) ∷ []; frames = ok 0 None ∷ ok 1 None ∷ []; costs = 1 ∷ 4 ∷ [] }

abbrev two_env : (n m : ℕ) → Env
two_env n m =
    (codes "mo", Module) ∷ (codes "s", Plain (V.Element (slider_at (codes "s") 0 10 n))) ∷ (codes "t", Plain (V.Element (slider_at (codes "t") 0 5 m))) ∷ []

abbrev t_made : (n m : ℕ) → Progress
t_made n m = record { env = two_env n m; frames = ok 0 None ∷ ok 1 None ∷ ok 2 None ∷ []; costs = 1 ∷ 4 ∷ 4 ∷ [] }

abbrev two_summed : (n m : ℕ) → List ℕ → Progress
two_summed n m text =
    record { env = two_env n m; frames = ok 0 None ∷ ok 1 None ∷ ok 2 None ∷ ok 3 (plain text) ∷ []; costs = 1 ∷ 4 ∷ 4 ∷ 6 ∷ [] }

abbrev both_kept : Map Value
both_kept = kept (codes "s") 4 ∷ kept (codes "t") 2 ∷ []

two_begin : (ui : Map Value) → with_cell two_sliders usual_budget ui nothing_yet 0 ≡ imported
unfolding pay show
two_begin ui = refl

two_opened : whole two_sliders usual_budget [] ≡ two_summed 0 0 (codes "0")
unfolding digits pay show
two_opened = after_four two_sliders [] imported (s_made 0) (t_made 0 0) (two_summed 0 0 (codes "0")) refl (two_begin []) makes_s makes_t sums where
  makes_s : with_cell two_sliders usual_budget [] imported 1 ≡ s_made 0
  makes_s = simp (same_text, a_number, a_text)

  makes_t : with_cell two_sliders usual_budget [] (s_made 0) 2 ≡ t_made 0 0
  makes_t = simp (same_text, a_number, a_text)

  sums : with_cell two_sliders usual_budget [] (t_made 0 0) 3 ≡ two_summed 0 0 (codes "0")
  sums = rw (a_number (pos 0)) refl

two_set : whole two_sliders usual_budget both_kept ≡ two_summed 4 2 (codes "6")
unfolding digits pay show
two_set = after_four two_sliders both_kept imported (s_made 4) (t_made 4 2) (two_summed 4 2 (codes "6")) refl (two_begin both_kept) makes_s makes_t sums where
  makes_s : with_cell two_sliders usual_budget both_kept imported 1 ≡ s_made 4
  makes_s = simp (same_text, a_number, a_text)

  makes_t : with_cell two_sliders usual_budget both_kept (s_made 4) 2 ≡ t_made 4 2
  makes_t = simp (same_text, a_number, a_text)

  sums : with_cell two_sliders usual_budget both_kept (t_made 4 2) 3 ≡ two_summed 4 2 (codes "6")
  sums = rw (a_number (pos 4)) (rw (a_number (pos 2)) refl)

-- the answer to items is that from the bindings of the opening
from_opened : (items : List SetItem) → answer two_sliders usual_budget (On []) (Some (Set items)) ≡ answer_set two_sliders usual_budget (two_env 0 0) [] items
from_opened items = ap (λ (p : Progress). answer_set two_sliders usual_budget p.env [] items) two_opened

abbrev both_sent : List SetItem
both_sent = sent (codes "s") 4 ∷ sent (codes "t") 2 ∷ []

both_fit : first_unfit (two_env 0 0) both_sent ≡ None
both_fit = simp (same_text, a_number)

both_next : present_after two_sliders (two_env 0 0) [] both_kept ≡ both_kept
both_next = simp (same_text, a_number)

pub sets_both : answer two_sliders usual_budget (On []) (Some (Set both_sent))
    ≡ record { state = On both_kept; parts = result 3 (plain (codes "6")) 6 ∷ at_no_cost (frame.Done 1) ∷ [] }
sets_both =
    from_opened both_sent
    ∙ ap (answer_by two_sliders usual_budget (two_env 0 0) [] both_kept None) both_fit
    ∙ ap (λ ui. answer_with two_sliders usual_budget ui (3 ∷ [])) both_next
    ∙ ap (λ p. record { state = On both_kept; parts = counted (of_cells (3 ∷ []) p) }) two_set

abbrev unfit_sent : List SetItem
unfit_sent = sent (codes "s") 4 ∷ sent (codes "t") 9 ∷ []

unfit_found : first_unfit (two_env 0 0) unfit_sent ≡ Some (sent (codes "t") 9)
unfit_found = simp (same_text, a_number)

pub one_unfit : answer two_sliders usual_budget (On []) (Some (Set unfit_sent))
    ≡ record { state = On []; parts = at_no_cost (frame.NoValue (codes "t")) ∷ at_no_cost (frame.Done 0) ∷ [] }
one_unfit = from_opened unfit_sent ∙ ap (answer_by two_sliders usual_budget (two_env 0 0) [] (values_sent unfit_sent) None) unfit_found

pub one_unknown : answer two_sliders usual_budget (On []) (Some (Set (sent (codes "s") 99 ∷ sent (codes "z") 1 ∷ [])))
    ≡ record { state = On []; parts = at_no_cost (frame.NoElement (codes "z")) ∷ at_no_cost (frame.Done 0) ∷ [] }
one_unknown = from_opened (sent (codes "s") 99 ∷ sent (codes "z") 1 ∷ [])

-- ---- a slider that begins where another one stands

abbrev a_made : ℕ → Progress
a_made n =
    record { env = (codes "a", Plain (V.Element (slider_at (codes "a") 0 10 n))) ∷ (codes "mo", Module) ∷ []; frames = ok 0 None ∷ ok 1 None ∷ []; costs = 1 ∷ 4 ∷ [] }

abbrev chain_env : (n m : ℕ) → Env
chain_env n m =
    (codes "a", Plain (V.Element (slider_at (codes "a") 0 10 n))) ∷ (codes "b", Plain (V.Element (slider_at (codes "b") n 20 m))) ∷ (codes "mo", Module) ∷ []

abbrev b_made : (n m : ℕ) → Progress
b_made n m = record { env = chain_env n m; frames = ok 0 None ∷ ok 1 None ∷ ok 2 None ∷ []; costs = 1 ∷ 4 ∷ 5 ∷ [] }

abbrev b_read : (n m : ℕ) → List ℕ → Progress
b_read n m text =
    record { env = chain_env n m; frames = ok 0 None ∷ ok 1 None ∷ ok 2 None ∷ ok 3 (plain text) ∷ []; costs = 1 ∷ 4 ∷ 5 ∷ 3 ∷ [] }

abbrev b_kept : Map Value
b_kept = kept (codes "b") 7 ∷ []

abbrev a_kept : Map Value
a_kept = kept (codes "a") 2 ∷ []

chain_begin : (ui : Map Value) → with_cell chained usual_budget ui nothing_yet 0 ≡ imported
unfolding pay show
chain_begin ui = refl

b_at_seven : whole chained usual_budget b_kept ≡ b_read 0 7 (codes "7")
unfolding digits pay show
b_at_seven = after_four chained b_kept imported (a_made 0) (b_made 0 7) (b_read 0 7 (codes "7")) refl (chain_begin b_kept) makes_a makes_b reads where
  makes_a : with_cell chained usual_budget b_kept imported 1 ≡ a_made 0
  makes_a = simp (same_text, a_number, a_text)

  makes_b : with_cell chained usual_budget b_kept (a_made 0) 2 ≡ b_made 0 7
  makes_b = simp (same_text, a_number, a_text)

  reads : with_cell chained usual_budget b_kept (b_made 0 7) 3 ≡ b_read 0 7 (codes "7")
  reads = rw (a_number (pos 7)) refl

a_at_two : whole chained usual_budget a_kept ≡ b_read 2 2 (codes "2")
unfolding digits pay show
a_at_two = after_four chained a_kept imported (a_made 2) (b_made 2 2) (b_read 2 2 (codes "2")) refl (chain_begin a_kept) makes_a makes_b reads where
  makes_a : with_cell chained usual_budget a_kept imported 1 ≡ a_made 2
  makes_a = simp (same_text, a_number, a_text)

  makes_b : with_cell chained usual_budget a_kept (a_made 2) 2 ≡ b_made 2 2
  makes_b = simp (same_text, a_number, a_text)

  reads : with_cell chained usual_budget a_kept (b_made 2 2) 3 ≡ b_read 2 2 (codes "2")
  reads = rw (a_number (pos 2)) refl

-- the answer that leaves `a` at 2 and makes `b` anew
abbrev anew : Answered
anew = record { state = On a_kept; parts = result 2 None 5 ∷ result 3 (plain (codes "2")) 3 ∷ at_no_cost (frame.Done 2) ∷ [] }

made_by : (items : List SetItem) → first_unknown (chain_env 0 7) items ≡ None → first_unfit (chain_env 0 7) items ≡ None
    → rerun chained (names_of (values_sent items)) ≡ 2 ∷ 3 ∷ []
    → present_after chained (chain_env 0 7) b_kept (values_sent items) ≡ a_kept
    → answer chained usual_budget (On b_kept) (Some (Set items)) ≡ anew
made_by items known fit again next =
    ap (λ (p : Progress). answer_set chained usual_budget p.env b_kept items) b_at_seven
    ∙ ap (λ unknown. answer_by chained usual_budget (chain_env 0 7) b_kept (values_sent items) unknown (first_unfit (chain_env 0 7) items)) known
    ∙ ap (answer_by chained usual_budget (chain_env 0 7) b_kept (values_sent items) None) fit
    ∙ ap (λ ui. answer_with chained usual_budget ui (rerun chained (names_of (values_sent items)))) next
    ∙ ap (answer_with chained usual_budget a_kept) again
    ∙ ap (λ p. record { state = On a_kept; parts = counted (of_cells (2 ∷ 3 ∷ []) p) }) a_at_two

pub moves_a : answer chained usual_budget (On b_kept) (Some (Set (sent (codes "a") 2 ∷ []))) ≡ anew
moves_a = made_by (sent (codes "a") 2 ∷ []) refl fit refl next where
  fit : first_unfit (chain_env 0 7) (sent (codes "a") 2 ∷ []) ≡ None
  fit = simp (same_text, a_number)

  next : present_after chained (chain_env 0 7) b_kept (kept (codes "a") 2 ∷ []) ≡ a_kept
  next = simp (same_text, a_number)

pub moves_both : answer chained usual_budget (On b_kept) (Some (Set (sent (codes "a") 2 ∷ sent (codes "b") 7 ∷ []))) ≡ anew
moves_both = made_by (sent (codes "a") 2 ∷ sent (codes "b") 7 ∷ []) refl fit refl next where
  fit : first_unfit (chain_env 0 7) (sent (codes "a") 2 ∷ sent (codes "b") 7 ∷ []) ≡ None
  fit = simp (same_text, a_number)

  next : present_after chained (chain_env 0 7) b_kept (kept (codes "a") 2 ∷ kept (codes "b") 7 ∷ []) ≡ a_kept
  next = simp (same_text, a_number)
