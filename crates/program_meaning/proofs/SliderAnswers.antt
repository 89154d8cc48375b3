-- What a visitor is sent who opens the notebook with a slider, sets it to 4 and then to 11.
use Rattle.std.proofs.Common.{◌≡◌, ◌∙◌, refl, ap, ℕ, cond, is_none, List, [], ◌∷◌, ◌++◌, Option, Some, None}
use Rattle.std.specs.Prelude.{codes, flat_map, not, pos}
use Rattle.std.specs.Fmt.{digits}
use Rattle.py_tree.specs.Names.{Name, is_among}
use Rattle.py_value.specs.ElementData.{ElementData}
use Rattle.py_value.specs.Elements.{slider}
use Rattle.py_value.specs.Maps.{where_name}
use Rattle.py_value.specs.declared.types.Data.TheVariants as D
use Rattle.py_value.specs.declared.types.Value.TheVariants as V
use Rattle.messages.specs.declared.message.Message.{Message}
use Rattle.messages.specs.declared.message.Message.TheVariants.{Open, Close}
use Rattle.messages.specs.declared.message.SetItem.{SetItem}
use Rattle.message_meaning.specs.Messages.{set_item}
use Rattle.visit_meaning.specs.Answer.{Answered, Before, On, Part, answer, answer_by, answer_set, answer_with, at_no_cost, counted, present_after, parts_from, results_of, value_set, with_value}
use Rattle.graph_meaning.specs.Graph.{elements_of}
use Rattle.run_meaning.specs.Meaning.{Env}
use Rattle.graph_meaning.specs.Reruns.{rerun}
use Rattle.visit_meaning.specs.Whole.{whole}
use Rattle.run_meaning.specs.declared.binding.Binding.TheVariants.{Plain, Module}
use Rattle.program_meaning.specs.Program.{usual_budget}
use Rattle.program_meaning.specs.Samples.{s_at_four, sets_s, with_slider}
use Rattle.run_meaning.specs.Spending.{pay, show}
use Rattle.frames.specs.declared.frame.CellFrame.{CellFrame}
use Rattle.frames.specs.declared.frame.Frame.TheVariants as frame
use Rattle.frames.specs.declared.frame.Output.{Output}
use Rattle.frames.specs.declared.frame.OutputKind.TheVariants as output
use Rattle.frames.specs.declared.frame.Status.TheVariants as status
use Rattle.py_value.proofs.Computes.{same_text, a_number, a_text}

-- the frame of a cell that ends ok, with what it shows, and its part with what it costs
abbrev pub ok : ℕ → Option Output → CellFrame
ok c shown = record { cell = c; status = status.Ok; output = shown; console = []; error = None }

abbrev pub result : ℕ → Option Output → ℕ → Part
result c shown n = record { frame = frame.Cell (ok c shown); cost = n }

abbrev pub plain : List ℕ → Option Output
plain text = Some (record { text = text; kind = output.Plain })

-- the parts of the three answers
abbrev pub to_open : List Part
to_open = result 0 None 1 ∷ result 1 None 4 ∷ result 2 (plain (codes "1")) 5 ∷ at_no_cost (frame.Done 3) ∷ []

abbrev pub to_four : List Part
to_four = result 2 (plain (codes "5")) 5 ∷ at_no_cost (frame.Done 1) ∷ []

abbrev pub to_eleven : List Part
to_eleven = at_no_cost (frame.NoValue (codes "s")) ∷ at_no_cost (frame.Done 0) ∷ []

abbrev pub to_none : List Part
to_none = at_no_cost frame.BadMessage ∷ at_no_cost (frame.Done 0) ∷ []

-- ---- each answer

pub opens : answer with_slider usual_budget Before (Some Open)
    ≡ record { state = On []; parts = to_open }
unfolding digits pay show
opens = simp (same_text, a_number, a_text)

-- the slider that the opening leaves, and the bindings
abbrev made : ElementData
made =
    slider (codes "s")
    ((D.Text (codes "start"), D.Int (pos 0)) ∷ (D.Text (codes "stop"), D.Int (pos 10)) ∷ (D.Text (codes "step"), D.Int (pos 1)) ∷
    (D.Text (codes "value"), D.Int (pos 0)) ∷ (D.Text (codes "label"), D.Text []) ∷ []) (pos 0)

abbrev opened : Env
opened = (codes "mo", Module) ∷ (codes "s", Plain (V.Element made)) ∷ []

opened_is : (whole with_slider usual_budget []).env ≡ opened
unfolding digits pay show
opened_is = simp (same_text, a_number, a_text)

fits : value_set opened (codes "s", V.Int (pos 4)) ≡ Some (D.Int (pos 4))
fits = simp (same_text, a_number)

next_is : present_after with_slider opened [] s_at_four ≡ s_at_four
next_is =
    let kept = λ (x : Name). not (is_among x (flat_map (elements_of with_slider) (rerun with_slider (codes "s" ∷ [])))) in
    ap (λ o. where_name kept (with_value (codes "s") o [])) fits
    ∙ ap (λ v. (codes "s", v) ∷ []) (a_number (pos 4))

results_are : results_of with_slider usual_budget s_at_four (2 ∷ []) ≡ result 2 (plain (codes "5")) 5 ∷ []
unfolding digits pay show
results_are = simp (same_text, a_number, a_text)

-- what is sent
abbrev four : SetItem
four = set_item (codes "s") (Some (V.Int (pos 4)))

pub sets : answer with_slider usual_budget (On []) (Some (sets_s 4))
    ≡ record { state = On s_at_four; parts = to_four }
sets =
    ap (λ env. answer_set with_slider usual_budget env [] (four ∷ [])) opened_is
    ∙ ap (λ o. answer_by with_slider usual_budget opened [] s_at_four None (cond (is_none o) (Some four) None)) fits
    ∙ ap (λ ui. answer_with with_slider usual_budget ui (2 ∷ [])) next_is
    ∙ ap (λ parts. record { state = On s_at_four; parts = counted parts }) results_are

pub refuses : answer with_slider usual_budget (On s_at_four) (Some (sets_s 11))
    ≡ record { state = On s_at_four; parts = to_eleven }
unfolding pay show
refuses = simp (same_text, a_number, a_text)

-- ---- one after the other

-- an answer, and those to the messages behind it
abbrev later : Answered → List (Option Message) → List Part
later a ms = a.parts ++ parts_from with_slider usual_budget a.state ms

-- where the slider is set, messages behind that
abbrev pub set_then : List (Option Message) → List (Option Message)
set_then ms = Some Open ∷ Some (sets_s 4) ∷ ms

pub after_set : (ms : List (Option Message)) → parts_from with_slider usual_budget Before (set_then ms)
    ≡ to_open ++ to_four ++ parts_from with_slider usual_budget (On s_at_four) ms
after_set ms = ap (λ a. later a (Some (sets_s 4) ∷ ms)) opens ∙ ap (λ a. to_open ++ later a ms) sets

pub all_parts : parts_from with_slider usual_budget Before (set_then (Some (sets_s 11) ∷ [])) ≡ to_open ++ to_four ++ to_eleven
all_parts = after_set (Some (sets_s 11) ∷ []) ∙ ap (λ a. to_open ++ to_four ++ later a []) refuses

-- what is no message is refused, and a close message has no answer
pub others : parts_from with_slider usual_budget (On s_at_four) (None ∷ Some Close ∷ []) ≡ to_none
others = refl
