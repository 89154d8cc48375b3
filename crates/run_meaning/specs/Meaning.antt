-- What trees mean: the trace of each form.
use Rattle.std.specs.Prelude.{ℕ, if◌then◌else◌, List, [], ◌∷◌, ◌++◌, codes, map, pos, Option, Some, None, Result, Ok, Err}
use Rattle.std.specs.Str.{bytes_eq}
use Rattle.py_tree.specs.Elements.{ui_kind}
use Rattle.py_tree.specs.Names.{Name, is_among}
use Rattle.py_tree.specs.Numbers.{number_of}
use Rattle.py_tree.specs.Trees.{Tree, literal, name, binary, Add, attribute, call, Arguments, no_argument, positional, keyword, Head, value, assign, import_mo, stmt, Stmts, end, then_comes}
use Rattle.py_value.specs.ElementData.{ElementData}
use Rattle.py_value.specs.Elements.{kind_called, made, at_kept}
use Rattle.py_value.specs.Faults.{kind_of}
use Rattle.py_value.specs.Maps.{Map, look_up, put}
use Rattle.py_value.specs.Size.{charge_of}
use Rattle.py_value.specs.View.{data_of, value_of as value_in}
use Rattle.py_value.specs.Whole.{sum_of}
use Rattle.py_value.specs.declared.kinds.Kind.{Kind}
use Rattle.py_value.specs.declared.op_fault.OpFault.{OpFault}
use Rattle.py_value.specs.declared.types.Value.{Value}
use Rattle.py_value.specs.declared.types.Value.TheVariants as V
use Rattle.py_value.specs.declared.error_kind.ErrorKind.{ErrorKind}
use Rattle.py_value.specs.declared.error_kind.ErrorKind.TheVariants.{NameError, TypeError, AttributeError, RuntimeError, Subset}
use Rattle.run_meaning.specs.Trace.{Trace, Gives, Faults, Charges, ◌>>=◌}
use Rattle.run_meaning.specs.declared.binding.Binding.{Binding}
use Rattle.run_meaning.specs.declared.binding.Binding.TheVariants.{Plain, Module}

-- what names are bound to
abbrev pub Env : Type 0
Env = Map Binding

-- where a cell runs: the names of the elements that it creates, and the present values of the visitor's elements
pub record Scene : Type 0 where
  pub own : List Name
  pub present : Map Value

-- A name that is read. Python raises a NameError where it isn't bound at that moment (Python language reference, 4.2.2). The
-- module is no value.
abbrev pub read : ℕ → Option Binding → Trace Value
read line None = Faults NameError line
read line (Some (Plain v)) = Gives v
read line (Some Module) = Faults Subset line

-- the module, where the name is bound to it
abbrev pub read_module : ℕ → Option Binding → Trace (Unit {0})
read_module line None = Faults NameError line
read_module line (Some (Plain v)) = Faults Subset line
read_module line (Some Module) = Gives tt

-- what an operation gives: a value, or the error of its fault
abbrev pub result_at : ℕ → Result Value OpFault → Trace Value
result_at line (Ok v) = Gives v
result_at line (Err fault) = Faults (kind_of fault) line

-- The present value of an element, which can't be had in the cell that creates it (marimo's documentation, "Interactive
-- elements"). Other values have no attribute.
abbrev pub present_of : Scene → ℕ → Value → Trace Value
present_of scene line (V.Element e) = if is_among e.name scene.own then Faults RuntimeError line else Gives (value_in e.present)
present_of scene line v = Faults AttributeError line

-- a form that has no meaning yet, after its own charge
abbrev pub other_form : ℕ → Trace Value
other_form line = Charges 1 line (Faults Subset line)

-- An expression on a line. Each node is charged 1 when it begins; the left side of a sum runs before the right side (Python
-- language reference, 6.16). Of attributes `.value` alone is part of the language, and no call yet.
abbrev pub value_of : Scene → Env → ℕ → Tree → Trace Value
value_of scene env line (literal token) = Charges 1 line (Gives (V.Int (pos (number_of token.spelling))))
value_of scene env line (name x) = Charges 1 line (read line (look_up x env))
value_of scene env line (binary Add a b) =
    Charges 1 line (value_of scene env line a >>= λ x. value_of scene env line b >>= λ y. result_at line (sum_of x y))
value_of scene env line (attribute base x) =
    Charges 1 line (if bytes_eq x (codes "value") then value_of scene env line base >>= present_of scene line else Faults Subset line)
value_of scene env line t = other_form line

-- These values, and then those of arguments one after the other. Keywords have no meaning yet.
abbrev pub values_after : List Value → Scene → Env → ℕ → Arguments → Trace (List Value)
values_after vs scene env line no_argument = Gives vs
values_after vs scene env line (positional t args) =
    value_of scene env line t >>= λ v. values_after (vs ++ v ∷ []) scene env line args
values_after vs scene env line (keyword x t args) = Faults Subset line

-- An element that is made, at the value that is kept for it where there is one.
abbrev pub element_at : Scene → ℕ → Name → Result ElementData OpFault → Trace Value
element_at scene line x (Ok e) = Gives (V.Element (at_kept (look_up x scene.present) e))
element_at scene line x (Err fault) = Faults (kind_of fault) line

-- an element of the kind
abbrev pub made_at : Scene → ℕ → Name → Kind → List Value → Trace Value
made_at scene line x kind vs = element_at scene line x (made kind x (record { places = map data_of vs; words = [] }))

-- `NAME = mo.ui.KIND(ARGUMENTS)`: the call's own charge, the module, the arguments, what they are charged for, the element
abbrev pub element_of : Scene → Env → ℕ → Name → Kind → Arguments → Trace Value
element_of scene env line x kind args =
    Charges 1 line (read_module line (look_up (codes "mo") env) >>= λ _. values_after [] scene env line args >>= λ vs.
    Charges (charge_of vs) line (made_at scene line x kind vs))

-- The same where there is such a kind. Where there is none, the call has no meaning, as other forms that aren't part of the language.
abbrev pub element_by : Scene → Env → ℕ → Name → Option Kind → Arguments → Trace Value
element_by scene env line x None args = other_form line
element_by scene env line x (Some kind) args = element_of scene env line x kind args

abbrev pub call_of : Scene → Env → ℕ → Name → Option Name → Arguments → Trace Value
call_of scene env line x None args = other_form line
call_of scene env line x (Some kind) args = element_by scene env line x (kind_called kind) args

abbrev pub calls_for : Scene → Env → ℕ → List Name → (callee : Tree) → Arguments → Trace Value
calls_for scene env line (x ∷ []) callee args = call_of scene env line x (ui_kind callee) args
calls_for scene env line targets callee args = other_form line

-- the right side of an assignment
abbrev pub right_of : Scene → Env → ℕ → List Name → Tree → Trace Value
right_of scene env line targets (call callee args comma) = calls_for scene env line targets callee args
right_of scene env line targets t = value_of scene env line t

-- Why a value isn't taken apart for several targets. Texts, lists, tuples and dictionaries aren't taken apart yet, and Python takes
-- no others apart.
abbrev pub unpacking_fault : Value → ErrorKind
unpacking_fault (V.Text t) = Subset
unpacking_fault (V.List items) = Subset
unpacking_fault (V.Tuple items) = Subset
unpacking_fault (V.Dict pairs) = Subset
unpacking_fault v = TypeError

-- the target bound to the value
abbrev pub bind : ℕ → List Name → Value → Env → Trace Env
bind line (x ∷ []) v env = Gives (put x (Plain v) env)
bind line targets v env = Faults (unpacking_fault v) line

-- what lines give: the value of the last one where it is an expression, and the bindings after it
pub record Flow : Type 0 where
  pub last : Option Value
  pub env : Env

-- A line, after its own charge. Other forms have no meaning yet.
abbrev pub head_of : Scene → Env → ℕ → Head → Trace Flow
head_of scene env line (value t) = value_of scene env line t >>= λ v. Gives (record { last = Some v; env = env })
head_of scene env line (assign targets t) =
    right_of scene env line targets t >>= λ v. bind line targets v env >>= λ after. Gives (record { last = None; env = after })
head_of scene env line import_mo = Gives (record { last = None; env = put (codes "mo") Module env })
head_of scene env line h = Faults Subset line

-- Lines one after the other, each charged 1 when it begins. No form of a line has a block yet.
abbrev pub lines_of : Scene → Stmts → Flow → Trace Flow
lines_of scene end flow = Gives flow
lines_of scene (then_comes (stmt n head block) rest) flow = Charges 1 n (head_of scene flow.env n head >>= lines_of scene rest)

-- a block, from these bindings
abbrev pub block_of : Scene → Env → Stmts → Trace Flow
block_of scene env block = lines_of scene block (record { last = None; env = env })
