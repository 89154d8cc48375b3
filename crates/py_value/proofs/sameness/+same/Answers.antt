-- Elements are the same where their fields are.
use Rattle.std.proofs.Common.{arith, ◌≡◌, IsTrue}
use Rattle.py_value.proofs.Levels.{levels, same_fields, data_of_injective}
use Rattle.py_value.specs.View.{data_of}
use Rattle.py_value.proofs.sameness.+same.Goals as goal

pub same_element-returns : goal.same_element-returns
same_element-returns t c = grind (arith, levels, same_fields)

pub same_element-returns-then-not-same-2 : goal.same_element-returns-then-not-same-2
same_element-returns-then-not-same-2 t c = (
  λ h. cc,
  λ h.
      let e : data_of c.initial.result.now ≡ data_of c.initial-2.result.now = cc in
      let f : c.initial.result.now ≡ c.initial-2.result.now = data_of_injective _ _ e in
      let g : IsTrue c.same-2.result = c.same-2.ensures.1 f in cc,
)
