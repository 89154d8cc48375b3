-- The errors of code that faults of operations are.
use Rattle.py_value.specs.declared.op_fault.OpFault.{OpFault}
use Rattle.py_value.specs.declared.op_fault.OpFault.TheVariants as fault
use Rattle.py_value.specs.declared.error_kind.ErrorKind.{ErrorKind}
use Rattle.py_value.specs.declared.error_kind.ErrorKind.TheVariants as kind

-- the kind of the error. Want of memory is no error of code, and no operation is defined to end with it
abbrev pub kind_of : OpFault → ErrorKind
kind_of fault.WrongType = kind.TypeError
kind_of fault.Value = kind.ValueError
kind_of fault.Index = kind.IndexError
kind_of fault.Key = kind.KeyError
kind_of fault.Attribute = kind.AttributeError
kind_of fault.Zero = kind.ZeroDivisionError
kind_of fault.IntRange = kind.IntRange
kind_of fault.Subset = kind.Subset
kind_of fault.Memory = kind.Subset
