-- What the definitions of elements see of a range.
use Rattle.py_value.specs.Elements.{Range}
use Rattle.ui_elements.specs.declared.ranges.Range.{Range as Row}

abbrev pub range_seen : Row → Range
range_seen r = record { start = r.start; stop = r.stop; step = r.step }
