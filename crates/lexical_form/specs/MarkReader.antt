-- Reading a mark.
use Rattle.std.specs.Prelude.{ℕ, if◌then◌else◌, List, take, drop, Some, None}
use Rattle.lexical_form.specs.Marks.{is_mark}
use Rattle.lexical_form.specs.Reading.{Read}

-- the longest mark at the front
abbrev pub mark_at : List ℕ → Read (List ℕ)
mark_at ts =
    if is_mark (take 3 ts) then Some (take 3 ts, drop 3 ts)
    else if is_mark (take 2 ts) then Some (take 2 ts, drop 2 ts)
    else if is_mark (take 1 ts) then Some (take 1 ts, drop 1 ts)
    else None
