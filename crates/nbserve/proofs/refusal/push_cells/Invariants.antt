-- what is written and what is left make the whole
use Rattle.std.proofs.Common.{◌≡◌, ◌++◌, ℕ, codes, decimal, drop, flat_map, string_bytes}
use Rattle.nbserve.proofs.refusal.push_cells.Given as goal

abbrev pub invariant-loop-cell : goal.invariant-loop-cell
invariant-loop-cell l =
    string_bytes l.text ++ flat_map (λ (c : ℕ). codes " " ++ decimal c) (drop l.cell-index l.cells)
    ≡ string_bytes l.fn.text ++ flat_map (λ (c : ℕ). codes " " ++ decimal c) l.fn.cells
