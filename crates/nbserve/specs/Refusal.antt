-- Refusals, as definitions speak of them.
use Rattle.program_meaning.specs.Program as program
use Rattle.nbserve.specs.declared.refusal.Refusal.{Refusal}
use Rattle.nbserve.specs.declared.refusal.Refusal.TheVariants as refusal

abbrev pub refusal_of : Refusal → program.Refusal
refusal_of (refusal.Thin line) = program.Thin line
refusal_of (refusal.Doubly x first second) = program.Doubly x first second
refusal_of (refusal.Cycle cells) = program.Cycle cells
