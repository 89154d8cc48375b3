-- Why bytes are refused.
use Rattle.std.specs.Prelude.{ℕ, List}
use Rattle.thin_form.specs.declared.thin_file.ThinFault.{ThinFault}
use Rattle.thin_form.specs.declared.thin_file.ThinFault.TheVariants.{Thin, Memory}
use Rattle.form_meaning.specs.Fails.{FailsAt}

-- Where the bytes fail. Want of memory has no cause here.
abbrev pub IsCauseOf : ThinFault → List ℕ → Type 0
IsCauseOf (Thin line) bytes = FailsAt bytes line
IsCauseOf Memory bytes = Unit {0}
