-- Lines, files and the form.
use Rattle.thin_form.proofs.OneLine.{line_one}
use Rattle.thin_form.proofs.OneToOne.{same_cells, same_form}
use Rattle.thin_form.proofs.laws.printing_is_one_to_one.Goals as goal

pub returns-clause-lines : goal.returns-clause-lines
returns-clause-lines c = line_one

pub returns-clause-files : goal.returns-clause-files
returns-clause-files c = same_cells

pub returns-clause-form : goal.returns-clause-form
returns-clause-form c = same_form
