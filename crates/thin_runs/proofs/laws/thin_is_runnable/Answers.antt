-- It is the lemma that the theory's facts make up.
use Rattle.thin_runs.proofs.ThinRuns.{thin_runnable}
use Rattle.thin_runs.proofs.laws.thin_is_runnable.Goals as goal

pub returns : goal.returns
returns c = thin_runnable
