-- What was played is what the script sends that was read.
use Rattle.std.proofs.Common.{List, ℕ, Bor, map, subst, sym}
use Rattle.program_meaning.specs.Program.{AreRead}
use Rattle.script_run.specs.Script.{AreSent}
use Rattle.nbserve.proofs.commands.perform_script.Goals as goal

pub returns-clause-played : goal.returns-clause-played
returns-clause-played g c =
    let bytes = c.as_slice.result.now in
    let said = c.in_ok-sent.ensures.read in
    record {
      bytes = bytes;
      said = said.0;
      read = subst (AreRead (g.F.Files.holds c.args.files.now) c.args.file.now) (sym c.as_slice.ensures.value) c.in_ok-bytes.ensures.read;
      is = said.1;
      done = c.perform.ensures.done said.0
          (subst (λ texts. AreSent (map (λ (m : Bor (List ℕ)). m.now) texts) said.0) (sym c.as_slice-2.ensures.value) said.2);
    }
