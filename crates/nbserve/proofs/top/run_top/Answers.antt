-- The words ask for a service, or they don't.
use Rattle.std.proofs.Common.{arith, map, refl, sym}
use Rattle.std.specs.Prelude.{string_bytes}
use Rattle.cli_words.specs.Service.{asked}
use Rattle.nbserve.proofs.Statuses.{comes_shows, other_words}
use Rattle.nbserve.specs.Top as top
use Rattle.nbserve.proofs.top.run_top.Goals as goal

pub returns-in-Some : goal.returns-in-Some
returns-in-Some g c =
    let comes = top.served (asked c.in-Some.service) (sym c.in-Some.ensures) c.serve.ensures.serves refl in
    record {
      comes = comes;
      same = c.serve.ensures.same;
      later = c.serve.ensures.later;
      writes_later = c.serve.ensures.writes_later;
      doors_later = c.serve.ensures.doors_later;
      unvisited = λ none. absurd (other_words (map string_bytes c.args.words.now) (asked c.in-Some.service) none (sym c.in-Some.ensures));
      untouched = λ no_command none. absurd (other_words (map string_bytes c.args.words.now) (asked c.in-Some.service) none (sym c.in-Some.ensures));
      unasked = c.serve.ensures.unasked;
      shows = comes_shows _ _ _ _ _ _ _ _ _ _ _ _ comes;
    }

pub returns-in-None : goal.returns-in-None
returns-in-None g c =
    let comes = top.ran (sym c.in-None.ensures) c.run_words.ensures.runs refl in
    record {
      comes = comes;
      same = c.run_words.ensures.same;
      later = c.run_words.ensures.later;
      writes_later = c.run_words.ensures.writes_later;
      doors_later = omega arith;
      unvisited = λ none. refl;
      untouched = λ no_command none. c.run_words.ensures.untouched no_command;
      unasked = λ stopped. refl;
      shows = comes_shows _ _ _ _ _ _ _ _ _ _ _ _ comes;
    }
