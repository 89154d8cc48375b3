-- What was sent are the texts of a visitor alone.
use Rattle.session.proofs.SoloTexts.{closed_solo, cut_solo, fault_solo, many_solo}
use Rattle.session.proofs.laws.sent_is_solo.Goals as goal

pub returns : goal.returns
returns c = record {
  closed = closed_solo;
  many = many_solo;
  fault = fault_solo;
  memory = λ nb budget all after now h. (h.0.heard, h.0.untaken, h.0.one, cut_solo nb budget all now h.0);
}
