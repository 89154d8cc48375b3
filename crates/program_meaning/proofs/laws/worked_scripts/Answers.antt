-- The lines are computed one by one, and no script goes on with the faulty ones.
use Rattle.std.proofs.Common.{◌≡◌, ◌∙◌, inl, inr, refl, ap, ℕ, true, false, [], ◌∷◌, ◌++◌, lit≤, lit<, arith, Some, None}
use Rattle.std.specs.Prelude.{codes}
use Rattle.std.specs.Fmt.{digits}
use Rattle.messages.specs.declared.message.Message.TheVariants.{Open, Close}
use Rattle.visit_meaning.specs.Answer.{frames_in, solo}
use Rattle.frame_meaning.specs.FrameText.{labelled}
use Rattle.program_meaning.specs.Samples.{sets_s, with_slider}
use Rattle.program_meaning.specs.Program.{usual_budget}
use Rattle.program_meaning.specs.Scripts.{IsLine, IsSend, Said, Joins, Sends}
use Rattle.program_meaning.proofs.ScriptTexts.{cant_follow, no_join}
use Rattle.program_meaning.proofs.SentTexts.{opening, to_4, to_4_with_blanks, to_11, closing, nothing, letter}
use Rattle.program_meaning.proofs.SliderAnswers.{all_parts, after_set, opens, to_open, to_four, to_none}
use Rattle.program_meaning.proofs.Turns.{there_after}
use Rattle.program_meaning.proofs.laws.worked_scripts.Goals as goal

-- ---- the lines that send them

sends_opening : IsSend (codes "send 1 {\"open\":{}}") (Some Open)
sends_opening = record { text = codes "{\"open\":{}}"; unbroken = refl; spelled = refl; received = opening }

sends_4 : IsSend (codes "send 1 {\"set\":{\"s\":4}}") (Some (sets_s 4))
sends_4 = record { text = codes "{\"set\":{\"s\":4}}"; unbroken = refl; spelled = refl; received = to_4 }

sends_4_with_blanks : IsSend (codes "send 1 { \"set\": {\"s\": 4} }") (Some (sets_s 4))
sends_4_with_blanks = record { text = codes "{ \"set\": {\"s\": 4} }"; unbroken = refl; spelled = refl; received = to_4_with_blanks }

sends_11 : IsSend (codes "send 1 {\"set\":{\"s\":11}}") (Some (sets_s 11))
sends_11 = record { text = codes "{\"set\":{\"s\":11}}"; unbroken = refl; spelled = refl; received = to_11 }

sends_closing : IsSend (codes "send 1 {\"close\":{}}") (Some Close)
sends_closing = record { text = codes "{\"close\":{}}"; unbroken = refl; spelled = refl; received = closing }

sends_nothing : IsSend (codes "send 1 ") None
sends_nothing = record { text = []; unbroken = refl; spelled = refl; received = nothing }

sends_letter : IsSend (codes "send 1 x") None
sends_letter = record { text = codes "x"; unbroken = refl; spelled = refl; received = letter }

-- ---- scripts

pub returns-clause-read : goal.returns-clause-read
returns-clause-read c = record {
  lines =
      codes "join 1" ∷ codes "send 1 {\"open\":{}}" ∷ codes "send 1 {\"set\":{\"s\":4}}" ∷ codes "send 1 {\"set\":{\"s\":11}}" ∷ [];
  say = record { say = (refl, (sends_opening, (sends_4, (sends_11, tt)))); turns = inl refl };
  text = inl refl;
  short = lit≤ tt;
}

pub returns-clause-played : goal.returns-clause-played
unfolding digits
returns-clause-played c = ap (λ parts. labelled (codes "1 ") (frames_in parts ++ []) ++ codes "end runs 0 hits 0\n") all_parts

pub returns-clause-two_visitors : goal.returns-clause-two_visitors
returns-clause-two_visitors c = record {
  lines =
      codes "join 1" ∷ codes "send 1 {\"open\":{}}" ∷ codes "send 1 { \"set\": {\"s\": 4} }" ∷ codes "send 1 " ∷ codes "send 1 {\"close\":{}}" ∷
      codes "join 1" ∷ codes "send 1 {\"open\":{}}" ∷ [];
  say = record {
    say = (refl, (sends_opening, (sends_4_with_blanks, (sends_nothing, (sends_closing, (refl, (sends_opening, tt)))))));
    turns = ((Some Open ∷ Some (sets_s 4) ∷ None ∷ [], refl, refl), inl refl);
  };
  text = inr refl;
  short = lit≤ tt;
}

pub returns-clause-two_played : goal.returns-clause-two_played
unfolding digits
returns-clause-two_played c =
    ap (λ parts. labelled (codes "1 ") (frames_in parts ++ solo with_slider usual_budget (Some Open ∷ [])) ++ codes "end runs 0 hits 0\n") (after_set (None ∷ Some Close ∷ []))
    ∙ ap (λ a. labelled (codes "1 ") (frames_in (to_open ++ to_four ++ to_none) ++ frames_in (a.parts ++ [])) ++ codes "end runs 0 hits 0\n") opens

pub returns-clause-nobody : goal.returns-clause-nobody
returns-clause-nobody c = record { lines = []; say = record { say = tt; turns = tt }; text = inl refl; short = lit≤ tt }

-- ---- other bytes

empty_line : (x : Said) → IsLine [] x → there_after false (x ∷ []) ≡ None
empty_line Joins h = absurd (cc h)
empty_line (Sends m) h = refl

pub returns-clause-empty_line : goal.returns-clause-empty_line
returns-clause-empty_line c = (
  lit≤ tt,
  record {
    before = [];
    script = [];
    say = record { say = tt; turns = tt };
    count = refl;
    line = [];
    rest = codes "\n";
    after = [];
    text = refl;
    next = record { unbroken = refl; text = inl refl };
    stops = cant_follow [] [] [] false tt refl empty_line;
  },
)

other_visitor : (x : Said) → IsLine (codes "send 2 x") x → there_after true (x ∷ []) ≡ None
other_visitor Joins h = refl
other_visitor (Sends m) h =
    let spelled = h.spelled in
    let digit : ◌≡◌ {A = ℕ} 50 49 = cc in
    absurd (omega arith)

pub returns-clause-other_visitor : goal.returns-clause-other_visitor
returns-clause-other_visitor c = (
  lit≤ tt,
  record {
    before = codes "join 1" ∷ [];
    script = [] ∷ [];
    say = record { say = (refl, tt); turns = inl refl };
    count = refl;
    line = codes "send 2 x";
    rest = codes "send 2 x";
    after = [];
    text = refl;
    next = record { unbroken = refl; text = inr (refl, refl, lit< tt) };
    stops = cant_follow (codes "join 1" ∷ []) (codes "send 2 x") (Joins ∷ []) true (refl, tt) refl other_visitor;
  },
)

after_closing : (x : Said) → IsLine (codes "send 1 x") x → there_after false (x ∷ []) ≡ None
after_closing Joins h = absurd (no_join (codes "send 1 x") None sends_letter h)
after_closing (Sends m) h = refl

pub returns-clause-closed : goal.returns-clause-closed
returns-clause-closed c = (
  lit≤ tt,
  record {
    before = codes "join 1" ∷ codes "send 1 {\"close\":{}}" ∷ [];
    script = (Some Close ∷ []) ∷ [];
    say = record { say = (refl, (sends_closing, tt)); turns = inr ([], refl, refl) };
    count = refl;
    line = codes "send 1 x";
    rest = codes "send 1 x\n";
    after = [];
    text = refl;
    next = record { unbroken = refl; text = inl refl };
    stops = cant_follow (codes "join 1" ∷ codes "send 1 {\"close\":{}}" ∷ []) (codes "send 1 x") (Joins ∷ Sends (Some Close) ∷ []) false
        (refl, (sends_closing, tt)) refl after_closing;
  },
)

while_there : (x : Said) → IsLine (codes "join 1") x → there_after true (x ∷ []) ≡ None
while_there Joins h = refl
while_there (Sends m) h = absurd (no_join (codes "join 1") m h refl)

pub returns-clause-there : goal.returns-clause-there
returns-clause-there c = (
  lit≤ tt,
  record {
    before = codes "join 1" ∷ codes "send 1 x" ∷ [];
    script = (None ∷ []) ∷ [];
    say = record { say = (refl, (sends_letter, tt)); turns = inl refl };
    count = refl;
    line = codes "join 1";
    rest = codes "join 1\n";
    after = [];
    text = refl;
    next = record { unbroken = refl; text = inl refl };
    stops = cant_follow (codes "join 1" ∷ codes "send 1 x" ∷ []) (codes "join 1") (Joins ∷ Sends None ∷ []) true
        (refl, (sends_letter, tt)) refl while_there;
  },
)
