-- Frames that are written one after the other.
use Rattle.std.proofs.Common.{◌≡◌, ◌∙◌, refl, sym, ap, subst, ℕ, ◌+◌, ◌≤◌, List, [], ◌∷◌, ◌++◌, append_assoc, append-nil, arith}
use Rattle.std.proofs.lemmas.List.{map-append}
use Rattle.std.proofs.lemmas.List.Concat.{flat_map-append}
use Rattle.std.proofs.lemmas.List.Sums.{sum_by-append}
use Rattle.std.specs.Prelude.{Option}
use Rattle.link_io.proofs.Taken.{took_both, took_none}
use Rattle.link_io.specs.Outside.{Took, TookLess}
use Rattle.visit_meaning.specs.Answer.{Part, cost_of_parts, frames_in}
use Rattle.frame_meaning.specs.FrameText.{frame_text, labelled}
use Rattle.frames.specs.declared.frame.Frame.{Frame}
use Rattle.script_run.specs.Cut.{IsCut}
use Rattle.script_run.specs.Prefix.{WrotePrefix}
use Rattle.kernel.specs.Visit.{Visit, AtMostFirst, Gives, first_cost}

-- the line of a frame
abbrev pub line_of : List ℕ → Frame → List ℕ
line_of label f = label ++ frame_text f ++ 10 ∷ []

-- the lines of the frames of parts
abbrev pub lines_of : List ℕ → List Part → List ℕ
lines_of label parts = labelled label (frames_in parts)

pub lines_append : (label : List ℕ) (ps qs : List Part) → lines_of label (ps ++ qs) ≡ lines_of label ps ++ lines_of label qs
lines_append label ps qs =
    ap (labelled label) (map-append (λ (p : Part). p.frame) ps qs) ∙ flat_map-append (line_of label) (frames_in ps) (frames_in qs)

pub costs_append : (ps qs : List Part) → cost_of_parts (ps ++ qs) ≡ cost_of_parts ps + cost_of_parts qs
costs_append ps qs = sum_by-append (λ (p : Part). p.cost) ps qs

-- the lines of parts, and of further ones
pub took_lines : (label : List ℕ) (ps qs : List Part) (before mid now : Option (List ℕ)) → Took before mid (lines_of label ps)
    → Took mid now (lines_of label qs) → Took before now (lines_of label (ps ++ qs))
took_lines label ps qs before mid now first second =
    subst (Took before now) (sym (lines_append label ps qs)) (took_both before mid now (lines_of label ps) (lines_of label qs) first second)

-- ---- a write that fails

-- of a part alone
pub cut_here : (label : List ℕ) (p : Part) (before now : Option (List ℕ)) (count count_after : ℕ) → count_after ≡ count + p.cost
    → TookLess before now (line_of label p.frame) → IsCut label (p ∷ []) before now count count_after
cut_here label p before now count count_after steps part =
    let costs : cost_of_parts (p ∷ []) ≡ 0 + p.cost = refl in
    record {
      written = [];
      last = p;
      rest = [];
      are = refl;
      counted = omega arith;
      piece = part.0;
      more = part.1;
      left = part.2;
      line = part.3;
      took = part.4;
    }

-- of parts behind others that were written, and before others
pub cut_behind : {label : List ℕ} {mid : Option (List ℕ)} {count : ℕ} (given parts more all : List Part) (before now : Option (List ℕ)) (count_at count_after : ℕ)
    → (given ++ parts) ++ more ≡ all → Took before mid (lines_of label given) → count ≡ count_at + cost_of_parts given
    → IsCut label parts mid now count count_after → IsCut label all before now count_at count_after
cut_behind {label = label} {mid = mid} given parts more all before now count_at count_after e took counted cut =
    let costs : cost_of_parts ((given ++ cut.written) ++ cut.last ∷ []) ≡ cost_of_parts given + cost_of_parts (cut.written ++ cut.last ∷ []) =
    ap cost_of_parts (append_assoc given cut.written (cut.last ∷ [])) ∙ costs_append given (cut.written ++ cut.last ∷ []) in
    let so_far = cut.counted in
    record {
      written = given ++ cut.written;
      last = cut.last;
      rest = cut.rest ++ more;
      are = sym e ∙ ap (λ ps. (given ++ ps) ++ more) cut.are ∙ ap (λ ps. ps ++ more) (sym (append_assoc given cut.written (cut.last ∷ cut.rest)))
          ∙ append_assoc (given ++ cut.written) (cut.last ∷ cut.rest) more;
      counted = omega arith;
      piece = cut.piece;
      more = cut.more;
      left = cut.left;
      line = cut.line;
      took = subst (Took before now)
          (sym (append_assoc (lines_of label given) (lines_of label cut.written) cut.piece) ∙ ap (λ t. t ++ cut.piece) (sym (lines_append label given cut.written)))
          (took_both before mid now (lines_of label given) (lines_of label cut.written ++ cut.piece) took cut.took);
    }

-- ---- memory that is wanting

-- before all parts
pub prefix_none : (label : List ℕ) (parts : List Part) (before : Option (List ℕ)) (count : ℕ) → WrotePrefix label parts before before count count
prefix_none label parts before count =
    record { written = []; rest = parts; are = refl; least = omega arith; most = omega arith; took = took_none before }

first_within : (ps more : List Part) → first_cost ps ≤ first_cost (ps ++ more)
first_within [] more = omega arith
first_within (p ∷ ps) more = omega arith

-- behind other parts that were written, and before others
pub prefix_behind : {label : List ℕ} {mid : Option (List ℕ)} {count : ℕ} (given parts more all : List Part) (before now : Option (List ℕ)) (count_at count_after : ℕ)
    → (given ++ parts) ++ more ≡ all → Took before mid (lines_of label given) → count ≡ count_at + cost_of_parts given
    → WrotePrefix label parts mid now count count_after → WrotePrefix label all before now count_at count_after
prefix_behind {label = label} {mid = mid} given parts more all before now count_at count_after e took counted prefix =
    let costs : cost_of_parts (given ++ prefix.written) ≡ cost_of_parts given + cost_of_parts prefix.written = costs_append given prefix.written in
    let first = first_within prefix.rest more in
    let least = prefix.least in
    let most = prefix.most in
    record {
      written = given ++ prefix.written;
      rest = prefix.rest ++ more;
      are = sym e ∙ ap (λ ps. (given ++ ps) ++ more) prefix.are ∙ ap (λ ps. ps ++ more) (sym (append_assoc given prefix.written prefix.rest))
          ∙ append_assoc (given ++ prefix.written) prefix.rest more;
      least = omega arith;
      most = omega arith;
      took = took_lines label given prefix.written before mid now took prefix.took;
    }

-- ---- the parts that are to come of a visit `v`, of which some were given and their lines written

pub record IsGiven (label : List ℕ) (before : Option (List ℕ)) (v : Visit) (count_at : ℕ) (now : Option (List ℕ)) (w : Visit) (count : ℕ) : Type 0 where
  pub given : List Part
  pub are : given ++ w.pending ≡ v.pending
  pub took : Took before now (lines_of label given)
  pub counted : count ≡ count_at + cost_of_parts given
  pub state : w.state ≡ v.state
  pub nb : w.nb ≡ v.nb
  pub budget : w.budget ≡ v.budget

-- none yet
pub given_none : (label : List ℕ) (before : Option (List ℕ)) (v : Visit) (count_at : ℕ) → IsGiven label before v count_at before v count_at
given_none label before v count_at = record {
  given = [];
  are = refl;
  took = took_none before;
  counted = omega arith;
  state = refl;
  nb = refl;
  budget = refl;
}

-- the part of a frame that is given
abbrev part_of : {w next : Visit} {count count_next : ℕ} (f : Frame) → Gives f w next count count_next → Part
part_of f gives = record { frame = f; cost = gives.cost }

are_next : {w next : Visit} {count count_next : ℕ} (v : Visit) (f : Frame) (given : List Part) (gives : Gives f w next count count_next)
    → given ++ w.pending ≡ v.pending → (given ++ part_of f gives ∷ []) ++ next.pending ≡ v.pending
are_next {next = next} v f given gives are =
    append_assoc given (part_of f gives ∷ []) next.pending ∙ ap (λ ps. given ++ ps) (sym gives.pending) ∙ are

-- one more
pub given_next : {label : List ℕ} {before : Option (List ℕ)} {v : Visit} {count_at : ℕ} {now : Option (List ℕ)} {w : Visit} {count : ℕ}
    → (f : Frame) (next : Visit) (count_next : ℕ) (after : Option (List ℕ)) → IsGiven label before v count_at now w count
    → Gives f w next count count_next → Took now after (line_of label f) → IsGiven label before v count_at after next count_next
given_next {label = label} {before = before} {v = v} {count_at = count_at} {now = now} {w = w} {count = count} f next count_next after g gives took =
    let p : Part = part_of f gives in
    let costs : cost_of_parts (g.given ++ p ∷ []) ≡ cost_of_parts g.given + (0 + gives.cost) = costs_append g.given (p ∷ []) in
    let so_far = g.counted in
    let steps = gives.steps in
    let line : line_of label f ≡ lines_of label (p ∷ []) = sym (append-nil (line_of label f)) in
    record {
      given = g.given ++ p ∷ [];
      are = are_next v f g.given gives g.are;
      took = took_lines label g.given (p ∷ []) before now after g.took (subst (Took now after) line took);
      counted = omega arith;
      state = gives.state ∙ g.state;
      nb = gives.nb ∙ g.nb;
      budget = gives.budget ∙ g.budget;
    }

-- a beginning of the line of one more
pub given_cut : {label : List ℕ} {before : Option (List ℕ)} {v : Visit} {count_at : ℕ} {now : Option (List ℕ)} {w : Visit} {count : ℕ}
    → (f : Frame) (next : Visit) (count_next : ℕ) (after : Option (List ℕ)) → IsGiven label before v count_at now w count
    → Gives f w next count count_next → TookLess now after (line_of label f) → IsCut label v.pending before after count_at count_next
given_cut {label = label} {before = before} {v = v} {count_at = count_at} {now = now} {count = count} f next count_next after g gives part =
    let p : Part = part_of f gives in
    cut_behind g.given (p ∷ []) next.pending v.pending before after count_at count_next (are_next v f g.given gives g.are) g.took g.counted
    (cut_here label p now after count count_next gives.steps part)

-- memory is wanting before the line of the next one
pub given_prefix : {label : List ℕ} {before : Option (List ℕ)} {v : Visit} {count_at : ℕ} {now : Option (List ℕ)} {w : Visit} {count : ℕ}
    → (count_next : ℕ) → IsGiven label before v count_at now w count → AtMostFirst w.pending count count_next
    → WrotePrefix label v.pending before now count_at count_next
given_prefix {w = w} count_next g most =
    let so_far = g.counted in
    let least = most.0 in
    let next = most.1 in
    record { written = g.given; rest = w.pending; are = sym g.are; least = omega arith; most = omega arith; took = g.took }

-- a frame that is given costs no more than the first
pub gives_first : {f : Frame} {w next : Visit} {count count_next : ℕ} → Gives f w next count count_next → AtMostFirst w.pending count count_next
gives_first {w = w} gives =
    let first : first_cost w.pending ≡ gives.cost = ap first_cost gives.pending in
    let steps = gives.steps in
    (omega arith, omega arith)
