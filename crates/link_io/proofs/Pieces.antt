-- What was read piece by piece.
use Rattle.std.proofs.Common.{◌≡◌, ◌∙◌, ap, subst, sym, ℕ, ◌+◌, ◌<◌, ◌≤◌, refl, List, [], ◌++◌, arith, length, length-take, take, drop}
use Rattle.std.proofs.Math.Seq.{take-add}
use Rattle.std.proofs.lemmas.Grind.{common_steps}
use Rattle.std.specs.Prelude.{Option, Some, None, IfSome}
use Rattle.link_io.specs.Outside.{ReadsAt, HasNext}

-- what is told of a file's bytes, if they are told
pub told : {X : Type 0} (o : Option X) (P Q : X → Type 0) → IfSome o P → ((x : X) → P x → Q x) → IfSome o Q
told None P Q h f = tt
told (Some x) P Q h f = f x h

-- the beginning of the buffer is appended
pub next_piece : (all before old new : List ℕ) (at n : ℕ) → at ≡ length before → 0 < length old → ReadsAt all at old new n
    → HasNext all before (before ++ take n new) n
next_piece all before old new at n e h r =
    let P : ℕ → Type 0 = λ k. ReadsAt all k old new n in
    let s : ReadsAt all (length before) old new n = subst P e r in
    record {
      appended = ap (λ z. before ++ z) (grind (arith, common_steps, s.there, s.filled));
      there = s.there;
      at_end = s.at_end h;
    }

-- a beginning of the file goes on as the file does
pub next_beginning : (all before now : List ℕ) (n : ℕ) → HasNext all before now n → before ≡ take (length before) all
    → now ≡ take (length now) all
next_beginning all before now n h b =
    let k = length before in
    let e : now ≡ take (k + n) all = h.appended ∙ ap (λ z. z ++ take n (drop k all)) b ∙ sym (take-add k n all) in
    let fits : k ≤ length all = omega (arith, ap length b, length-take k all) in
    let l : length now ≡ k + n = grind (arith, common_steps, h.there, e) in
    rw l e

-- Where it is told what the name stands for: once something was read there is such a file, and the bytes are its beginning.
pub data IsBeginning (holds : Option (Option (List ℕ))) (bytes : List ℕ) : Type 0 where
  untold : holds ≡ None → IsBeginning holds bytes
  unread : (t : Option (List ℕ)) → holds ≡ Some t → bytes ≡ [] → IsBeginning holds bytes
  beginning : (all : List ℕ) → holds ≡ Some (Some all) → bytes ≡ take (length bytes) all → IsBeginning holds bytes

pub nothing_read : (holds : Option (Option (List ℕ))) → IsBeginning holds []
nothing_read None = untold refl
nothing_read (Some t) = unread t refl refl

-- what was read of this file, where the name stands for it
begun : (t : Option (List ℕ)) (all before : List ℕ) → t ≡ Some all → IsBeginning (Some t) before → before ≡ take (length before) all
begun t all before is (untold e) = let no : Some t ≡ None = e in absurd cc
begun t all before is (unread u e empty) = subst (λ z. z ≡ take (length z) all) (sym empty) refl
begun t all before is (beginning other e b) = let same : other ≡ all = cc in subst (λ z. before ≡ take (length before) z) same b

-- a piece more
pub next_begun : (holds : Option (Option (List ℕ))) (before now : List ℕ) (n : ℕ) → IsBeginning holds before → IfSome holds (λ t. (all : List ℕ) × (t ≡ Some all) × HasNext all before now n) → IsBeginning holds now
next_begun None before now n b h = untold refl
next_begun (Some t) before now n b h = beginning h.0 (ap Some h.1) (next_beginning h.0 before now n h.2 (begun t h.0 before h.1 b))
