-- Readers that give what may stand at a text's front, and nothing else.
use Rattle.std.proofs.Common.{◌≡◌, ℕ, zero, suc, ◌≤◌, ◌<◌, List, [], ◌∷◌, ◌++◌, length, Some, None, refl, sym, ap, subst, ◌∙◌, arith, append_assoc, length-append}
use Rattle.std.specs.List.{flat_map}
use Rattle.lexical_form.specs.Reading.{Read, next_of, run, read_all}
use Rattle.lexical_form.specs.Cuts.{Cuts, state_after}

-- `at` reads a piece exactly where one may stand
pub record Reads {S P : Type 0} (spell : P → List ℕ) (Fits : S → P → List ℕ → Type 0) (at : S → List ℕ → Read P) : Type 0 where
  pub found : (s : S) (ts : List ℕ) (p : P) (more : List ℕ) → at s ts ≡ Some (p, more) → Fits s p more × (ts ≡ spell p ++ more)
  pub only : (s : S) (p : P) (more : List ℕ) → Fits s p more → at s (spell p ++ more) ≡ Some (p, more)
  pub some : (s : S) (p : P) (more : List ℕ) → Fits s p more → 0 < length (spell p)

longer : (front more ts : List ℕ) (n : ℕ) → 0 < length front → ts ≡ front ++ more → length ts ≤ suc n → length more ≤ n
longer front more ts n h e l = let k = ap length e ∙ length-append front more in omega arith

none_left : (front more ts : List ℕ) → 0 < length front → ts ≡ front ++ more → length ts ≤ 0 → ⊥
none_left front more ts h e l = let k = ap length e ∙ length-append front more in omega arith

module _ {S P : Type 0} (spell : P → List ℕ) (Fits : S → P → List ℕ → Type 0) (after : S → P → S) (at : S → List ℕ → Read P) (reads : Reads spell Fits at) where
  at_front : (s : S) (ts : List ℕ) (p : P) (more : List ℕ) → Fits s p more → ts ≡ spell p ++ more → at s ts ≡ Some (p, more)
  at_front s ts p more h e = ap (at s) e ∙ reads.only s p more h

  -- pieces that stand one after the other, up to a place where none may stand, are what is read
  pub cuts_are_read : (n : ℕ) (s : S) (ts : List ℕ) (ps : List P) (rest : List ℕ) → Cuts spell Fits after s ts ps rest → at (state_after after s ps) rest ≡ None
      → length ts ≤ n → run at after n s ts ≡ (ps, rest)
  cuts_are_read zero s ts [] rest c stuck l = ap (λ x. ([], x)) c
  cuts_are_read (suc n) s ts [] rest c stuck l = ap (λ x. next_of after (run at after n) s ts x) (ap (at s) c ∙ stuck) ∙ ap (λ x. ([], x)) c
  cuts_are_read zero s ts (p ∷ ps) rest c stuck l = absurd (none_left (spell p) c.0 ts (reads.some s p c.0 c.1) c.2 l)
  cuts_are_read (suc n) s ts (p ∷ ps) rest c stuck l =
      let here = at_front s ts p c.0 c.1 c.2 in
      let there = cuts_are_read n (after s p) c.0 ps rest c.3 stuck (longer (spell p) c.0 ts n (reads.some s p c.0 c.1) c.2 l) in
      ap (λ x. next_of after (run at after n) s ts x) here ∙ ap (λ (r : List P × List ℕ). (p ∷ r.0, r.1)) there

  further_cuts : (n : ℕ) (s : S) (ts : List ℕ) (r : Read P) → at s ts ≡ r → ((t : S) (us : List ℕ) → Cuts spell Fits after t us (run at after n t us).0 (run at after n t us).1)
      → Cuts spell Fits after s ts (next_of after (run at after n) s ts r).0 (next_of after (run at after n) s ts r).1
  further_cuts n s ts None e further = refl
  further_cuts n s ts (Some p) e further = let f = reads.found s ts p.0 p.1 e in (p.1, f.0, f.1, further (after s p.0) p.1)

  -- what is read stands one after the other
  pub read_is_cut : (n : ℕ) (s : S) (ts : List ℕ) → Cuts spell Fits after s ts (run at after n s ts).0 (run at after n s ts).1
  read_is_cut zero s ts = refl
  read_is_cut (suc n) s ts = further_cuts n s ts (at s ts) refl (read_is_cut n)

  nothing_read : (s : S) (ts : List ℕ) (r : Read P) → at s ts ≡ r → length ts ≤ 0 → at s ts ≡ None
  nothing_read s ts None e l = e
  nothing_read s ts (Some p) e l = let f = reads.found s ts p.0 p.1 e in absurd (none_left (spell p.0) p.1 ts (reads.some s p.0 p.1 f.0) f.1 l)

  further_stuck : (n : ℕ) (s : S) (ts : List ℕ) (r : Read P) → at s ts ≡ r → length ts ≤ suc n
      → ((t : S) (us : List ℕ) → length us ≤ n → at (state_after after t (run at after n t us).0) (run at after n t us).1 ≡ None)
      → at (state_after after s (next_of after (run at after n) s ts r).0) (next_of after (run at after n) s ts r).1 ≡ None
  further_stuck n s ts None e l further = e
  further_stuck n s ts (Some p) e l further =
      let f = reads.found s ts p.0 p.1 e in further (after s p.0) p.1 (longer (spell p.0) p.1 ts n (reads.some s p.0 p.1 f.0) f.1 l)

  -- and goes as far as it can
  pub read_is_stuck : (n : ℕ) (s : S) (ts : List ℕ) → length ts ≤ n → at (state_after after s (run at after n s ts).0) (run at after n s ts).1 ≡ None
  read_is_stuck zero s ts l = nothing_read s ts (at s ts) refl l
  read_is_stuck (suc n) s ts l = further_stuck n s ts (at s ts) refl l (read_is_stuck n)

  -- where the reader gives nothing, nothing may stand, and the other way round
  pub nothing_stands : (s : S) (ts : List ℕ) → at s ts ≡ None → (p : P) (more : List ℕ) → Fits s p more → ts ≡ spell p ++ more → ⊥
  nothing_stands s ts none p more h e = let yes = at_front s ts p more h e in absurd (cc)

  pub stands_not : (s : S) (ts : List ℕ) (r : Read P) → at s ts ≡ r → ((p : P) (more : List ℕ) → Fits s p more → ts ≡ spell p ++ more → ⊥) → at s ts ≡ None
  stands_not s ts None e never = e
  stands_not s ts (Some p) e never = let f = reads.found s ts p.0 p.1 e in absurd (never p.0 p.1 f.0 f.1)

-- a piece behind the pieces: what a loop does
pub cuts_more : {S P : Type 0} (spell : P → List ℕ) (Fits : S → P → List ℕ → Type 0) (after : S → P → S) (s : S) (ts : List ℕ) (ps : List P) (rest : List ℕ) (p : P) (more : List ℕ)
    → Cuts spell Fits after s ts ps rest → Fits (state_after after s ps) p more → rest ≡ spell p ++ more → Cuts spell Fits after s ts (ps ++ p ∷ []) more
cuts_more spell Fits after s ts [] rest p more c h e = (more, h, c ∙ e, refl)
cuts_more spell Fits after s ts (q ∷ ps) rest p more c h e = (c.0, c.1, c.2, cuts_more spell Fits after (after s q) c.0 ps rest p more c.3 h e)

pub state_more : {S P : Type 0} (after : S → P → S) (s : S) (ps : List P) (p : P) → state_after after s (ps ++ p ∷ []) ≡ after (state_after after s ps) p
state_more after s [] p = refl
state_more after s (q ∷ ps) p = state_more after (after s q) ps p

-- pieces, printed
pub cuts_flat : {S P : Type 0} (spell : P → List ℕ) (Fits : S → P → List ℕ → Type 0) (after : S → P → S) (s : S) (ts : List ℕ) (ps : List P) (rest : List ℕ)
    → Cuts spell Fits after s ts ps rest → ts ≡ flat_map spell ps ++ rest
cuts_flat spell Fits after s ts [] rest c = c
cuts_flat spell Fits after s ts (p ∷ ps) rest c =
    c.2 ∙ (ap (λ xs. spell p ++ xs) (cuts_flat spell Fits after (after s p) c.0 ps rest c.3) ∙ sym (append_assoc (spell p) (flat_map spell ps) rest))

-- Where only the first byte behind a piece decides whether it fits, the rest may be another that begins with the same byte.
abbrev pub FirstDecides : {S P : Type 0} → (S → P → List ℕ → Type 0) → Type 0
FirstDecides {S} {P} Fits = (s : S) (p : P) (c : ℕ) (more other : List ℕ) → Fits s p (c ∷ more) → Fits s p (c ∷ other)

other_fits : {S P : Type 0} (Fits : S → P → List ℕ → Type 0) → FirstDecides Fits → (s : S) (p : P) (front : List ℕ) (c : ℕ) (more other : List ℕ)
    → Fits s p (front ++ (c ∷ more)) → Fits s p (front ++ (c ∷ other))
other_fits Fits first s p [] c more other h = first s p c more other h
other_fits Fits first s p (d ∷ ds) c more other h = first s p d (ds ++ (c ∷ more)) (ds ++ (c ∷ other)) h

pub cuts_other : {S P : Type 0} (spell : P → List ℕ) (Fits : S → P → List ℕ → Type 0) (after : S → P → S) → FirstDecides Fits → (s : S) (ts : List ℕ) (ps : List P) (c : ℕ) (more other : List ℕ)
    → Cuts spell Fits after s ts ps (c ∷ more) → Cuts spell Fits after s (flat_map spell ps ++ (c ∷ other)) ps (c ∷ other)
cuts_other spell Fits after first s ts [] c more other h = refl
cuts_other spell Fits after first s ts (p ∷ ps) c more other h =
    let flat = cuts_flat spell Fits after (after s p) h.0 ps (c ∷ more) h.3 in (
      flat_map spell ps ++ (c ∷ other),
      other_fits Fits first s p (flat_map spell ps) c more other (subst (Fits s p) flat h.1),
      append_assoc (spell p) (flat_map spell ps) (c ∷ other),
      cuts_other spell Fits after first (after s p) h.0 ps c more other h.3,
    )

-- What is read from the front is its first piece, and what is read behind that.
pub read_step : {S P : Type 0} (spell : P → List ℕ) (Fits : S → P → List ℕ → Type 0) (after : S → P → S) (at : S → List ℕ → Read P) → Reads spell Fits at
    → (s : S) (ts : List ℕ) (p : P) (more : List ℕ) → at s ts ≡ Some (p, more) → ◌≡◌ {A = List P × List ℕ} (read_all at after s ts) (p ∷ (read_all at after (after s p) more).0, (read_all at after (after s p) more).1)
read_step spell Fits after at reads s ts p more e =
    let f = reads.found s ts p more e in
    let r = read_all at after (after s p) more in
    let c = read_is_cut spell Fits after at reads (length more) (after s p) more in
    let stuck = read_is_stuck spell Fits after at reads (length more) (after s p) more (omega arith) in
    cuts_are_read spell Fits after at reads (length ts) s ts (p ∷ (read_all at after (after s p) more).0) (read_all at after (after s p) more).1 (more, f.0, f.1, c) stuck (omega arith)

pub read_stop : {S P : Type 0} (spell : P → List ℕ) (Fits : S → P → List ℕ → Type 0) (after : S → P → S) (at : S → List ℕ → Read P) → Reads spell Fits at
    → (s : S) (ts : List ℕ) → at s ts ≡ None → ◌≡◌ {A = List P × List ℕ} (read_all at after s ts) ([], ts)
read_stop spell Fits after at reads s ts e = cuts_are_read spell Fits after at reads (length ts) s ts [] ts refl e (omega arith)
