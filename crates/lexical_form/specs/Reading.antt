-- Readers, which compute what the definitions say. That they do is what the laws of this crate rest on; no definition speaks of them.
use Rattle.std.specs.Prelude.{ℕ, zero, suc, Bool, true, false, List, [], ◌∷◌, length, Option, Some, None}

-- a piece at the text's front, and what is behind it
abbrev pub Read : Type 0 → Type 0
Read P = Option (P × List ℕ)

-- what a reader of one piece gives, read again and again
abbrev pub next_of : {S P : Type 0} → (S → P → S) → (S → List ℕ → List P × List ℕ) → S → List ℕ → Read P → List P × List ℕ
next_of after further s ts None = ([], ts)
next_of after further s ts (Some p) = let r = further (after s p.0) p.1 in (p.0 ∷ r.0, r.1)

-- at most so many times
abbrev pub run : {S P : Type 0} → (S → List ℕ → Read P) → (S → P → S) → ℕ → S → List ℕ → List P × List ℕ
run at after zero s ts = ([], ts)
run at after (suc n) s ts = next_of after (run at after n) s ts (at s ts)

-- no piece is empty, so it is read at most once for each byte
abbrev pub read_all : {S P : Type 0} → (S → List ℕ → Read P) → (S → P → S) → S → List ℕ → List P × List ℕ
read_all at after s ts = run at after (length ts) s ts

abbrev pub cons_if : Bool → ℕ → List ℕ × List ℕ → List ℕ → List ℕ × List ℕ
cons_if true c p all = (c ∷ p.0, p.1)
cons_if false c p all = ([], all)

-- the longest run of bytes that pass a test, and the rest
abbrev pub span : (ℕ → Bool) → List ℕ → List ℕ × List ℕ
span p [] = ([], [])
span p (c ∷ cs) = cons_if (p c) c (span p cs) (c ∷ cs)
