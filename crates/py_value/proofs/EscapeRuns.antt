-- Runs of bytes that stand for themselves, in texts where something else stands for some bytes.
use Rattle.std.proofs.Common.{◌≡◌, ◌∙◌, ap, sym, ℕ, suc, ◌+◌, ◌-◌, ◌<◌, ◌≤◌, List, [], ◌∷◌, ◌++◌, append_assoc, append-nil, add-one, arith, length, length-drop, take, drop, get_or}
use Rattle.std.proofs.Math.Seq.{take-suc}
use Rattle.std.proofs.lemmas.Grind.{common_steps, flat_map-append}
use Rattle.std.specs.Prelude.{flat_map}

-- the text up to and with a byte
up_to : (f : ℕ → List ℕ) (text : List ℕ) (i : ℕ) → i < length text
    → flat_map f (take (i + 1) text) ≡ flat_map f (take i text) ++ f (get_or text i 0)
up_to f text i h =
    ap (flat_map f) (ap (λ n. take n text) (add-one i) ∙ take-suc text i 0 h)
    ∙ flat_map-append f (take i text) (get_or text i 0 ∷ [])
    ∙ ap (λ z. flat_map f (take i text) ++ z) (append-nil (f (get_or text i 0)))

-- a run and the next byte
longer : (text : List ℕ) (start i : ℕ) → start ≤ i → i < length text
    → take (i + 1 - start) (drop start text) ≡ take (i - start) (drop start text) ++ get_or text i 0 ∷ []
longer text start i s h =
    let n : i + 1 - start ≡ suc (i - start) = omega arith in
    let fits : i - start < length (drop start text) = omega (arith, length-drop start text) in
    let same : get_or (drop start text) (i - start) 0 ≡ get_or text i 0 = grind (arith, common_steps) in
    ap (λ k. take k (drop start text)) n ∙ take-suc (drop start text) (i - start) 0 fits
    ∙ ap (λ x. take (i - start) (drop start text) ++ x ∷ []) same

-- the run goes on with a byte that stands for itself
pub run_longer : (f : ℕ → List ℕ) (out old text : List ℕ) (start i : ℕ) → start ≤ i → i < length text
    → f (get_or text i 0) ≡ get_or text i 0 ∷ []
    → out ++ take (i - start) (drop start text) ≡ old ++ flat_map f (take i text)
    → out ++ take (i + 1 - start) (drop start text) ≡ old ++ flat_map f (take (i + 1) text)
run_longer f out old text start i s h plain e =
    let x = get_or text i 0 in
    ap (λ z. out ++ z) (longer text start i s h) ∙ sym (append_assoc out _ _) ∙ ap (λ z. z ++ x ∷ []) e ∙ append_assoc old _ _
    ∙ ap (λ z. old ++ z) (ap (λ z. flat_map f (take i text) ++ z) (sym plain) ∙ sym (up_to f text i h))

-- the run is written, and then what stands for the next byte
pub run_written : (f : ℕ → List ℕ) (out old text : List ℕ) (start i : ℕ) → i < length text
    → out ++ take (i - start) (drop start text) ≡ old ++ flat_map f (take i text)
    → (out ++ take (i - start) (drop start text)) ++ f (get_or text i 0) ≡ old ++ flat_map f (take (i + 1) text)
run_written f out old text start i h e =
    ap (λ z. z ++ f (get_or text i 0)) e ∙ append_assoc old _ _ ∙ ap (λ z. old ++ z) (sym (up_to f text i h))

-- the next run begins after that byte
pub run_begins : (out all text : List ℕ) (start i : ℕ) → start ≡ i + 1 → out ≡ all → out ++ take (i + 1 - start) (drop start text) ≡ all
run_begins out all text start i s e =
    let none : i + 1 - start ≡ 0 = omega arith in
    ap (λ k. out ++ take k (drop start text)) none ∙ append-nil out ∙ e
