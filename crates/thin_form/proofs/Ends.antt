-- What a text begins or ends with, taken off.
use Rattle.std.proofs.Common.{◌≡◌, ℕ, ◌-◌, true, List, ◌++◌, length, take, drop, Option, None, Some, Bor, refl, sym, ap, ◌∙◌, arith, length-append}
use Rattle.std.specs.Prelude.{option_map, MatchOption}
use Rattle.std.specs.Str.{bytes_eq}
use Rattle.std.specs.Str.Pattern.{FindsTextPrefix, FindsTextSuffix, StripsPrefix, StripsSuffix}
use Rattle.std.proofs.Math.Seq.{take-append_seam, drop-append_seam}
use Rattle.std.proofs.lemmas.List.{take-append-drop}
use Rattle.std.proofs.lemmas.Option.{same_Some}
use Rattle.std.proofs.lemmas.Slice.Eq.{bytes_eq-Decides}
use Rattle.thin_form.specs.Words.{without_front, without_back}
use Rattle.thin_form.proofs.Options.{cond_ok}

same_bytes : (a b : List ℕ) → a ≡ b → bytes_eq a b ≡ true
same_bytes a b = (bytes_eq-Decides a b).1

pub front_off : (front rest : List ℕ) → without_front front (front ++ rest) ≡ Some rest
unfolding without_front
front_off front rest = rw (same_bytes _ _ (take-append_seam front rest)) (ap Some (drop-append_seam front rest))

pub back_off : (back rest : List ℕ) → without_back back (rest ++ back) ≡ Some rest
unfolding without_back
back_off back rest =
    let size : length (rest ++ back) - length back ≡ length rest = omega (arith, length-append rest back) in
    rw (size, same_bytes _ _ (drop-append_seam rest back)) (ap Some (take-append_seam rest back))

pub front_on : (front text rest : List ℕ) → without_front front text ≡ Some rest → text ≡ front ++ rest
unfolding without_front
front_on front text rest e =
    let taken = cond_ok _ _ rest e in
    let same = (bytes_eq-Decides (take (length front) text) front).0 taken.0 in
    sym (take-append-drop (length front) text) ∙ (ap (λ t. t ++ drop (length front) text) same ∙ ap (λ t. front ++ t) (same_Some _ _ taken.1))

pub back_on : (back text rest : List ℕ) → without_back back text ≡ Some rest → text ≡ rest ++ back
unfolding without_back
back_on back text rest e =
    let n = length text - length back in
    let taken = cond_ok _ _ rest e in
    let same = (bytes_eq-Decides (drop n text) back).0 taken.0 in
    sym (take-append-drop n text) ∙ (ap (λ t. take n text ++ t) same ∙ ap (λ t. t ++ back) (same_Some _ _ taken.1))

-- an option that can't be some
pub none_by : (o : Option (List ℕ)) → ((x : List ℕ) → o ≡ Some x → ⊥) → None ≡ o
none_by None h = refl
none_by (Some x) h = absurd (h x refl)

pub stripped_front : (front text : List ℕ) (r : Option (Bor (List ℕ)))
    → MatchOption r (FindsTextPrefix front text None) (λ x. StripsPrefix (FindsTextPrefix front) text x.now)
    → option_map (λ (t : Bor (List ℕ)). t.now) r ≡ without_front front text
stripped_front front text None h = none_by (without_front front text) (λ rest e. h rest (front_on front text rest e))
stripped_front front text (Some x) h =
    let n = h.0 in
    let same : text ≡ front ++ x.now = h.1.1 ∙ ap (λ t. front ++ t) (sym h.2) in
    sym (ap (without_front front) same ∙ front_off front x.now)

pub stripped_back : (back text : List ℕ) (r : Option (Bor (List ℕ)))
    → MatchOption r (FindsTextSuffix back text None) (λ x. StripsSuffix (FindsTextSuffix back) text x.now)
    → option_map (λ (t : Bor (List ℕ)). t.now) r ≡ without_back back text
stripped_back back text None h = none_by (without_back back text) (λ rest e. h rest (back_on back text rest e))
stripped_back back text (Some x) h =
    let same : text ≡ x.now ++ back = h.1.1 ∙ ap (λ t. t ++ back) (sym h.2) in
    sym (ap (without_back back) same ∙ back_off back x.now)
