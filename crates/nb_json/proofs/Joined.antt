-- Lists of strings.
use Rattle.std.proofs.Common.{◌≡◌, ◌∙◌, ap, ℕ, List, [], ◌∷◌, ◌++◌, append_assoc, append-nil}
use Rattle.std.specs.Prelude.{cond, flat_map, map, Result, Ok, Err, is_ok, OnOk}
use Rattle.std.specs.List.{join_with_byte}
use Rattle.frame_meaning.specs.FrameText.{json_string}

-- each string but the first stands after a comma
pub joined : (x : List ℕ) (xs : List (List ℕ))
    → json_string x ++ flat_map (λ line. 44 ∷ json_string line) xs ≡ join_with_byte 44 (map json_string (x ∷ xs))
joined x [] = append-nil (json_string x)
joined x (y ∷ ys) = ap (λ z. json_string x ++ 44 ∷ z) (joined y ys)

-- the last part of a text is appended, where memory is enough
pub last_part : {E : Type 0} (r : Result (Unit {0}) E) (before part now whole : List ℕ)
    → now ≡ cond (is_ok r) (before ++ part) before → before ++ part ≡ whole → OnOk r (now ≡ whole)
last_part (Ok x) before part now whole h e = h ∙ e
last_part (Err x) before part now whole h e = tt

-- what was appended before stands before the rest
pub moved : (now before part rest : List ℕ) → now ≡ before ++ part → now ++ rest ≡ before ++ (part ++ rest)
moved now before part rest e = ap (λ z. z ++ rest) e ∙ append_assoc before part rest

-- five members and what comes after them
pub five_members : (a b c d e rest : List ℕ)
    → a ++ 44 ∷ (b ++ 44 ∷ (c ++ 44 ∷ (d ++ 44 ∷ (e ++ rest)))) ≡ join_with_byte 44 (a ∷ b ∷ c ∷ d ∷ e ∷ []) ++ rest
five_members a b c d e rest = simp append_assoc

-- two parts
pub two_more : (s0 s1 s2 p q rest : List ℕ) → s1 ≡ s0 ++ p → s2 ≡ s1 ++ q → s2 ++ rest ≡ s0 ++ (p ++ (q ++ rest))
two_more s0 s1 s2 p q rest e f = moved s2 s1 q rest f ∙ moved s1 s0 p (q ++ rest) e
