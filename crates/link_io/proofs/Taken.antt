-- What was taken piece by piece.
use Rattle.std.proofs.Common.{◌≡◌, ◌∙◌, ap, subst, sym, ℕ, ◌+◌, ◌-◌, ◌^◌, ◌≤◌, min, List, [], ◌++◌, append_assoc, append-nil, arith, length, take, drop}
use Rattle.std.proofs.lemmas.Grind.{common_steps}
use Rattle.std.specs.Prelude.{Option, Some, None}
use Rattle.link_io.specs.Outside.{Rose, Took, TookLess}

-- one piece after another
pub took_both : (a b c : Option (List ℕ)) (x y : List ℕ) → Took a b x → Took b c y → Took a c (x ++ y)
took_both None b c x y f h = tt
took_both (Some o) b c x y f h = (let p : c ≡ Some ((o ++ x) ++ y) = subst (λ z. Took z c y) f h in p) ∙ ap (λ z. Some z) (append_assoc o x y)

-- nothing yet
pub took_none : (a : Option (List ℕ)) → Took a a []
took_none None = tt
took_none (Some o) = ap (λ z. Some z) (sym (append-nil o))

-- less than a text, after another text
pub took_less : (a b c : Option (List ℕ)) (x y : List ℕ) → Took a b x → TookLess b c y → TookLess a c (x ++ y)
took_less a b c x y f h =
    (x ++ h.0, h.1, h.2, append_assoc x h.0 h.1 ∙ ap (λ z. x ++ z) h.3, took_both a b c x h.0 f h.4)

-- a rise stays one after an earlier moment
pub rose_since : (a b c : ℕ) → a ≤ b → Rose b c → Rose a c
rose_since a b c h r = let s : min (b + 1) (2 ^ 64 - 1) ≤ c = r in omega (arith, h, s)

-- a list is its first n elements and the rest
pub two_parts : (n : ℕ) (xs : List ℕ) → n ≤ length xs → take n xs ++ take (length xs - n) (drop n xs) ≡ xs
two_parts n xs h = grind (arith, common_steps)
