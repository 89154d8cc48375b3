-- Words joined by spaces, and cut apart again.
use Rattle.std.proofs.Common.{◌≡◌, ℕ, zero, suc, ◌<◌, Bool, true, false, ◌&&◌, eqb, ltb, List, [], ◌∷◌, length, refl, ap, ◌∙◌, arith}
use Rattle.std.proofs.lemmas.Bool.{and_parts, ne_eqb, ltb-true}
use Rattle.std.proofs.lemmas.List.Splits.{slice_split_at, slice_split_first, slice_split_none, length-slice_split}
use Rattle.std.proofs.lemmas.List.Sums.{fails_before_first}
use Rattle.std.proofs.lemmas.Str.{IsAscii-append}
use Rattle.std.proofs.lemmas.Str.Ascii.{IsAscii-nil, IsAscii-cons}
use Rattle.std.specs.List.{All, list_all, join_with_byte, position_or_len, before_first, after_first}
use Rattle.std.specs.Str.{IsAscii}
use Rattle.thin_form.specs.Words.{words}

-- text cut at its first space, and text with no space
pub words_first : (text word rest : List ℕ) → (position_or_len (λ b. eqb b 32) text < length text) × (word ≡ before_first (λ b. eqb b 32) text) × (rest ≡ after_first (λ b. eqb b 32) text) →
    words text ≡ word ∷ words rest
words_first text word rest h = rw (h.1, h.2) (slice_split_first (λ b. eqb b 32) text 0 h.0)

pub words_none : (text : List ℕ) → position_or_len (λ b. eqb b 32) text ≡ length text → words text ≡ text ∷ []
words_none text e = slice_split_none (λ b. eqb b 32) text (λ k d l. fails_before_first (λ b. eqb b 32) text k d (omega arith))

pub some_word : (text : List ℕ) → 0 < length (words text)
some_word text = omega (arith, length-slice_split (λ b. eqb b 32) text)

-- a byte that may stand in a word: ASCII, and past the space and the marks of lines
abbrev pub is_word_byte : ℕ → Bool
is_word_byte b = ltb 32 b && ltb b 128

pub list_all-weaker : (p q : ℕ → Bool) → ((b : ℕ) → p b ≡ true → q b ≡ true) → (bs : List ℕ) → list_all p bs ≡ true → list_all q bs ≡ true
list_all-weaker p q f [] h = refl
list_all-weaker p q f (b ∷ bs) h = let s = and_parts _ _ h in rw (f b s.0) (list_all-weaker p q f bs s.1)

no_space : (bs : List ℕ) → list_all is_word_byte bs ≡ true → All (λ b. eqb b 32 ≡ false) bs
no_space [] h k d l = absurd (omega arith)
no_space (b ∷ bs) h zero d l = let past = ltb-true 32 b (and_parts _ _ (and_parts _ _ h).0).0 in ne_eqb b 32 (λ e. omega arith)
no_space (b ∷ bs) h (suc k) d l = no_space bs (and_parts _ _ h).1 k d (omega arith)

ascii : (bs : List ℕ) → list_all is_word_byte bs ≡ true → IsAscii bs
ascii [] h = IsAscii-nil
ascii (b ∷ bs) h = let s = and_parts _ _ h in IsAscii-cons b bs (ltb-true _ _ (and_parts _ _ s.0).1) (ascii bs s.1)

abbrev pub AreWords : List (List ℕ) → Type 0
AreWords ws = list_all (λ w. list_all is_word_byte w) ws ≡ true

pub words-join : (ws : List (List ℕ)) → 0 < length ws → AreWords ws → words (join_with_byte 32 ws) ≡ ws
words-join [] l h = absurd (omega arith)
words-join (w ∷ []) l h = slice_split_none (λ b. eqb b 32) w (no_space w (and_parts _ _ h).0)
words-join (w ∷ v ∷ vs) l h =
    let s = and_parts _ _ h in
    slice_split_at (λ b. eqb b 32) w 32 (join_with_byte 32 (v ∷ vs)) (no_space w s.0) refl ∙ ap (λ ws. w ∷ ws) (words-join (v ∷ vs) (omega arith) s.1)

pub join_ascii : (ws : List (List ℕ)) → AreWords ws → IsAscii (join_with_byte 32 ws)
join_ascii [] h = IsAscii-nil
join_ascii (w ∷ []) h = ascii w (and_parts _ _ h).0
join_ascii (w ∷ v ∷ vs) h =
    let s = and_parts _ _ h in
    IsAscii-append w (32 ∷ join_with_byte 32 (v ∷ vs)) (ascii w s.0) (IsAscii-cons 32 (join_with_byte 32 (v ∷ vs)) (omega arith) (join_ascii (v ∷ vs) s.1))
