-- Names of arguments and of parameters, in order.
use Rattle.std.proofs.Common.{◌≡◌, ℕ, ◌<◌, ◌+◌, ◌-◌, Bool, true, false, ◌||◌, ◌&&◌, List, [], ◌∷◌, length, drop, take, get_or, refl, ap, sym, ◌∙◌}
use Rattle.std.specs.List.{list_any, list_all}
use Rattle.std.specs.Str.{bytes_eq}
use Rattle.std.proofs.lemmas.List.{drop_more, take_rest}
use Rattle.std.proofs.Math.Seq.{drop-length}
use Rattle.py_value.specs.Elements.{are_among, are_distinct, are_words_of, is_one_of, parameter_names, word_names}
use Rattle.ui_elements.specs.Calls.{parameters_of, words_of}
use Rattle.ui_elements.specs.declared.args.Word.{Word}
use Rattle.ui_elements.specs.declared.parameters.Parameter.{Parameter as Row}

parameter_named : (name : List ℕ) (ps : List Row) → list_any (λ (p : Row). bytes_eq p.name.now name) ps ≡ is_one_of name (parameter_names (parameters_of ps))
parameter_named name [] = refl
parameter_named name (p ∷ ps) = ap (λ b. bytes_eq p.name.now name || b) (parameter_named name ps)

word_named : (name : List ℕ) (ws : List Word) → list_any (λ (w : Word). bytes_eq w.name name) ws ≡ is_one_of name (word_names (words_of ws))
word_named name [] = refl
word_named name (w ∷ ws) = ap (λ b. bytes_eq w.name name || b) (word_named name ws)

words_among : (ps : List Row) (ws : List Word) → list_all (λ (w : Word). list_any (λ (p : Row). bytes_eq p.name.now w.name) ps) ws ≡ are_among (word_names (words_of ws)) (parameter_names (parameters_of ps))
words_among ps [] = refl
words_among ps (w ∷ ws) = λ i. parameter_named w.name ps i && words_among ps ws i

-- the arguments by name are for parameters of these
pub fit : (ps : List Row) (ws : List Word) → list_all (λ (w : Word). list_any (λ (p : Row). bytes_eq p.name.now w.name) ps) ws ≡ true → are_words_of (parameters_of ps) (words_of ws) ≡ are_distinct (word_names (words_of ws))
fit ps ws h = rw (sym (words_among ps ws) ∙ h) refl

-- one of the arguments by name is for no parameter of these
pub unfit : (ps : List Row) (ws : List Word) → list_all (λ (w : Word). list_any (λ (p : Row). bytes_eq p.name.now w.name) ps) ws ≡ false → are_words_of (parameters_of ps) (words_of ws) ≡ false
unfit ps ws h = rw (sym (words_among ps ws) ∙ h) refl

-- the name of the argument stands again among those behind it
abbrev pub is_again : List Word → ℕ → List ℕ → Bool
is_again ws i name = list_any (λ (w : Word). bytes_eq w.name name) (take (length ws - (i + 1)) (drop (i + 1) ws))

again_is : (ws : List Word) (i : ℕ) (name : List ℕ) → is_one_of name (word_names (words_of (drop (i + 1) ws))) ≡ is_again ws i name
again_is ws i name = sym (word_named name (drop (i + 1) ws)) ∙ ap (list_any (λ (w : Word). bytes_eq w.name name)) (sym (take_rest ws (i + 1)))

pub distinct_here : (ws : List Word) (i : ℕ) (d : Word) (name : List ℕ) → i < length ws → name ≡ (get_or ws i d).name → is_again ws i name ≡ true → are_distinct (word_names (words_of (drop i ws))) ≡ false
distinct_here ws i d name h same e = rw (drop_more ws i d h, ← same, again_is ws i name ∙ e) refl

pub distinct_else : (ws : List Word) (i : ℕ) (d : Word) (name : List ℕ) → i < length ws → name ≡ (get_or ws i d).name → is_again ws i name ≡ false → are_distinct (word_names (words_of (drop i ws))) ≡ are_distinct (word_names (words_of (drop (i + 1) ws)))
distinct_else ws i d name h same e = rw (drop_more ws i d h, ← same, again_is ws i name ∙ e) refl

pub distinct_end : (ws : List Word) (i : ℕ) → i ≡ length ws → are_distinct (word_names (words_of (drop i ws))) ≡ true
distinct_end ws i h = rw (h, drop-length ws) refl

-- what the test of distinct names uses
pub ruleset names = (distinct_here, distinct_else, distinct_end)
