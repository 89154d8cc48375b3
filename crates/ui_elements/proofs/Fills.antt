-- What the parameters of a call are, parameter by parameter.
use Rattle.std.proofs.Common.{◌≡◌, ℕ, ◌<◌, ◌≤◌, ◌+◌, ◌-◌, List, [], ◌∷◌, length, drop, take, get_or, refl, ap, arith, add-one, Some, None, suc, zero, true, false}
use Rattle.std.specs.Str.{bytes_eq}
use Rattle.std.proofs.lemmas.List.{drop_all, drop_more, drop-map, take_rest}
use Rattle.std.proofs.Math.Seq.{drop-length}
use Rattle.py_value.specs.declared.types.Data.{Data}
use Rattle.py_value.specs.declared.types.Data.TheVariants as D
use Rattle.py_value.specs.declared.types.Value.{Value}
use Rattle.py_value.specs.View.{data_of, all_of}
use Rattle.py_value.specs.Dicts.{with_pair}
use Rattle.py_value.specs.Maps.{look_up}
use Rattle.py_value.specs.Elements.{Named, Params, Parameter, are_words_of, argument, params_after, params_of_call}
use Rattle.py_value.proofs.Equals.{all_long}
use Rattle.ui_elements.specs.Calls.{arguments_of, parameter_of, parameters_of, words_of}
use Rattle.ui_elements.specs.declared.args.Args.{Args}
use Rattle.ui_elements.specs.declared.args.Word.{Word}
use Rattle.ui_elements.specs.declared.parameters.Parameter.{Parameter as Row}

pub word_here : (name : List ℕ) (ws : List Word) (i : ℕ) (d : Word) → i < length ws → bytes_eq (get_or ws i d).name name ≡ true → look_up name (words_of (drop i ws)) ≡ Some (data_of (get_or ws i d).value)
word_here name ws i d h e = rw (drop_more ws i d h, e) refl

pub word_else : (name : List ℕ) (ws : List Word) (i : ℕ) (d : Word) → i < length ws → bytes_eq (get_or ws i d).name name ≡ false → look_up name (words_of (drop i ws)) ≡ look_up name (words_of (drop (i + 1) ws))
word_else name ws i d h e = rw (drop_more ws i d h, e) refl

pub word_end : (name : List ℕ) (ws : List Word) (i : ℕ) → i ≡ length ws → look_up name (words_of (drop i ws)) ≡ None
word_end name ws i h = rw (h, drop-length ws) refl

-- what the search for an argument by name uses
pub ruleset words = (word_here, word_else, word_end)

pub none_left : (vs : List Value) (i : ℕ) → length vs ≤ i → all_of (drop i vs) ≡ []
none_left vs i h = ap all_of (drop_all i vs h)

pub argument_placed : (p : Parameter) (vs : List Value) (i : ℕ) (d : Value) (words : Named) (earlier : Params) → i < length vs → argument p (all_of (drop i vs)) words earlier ≡ Some (data_of (get_or vs i d))
argument_placed p vs i d words earlier h = rw (drop_more vs i d h) refl

-- what the choice of one argument uses
pub ruleset arguments = (argument_placed, none_left)

drop_next : (vs : List Value) (i : ℕ) → drop 1 (all_of (drop i vs)) ≡ all_of (drop (suc i) vs)
drop_next [] zero = refl
drop_next [] (suc i) = refl
drop_next (v ∷ vs) zero = refl
drop_next (v ∷ vs) (suc i) = drop_next vs i

drop_one : (vs : List Value) (i : ℕ) → drop 1 (all_of (drop i vs)) ≡ all_of (drop (i + 1) vs)
drop_one vs i = rw add-one (drop_next vs i)

pub filled_more : (ps : List Row) (vs : List Value) (i : ℕ) (d : Row) (words : Named) (earlier : Params) (value : Data) → i < length ps → argument (parameter_of (get_or ps i d)) (all_of (drop i vs)) words earlier ≡ Some value →
    params_after (parameters_of (drop i ps)) (all_of (drop i vs)) words earlier ≡ params_after (parameters_of (drop (i + 1) ps)) (all_of (drop (i + 1) vs)) words (with_pair (D.Text (get_or ps i d).name.now) value earlier)
filled_more ps vs i d words earlier value h e = rw (drop_more ps i d h, e, drop_one vs i) refl

pub filled_none : (ps : List Row) (vs : List Value) (i : ℕ) (d : Row) (words : Named) (earlier : Params) → i < length ps → argument (parameter_of (get_or ps i d)) (all_of (drop i vs)) words earlier ≡ None →
    params_after (parameters_of (drop i ps)) (all_of (drop i vs)) words earlier ≡ None
filled_none ps vs i d words earlier h e = rw (drop_more ps i d h, e) refl

pub filled_end : (ps : List Row) (vs : List Value) (i : ℕ) (words : Named) (earlier : Params) → i ≡ length ps → length vs ≤ i →
    params_after (parameters_of (drop i ps)) (all_of (drop i vs)) words earlier ≡ Some earlier
filled_end ps vs i words earlier h low = rw (none_left vs i low, h, drop-length ps) refl

pub too_many : (ps : List Row) (vs : List Value) (words : Named) (earlier : Params) → length ps < length vs → params_after (parameters_of ps) (all_of vs) words earlier ≡ None
too_many [] [] words earlier h = absurd (omega arith)
too_many [] (v ∷ vs) words earlier h = refl
too_many (p ∷ ps) [] words earlier h = absurd (omega arith)
too_many (p ∷ ps) (v ∷ vs) words earlier h = too_many ps vs words _ (omega arith)

-- the arguments by name don't fit
pub given_none : (ps : List Row) (vs : List Value) (ws : List Word) (args : Args) → all_of vs ≡ args.places → ws ≡ args.words → are_words_of (parameters_of (take (length ps - length vs) (drop (length vs) ps))) (words_of ws) ≡ false →
    params_of_call (parameters_of ps) (arguments_of args) ≡ None
given_none ps vs ws args e f h = rw (← e, ← f, all_long vs, drop-map parameter_of (length vs) ps, ← take_rest ps (length vs), h) refl

-- the arguments by name fit
pub given_filled : (ps : List Row) (vs : List Value) (ws : List Word) (args : Args) → all_of vs ≡ args.places → ws ≡ args.words → are_words_of (parameters_of (take (length ps - length vs) (drop (length vs) ps))) (words_of ws) ≡ true →
    params_of_call (parameters_of ps) (arguments_of args) ≡ params_after (parameters_of ps) (all_of vs) (words_of ws) []
given_filled ps vs ws args e f h = rw (← e, ← f, all_long vs, drop-map parameter_of (length vs) ps, ← take_rest ps (length vs), h) refl

-- what the loop over parameters uses
pub ruleset fills = (filled_more, filled_none, filled_end)

-- what the parameters of a call are
pub ruleset givens = (too_many, given_none, given_filled)
