-- The forms of lines: each line of the grammar is spelled by its form's template.
use Rattle.std.proofs.Common.{◌≡◌, ℕ, suc, ◌≤◌, true, false, List, [], ◌∷◌, Some, refl, sym, ap, ◌∙◌, subst, codes, arith}
use Rattle.syntax_reading.specs.Words as is
use Rattle.py_tree.specs.Expressions.{Tree, bare}
use Rattle.py_tree.specs.Trees.{Augment, AddTo, SubtractFrom, MultiplyBy, FloorBy, RemainderBy, Head, value, assign, augment, put_item, augment_item, append, extend, if_line, elif_line, else_line, while_line, for_line, def_line, return_line, return_value, pass_line, break_line, continue_line, import_marimo, import_mo, with_cache, cache_decorator, cell_decorator, cell_decorator_with, app_line}
use Rattle.syntax_reading.proofs.ShapedLines.{HeadShaped}
use Rattle.syntax_form.specs.Printing.{tokens, list_tokens, if_comma}
use Rattle.syntax_reading.proofs.Shaped.{Shaped}
use Rattle.syntax_form.specs.LinePrinting.{augment_token, head_tokens}
use Rattle.syntax_reading.specs.LinePieces.{Slot, nothing, a_name, a_tree, some_names, some_arguments, a_text, an_augment}
use Rattle.syntax_form.specs.Lines.{head_depth}
use Rattle.syntax_reading.specs.Words.{Fixed, fixed_token, Word, name, literal, fixed, word_of}
use Rattle.syntax_reading.specs.Readers.{Closing, by, at_end}
use Rattle.syntax_reading.proofs.Spelling.{closes}
use Rattle.syntax_reading.proofs.WordLaws.{before, before_append, word_of_fixed}
use Rattle.syntax_reading.proofs.SpellingLaws.{word_of_name, comma_is, word_of_literal, names_are, targets_are, spell_is, list_is, arguments_are}
use Rattle.syntax_reading.specs.LineForms.{Form, Value, Assign, AugmentName, PutItem, AugmentItem, Append, Extend, IfLine, ElifLine, ElseLine, WhileLine, ForLine, DefLine, Return, ReturnValue, Pass, Break, Continue, ImportMarimo, ImportMo, WithCache, WithNamedCache, CacheDecorator, CellDecorator, CellDecoratorWith, App, template, make}
use Rattle.syntax_reading.proofs.LinePieces.{augment_word, spell_values, spell_pieces, values_colon, GoodPieces, Fine}

abbrev pub form_of : Head → Form
form_of (value t) = Value
form_of (assign xs t) = Assign
form_of (augment x op t) = AugmentName
form_of (put_item x k t) = PutItem
form_of (augment_item x k op t) = AugmentItem
form_of (append x t) = Append
form_of (extend x t) = Extend
form_of (if_line t) = IfLine
form_of (elif_line t) = ElifLine
form_of else_line = ElseLine
form_of (while_line t) = WhileLine
form_of (for_line xs t) = ForLine
form_of (def_line x xs b) = DefLine
form_of return_line = Return
form_of (return_value t) = ReturnValue
form_of pass_line = Pass
form_of break_line = Break
form_of continue_line = Continue
form_of import_marimo = ImportMarimo
form_of import_mo = ImportMo
form_of (with_cache false t) = WithCache
form_of (with_cache true t) = WithNamedCache
form_of cache_decorator = CacheDecorator
form_of cell_decorator = CellDecorator
form_of (cell_decorator_with args b) = CellDecoratorWith
form_of (app_line args b) = App

abbrev pub slots : Head → List Slot
slots (value t) = a_tree t ∷ []
slots (assign xs t) = some_names xs false ∷ a_tree t ∷ []
slots (augment x op t) = a_name x ∷ an_augment op ∷ a_tree t ∷ []
slots (put_item x k t) = a_name x ∷ nothing ∷ a_tree k ∷ nothing ∷ nothing ∷ a_tree t ∷ []
slots (augment_item x k op t) = a_name x ∷ nothing ∷ a_tree k ∷ nothing ∷ an_augment op ∷ a_tree t ∷ []
slots (append x t) = a_name x ∷ nothing ∷ nothing ∷ nothing ∷ a_tree t ∷ nothing ∷ []
slots (extend x t) = a_name x ∷ nothing ∷ nothing ∷ nothing ∷ a_tree t ∷ nothing ∷ []
slots (if_line t) = nothing ∷ a_tree t ∷ nothing ∷ []
slots (elif_line t) = nothing ∷ a_tree t ∷ nothing ∷ []
slots else_line = nothing ∷ nothing ∷ []
slots (while_line t) = nothing ∷ a_tree t ∷ nothing ∷ []
slots (for_line xs t) = nothing ∷ some_names xs false ∷ a_tree t ∷ []
slots (def_line x xs b) = nothing ∷ a_name x ∷ nothing ∷ some_names xs b ∷ nothing ∷ []
slots return_line = nothing ∷ []
slots (return_value t) = nothing ∷ a_tree t ∷ []
slots pass_line = nothing ∷ []
slots break_line = nothing ∷ []
slots continue_line = nothing ∷ []
slots import_marimo = nothing ∷ nothing ∷ []
slots import_mo = nothing ∷ nothing ∷ nothing ∷ nothing ∷ []
slots (with_cache false t) = nothing ∷ nothing ∷ nothing ∷ nothing ∷ nothing ∷ a_text t ∷ nothing ∷ nothing ∷ []
slots (with_cache true t) = nothing ∷ nothing ∷ nothing ∷ nothing ∷ nothing ∷ nothing ∷ nothing ∷ a_text t ∷ nothing ∷ nothing ∷ []
slots cache_decorator = nothing ∷ nothing ∷ nothing ∷ nothing ∷ []
slots cell_decorator = nothing ∷ nothing ∷ nothing ∷ nothing ∷ []
slots (cell_decorator_with args b) = nothing ∷ nothing ∷ nothing ∷ nothing ∷ nothing ∷ some_arguments args b ∷ []
slots (app_line args b) = nothing ∷ nothing ∷ nothing ∷ nothing ∷ nothing ∷ nothing ∷ some_arguments args b ∷ []

pub make_slots : (h : Head) → make (form_of h) (slots h) ≡ Some h
make_slots (value t) = refl
make_slots (assign xs t) = refl
make_slots (augment x op t) = refl
make_slots (put_item x k t) = refl
make_slots (augment_item x k op t) = refl
make_slots (append x t) = refl
make_slots (extend x t) = refl
make_slots (if_line t) = refl
make_slots (elif_line t) = refl
make_slots else_line = refl
make_slots (while_line t) = refl
make_slots (for_line xs t) = refl
make_slots (def_line x xs b) = refl
make_slots return_line = refl
make_slots (return_value t) = refl
make_slots pass_line = refl
make_slots break_line = refl
make_slots continue_line = refl
make_slots import_marimo = refl
make_slots import_mo = refl
make_slots (with_cache false t) = refl
make_slots (with_cache true t) = refl
make_slots cache_decorator = refl
make_slots cell_decorator = refl
make_slots (cell_decorator_with args b) = refl
make_slots (app_line args b) = refl

-- ---- the words of a line

values_are : (c : Closing) (t : Tree) (r : List Word) → Shaped t → spell_values c t r ≡ before (tokens t) (closes c r)
values_are c (bare ts b) r l =
    list_is 1 ts b c l.0 r ∙ (ap (before (list_tokens ts)) (comma_is b c r) ∙ sym (before_append (list_tokens ts) (if_comma b) (closes c r)))
values_are c t r l = spell_is t l (closes c r)

augment_is : (op : Augment) → word_of (augment_token op) ≡ fixed (augment_word op)
augment_is AddTo = word_of_fixed is.add_to
augment_is SubtractFrom = word_of_fixed is.subtract_from
augment_is MultiplyBy = word_of_fixed is.multiply_by
augment_is FloorBy = word_of_fixed is.floor_by
augment_is RemainderBy = word_of_fixed is.remainder_by

pub head_words : (h : Head) → HeadShaped h → spell_pieces (template (form_of h)) (slots h) ≡ before (head_tokens h) []
head_words (value t) l = values_are at_end t [] l.1
head_words (assign xs t) l = simp (before_append, word_of_fixed is.assign, targets_are xs is.assign l.0, values_are at_end t [] l.1.1)
head_words (augment x op t) l = simp (word_of_name x l.0, augment_is op, spell_is t l.1.1)
head_words (put_item x k t) l =
    simp (before_append, word_of_name x l.0, word_of_fixed is.square_open, word_of_fixed is.square_close, word_of_fixed is.assign, spell_is k l.1.1, spell_is t l.2.1)
head_words (augment_item x k op t) l =
    simp (before_append, word_of_name x l.0, word_of_fixed is.square_open, word_of_fixed is.square_close, augment_is op, spell_is k l.1.1, spell_is t l.2.1)
head_words (append x t) l =
    simp (before_append, word_of_name x l.0, word_of_name (codes "append") refl, word_of_fixed is.dot, word_of_fixed is.round_open, word_of_fixed is.round_close, spell_is t l.1.1)
head_words (extend x t) l =
    simp (before_append, word_of_name x l.0, word_of_name (codes "extend") refl, word_of_fixed is.dot, word_of_fixed is.round_open, word_of_fixed is.round_close, spell_is t l.1.1)
head_words (if_line t) l = simp (before_append, word_of_fixed is.if_, word_of_fixed is.colon, spell_is t l.1)
head_words (elif_line t) l = simp (before_append, word_of_fixed is.elif_, word_of_fixed is.colon, spell_is t l.1)
head_words else_line l = simp (word_of_fixed is.else_, word_of_fixed is.colon)
head_words (while_line t) l = simp (before_append, word_of_fixed is.while_, word_of_fixed is.colon, spell_is t l.1)
head_words (for_line xs t) l =
    simp (before_append, word_of_fixed is.for_, word_of_fixed is.in_, word_of_fixed is.colon, targets_are xs is.in_ l.0, values_are (by is.colon) t [] l.1.1)
head_words (def_line x xs b) l =
    simp (
      before_append,
      word_of_name x l.0,
      word_of_fixed is.def_,
      word_of_fixed is.round_open,
      word_of_fixed is.round_close,
      word_of_fixed is.colon,
      names_are xs b is.round_close (fixed is.colon ∷ []) l.1,
      comma_is b (by is.round_close),
    )
head_words return_line l = simp (word_of_fixed is.return_)
head_words (return_value t) l = simp (word_of_fixed is.return_, values_are at_end t [] l.1)
head_words pass_line l = simp (word_of_fixed is.pass_)
head_words break_line l = simp (word_of_fixed is.break_)
head_words continue_line l = simp (word_of_fixed is.continue_)
head_words import_marimo l = simp (word_of_fixed is.import_, word_of_name (codes "marimo") refl)
head_words import_mo l = simp (word_of_fixed is.import_, word_of_fixed is.as_, word_of_name (codes "marimo") refl, word_of_name (codes "mo") refl)
head_words (with_cache false t) l =
    simp (
      word_of_fixed is.with_,
      word_of_fixed is.dot,
      word_of_fixed is.round_open,
      word_of_fixed is.round_close,
      word_of_fixed is.colon,
      word_of_name (codes "mo") refl,
      word_of_name (codes "cache") refl,
      word_of_literal t l.1,
    )
head_words (with_cache true t) l =
    simp (
      word_of_fixed is.with_,
      word_of_fixed is.dot,
      word_of_fixed is.round_open,
      word_of_fixed is.round_close,
      word_of_fixed is.colon,
      word_of_fixed is.assign,
      word_of_name (codes "mo") refl,
      word_of_name (codes "cache") refl,
      word_of_name (codes "name") refl,
      word_of_literal t l.1,
    )
head_words cache_decorator l = simp (word_of_fixed is.at_sign, word_of_fixed is.dot, word_of_name (codes "mo") refl, word_of_name (codes "cache") refl)
head_words cell_decorator l = simp (word_of_fixed is.at_sign, word_of_fixed is.dot, word_of_name (codes "app") refl, word_of_name (codes "cell") refl)
head_words (cell_decorator_with args b) l =
    simp (
      before_append,
      word_of_fixed is.at_sign,
      word_of_fixed is.dot,
      word_of_fixed is.round_open,
      word_of_fixed is.round_close,
      word_of_name (codes "app") refl,
      word_of_name (codes "cell") refl,
      comma_is b (by is.round_close),
      arguments_are args b l.0,
    )
head_words (app_line args b) l =
    simp (
      before_append,
      word_of_fixed is.assign,
      word_of_fixed is.dot,
      word_of_fixed is.round_open,
      word_of_fixed is.round_close,
      word_of_name (codes "app") refl,
      word_of_name (codes "marimo") refl,
      word_of_name (codes "App") refl,
      comma_is b (by is.round_close),
      arguments_are args b l.0,
    )

-- ---- what a line's slots hold

pub head_good : (below : ℕ) (h : Head) → HeadShaped h → head_depth h ≤ suc below → GoodPieces below (template (form_of h)) (slots h)
head_good below (value t) l d = (record { shaped = l.1; high = l.0; shallow = d }, tt)
head_good below (assign xs t) l d = (l.0, (record { shaped = l.1.1; high = l.1.0; shallow = d }, tt))
head_good below (augment x op t) l d = (l.0, (tt, (record { shaped = l.1.1; high = l.1.0; shallow = d }, tt)))
head_good below (put_item x k t) l d = (l.0, (tt, (record { shaped = l.1.1; high = l.1.0; shallow = omega arith }, (tt, (tt, (record { shaped = l.2.1; high = l.2.0; shallow = omega arith }, tt))))))
head_good below (augment_item x k op t) l d = (l.0, (tt, (record { shaped = l.1.1; high = l.1.0; shallow = omega arith }, (tt, (tt, (record { shaped = l.2.1; high = l.2.0; shallow = omega arith }, tt))))))
head_good below (append x t) l d = (l.0, (tt, (tt, (tt, (record { shaped = l.1.1; high = l.1.0; shallow = d }, (tt, tt))))))
head_good below (extend x t) l d = (l.0, (tt, (tt, (tt, (record { shaped = l.1.1; high = l.1.0; shallow = d }, (tt, tt))))))
head_good below (if_line t) l d = (tt, (record { shaped = l.1; high = l.0; shallow = d }, (tt, tt)))
head_good below (elif_line t) l d = (tt, (record { shaped = l.1; high = l.0; shallow = d }, (tt, tt)))
head_good below else_line l d = (tt, (tt, tt))
head_good below (while_line t) l d = (tt, (record { shaped = l.1; high = l.0; shallow = d }, (tt, tt)))
head_good below (for_line xs t) l d = (tt, (l.0, (record { shaped = l.1.1; high = l.1.0; shallow = d }, tt)))
head_good below (def_line x xs b) l d = (tt, (l.0, (tt, ((l.1, l.2), (tt, tt)))))
head_good below return_line l d = (tt, tt)
head_good below (return_value t) l d = (tt, (record { shaped = l.1; high = l.0; shallow = d }, tt))
head_good below pass_line l d = (tt, tt)
head_good below break_line l d = (tt, tt)
head_good below continue_line l d = (tt, tt)
head_good below import_marimo l d = (tt, (tt, tt))
head_good below import_mo l d = (tt, (tt, (tt, (tt, tt))))
head_good below (with_cache false t) l d = (tt, (tt, (tt, (tt, (tt, (l, (tt, (tt, tt))))))))
head_good below (with_cache true t) l d = (tt, (tt, (tt, (tt, (tt, (tt, (tt, (l, (tt, (tt, tt))))))))))
head_good below cache_decorator l d = (tt, (tt, (tt, (tt, tt))))
head_good below cell_decorator l d = (tt, (tt, (tt, (tt, tt))))
head_good below (cell_decorator_with args b) l d = (tt, (tt, (tt, (tt, (tt, ((l.0, l.1, l.2, d), tt))))))
head_good below (app_line args b) l d = (tt, (tt, (tt, (tt, (tt, (tt, ((l.0, l.1, l.2, d), tt)))))))

pub head_shaped : (below : ℕ) (h : Head) → GoodPieces below (template (form_of h)) (slots h) → HeadShaped h × (head_depth h ≤ suc below)
head_shaped below (value t) g = ((g.0.high, g.0.shaped), g.0.shallow)
head_shaped below (assign xs t) g = ((g.0, (g.1.0.high, g.1.0.shaped)), g.1.0.shallow)
head_shaped below (augment x op t) g = ((g.0, (g.1.1.0.high, g.1.1.0.shaped)), g.1.1.0.shallow)
head_shaped below (put_item x k t) g = ((g.0, (g.1.1.0.high, g.1.1.0.shaped), (g.1.1.1.1.1.0.high, g.1.1.1.1.1.0.shaped)), let a = g.1.1.0.shallow in let b = g.1.1.1.1.1.0.shallow in omega arith)
head_shaped below (augment_item x k op t) g = ((g.0, (g.1.1.0.high, g.1.1.0.shaped), (g.1.1.1.1.1.0.high, g.1.1.1.1.1.0.shaped)), let a = g.1.1.0.shallow in let b = g.1.1.1.1.1.0.shallow in omega arith)
head_shaped below (append x t) g = ((g.0, (g.1.1.1.1.0.high, g.1.1.1.1.0.shaped)), g.1.1.1.1.0.shallow)
head_shaped below (extend x t) g = ((g.0, (g.1.1.1.1.0.high, g.1.1.1.1.0.shaped)), g.1.1.1.1.0.shallow)
head_shaped below (if_line t) g = ((g.1.0.high, g.1.0.shaped), g.1.0.shallow)
head_shaped below (elif_line t) g = ((g.1.0.high, g.1.0.shaped), g.1.0.shallow)
head_shaped below else_line g = (tt, omega arith)
head_shaped below (while_line t) g = ((g.1.0.high, g.1.0.shaped), g.1.0.shallow)
head_shaped below (for_line xs t) g = ((g.1.0, (g.1.1.0.high, g.1.1.0.shaped)), g.1.1.0.shallow)
head_shaped below (def_line x xs b) g = ((g.1.0, g.1.1.1.0.0, g.1.1.1.0.1), omega arith)
head_shaped below return_line g = (tt, omega arith)
head_shaped below (return_value t) g = ((g.1.0.high, g.1.0.shaped), g.1.0.shallow)
head_shaped below pass_line g = (tt, omega arith)
head_shaped below break_line g = (tt, omega arith)
head_shaped below continue_line g = (tt, omega arith)
head_shaped below import_marimo g = (tt, omega arith)
head_shaped below import_mo g = (tt, omega arith)
head_shaped below (with_cache false t) g = (g.1.1.1.1.1.0, omega arith)
head_shaped below (with_cache true t) g = (g.1.1.1.1.1.1.1.0, omega arith)
head_shaped below cache_decorator g = (tt, omega arith)
head_shaped below cell_decorator g = (tt, omega arith)
head_shaped below (cell_decorator_with args b) g = ((g.1.1.1.1.1.0.0, g.1.1.1.1.1.0.1, g.1.1.1.1.1.0.2), g.1.1.1.1.1.0.3)
head_shaped below (app_line args b) g = ((g.1.1.1.1.1.1.0.0, g.1.1.1.1.1.1.0.1, g.1.1.1.1.1.1.0.2), g.1.1.1.1.1.1.0.3)

-- what was made is a line of that form, with these slots
pub made_is : (below : ℕ) (f : Form) (ss : List Slot) (h : Head) → GoodPieces below (template f) ss → make f ss ≡ Some h → (form_of h ≡ f) × (slots h ≡ ss)
made_is below Value (a_tree t ∷ []) h g e = let same : value t ≡ h = cc (e) in subst (λ line. (form_of line ≡ Value) × (slots line ≡ a_tree t ∷ [])) same (refl, refl)
made_is below Assign (some_names xs false ∷ a_tree t ∷ []) h g e = let same : assign xs t ≡ h = cc (e) in subst (λ line. (form_of line ≡ Assign) × (slots line ≡ some_names xs false ∷ a_tree t ∷ [])) same (refl, refl)
made_is below AugmentName (a_name x ∷ an_augment op ∷ a_tree t ∷ []) h g e = let same : augment x op t ≡ h = cc (e) in subst (λ line. (form_of line ≡ AugmentName) × (slots line ≡ a_name x ∷ an_augment op ∷ a_tree t ∷ [])) same (refl, refl)
made_is below PutItem (a_name x ∷ nothing ∷ a_tree k ∷ nothing ∷ nothing ∷ a_tree t ∷ []) h g e = let same : put_item x k t ≡ h = cc (e) in subst (λ line. (form_of line ≡ PutItem) × (slots line ≡ a_name x ∷ nothing ∷ a_tree k ∷ nothing ∷ nothing ∷ a_tree t ∷ [])) same (refl, refl)
made_is below AugmentItem (a_name x ∷ nothing ∷ a_tree k ∷ nothing ∷ an_augment op ∷ a_tree t ∷ []) h g e = let same : augment_item x k op t ≡ h = cc (e) in subst (λ line. (form_of line ≡ AugmentItem) × (slots line ≡ a_name x ∷ nothing ∷ a_tree k ∷ nothing ∷ an_augment op ∷ a_tree t ∷ [])) same (refl, refl)
made_is below Append (a_name x ∷ nothing ∷ nothing ∷ nothing ∷ a_tree t ∷ nothing ∷ []) h g e = let same : append x t ≡ h = cc (e) in subst (λ line. (form_of line ≡ Append) × (slots line ≡ a_name x ∷ nothing ∷ nothing ∷ nothing ∷ a_tree t ∷ nothing ∷ [])) same (refl, refl)
made_is below Extend (a_name x ∷ nothing ∷ nothing ∷ nothing ∷ a_tree t ∷ nothing ∷ []) h g e = let same : extend x t ≡ h = cc (e) in subst (λ line. (form_of line ≡ Extend) × (slots line ≡ a_name x ∷ nothing ∷ nothing ∷ nothing ∷ a_tree t ∷ nothing ∷ [])) same (refl, refl)
made_is below IfLine (nothing ∷ a_tree t ∷ nothing ∷ []) h g e = let same : if_line t ≡ h = cc (e) in subst (λ line. (form_of line ≡ IfLine) × (slots line ≡ nothing ∷ a_tree t ∷ nothing ∷ [])) same (refl, refl)
made_is below ElifLine (nothing ∷ a_tree t ∷ nothing ∷ []) h g e = let same : elif_line t ≡ h = cc (e) in subst (λ line. (form_of line ≡ ElifLine) × (slots line ≡ nothing ∷ a_tree t ∷ nothing ∷ [])) same (refl, refl)
made_is below ElseLine (nothing ∷ nothing ∷ []) h g e = let same : else_line ≡ h = cc (e) in subst (λ line. (form_of line ≡ ElseLine) × (slots line ≡ nothing ∷ nothing ∷ [])) same (refl, refl)
made_is below WhileLine (nothing ∷ a_tree t ∷ nothing ∷ []) h g e = let same : while_line t ≡ h = cc (e) in subst (λ line. (form_of line ≡ WhileLine) × (slots line ≡ nothing ∷ a_tree t ∷ nothing ∷ [])) same (refl, refl)
made_is below ForLine (nothing ∷ some_names xs false ∷ a_tree t ∷ []) h g e = let same : for_line xs t ≡ h = cc (e) in subst (λ line. (form_of line ≡ ForLine) × (slots line ≡ nothing ∷ some_names xs false ∷ a_tree t ∷ [])) same (refl, refl)
made_is below DefLine (nothing ∷ a_name x ∷ nothing ∷ some_names xs b ∷ nothing ∷ []) h g e = let same : def_line x xs b ≡ h = cc (e) in subst (λ line. (form_of line ≡ DefLine) × (slots line ≡ nothing ∷ a_name x ∷ nothing ∷ some_names xs b ∷ nothing ∷ [])) same (refl, refl)
made_is below Return (nothing ∷ []) h g e = let same : return_line ≡ h = cc (e) in subst (λ line. (form_of line ≡ Return) × (slots line ≡ nothing ∷ [])) same (refl, refl)
made_is below ReturnValue (nothing ∷ a_tree t ∷ []) h g e = let same : return_value t ≡ h = cc (e) in subst (λ line. (form_of line ≡ ReturnValue) × (slots line ≡ nothing ∷ a_tree t ∷ [])) same (refl, refl)
made_is below Pass (nothing ∷ []) h g e = let same : pass_line ≡ h = cc (e) in subst (λ line. (form_of line ≡ Pass) × (slots line ≡ nothing ∷ [])) same (refl, refl)
made_is below Break (nothing ∷ []) h g e = let same : break_line ≡ h = cc (e) in subst (λ line. (form_of line ≡ Break) × (slots line ≡ nothing ∷ [])) same (refl, refl)
made_is below Continue (nothing ∷ []) h g e = let same : continue_line ≡ h = cc (e) in subst (λ line. (form_of line ≡ Continue) × (slots line ≡ nothing ∷ [])) same (refl, refl)
made_is below ImportMarimo (nothing ∷ nothing ∷ []) h g e = let same : import_marimo ≡ h = cc (e) in subst (λ line. (form_of line ≡ ImportMarimo) × (slots line ≡ nothing ∷ nothing ∷ [])) same (refl, refl)
made_is below ImportMo (nothing ∷ nothing ∷ nothing ∷ nothing ∷ []) h g e = let same : import_mo ≡ h = cc (e) in subst (λ line. (form_of line ≡ ImportMo) × (slots line ≡ nothing ∷ nothing ∷ nothing ∷ nothing ∷ [])) same (refl, refl)
made_is below WithCache (nothing ∷ nothing ∷ nothing ∷ nothing ∷ nothing ∷ a_text t ∷ nothing ∷ nothing ∷ []) h g e = let same : with_cache false t ≡ h = cc (e) in subst (λ line. (form_of line ≡ WithCache) × (slots line ≡ nothing ∷ nothing ∷ nothing ∷ nothing ∷ nothing ∷ a_text t ∷ nothing ∷ nothing ∷ [])) same (refl, refl)
made_is below WithNamedCache (nothing ∷ nothing ∷ nothing ∷ nothing ∷ nothing ∷ nothing ∷ nothing ∷ a_text t ∷ nothing ∷ nothing ∷ []) h g e = let same : with_cache true t ≡ h = cc (e) in subst (λ line. (form_of line ≡ WithNamedCache) × (slots line ≡ nothing ∷ nothing ∷ nothing ∷ nothing ∷ nothing ∷ nothing ∷ nothing ∷ a_text t ∷ nothing ∷ nothing ∷ [])) same (refl, refl)
made_is below CacheDecorator (nothing ∷ nothing ∷ nothing ∷ nothing ∷ []) h g e = let same : cache_decorator ≡ h = cc (e) in subst (λ line. (form_of line ≡ CacheDecorator) × (slots line ≡ nothing ∷ nothing ∷ nothing ∷ nothing ∷ [])) same (refl, refl)
made_is below CellDecorator (nothing ∷ nothing ∷ nothing ∷ nothing ∷ []) h g e = let same : cell_decorator ≡ h = cc (e) in subst (λ line. (form_of line ≡ CellDecorator) × (slots line ≡ nothing ∷ nothing ∷ nothing ∷ nothing ∷ [])) same (refl, refl)
made_is below CellDecoratorWith (nothing ∷ nothing ∷ nothing ∷ nothing ∷ nothing ∷ some_arguments args b ∷ []) h g e = let same : cell_decorator_with args b ≡ h = cc (e) in subst (λ line. (form_of line ≡ CellDecoratorWith) × (slots line ≡ nothing ∷ nothing ∷ nothing ∷ nothing ∷ nothing ∷ some_arguments args b ∷ [])) same (refl, refl)
made_is below App (nothing ∷ nothing ∷ nothing ∷ nothing ∷ nothing ∷ nothing ∷ some_arguments args b ∷ []) h g e = let same : app_line args b ≡ h = cc (e) in subst (λ line. (form_of line ≡ App) × (slots line ≡ nothing ∷ nothing ∷ nothing ∷ nothing ∷ nothing ∷ nothing ∷ some_arguments args b ∷ [])) same (refl, refl)
made_is below f ss h g e = absurd (cc (e))

pub fine : (below : ℕ) (f : Form) → Fine below (template f)
fine below Value = tt
fine below Assign = ((refl, refl), tt)
fine below AugmentName = (tt, (tt, tt))
fine below PutItem = (tt, (tt, (refl, (tt, (tt, tt)))))
fine below AugmentItem = (tt, (tt, (refl, (tt, (tt, tt)))))
fine below Append = (tt, (tt, (tt, (tt, (refl, (tt, tt))))))
fine below Extend = (tt, (tt, (tt, (tt, (refl, (tt, tt))))))
fine below IfLine = (tt, (refl, (tt, tt)))
fine below ElifLine = (tt, (refl, (tt, tt)))
fine below ElseLine = (tt, (tt, tt))
fine below WhileLine = (tt, (refl, (tt, tt)))
fine below ForLine = (tt, ((refl, refl), (values_colon, tt)))
fine below DefLine = (tt, (tt, (tt, (tt, (tt, tt)))))
fine below Return = (tt, tt)
fine below ReturnValue = (tt, tt)
fine below Pass = (tt, tt)
fine below Break = (tt, tt)
fine below Continue = (tt, tt)
fine below ImportMarimo = (tt, (tt, tt))
fine below ImportMo = (tt, (tt, (tt, (tt, tt))))
fine below WithCache = (tt, (tt, (tt, (tt, (tt, (tt, (tt, (tt, tt))))))))
fine below WithNamedCache = (tt, (tt, (tt, (tt, (tt, (tt, (tt, (tt, (tt, (tt, tt))))))))))
fine below CacheDecorator = (tt, (tt, (tt, (tt, tt))))
fine below CellDecorator = (tt, (tt, (tt, (tt, tt))))
fine below CellDecoratorWith = (tt, (tt, (tt, (tt, (tt, (tt, tt))))))
fine below App = (tt, (tt, (tt, (tt, (tt, (tt, (tt, tt)))))))
