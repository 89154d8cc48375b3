-- The forms of lines in their order.
use Rattle.std.proofs.Common.{◌≡◌, ℕ, zero, suc, ◌≤◌, ◌⊎◌, inl, inr, true, false, List, [], ◌∷◌, refl, sym, ap, ◌∙◌, subst, arith}
use Rattle.py_tree.specs.Trees.{Head, value, assign, augment, put_item, augment_item, append, extend, if_line, elif_line, else_line, while_line, for_line, def_line, return_line, return_value, pass_line, break_line, continue_line, import_marimo, import_mo, with_cache, cache_decorator, cell_decorator, cell_decorator_with, app_line}
use Rattle.syntax_form.specs.Lines.{place}
use Rattle.syntax_reading.specs.LineForms.{Form, Value, Assign, AugmentName, PutItem, AugmentItem, Append, Extend, IfLine, ElifLine, ElseLine, WhileLine, ForLine, DefLine, Return, ReturnValue, Pass, Break, Continue, ImportMarimo, ImportMo, WithCache, WithNamedCache, CacheDecorator, CellDecorator, CellDecoratorWith, App}
use Rattle.syntax_reading.specs.LineReading.{forms}
use Rattle.syntax_reading.proofs.LineForms.{form_of}

-- the place of a form
abbrev pub rank : Form → ℕ
rank Value = 1
rank Assign = 2
rank AugmentName = 3
rank PutItem = 4
rank AugmentItem = 5
rank Append = 6
rank Extend = 7
rank IfLine = 8
rank ElifLine = 9
rank ElseLine = 10
rank WhileLine = 11
rank ForLine = 12
rank DefLine = 13
rank Return = 14
rank ReturnValue = 15
rank Pass = 16
rank Break = 17
rank Continue = 18
rank ImportMarimo = 19
rank ImportMo = 20
rank WithCache = 21
rank WithNamedCache = 22
rank CacheDecorator = 23
rank CellDecorator = 24
rank CellDecoratorWith = 25
rank App = 26

pub place_is : (h : Head) → place h ≡ rank (form_of h)
place_is (value t) = refl
place_is (assign xs t) = refl
place_is (augment x op t) = refl
place_is (put_item x k t) = refl
place_is (augment_item x k op t) = refl
place_is (append x t) = refl
place_is (extend x t) = refl
place_is (if_line t) = refl
place_is (elif_line t) = refl
place_is else_line = refl
place_is (while_line t) = refl
place_is (for_line xs t) = refl
place_is (def_line x xs b) = refl
place_is return_line = refl
place_is (return_value t) = refl
place_is pass_line = refl
place_is break_line = refl
place_is continue_line = refl
place_is import_marimo = refl
place_is import_mo = refl
place_is (with_cache false t) = refl
place_is (with_cache true t) = refl
place_is cache_decorator = refl
place_is cell_decorator = refl
place_is (cell_decorator_with args b) = refl
place_is (app_line args b) = refl

abbrev by_rank : List Form
by_rank =
    Value ∷ Value ∷ Assign ∷ AugmentName ∷ PutItem ∷ AugmentItem ∷ Append ∷ Extend ∷ IfLine ∷ ElifLine ∷ ElseLine ∷ WhileLine ∷ ForLine ∷ DefLine ∷ Return ∷ ReturnValue ∷ Pass ∷ Break ∷ Continue ∷ ImportMarimo ∷ ImportMo ∷ WithCache ∷ WithNamedCache ∷ CacheDecorator ∷ CellDecorator ∷ CellDecoratorWith ∷ App ∷ []

abbrev nth : List Form → ℕ → Form
nth [] n = Value
nth (f ∷ fs) zero = f
nth (f ∷ fs) (suc n) = nth fs n

ranked : (f : Form) → nth by_rank (rank f) ≡ f
ranked Value = refl
ranked Assign = refl
ranked AugmentName = refl
ranked PutItem = refl
ranked AugmentItem = refl
ranked Append = refl
ranked Extend = refl
ranked IfLine = refl
ranked ElifLine = refl
ranked ElseLine = refl
ranked WhileLine = refl
ranked ForLine = refl
ranked DefLine = refl
ranked Return = refl
ranked ReturnValue = refl
ranked Pass = refl
ranked Break = refl
ranked Continue = refl
ranked ImportMarimo = refl
ranked ImportMo = refl
ranked WithCache = refl
ranked WithNamedCache = refl
ranked CacheDecorator = refl
ranked CellDecorator = refl
ranked CellDecoratorWith = refl
ranked App = refl

pub same_form : (f g : Form) → rank f ≡ rank g → f ≡ g
same_form f g e = sym (ranked f) ∙ (ap (nth by_rank) e ∙ ranked g)

abbrev pub Among : Form → List Form → Type 0
Among f [] = ⊥
Among f (g ∷ gs) = (f ≡ g) ⊎ Among f gs

-- no place is greater
abbrev pub AtMost : ℕ → List Form → Type 0
AtMost n [] = Unit {0}
AtMost n (g ∷ gs) = (rank g ≤ n) × AtMost n gs

-- from the latest to the first
abbrev pub Falling : List Form → Type 0
Falling [] = Unit {0}
Falling (f ∷ []) = Unit {0}
Falling (f ∷ g ∷ gs) = (rank g ≤ rank f) × Falling (g ∷ gs)

pub at_most : (n : ℕ) (f : Form) (fs : List Form) → rank f ≤ n → Falling (f ∷ fs) → AtMost n (f ∷ fs)
at_most n f [] h k = (h, tt)
at_most n f (g ∷ gs) h k = let l = k.0 in (h, at_most n g gs (omega arith) k.1)

pub among_at_most : (n : ℕ) (f : Form) (fs : List Form) → Among f fs → AtMost n fs → rank f ≤ n
among_at_most n f [] a h = absurd a
among_at_most n f (g ∷ gs) (inl e) h = subst (λ i. rank i ≤ n) (sym e) h.0
among_at_most n f (g ∷ gs) (inr a) h = among_at_most n f gs a h.1

pub falling_rest : (f : Form) (fs : List Form) → Falling (f ∷ fs) → Falling fs
falling_rest f [] h = tt
falling_rest f (g ∷ gs) h = h.1

pub falling : Falling forms
falling = (omega arith, (omega arith, (omega arith, (omega arith, (omega arith, (omega arith, (omega arith, (omega arith, (omega arith, (omega arith, (omega arith, (omega arith, (omega arith, (omega arith, (omega arith, (omega arith, (omega arith, (omega arith, (omega arith, (omega arith, (omega arith, (omega arith, (omega arith, (omega arith, (omega arith, tt)))))))))))))))))))))))))

pub among : (f : Form) → Among f forms
among Value = inr (inr (inr (inr (inr (inr (inr (inr (inr (inr (inr (inr (inr (inr (inr (inr (inr (inr (inr (inr (inr (inr (inr (inr (inr (inl refl)))))))))))))))))))))))))
among Assign = inr (inr (inr (inr (inr (inr (inr (inr (inr (inr (inr (inr (inr (inr (inr (inr (inr (inr (inr (inr (inr (inr (inr (inr (inl refl))))))))))))))))))))))))
among AugmentName = inr (inr (inr (inr (inr (inr (inr (inr (inr (inr (inr (inr (inr (inr (inr (inr (inr (inr (inr (inr (inr (inr (inr (inl refl)))))))))))))))))))))))
among PutItem = inr (inr (inr (inr (inr (inr (inr (inr (inr (inr (inr (inr (inr (inr (inr (inr (inr (inr (inr (inr (inr (inr (inl refl))))))))))))))))))))))
among AugmentItem = inr (inr (inr (inr (inr (inr (inr (inr (inr (inr (inr (inr (inr (inr (inr (inr (inr (inr (inr (inr (inr (inl refl)))))))))))))))))))))
among Append = inr (inr (inr (inr (inr (inr (inr (inr (inr (inr (inr (inr (inr (inr (inr (inr (inr (inr (inr (inr (inl refl))))))))))))))))))))
among Extend = inr (inr (inr (inr (inr (inr (inr (inr (inr (inr (inr (inr (inr (inr (inr (inr (inr (inr (inr (inl refl)))))))))))))))))))
among IfLine = inr (inr (inr (inr (inr (inr (inr (inr (inr (inr (inr (inr (inr (inr (inr (inr (inr (inr (inl refl))))))))))))))))))
among ElifLine = inr (inr (inr (inr (inr (inr (inr (inr (inr (inr (inr (inr (inr (inr (inr (inr (inr (inl refl)))))))))))))))))
among ElseLine = inr (inr (inr (inr (inr (inr (inr (inr (inr (inr (inr (inr (inr (inr (inr (inr (inl refl))))))))))))))))
among WhileLine = inr (inr (inr (inr (inr (inr (inr (inr (inr (inr (inr (inr (inr (inr (inr (inl refl)))))))))))))))
among ForLine = inr (inr (inr (inr (inr (inr (inr (inr (inr (inr (inr (inr (inr (inr (inl refl))))))))))))))
among DefLine = inr (inr (inr (inr (inr (inr (inr (inr (inr (inr (inr (inr (inr (inl refl)))))))))))))
among Return = inr (inr (inr (inr (inr (inr (inr (inr (inr (inr (inr (inr (inl refl))))))))))))
among ReturnValue = inr (inr (inr (inr (inr (inr (inr (inr (inr (inr (inr (inl refl)))))))))))
among Pass = inr (inr (inr (inr (inr (inr (inr (inr (inr (inr (inl refl))))))))))
among Break = inr (inr (inr (inr (inr (inr (inr (inr (inr (inl refl)))))))))
among Continue = inr (inr (inr (inr (inr (inr (inr (inr (inl refl))))))))
among ImportMarimo = inr (inr (inr (inr (inr (inr (inr (inl refl)))))))
among ImportMo = inr (inr (inr (inr (inr (inr (inl refl))))))
among WithCache = inr (inr (inr (inr (inr (inl refl)))))
among WithNamedCache = inr (inr (inr (inr (inl refl))))
among CacheDecorator = inr (inr (inr (inl refl)))
among CellDecorator = inr (inr (inl refl))
among CellDecoratorWith = inr (inl refl)
among App = inl refl
