-- What the tests of terms and sliders tell of a tree.
use Rattle.std.proofs.Common.{◌≡◌, ℕ, true, false, nat_le, List, refl, sym, ap, ◌∙◌}
use Rattle.std.specs.Prelude.{codes}
use Rattle.std.proofs.lemmas.Bool.{and_parts, and_from}
use Rattle.thin_form.specs.Sliders.{Bounds, maker, slider, are_bounds}
use Rattle.thin_form.specs.Sums.{numeral, value_of}
use Rattle.form_meaning.specs.Thin as thin
use Rattle.py_tree.specs.Elements.{is_mo, is_mo_ui}
use Rattle.form_meaning.specs.Thin.{Elements, is_term, is_maker, is_number_tree, makes_slider}
use Rattle.py_tree.proofs.NamesOf.{name_of}
use Rattle.py_tree.specs.Meant.{is_literal}
use Rattle.py_tree.specs.Names.{Name, is_name}
use Rattle.py_tree.specs.Numbers.{is_number, number_of}
use Rattle.py_tree.specs.Trees.{Tree, literal, name, attribute, call, Arguments, no_argument, positional}
use Rattle.py_tree.specs.declared.token.TokenKind.{TokenKind}
use Rattle.py_tree.specs.declared.token.TokenKind.TheVariants as kind

-- an attribute that is a term is the value of a slider
pub record IsValue (es : Elements) (t : Tree) : Type 0 where
  pub slider : Name
  pub is : t ≡ value_of slider
  pub named : is_name slider ≡ true
  pub known : es.is_slider slider ≡ true

pub value_form : (es : Elements) (base : Tree) (x : Name) → is_term es (attribute base x) ≡ true → IsValue es (attribute base x)
value_form es (name y) x h =
    let s = and_parts _ _ h in
    let known = and_parts (is_name y) _ s.0 in
    record { slider = y; is = ap (attribute (name y)) (name_of x (codes "value") s.1); named = known.0; known = known.1 }
value_form es t x h = absurd (cc)

literal_form : (k : TokenKind) (w : List ℕ) → is_literal k w ≡ true → (literal (record { kind = k; spelling = w }) ≡ numeral w) × (is_number w ≡ true)
literal_form kind.Name w h = absurd (cc)
literal_form kind.Number w h = (refl, h)
literal_form kind.Text w h = absurd (cc)
literal_form kind.Mark w h = absurd (cc)

-- a number
record IsNumeral (t : Tree) : Type 0 where
  spelling : List ℕ
  is : t ≡ numeral spelling
  number : is_number spelling ≡ true

number_form : (t : Tree) → is_number_tree t ≡ true → IsNumeral t
number_form (literal token) h =
    let s = literal_form token.kind token.spelling h in
    record { spelling = token.spelling; is = s.0; number = s.1 }
number_form t h = absurd (cc)

-- two numbers in order
record AreBounds (args : Arguments) : Type 0 where
  bounds : Bounds
  is : args ≡ positional (numeral bounds.low) (positional (numeral bounds.high) no_argument)
  ordered : are_bounds bounds.low bounds.high ≡ true

bounds_form : (args : Arguments) → thin.are_bounds args ≡ true → AreBounds args
unfolding are_bounds
bounds_form (positional a (positional b no_argument)) h =
    let s = and_parts _ _ h in
    let both = and_parts _ _ s.0 in
    let low = number_form a both.0 in
    let high = number_form b both.1 in
    let order = ap (λ t. nat_le (thin.number_in t) (thin.number_in b)) low.is in
    let end = ap (λ t. nat_le (number_of low.spelling) (thin.number_in t)) high.is in
    record {
      bounds = record { low = low.spelling; high = high.spelling };
      is = ap (λ t. positional t (positional b no_argument)) low.is ∙ ap (λ t. positional (numeral low.spelling) (positional t no_argument)) high.is;
      ordered = and_from _ _ (and_from _ _ low.number high.number) (sym (order ∙ end) ∙ s.1);
    }
bounds_form args h = absurd (cc)

mo_form : (t : Tree) → is_mo t ≡ true → t ≡ name (codes "mo")
mo_form (name y) h = ap name (name_of y (codes "mo") h)
mo_form t h = absurd (cc)

mo_ui_form : (t : Tree) → is_mo_ui t ≡ true → t ≡ attribute (name (codes "mo")) (codes "ui")
mo_ui_form (attribute base y) h =
    let s = and_parts _ _ h in
    ap (λ t. attribute t y) (mo_form base s.0) ∙ ap (attribute (name (codes "mo"))) (name_of y (codes "ui") s.1)
mo_ui_form t h = absurd (cc)

maker_form : (t : Tree) → is_maker t ≡ true → t ≡ maker
maker_form (attribute base y) h =
    let s = and_parts _ _ h in
    ap (λ t. attribute t y) (mo_ui_form base s.0)
    ∙ ap (attribute (attribute (name (codes "mo")) (codes "ui"))) (name_of y (codes "slider") s.1)
maker_form t h = absurd (cc)

-- a slider with its bounds
pub record IsSlider (t : Tree) : Type 0 where
  pub bounds : Bounds
  pub is : t ≡ slider bounds
  pub ordered : are_bounds bounds.low bounds.high ≡ true

pub slider_form : (t : Tree) → makes_slider t ≡ true → IsSlider t
slider_form (call f args false) h =
    let s = and_parts _ _ h in
    let two = bounds_form args s.1 in
    record { bounds = two.bounds; is = ap (λ t. call t args false) (maker_form f s.0) ∙ ap (λ args. call maker args false) two.is; ordered = two.ordered }
slider_form t h = absurd (cc)

-- and back: bounds in order make a slider
pub slider_made : (b : Bounds) → are_bounds b.low b.high ≡ true → makes_slider (slider b) ≡ true
unfolding are_bounds
slider_made b h = h
