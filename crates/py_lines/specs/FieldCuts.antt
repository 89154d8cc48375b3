-- The items of a field, as far as they go.
use Rattle.std.specs.Prelude.{◌≡◌, ℕ, List, [], None}
use Rattle.lexical_form.specs.Tokens as pure
use Rattle.lexical_form.specs.Cuts.{Cuts, state_after}
use Rattle.lexical_form.specs.Fields.{FieldItem, field_item_spelling, FieldFits, open_behind}
use Rattle.lexical_form.specs.FieldReader.{field_item_at}
use Rattle.lexical_form.specs.FTexts.{field_tokens}

-- the text is these items and then the rest; of them these brackets are open and these tokens stand
abbrev pub FieldReached : List ℕ → List ℕ × List pure.Token → List ℕ → Type 0
FieldReached ts s rest =
    (is : List FieldItem) × Cuts field_item_spelling FieldFits open_behind [] ts is rest × (s.0 ≡ state_after open_behind [] is) × (s.1 ≡ field_tokens is)

-- and no item comes behind them
abbrev pub FieldCut : List ℕ → List ℕ × List pure.Token → List ℕ → Type 0
FieldCut ts s rest = FieldReached ts s rest × (field_item_at s.0 rest ≡ None)
