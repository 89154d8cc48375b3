-- Expressions as pure data (Python language reference, section 6). What the tokens show stands in the tree: a last comma, and round brackets.
use Rattle.std.specs.Prelude.{ℕ, Bool, List, [], ◌∷◌, Option}
use Rattle.py_tree.specs.FieldFormats.{Convert, Spec}
use Rattle.py_tree.specs.Names.{Name}
use Rattle.py_tree.specs.declared.token.Token.{Token}

-- the operators that stand between two operands and group to the left
pub data Operator : Type 0 where
  Or : Operator
  And : Operator
  Add : Operator
  Subtract : Operator
  Multiply : Operator
  Floor : Operator
  Remainder : Operator

-- the operators that stand before their operand
pub data Prefix : Type 0 where
  Not : Prefix
  Minus : Prefix
  Plus : Prefix

-- the comparisons of a chain
pub data Comparison : Type 0 where
  Equal : Comparison
  Unequal : Comparison
  Less : Comparison
  AtMost : Comparison
  Greater : Comparison
  AtLeast : Comparison
  In : Comparison
  NotIn : Comparison

mutual
  pub data Tree : Type 0 where
    -- `VALUE if TEST else OTHER`
    conditional : (value test other : Tree) → Tree
    -- `LEFT OP RIGHT`: `or`, `and`, `+`, `-`, `*`, `//`, `%`
    binary : Operator → (left right : Tree) → Tree
    -- `not E`, `- E`, `+ E`
    prefixed : Prefix → Tree → Tree
    -- two or more operands with comparisons between them: the first, the first comparison, the second, and what follows
    chain : Tree → Comparison → Tree → Links → Tree
    -- `E is None`; with true `E is not None`
    is_none : (negated : Bool) → Tree → Tree
    -- `BASE ** EXPONENT`
    power : (base exponent : Tree) → Tree
    -- `CALLEE(ARGUMENTS)`, and whether a comma stands after the last one
    call : (callee : Tree) → Arguments → (comma : Bool) → Tree
    -- `BASE[POSITION]`
    index : (base position : Tree) → Tree
    -- `BASE[FROM:UNTIL]`
    slice : (base : Tree) → (from until : Bound) → Tree
    -- `BASE.NAME`
    attribute : (base : Tree) → Name → Tree
    -- `None`, `True`, `False`, a number or a text
    literal : Token → Tree
    -- an f-text: its spelling, and what stands between its quotes
    f_text : (spelling : List ℕ) → Pieces → Tree
    name : Name → Tree
    -- `(E)`
    paren : Tree → Tree
    -- `(..)`, `[..]` and `{..}`, and whether a comma stands after the last item
    tuple : Trees → (comma : Bool) → Tree
    list : Trees → (comma : Bool) → Tree
    dict : Pairs → (comma : Bool) → Tree
    -- `[ITEM for TARGETS in FROM if TEST ..]` and `{KEY: ITEM for TARGETS in FROM if TEST ..}`
    list_of : (item : Tree) → (targets : List Name) → (from : Tree) → (tests : Trees) → Tree
    dict_of : (key item : Tree) → (targets : List Name) → (from : Tree) → (tests : Trees) → Tree
    -- a tuple without brackets, and whether a comma stands after the last item
    bare : Trees → (comma : Bool) → Tree

  pub data Trees : Type 0 where
    none : Trees
    more : Tree → Trees → Trees

  -- comparisons, each with the operand behind it
  pub data Links : Type 0 where
    done : Links
    link : Comparison → Tree → Links → Links

  pub data Arguments : Type 0 where
    no_argument : Arguments
    positional : Tree → Arguments → Arguments
    -- `NAME=E`
    keyword : Name → Tree → Arguments → Arguments

  pub data Pairs : Type 0 where
    no_pair : Pairs
    -- `KEY: ITEM`
    pair : (key item : Tree) → Pairs → Pairs

  -- an end of a slice
  pub data Bound : Type 0 where
    left_out : Bound
    at : Tree → Bound

  -- what an f-text is made of: characters, as the bytes that they say, and fields
  pub data Pieces : Type 0 where
    no_piece : Pieces
    characters : List ℕ → Pieces → Pieces
    -- the expression, and how its value becomes a text
    field : Tree → Convert → Option Spec → Pieces → Pieces

abbrev pub trees_of : List Tree → Trees
trees_of [] = none
trees_of (t ∷ ts) = more t (trees_of ts)
