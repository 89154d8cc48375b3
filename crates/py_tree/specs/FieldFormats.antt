-- How the value of an f-text's field becomes a text (Python language reference, section 2.4.3).
use Rattle.std.specs.Prelude.{ℕ, Bool, Option}

-- by its own rule, by `!r` or by `!s`
pub data Convert : Type 0 where
  as_is : Convert
  repr : Convert
  str : Convert

pub data Align : Type 0 where
  left : Align
  right : Align
  center : Align

pub data Form : Type 0 where
  decimal : Form
  string : Form

-- the format of a field: alignment, width and type, each of which may be missing; `0`, a width, and whether a `d` follows; `,`, and the same
pub data Spec : Type 0 where
  aligned : Option Align → (width : Option ℕ) → Option Form → Spec
  zeros : (width : ℕ) → Bool → Spec
  comma : Bool → Spec
