-- What a format at a text's front says, part by part, and what is behind it.
use Rattle.std.specs.Prelude.{ℕ, Bool, if◌then◌else◌, ◌||◌, ◌==◌, List, [], ◌∷◌, Option, Some, None}
use Rattle.py_tree.specs.Names.{is_digit}
use Rattle.lexical_form.specs.Tokens.{Spec, aligned, zeros, comma, Align, Form}
use Rattle.lexical_form.specs.Numbers.{number_of}
use Rattle.lexical_form.specs.Reading.{Read, span}
use Rattle.lexical_form.specs.Formats.{Format, is_align, is_form, is_width, no_width, align_of, form_of, width_of, spec_of}
use Rattle.lexical_form.specs.FormatReader.{byte_if, is_some_byte}

abbrev pub optional_d : List ℕ → Bool × List ℕ
optional_d ts = let d = byte_if (λ c. c == 100) ts in (is_some_byte d.0, d.1)

abbrev pub alignment : List ℕ → Option Align × List ℕ
alignment ts = let a = byte_if is_align ts in (align_of a.0, a.1)

abbrev pub form : List ℕ → Option Form × List ℕ
form ts = let f = byte_if is_form ts in (form_of f.0, f.1)

abbrev pub some_spec : Read Format → Option (Spec × List ℕ)
some_spec None = None
some_spec (Some p) = Some (spec_of p.0, p.1)

-- the width, if it is one or there is none
abbrev pub aligned_says : List ℕ → Option (Spec × List ℕ)
aligned_says ts =
    let a = alignment ts in
    let w = span is_digit a.1 in
    let f = form w.1 in
    if no_width w.0 || is_width w.0 then Some (aligned a.0 (width_of w.0) f.0, f.1) else None

abbrev pub zeros_says : List ℕ → Option (Spec × List ℕ)
zeros_says ts =
    let w = span is_digit ts in
    let d = optional_d w.1 in
    if is_width w.0 then Some (zeros (number_of w.0) d.0, d.1) else None

abbrev pub format_says : List ℕ → Option (Spec × List ℕ)
format_says [] = aligned_says []
format_says (c ∷ cs) =
    if c == 48 then zeros_says cs
    else if c == 44 then (let d = optional_d cs in Some (comma d.0, d.1))
    else aligned_says (c ∷ cs)
