-- Reading a token of any kind.
use Rattle.std.specs.Prelude.{ℕ, if◌then◌else◌, ◌&&◌, List, Some, None}
use Rattle.py_tree.specs.Names.{continues_name, is_among}
use Rattle.lexical_form.specs.Bytes.{is_quote, starts}
use Rattle.lexical_form.specs.Reading.{Read, span}
use Rattle.lexical_form.specs.Tokens.{Token}
use Rattle.lexical_form.specs.Plain.{Plain, f_text_prefixes}
use Rattle.lexical_form.specs.PlainReader.{next_plain}
use Rattle.lexical_form.specs.FTexts.{token_of}
use Rattle.lexical_form.specs.FTextReader.{f_text_at}

abbrev pub some_plain : Read Plain → Read Token
some_plain None = None
some_plain (Some p) = Some (token_of p.0, p.1)

-- an f-text, where its prefix and a quote stand
abbrev pub by_prefix : List ℕ → List ℕ → List ℕ → Read Token
by_prefix word rest all = if is_among word f_text_prefixes && starts is_quote rest then f_text_at word rest else some_plain (next_plain all)

abbrev pub next : List ℕ → Read Token
next ts = let s = span continues_name ts in by_prefix s.0 s.1 ts
