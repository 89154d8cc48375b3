-- A name that was met has its place; another comes last.
use Rattle.std.proofs.Common.{◌≡◌, ◌∙◌, sym, ap, map, ◌∷◌, [], Some, false}
use Rattle.std.specs.Prelude.{string_bytes, position}
use Rattle.std.specs.List.{list_any}
use Rattle.std.specs.Str.{bytes_eq}
use Rattle.std.proofs.lemmas.List.{map-append}
use Rattle.py_tokens.proofs.Places.{is_added, is_placed}
use Rattle.py_tokens.proofs.names.Names.place.Goals as goal

pub returns-in-Some-clause-place : goal.returns-in-Some-clause-place
returns-in-Some-clause-place c = sym c.in-Some.ensures.index

pub returns-clause-place : goal.returns-clause-place
returns-clause-place c =
    let name = c.args.name.now in
    let keys = c.args.self.now.texts.keys in
    let value = c.in_ok-from_str.field-0 in
    let bytes : string_bytes value ≡ name = c.in_ok-from_str.ensures.ok in
    let new : list_any (λ k. bytes_eq name (string_bytes k)) keys ≡ false = sym c.in_default.ensures.found in
    ap (position (λ k. bytes_eq name (string_bytes k))) (c.in_ok-place.ensures.keys ∙ is_added string_bytes name keys value bytes new)
    ∙ (is_placed string_bytes name keys value bytes new ∙ ap (λ n. Some n) (sym c.in_ok-place.ensures.index))

pub returns-clause-kept : goal.returns-clause-kept
returns-clause-kept c =
    let name = c.args.name.now in
    let keys = c.args.self.now.texts.keys in
    let value = c.in_ok-from_str.field-0 in
    let bytes : string_bytes value ≡ name = c.in_ok-from_str.ensures.ok in
    let new : list_any (λ k. bytes_eq name (string_bytes k)) keys ≡ false = sym c.in_default.ensures.found in
    (string_bytes value ∷ [], ap (map string_bytes) (c.in_ok-place.ensures.keys ∙ is_added string_bytes name keys value bytes new) ∙ map-append string_bytes keys (value ∷ []))
