-- The words are `run`, a file and options, and these give the numbers.
use Rattle.std.proofs.Common.{◌≡◌, ◌∙◌, sym, ap, rules, arith, true, List, ◌∷◌, ℕ, ◌-◌, ◌≤◌, length, take, drop, map, string_bytes, codes, subst}
use Rattle.std.specs.Prelude.{IfSome}
use Rattle.std.specs.List.{list_all}
use Rattle.std.specs.Str.{bytes_eq}
use Rattle.std.proofs.lemmas.List.{length-drop, take_all}
use Rattle.command_meaning.specs.Commands.{is_positional}
use Rattle.command_meaning.specs.Services.{is_option, service_of, values_of}
use Rattle.command_meaning.proofs.ServiceWords.{given_within}
use Rattle.cli_words.proofs.OptionWords.{asked_for, same_service}
use Rattle.cli_words.proofs.service.read_service.Goals as goal

pub with_numbers-requires : goal.with_numbers-requires
with_numbers-requires c =
    subst (λ o. IfSome o (λ p. p ≤ 65535)) (sym c.given.ensures) (given_within 65535 (values_of (codes "--port=") (map string_bytes (take (length c.args.words.now - 2) (drop 2 c.args.words.now)))))

pub returns-in-len2-up : goal.returns-in-len2-up
returns-in-len2-up c =
    let file = c.as_str-in-len2-up.result.now in
    let options : List (List ℕ) = map string_bytes (take (length c.args.words.now - 2) (drop 2 c.args.words.now)) in
    let rest = drop 2 c.args.words.now in
    let most : length rest ≤ length c.args.words.now - 2 = omega (arith, length-drop 2 c.args.words.now) in
    let whole : take (length c.args.words.now - 2) rest ≡ rest = take_all (length c.args.words.now - 2) rest most in
    let first : map string_bytes c.args.words.now ≡ c.as_str.result.now ∷ file ∷ map string_bytes rest = search rules in
    let split : map string_bytes c.args.words.now ≡ c.as_str.result.now ∷ file ∷ options =
    first ∙ ap (λ words. c.as_str.result.now ∷ file ∷ map string_bytes words) (sym whole) in
    let run : bytes_eq c.as_str.result.now (codes "run") ≡ true = search rules in
    let named : is_positional file ≡ true = search rules in
    let known : list_all is_option options ≡ true = sym c.are_options.ensures ∙ c.if-are_options.true in
    c.with_numbers.ensures ∙ same_service file c.given.ensures c.given-in-len2-up.ensures c.given-in-len2-up-2.ensures
    ∙ sym (ap service_of split ∙ asked_for c.as_str.result.now file options run named known)
