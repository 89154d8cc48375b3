-- Each turn of the loop reads a line more, or stops at it.
use Rattle.std.proofs.Common.{◌≡◌, ◌∷◌, ◌++◌, [], Bool, false, not, ap, List, ℕ, ◌+◌, Bor, None, Some, map, sym, subst, arith}
use Rattle.std.specs.Prelude.{codes}
use Rattle.std.proofs.lemmas.Bool.Decides.{Decides-eqb, nat_tests}
use Rattle.std.proofs.lemmas.List.{map-append}
use Rattle.std.proofs.lemmas.Slice.Eq.{strip_prefix_is}
use Rattle.script_run.proofs.ScriptLines.{IsReadTo, first, is_join, is_other, joins, not_joined, not_sent, sends, shorter, whole}
use Rattle.script_run.proofs.script.read_script.Goals as goal

pub loop-rest-init : goal.loop-rest-init
loop-rest-init c =
    let bytes = c.args.bytes.now in
    let P : List (Bor (List ℕ)) → Type 0 = λ texts. IsReadTo bytes (map (λ t. t.now) texts) false 0 bytes in
    subst P (sym c.new-sent.ensures.items) (first bytes c.if-bytes-gt-BYTE_LIMIT.false)

pub overflow_add-count : goal.overflow_add-count
overflow_add-count c = let room = c.loop-rest.invariant.room in omega arith

pub returns-in_default-clause-refused : goal.returns-in_default-clause-refused
returns-in_default-clause-refused c =
    not_sent c.loop-rest.invariant c.first_line.ensures c.if-there.true
    (strip_prefix_is Decides-eqb c.first_line.result.0.now (codes "send 1 ") None c.in_default.ensures.cases)

pub returns-else-eq-clause-refused : goal.returns-else-eq-clause-refused
returns-else-eq-clause-refused c =
    not_joined c.loop-rest.invariant c.first_line.ensures c.if-there.false (is_other c.first_line.result.0.now c.if-eq.ensures)

pub loop-rest-smaller-else-is_err : goal.loop-rest-smaller-else-is_err
loop-rest-smaller-else-is_err c = shorter c.first_line.ensures

pub loop-rest-preserved-else-is_err : goal.loop-rest-preserved-else-is_err
loop-rest-preserved-else-is_err c =
    let line = c.first_line.result.0.now in
    let text = c.in-Some.text in
    let words = strip_prefix_is Decides-eqb line (codes "send 1 ") (Some text) c.in-Some.ensures.cases in
    let received = c.in_ok-there.ensures in
    let next = sends text.now received.0 c.loop-rest.invariant c.first_line.ensures c.if-there.true words received.1 in
    let pushed : c.push.new.self.items ≡ c.loop-rest.sent.items ++ text ∷ [] = rw c.if-is_err.ensures.negation at c.push.ensures.items in
    let P : List (Bor (List ℕ)) → Bool → Type 0 = λ texts there. IsReadTo c.args.bytes.now (map (λ t. t.now) texts) there (c.loop-rest.count + 1) c.first_line.result.1.now in
    subst (λ texts. P texts (not c.in_ok-there.field-0)) (sym pushed) (subst (P (c.loop-rest.sent.items ++ text ∷ [])) (ap not (sym received.2)) (rw map-append next))

pub loop-rest-smaller : goal.loop-rest-smaller
loop-rest-smaller c = shorter c.first_line.ensures

pub loop-rest-preserved : goal.loop-rest-preserved
loop-rest-preserved c = joins c.loop-rest.invariant c.first_line.ensures c.if-there.false (is_join c.first_line.result.0.now c.if-eq.ensures)

pub returns-clause-read : goal.returns-clause-read
returns-clause-read c =
    whole c.args.bytes.now _ c.loop-rest.there c.loop-rest.count c.loop-rest.rest.now c.loop-rest.invariant (grind (arith, nat_tests))
