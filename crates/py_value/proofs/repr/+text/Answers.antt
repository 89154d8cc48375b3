-- One part after another.
use Rattle.std.proofs.Common.{◌≡◌, ◌∙◌, ap, sym, ◌++◌, length, map, take, subst}
use Rattle.std.specs.Prelude.{codes, OnOk}
use Rattle.py_value.specs.View.{data_of, all_of, pairs_of}
use Rattle.py_value.specs.Texts.{separator, tuple_end, items_text, pairs_text, spelling_of, spelling_of_pair, repr_of}
use Rattle.py_value.proofs.TextLevels.{items_more, pairs_more, two_parts, in_brackets, repr-List, repr-Tuple, repr-Dict, length-all}
use Rattle.py_value.proofs.repr.+text.Goals as goal

pub push_items-loop-i-preserved : goal.push_items-loop-i-preserved
push_items-loop-i-preserved t c =
    let items = c.args.items.now in
    let i = c.loop-i.i in
    let item = c.index-items-i.result in
    let before = c.loop-i.out in
    let so_far = items_text (map spelling_of (all_of (take i items))) in
    let text = repr_of (data_of item) in
    let comma = c.in_ok-push_str.ensures.ok ∙ ap (λ z. before ++ z) c.separator_at.ensures in
    let next = two_parts before c.push_str.new.self c.push_repr.new.out (separator i) text comma c.in_ok-push_repr.ensures in
    two_parts c.args.out.now before c.push_repr.new.out so_far (separator i ++ text) c.loop-i.invariant next
    ∙ ap (λ z. c.args.out.now ++ z) (sym (items_more items i item c.loop-i-test.true ∙ ap (λ v. so_far ++ (separator i ++ repr_of (data_of v))) (sym c.index-items-i.is)))

pub push_pairs-loop-i-preserved : goal.push_pairs-loop-i-preserved
push_pairs-loop-i-preserved t c =
    let pairs = c.args.pairs.now in
    let i = c.loop-i.i in
    let pair = c.index-pairs-i.result in
    let before = c.loop-i.out in
    let so_far = pairs_text (map spelling_of_pair (pairs_of (take i pairs))) in
    let key = repr_of (data_of pair.0) in
    let item = repr_of (data_of pair.1) in
    let s1 = c.push_str.new.self in
    let s2 = c.push_repr.new.out in
    let s3 = c.push_str-in-loop-i.new.self in
    let s4 = c.push_repr-in-loop-i.new.out in
    let comma = c.in_ok-push_str.ensures.ok ∙ ap (λ z. before ++ z) c.separator_at.ensures in
    let colon = two_parts s2 s3 s4 (codes ": ") item c.in_ok-push_str-2.ensures.ok c.in_ok-push_repr-2.ensures in
    let whole = two_parts s1 s2 s4 key (codes ": " ++ item) c.in_ok-push_repr.ensures colon in
    let next = two_parts before s1 s4 (separator i) (key ++ (codes ": " ++ item)) comma whole in
    two_parts c.args.out.now before s4 so_far (separator i ++ (key ++ (codes ": " ++ item))) c.loop-i.invariant next
    ∙ ap
    (λ z. c.args.out.now ++ z)
    (sym (pairs_more pairs i pair c.loop-i-test.true ∙ ap (λ p. so_far ++ (separator i ++ (repr_of (data_of p.0) ++ (codes ": " ++ repr_of (data_of p.1))))) (sym c.index-pairs-i.is)))

pub push_repr-returns-in_ok-push_items-in-List : goal.push_repr-returns-in_ok-push_items-in-List
push_repr-returns-in_ok-push_items-in-List t c =
    let old = c.args.out.now in
    let s1 = c.push_str-in-List.new.self in
    let s2 = c.push_items.new.out in
    let s3 = c.push_str-in-List-2.new.self in
    let text = items_text (map spelling_of c.in-List.values) in
    let inner = c.in_ok-push_items-in-List.ensures ∙ ap (λ ds. s1 ++ items_text (map spelling_of ds)) c.items-in-List.ensures in
    let whole = sym (ap (λ v. repr_of (data_of v)) c.in-List.is ∙ repr-List c.in-List.values) in
    subst
    (λ z. OnOk c.push_str-in-List-2.result (s3 ≡ old ++ z))
    whole
    (in_brackets c.push_str-in-List-2.result old s1 s2 s3 (codes "[") text (codes "]") c.in_ok-push_str-in-List.ensures.ok inner c.push_str-in-List-2.ensures.ok)

pub push_repr-returns-in_ok-push_items-in-Tuple : goal.push_repr-returns-in_ok-push_items-in-Tuple
push_repr-returns-in_ok-push_items-in-Tuple t c =
    let old = c.args.out.now in
    let s1 = c.push_str-in-Tuple.new.self in
    let s2 = c.push_items-in-Tuple.new.out in
    let s3 = c.push_str-in-Tuple-2.new.self in
    let items = c.in-Tuple.values in
    let text = items_text (map spelling_of items) in
    let inner = c.in_ok-push_items-in-Tuple.ensures ∙ ap (λ ds. s1 ++ items_text (map spelling_of ds)) c.items-items.ensures in
    let long = sym (length-all c.items-items.result.now) ∙ ap length c.items-items.ensures in
    let end = c.end_of_tuple.ensures ∙ ap tuple_end long in
    let whole = ap (λ z. codes "(" ++ (text ++ z)) end ∙ sym (ap (λ v. repr_of (data_of v)) c.in-Tuple.is ∙ repr-Tuple items) in
    subst
    (λ z. OnOk c.push_str-in-Tuple-2.result (s3 ≡ old ++ z))
    whole
    (in_brackets c.push_str-in-Tuple-2.result old s1 s2 s3 (codes "(") text c.end_of_tuple.result.now c.in_ok-push_str-in-Tuple.ensures.ok inner c.push_str-in-Tuple-2.ensures.ok)

pub push_repr-returns-in_ok-push_pairs-in-Dict : goal.push_repr-returns-in_ok-push_pairs-in-Dict
push_repr-returns-in_ok-push_pairs-in-Dict t c =
    let old = c.args.out.now in
    let s1 = c.push_str-in-Dict.new.self in
    let s2 = c.push_pairs.new.out in
    let s3 = c.push_str-in-Dict-2.new.self in
    let text = pairs_text (map spelling_of_pair c.in-Dict.pairs) in
    let inner = c.in_ok-push_pairs-in-Dict.ensures ∙ ap (λ ds. s1 ++ pairs_text (map spelling_of_pair ds)) c.items-in-Dict.ensures in
    let whole = sym (ap (λ v. repr_of (data_of v)) c.in-Dict.is ∙ repr-Dict c.in-Dict.pairs) in
    subst
    (λ z. OnOk c.push_str-in-Dict-2.result (s3 ≡ old ++ z))
    whole
    (in_brackets c.push_str-in-Dict-2.result old s1 s2 s3 (codes "{") text (codes "}") c.in_ok-push_str-in-Dict.ensures.ok inner c.push_str-in-Dict-2.ensures.ok)
