-- Of values of one name the last one is kept.
use Rattle.std.proofs.Common.{◌≡◌, ◌∙◌, refl, sym, ap, subst, ℕ, List, Bool, true, false, cond, bytes_eq, Option, Some, None, option_and_then}
use Rattle.std.proofs.lemmas.Slice.Eq.{bytes_eq-Decides}
use Rattle.json.specs.Json as json
use Rattle.message_meaning.specs.Repeats.{later_value, last_value}
use Rattle.serde_json.proofs.Views.{get_member-put, get_member-put_other}
use Rattle.serde_json.specs.Data.{Data, Members, no_members, put}
use Rattle.serde_json.specs.Find.{get_member}
use Rattle.serde_json.specs.Read.{of_json, of_members}

at_put : (k l : List ℕ) (d : Data) (ms : Members) (same : Bool) → bytes_eq k l ≡ same → get_member k (put l d ms) ≡ cond same (Some d) (get_member k ms)
at_put k l d ms true is = subst (λ n. get_member k (put n d ms) ≡ Some d) ((bytes_eq-Decides k l).0 is) (get_member-put k d ms)
at_put k l d ms false is =
    get_member-put_other k l d ms (λ e.
    let equal : bytes_eq k l ≡ true = (bytes_eq-Decides k l).1 e in
    absurd (cc))

opened : {A B G : Type 0} (f : A → Option B) (o : Option A) (b : B) → option_and_then f o ≡ Some b → ((a : A) → o ≡ Some a → f a ≡ Some b → G) → G
opened f None b e all = absurd (cc)
opened f (Some a) b e all = all a refl e

abbrev within : Members → Option Members → Members
within ms None = ms
within ms (Some found) = found

walked : (k : List ℕ) (js : json.Members) (found ms : Members) → of_members js found ≡ Some ms → get_member k ms ≡ later_value k (get_member k found) js
walked k json.no_members found ms e = ap (λ o. get_member k (within found o)) (sym e)
walked k (json.member l j js) found ms e =
    opened (λ d. of_members js (put l d found)) (of_json j) ms e (λ d is rest.
    walked k js (put l d found) ms rest
    ∙ ap (λ o. later_value k o js) (at_put k l d found (bytes_eq k l) refl ∙ ap (λ o. cond (bytes_eq k l) o (get_member k found)) (sym is)))

pub last : (js : json.Members) (ms : Members) (k : List ℕ) → of_members js no_members ≡ Some ms → get_member k ms ≡ last_value k js
last js ms k e = walked k js no_members ms e
