-- Readings that came to something.
use Rattle.std.proofs.Common.{◌≡◌, Bool, true, false, cond, Option, None, Some, refl}
use Rattle.std.specs.Prelude.{option_map}
use Rattle.std.proofs.lemmas.Option.{same_Some}
use Rattle.thin_form.specs.Choices.{◌>>=◌}

pub bind_ok : {A B : Type 0} (o : Option A) (f : A → Option B) (y : B) → (o >>= f) ≡ Some y → (x : A) × (o ≡ Some x) × (f x ≡ Some y)
bind_ok None f y e = absurd (cc)
bind_ok (Some x) f y e = (x, refl, e)

pub map_ok : {A B : Type 0} (f : A → B) (o : Option A) (y : B) → option_map f o ≡ Some y → (x : A) × (o ≡ Some x) × (f x ≡ y)
map_ok f None y e = absurd (cc)
map_ok f (Some x) y e = (x, refl, same_Some _ _ e)

pub cond_ok : {A : Type 0} (b : Bool) (o : Option A) (y : A) → cond b o None ≡ Some y → (b ≡ true) × (o ≡ Some y)
cond_ok true o y e = (refl, e)
cond_ok false o y e = absurd (cc)
