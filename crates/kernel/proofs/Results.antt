-- Clauses on results.
use Rattle.std.proofs.Common.{◌≡◌, ◌∙◌, sym, subst}
use Rattle.std.specs.Prelude.{Result, Ok, Err, IfOk, IfErr, IsErrAnd, OnErr, OnOk}

-- a value that is equal to another
pub if_ok_along : {T E : Type 0} (r : Result T E) (a b : T) → a ≡ b → IfOk r (λ x. x ≡ a) → IfOk r (λ x. x ≡ b)
if_ok_along (Ok x) a b e h = h ∙ e
if_ok_along (Err x) a b e h = tt

-- a fact that holds whatever the result
pub on_ok_always : {T E : Type 0} (r : Result T E) (P : Type 0) → P → OnOk r P
on_ok_always (Ok x) P h = h
on_ok_always (Err x) P h = tt

pub on_err_always : {T E : Type 0} (r : Result T E) (P : Type 0) → P → OnErr r P
on_err_always (Ok x) P h = tt
on_err_always (Err x) P h = h

-- a fact from another
pub on_ok_then : {T E : Type 0} (r : Result T E) (P Q : Type 0) → (P → Q) → OnOk r P → OnOk r Q
on_ok_then (Ok x) P Q f h = f h
on_ok_then (Err x) P Q f h = tt

-- a value that is equal to one for each of some things
pub if_ok_each : {T E A : Type 0} (r : Result T E) (Q : A → Type 0) (a : T) (b : A → T) → ((x : A) → Q x → a ≡ b x) → IfOk r (λ t. t ≡ a) → IfOk r (λ t. (x : A) → Q x → t ≡ b x)
if_ok_each (Ok t) Q a b f h = λ x q. h ∙ f x q
if_ok_each (Err e) Q a b f h = tt

-- an error of which a fact holds
pub if_err_of : {T E : Type 0} (r : Result T E) (e : E) (P : E → Type 0) → IsErrAnd r (λ x. x ≡ e) → P e → IfErr r P
if_err_of (Ok x) e P h p = tt
if_err_of (Err x) e P h p = subst P (sym h) p

pub if_err_always : {T E : Type 0} (r : Result T E) (P : E → Type 0) → ((e : E) → P e) → IfErr r P
if_err_always (Ok x) P h = tt
if_err_always (Err e) P h = h e

pub if_err_then : {T E : Type 0} (r : Result T E) (P Q : E → Type 0) → ((e : E) → P e → Q e) → IfErr r P → IfErr r Q
if_err_then (Ok x) P Q f h = tt
if_err_then (Err e) P Q f h = f e h
