-- What a run of code does to the bindings: it changes only those of names that the code binds.
use Rattle.std.proofs.Common.{◌≡◌, ◌∙◌, refl, ℕ, ◌-◌, Bool, true, false, if◌then◌else◌, nat_le, List, [], ◌∷◌, ◌++◌, codes, None}
use Rattle.std.proofs.lemmas.Bool.{or_parts}
use Rattle.py_tree.specs.Names.{Name, is_among}
use Rattle.py_tree.specs.Scope.{bound, head_binds}
use Rattle.py_tree.specs.Trees.{Head, value, assign, import_mo, stmt, Stmts, end, then_comes}
use Rattle.py_value.specs.Maps.{look_up, put, IsSortedMap}
use Rattle.py_value.specs.declared.types.Value.{Value}
use Rattle.py_value.proofs.SortedMaps.{look_up-put_other, sorted_put}
use Rattle.run_meaning.specs.Meaning.{Scene, Env, Flow, value_of, right_of, bind, head_of, lines_of}
use Rattle.run_meaning.specs.Spending.{Spending, Got, Failed, Spent, then_spend, pay, show, spend, runs}
use Rattle.run_meaning.specs.Trace.{Trace, Gives, Faults, Charges, Prints, ◌>>=◌}
use Rattle.run_meaning.specs.declared.binding.Binding.{Binding}
use Rattle.run_meaning.specs.declared.binding.Binding.TheVariants.{Plain, Module}
use Rattle.py_tree.proofs.NamesOf.{not_among_append}

-- ---- what a trace gives

-- what the trace gives, if it gives something, is so
abbrev pub AllGiven : {A : Type 0} → (A → Type 0) → Trace A → Type 0
AllGiven P (Gives a) = P a
AllGiven P (Faults kind line) = Unit {0}
AllGiven P (Charges n line t) = AllGiven P t
AllGiven P (Prints x t) = AllGiven P t

pub given_then : {A B : Type 0} (P : A → Type 0) (Q : B → Type 0) (t : Trace A) (f : A → Trace B) → AllGiven P t → ((a : A) → P a → AllGiven Q (f a))
    → AllGiven Q (t >>= f)
given_then P Q (Gives a) f h go = go a h
given_then P Q (Faults kind line) f h go = tt
given_then P Q (Charges n line t) f h go = given_then P Q t f h go
given_then P Q (Prints x t) f h go = given_then P Q t f h go

-- whatever the first part gives
pub given_after : {A B : Type 0} (Q : B → Type 0) (t : Trace A) (f : A → Trace B) → ((a : A) → AllGiven Q (f a)) → AllGiven Q (t >>= f)
given_after Q (Gives a) f go = go a
given_after Q (Faults kind line) f go = tt
given_after Q (Charges n line t) f go = given_after Q t f go
given_after Q (Prints x t) f go = given_after Q t f go

pub given_weaker : {A : Type 0} (P Q : A → Type 0) (t : Trace A) → ((a : A) → P a → Q a) → AllGiven P t → AllGiven Q t
given_weaker P Q (Gives a) weaker h = weaker a h
given_weaker P Q (Faults kind line) weaker h = tt
given_weaker P Q (Charges n line t) weaker h = given_weaker P Q t weaker h
given_weaker P Q (Prints x t) weaker h = given_weaker P Q t weaker h

-- what a run under a budget gives, if it gives something, is so
abbrev pub AllGot : {A : Type 0} → (A → Type 0) → Spending A → Type 0
AllGot P (Got a left console) = P a
AllGot P (Failed kind line left console) = Unit {0}
AllGot P (Spent line left console) = Unit {0}

paid : {A : Type 0} (P : A → Type 0) (n line left : ℕ) (console : List (List ℕ)) (t : Trace A) (b : Bool) → AllGot P (spend t (left - n) console)
    → AllGot P (then_spend (if b then Got (tt {0}) (left - n) console else Spent line left console) (λ _. spend t))
paid P n line left console t true h = h
paid P n line left console t false h = tt

pub got_given : {A : Type 0} (P : A → Type 0) (t : Trace A) (left : ℕ) (console : List (List ℕ)) → AllGiven P t → AllGot P (spend t left console)
unfolding pay show
got_given P (Gives a) left console h = h
got_given P (Faults kind line) left console h = tt
got_given P (Charges n line t) left console h = paid P n line left console t (nat_le n left) (got_given P t (left - n) console h)
got_given P (Prints x t) left console h = got_given P t left (console ++ x ∷ []) h

-- ---- what code does to the bindings

-- only these names change, and the bindings stay in order
pub record ChangesOnly (names : List Name) (env after : Env) : Type 0 where
  pub others : (x : Name) → is_among x names ≡ false → look_up x after ≡ look_up x env
  pub sorted : IsSortedMap env → IsSortedMap after

nothing_changes : (names : List Name) (env : Env) → ChangesOnly names env env
nothing_changes names env = record { others = λ x h. refl; sorted = λ s. s }

one_put : (x : Name) (b : Binding) (env : Env) → ChangesOnly (x ∷ []) env (put x b env)
one_put x b env = record { others = λ y h. look_up-put_other x y b env (or_parts _ false h).0; sorted = sorted_put x b env }

-- one change after another, and names between them that don't change
two_changes : (xs ys zs : List Name) (env between after : Env) → ChangesOnly xs env between → ChangesOnly zs between after
    → ChangesOnly (xs ++ ys ++ zs) env after
two_changes xs ys zs env between after first second =
    record {
      others = λ x h.
          let parts = not_among_append x (xs ++ ys) zs h in
          second.others x parts.1 ∙ first.others x (not_among_append x xs ys parts.0).0;
      sorted = λ s. second.sorted (first.sorted s);
    }

-- the bindings after a target is bound
bind_changes : (line : ℕ) (targets : List Name) (v : Value) (env : Env) → AllGiven (ChangesOnly targets env) (bind line targets v env)
bind_changes line [] v env = tt
bind_changes line (x ∷ []) v env = one_put x (Plain v) env
bind_changes line (x ∷ y ∷ rest) v env = tt

-- each form of a line
head_changes : (scene : Scene) (env : Env) (line : ℕ) (head : Head)
    → AllGiven (λ (after : Flow). ChangesOnly (head_binds head) env after.env) (head_of scene env line head)
head_changes scene env line (value t) =
    given_after (λ (after : Flow). ChangesOnly [] env after.env) (value_of scene env line t) _ (λ v. nothing_changes [] env)
head_changes scene env line (assign targets t) =
    let So : Flow → Type 0 = λ after. ChangesOnly targets env after.env in
    given_after So (right_of scene env line targets t) _
    (λ v. given_then (ChangesOnly targets env) So (bind line targets v env) _ (bind_changes line targets v env) (λ after h. h))
head_changes scene env line import_mo = one_put (codes "mo") Module env
head_changes scene env line head = tt

-- lines one after the other
pub lines_change : (scene : Scene) (block : Stmts) (flow : Flow) → AllGiven (λ (after : Flow). ChangesOnly (bound block) flow.env after.env) (lines_of scene block flow)
lines_change scene end flow = nothing_changes [] flow.env
lines_change scene (then_comes (stmt n head block) rest) flow =
    let Head : Flow → Type 0 = λ after. ChangesOnly (head_binds head) flow.env after.env in
    let Both : Flow → Type 0 = λ after. ChangesOnly (head_binds head ++ bound block ++ bound rest) flow.env after.env in
    given_then Head Both (head_of scene flow.env n head) (lines_of scene rest) (head_changes scene flow.env n head)
    (λ between first.
    let Rest : Flow → Type 0 = λ after. ChangesOnly (bound rest) between.env after.env in
    given_weaker Rest Both (lines_of scene rest between)
    (λ after second. two_changes (head_binds head) (bound block) (bound rest) flow.env between.env after.env first second)
    (lines_change scene rest between))

-- a run of a block
pub run_changes : (scene : Scene) (env : Env) (block : Stmts) (left : ℕ) → AllGot (λ (after : Flow). ChangesOnly (bound block) env after.env) (runs scene env block left)
run_changes scene env block left =
    got_given (λ (after : Flow). ChangesOnly (bound block) env after.env) (lines_of scene block (record { last = None; env = env })) left []
    (lines_change scene block (record { last = None; env = env }))
