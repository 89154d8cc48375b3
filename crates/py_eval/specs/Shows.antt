-- What a run answers, against what it is.
use Rattle.std.specs.Prelude.{◌≡◌, ℕ, ◌-◌, None}
use Rattle.run_meaning.specs.Meaning.{Env, Flow, Scene}
use Rattle.run_meaning.specs.Spending.{Spending, Got, Failed, Spent}
use Rattle.py_eval.specs.declared.run.End.TheVariants as end
use Rattle.py_eval.specs.declared.run.Ran.{Ran}
use Rattle.py_eval.specs.declared.scene.Scene.{Scene as Given}

abbrev pub scene_of : Given → Scene
scene_of s = record { own = s.own.now; present = s.present.now }

-- the answer, and the bindings after it, show how the run went under the budget
abbrev pub Shows : Ran → Env → ℕ → Spending Flow → Type 0
Shows r env budget (Got flow left console) =
    (r.end ≡ end.Done) × (r.cost ≡ budget - left) × (r.console ≡ console) × (r.last ≡ flow.last) × (env ≡ flow.env)
Shows r env budget (Failed kind line left console) =
    (r.end ≡ end.Fault kind line) × (r.cost ≡ budget - left) × (r.console ≡ console) × (r.last ≡ None)
Shows r env budget (Spent line left console) =
    (r.end ≡ end.Spent line) × (r.cost ≡ budget) × (r.console ≡ console) × (r.last ≡ None)
