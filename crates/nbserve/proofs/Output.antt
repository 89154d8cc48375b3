-- What was written at each status, and what it tells.
use Rattle.std.proofs.Common.{◌≡◌, ◌∙◌, refl, sym, ap, subst, inl, inr, ◌⊎◌, ⊎_elim, ℕ, ◌+◌, ◌≤◌, List, [], arith}
use Rattle.std.specs.Prelude.{Option, Some, None, IfSome}
use Rattle.std.proofs.lemmas.Option.{same_Some}
use Rattle.link_io.specs.Outside.{Took}
use Rattle.nbserve.proofs.OneRefusal.{none_refused, one_notebook}
use Rattle.program_meaning.specs.Program as program
use Rattle.command_meaning.specs.Commands.{Command, Once, Play, command_of, notebook_of}
use Rattle.program_meaning.specs.Program.{Comes, AreRead, IsAccepted, IsLoaded, IsRefused, Refusal, FailsFirst, read_of, once_text, usual_budget}
use Rattle.program_meaning.specs.Scripts.{Script, IsScript, IsNoScript, FaultAt, script_parts, script_text, script_work}
use Rattle.py_tree.specs.Trees.{Cell}
use Rattle.program_meaning.proofs.ScriptTexts as scripts_read
use Rattle.nbserve.specs.Execution as done
use Rattle.nbserve.specs.Execution.{Carried, IsDone, opening}
use Rattle.script_run.specs.Cut.{IsCutOff}
use Rattle.script_run.specs.Prefix.{WrotePrefix}
use Rattle.nbserve.specs.CommandFault.{IsStopped, status_of, stop_line}
use Rattle.nbserve.specs.Works as works
use Rattle.nbserve.specs.Works.{Works, label_of, last_of}
use Rattle.nbserve.specs.Output as output
use Rattle.nbserve.specs.Output.{Ended, RunsTo}
use Rattle.nbserve.specs.Shows.{Shows}
use Rattle.nbserve.specs.declared.command_fault.CommandFault.{CommandFault}
use Rattle.nbserve.specs.declared.command_fault.CommandFault.TheVariants as stop

-- ---- where the run is stopped

no_stop_is_done : (why : CommandFault) → status_of why ≡ 0 → ⊥
no_stop_is_done stop.Usage e = omega arith
no_stop_is_done stop.Unread e = omega arith
no_stop_is_done (stop.Refused why) e = omega arith
no_stop_is_done (stop.NoScript line) e = omega arith
no_stop_is_done stop.Memory e = omega arith

pub stopped_runs : (holds : List ℕ → Option (Option (List ℕ))) (unread unwritten : Type 0) (words : List (List ℕ)) (why : CommandFault) (result : ℕ) (before now : Option (List ℕ)) (count count_after : ℕ) → IsStopped holds unread words why → Ended (status_of why) (stop_line why) result before now unwritten → (why ≡ stop.Memory → (result ≡ 5) × Took before now []) → count_after ≡ count → RunsTo holds unread unwritten words result before now count count_after
stopped_runs holds unread unwritten words why result before now count count_after (inl memory) ended wanting still = let none = wanting memory in output.wanting none.0 none.1 still
stopped_runs holds unread unwritten words why result before now count count_after (inr comes) ended wanting still = output.stopped (status_of why) (stop_line why) (no_stop_is_done why) comes ended still

-- ---- bytes of files that are told

same_bytes : (t : Option (List ℕ)) (all other : List ℕ) → t ≡ Some all → t ≡ Some other → all ≡ other
same_bytes t all other h k = cc

told_read : (o : Option (Option (List ℕ))) (all bytes : List ℕ) → o ≡ Some (Some all) → IfSome o (λ told. (rest : List ℕ) × (told ≡ Some rest) × (bytes ≡ read_of rest)) → bytes ≡ read_of all
told_read o all bytes e r =
    let h : (rest : List ℕ) × (Some all ≡ Some rest) × (bytes ≡ read_of rest) = subst (λ p. IfSome p (λ told. (rest : List ℕ) × (told ≡ Some rest) × (bytes ≡ read_of rest))) e r in
    h.2 ∙ ap read_of (same_bytes (Some all) h.0 all h.1 refl)

pub read_is : (holds : List ℕ → Option (Option (List ℕ))) (f file bytes all : List ℕ) → f ≡ file → holds file ≡ Some (Some all) → AreRead holds f bytes → bytes ≡ read_of all
read_is holds f file bytes all same told r = told_read (holds file) all bytes told (subst (λ n. AreRead holds n bytes) same r)

pub loaded_is : (holds : List ℕ → Option (Option (List ℕ))) (f file all : List ℕ) (nb : List Cell) → f ≡ file → holds file ≡ Some (Some all) → IsLoaded holds f nb → IsAccepted (read_of all) nb
loaded_is holds f file all nb same told l = subst (λ bytes. IsAccepted bytes nb) (read_is holds f file l.0 all same told l.1) l.2

none_asked : (words : List (List ℕ)) (a : Command) → command_of words ≡ None → command_of words ≡ Some a → ⊥
none_asked words a h k = let no : None ≡ Some a = sym h ∙ k in cc

once_or_play : (words : List (List ℕ)) (f file script : List ℕ) → command_of words ≡ Some (Once f) → command_of words ≡ Some (Play file script) → ⊥
once_or_play words f file script h k = let no = same_Some (Once f) (Play file script) (sym h ∙ k) in cc

same_once : (words : List (List ℕ)) (f file : List ℕ) → command_of words ≡ Some (Once f) → command_of words ≡ Some (Once file) → f ≡ file
same_once words f file h k = let same = same_Some (Once f) (Once file) (sym h ∙ k) in cc

same_play : (words : List (List ℕ)) (f file s script : List ℕ) → command_of words ≡ Some (Play f s) → command_of words ≡ Some (Play file script) → (f ≡ file) × (s ≡ script)
same_play words f file s script h k = let same = same_Some (Play f s) (Play file script) (sym h ∙ k) in (cc, cc)

same_notebook : (words : List (List ℕ)) (a b : Command) → command_of words ≡ Some a → command_of words ≡ Some b → notebook_of a ≡ notebook_of b
same_notebook words a b h k = ap notebook_of (same_Some a b (sym h ∙ k))

-- an accepted notebook isn't refused
not_refused : (holds : List ℕ → Option (Option (List ℕ))) (words : List (List ℕ)) (a b : Command) (bytes all : List ℕ) (nb : List Cell) (why : Refusal) → command_of words ≡ Some a → command_of words ≡ Some b → holds (notebook_of b) ≡ Some (Some all) → AreRead holds (notebook_of a) bytes → IsAccepted (read_of all) nb → FailsFirst bytes why → ⊥
not_refused holds words a b bytes all nb why h k told r ok first =
    none_refused bytes nb why
    (subst (λ bs. IsAccepted bs nb) (sym (read_is holds (notebook_of a) (notebook_of b) bytes all (same_notebook words a b h k) told r)) ok) first

-- ---- a command that was carried out

-- the notebook that was loaded, and what was played, are those of the words
opened_parts : (holds : List ℕ → Option (Option (List ℕ))) (words : List (List ℕ)) (f : List ℕ) (n nb : List Cell) (stays : Script) → command_of words ≡ Some (Once f) → IsLoaded holds f n → Works holds words nb stays → (n ≡ nb) × (opening ≡ stays)
opened_parts holds words f n nb stays a l (works.once file all asked told ok sent) =
    (one_notebook (read_of all) n nb (loaded_is holds f file all n (same_once words f file a asked) told l).form ok.form, sym sent)
opened_parts holds words f n nb stays a l (works.play file script all text asked told ok shown is) = absurd (once_or_play words f file script a asked)

played_parts : (holds : List ℕ → Option (Option (List ℕ))) (words : List (List ℕ)) (f s bytes : List ℕ) (n : List Cell) (played : Script) (nb : List Cell) (stays : Script) → command_of words ≡ Some (Play f s) → IsLoaded holds f n → AreRead holds s bytes → IsScript bytes played → Works holds words nb stays → (n ≡ nb) × (played ≡ stays)
played_parts holds words f s bytes n played nb stays a l r i (works.once file all asked told ok sent) = absurd (once_or_play words file f s asked a)
played_parts holds words f s bytes n played nb stays a l r i (works.play file script all text asked told ok shown is) =
    let names = same_play words f file s script a asked in (
      one_notebook (read_of all) n nb (loaded_is holds f file all n names.0 told l).form ok.form,
      scripts_read.one (read_of text) played stays (subst (λ b. IsScript b played) (read_is holds s script bytes text names.1 shown r) i) is,
    )

module _ (holds : List ℕ → Option (Option (List ℕ))) (words : List (List ℕ)) (status : ℕ) (before now : Option (List ℕ)) (unwritten : Type 0) (count count_after : ℕ) where
  -- what was done for a command whose notebook and visitors are told
  abbrev IsDoneFor : Command → List Cell → Script → Type 0
  IsDoneFor asked nb stays = IsDone nb stays (label_of asked) (last_of asked) status before now unwritten count count_after

  same_done : (asked : Command) (n nb : List Cell) (sent stays : Script) → (n ≡ nb) × (sent ≡ stays) → IsDoneFor asked n sent → IsDoneFor asked nb stays
  same_done asked n nb sent stays same is = subst (IsDoneFor asked nb) same.1 (subst (λ cells. IsDoneFor asked cells sent) same.0 is)

  -- a command that was carried out is that of the words
  carried_done : Carried holds words status before now unwritten count count_after → (asked : Command) (nb : List Cell) (stays : Script)
      → command_of words ≡ Some asked → Works holds words nb stays → IsDoneFor asked nb stays
  carried_done (done.opened f n a l is) asked nb stays h can =
      subst (λ command. IsDoneFor command nb stays) (same_Some (Once f) asked (sym a ∙ h))
      (same_done (Once f) n nb opening stays (opened_parts holds words f n nb stays a l can) is)
  carried_done (done.played f s n a l p) asked nb stays h can =
      subst (λ command. IsDoneFor command nb stays) (same_Some (Play f s) asked (sym a ∙ h))
      (same_done (Play f s) n nb p.said stays (played_parts holds words f s p.bytes n p.said nb stays a l p.read p.is can) p.done)

-- ---- what a run comes to

module _ (holds : List ℕ → Option (Option (List ℕ))) (unread : Type 0) (words : List (List ℕ)) (status : ℕ) (text : List ℕ) where
  comes_range : Comes holds unread words status text → (status ≤ 6) × (status ≡ 4 → ⊥)
  comes_range (program.opened file nb a l e t) = (omega (arith, e), λ h. omega (arith, e, h))
  comes_range (program.played file script bytes nb said a l r is e t) = (omega (arith, e), λ h. omega (arith, e, h))
  comes_range (program.refused command bytes why a r first e t) = (omega (arith, e), λ h. omega (arith, e, h))
  comes_range (program.usage a e t) = (omega (arith, e), λ h. omega (arith, e, h))
  comes_range (program.unread command a f e t) = (omega (arith, e), λ h. omega (arith, e, h))
  comes_range (program.no_script file script bytes nb line a l r stops e t) = (omega (arith, e), λ h. omega (arith, e, h))

  -- a read fault has its cause
  comes_read : Comes holds unread words status text → status ≡ 3 → unread
  comes_read (program.opened file nb a l e t) h = absurd (omega (arith, e, h))
  comes_read (program.played file script bytes nb said a l r is e t) h = absurd (omega (arith, e, h))
  comes_read (program.refused command bytes why a r first e t) h = absurd (omega (arith, e, h))
  comes_read (program.usage a e t) h = absurd (omega (arith, e, h))
  comes_read (program.unread command a f e t) h = f
  comes_read (program.no_script file script bytes nb line a l r stops e t) h = absurd (omega (arith, e, h))

  -- words that are no form
  comes_usage : Comes holds unread words status text → command_of words ≡ None → status ≡ 2
  comes_usage (program.opened file nb a l e t) h = absurd (none_asked words (Once file) h a)
  comes_usage (program.played file script bytes nb said a l r is e t) h = absurd (none_asked words (Play file script) h a)
  comes_usage (program.refused command bytes why a r first e t) h = absurd (none_asked words command h a)
  comes_usage (program.usage a e t) h = e
  comes_usage (program.unread command a f e t) h = absurd (none_asked words command h a)
  comes_usage (program.no_script file script bytes nb line a l r stops e t) h = absurd (none_asked words (Play file script) h a)

  -- a command that can be carried out
  comes_works : Comes holds unread words status text → (nb : List Cell) (stays : Script) → Works holds words nb stays → (status ≡ 0) ⊎ (status ≡ 3)
  comes_works (program.opened f n a l e t) nb stays can = inl e
  comes_works (program.played f s bytes n said a l r is e t) nb stays can = inl e
  comes_works (program.refused command bytes why a r first e t) nb stays (works.once file all asked told ok sent) =
      absurd (not_refused holds words command (Once file) bytes all nb why a asked told r ok first)
  comes_works (program.refused command bytes why a r first e t) nb stays (works.play file script all shown asked told ok there is) =
      absurd (not_refused holds words command (Play file script) bytes all nb why a asked told r ok first)
  comes_works (program.usage a e t) nb stays (works.once file all asked told ok sent) = absurd (none_asked words (Once file) a asked)
  comes_works (program.usage a e t) nb stays (works.play file script all shown asked told ok there is) =
      absurd (none_asked words (Play file script) a asked)
  comes_works (program.unread command a f e t) nb stays can = inr e
  comes_works (program.no_script f s bytes n line a l r stops e t) nb stays (works.once file all asked told ok sent) = absurd (once_or_play words file f s asked a)
  comes_works (program.no_script f s bytes n line a l r stops e t) nb stays (works.play file script all shown asked told ok there is) =
      let same = read_is holds s script bytes shown (same_play words f file s script a asked).1 there r in
      absurd (scripts_read.scripts_go_on (read_of shown) stays is line (subst (λ bs. FaultAt bs line) same stops))

  -- refused bytes, where the files tell them
  comes_refused : Comes holds unread words status text → (asked : Command) (all : List ℕ) → command_of words ≡ Some asked → holds (notebook_of asked) ≡ Some (Some all) → IsRefused (read_of all) → (status ≡ 1) ⊎ (status ≡ 3)
  comes_refused (program.opened f n a l e t) command all asked told never = absurd (never n (loaded_is holds f (notebook_of command) all n (same_notebook words (Once f) command a asked) told l))
  comes_refused (program.played f s bytes n said a l r is e t) command all asked told never = absurd (never n (loaded_is holds f (notebook_of command) all n (same_notebook words (Play f s) command a asked) told l))
  comes_refused (program.refused other bytes why a r first e t) command all asked told never = inl e
  comes_refused (program.usage a e t) command all asked told never = absurd (none_asked words command a asked)
  comes_refused (program.unread other a f e t) command all asked told never = inr e
  comes_refused (program.no_script f s bytes n line a l r stops e t) command all asked told never = absurd (never n (loaded_is holds f (notebook_of command) all n (same_notebook words (Play f s) command a asked) told l))

  -- bytes that are no script
  comes_no_script : Comes holds unread words status text → (file script all shown : List ℕ) (nb : List Cell) → command_of words ≡ Some (Play file script) → holds file ≡ Some (Some all) → IsAccepted (read_of all) nb → holds script ≡ Some (Some shown) → IsNoScript (read_of shown) → (status ≡ 6) ⊎ (status ≡ 3)
  comes_no_script (program.opened f n a l e t) file script all shown nb asked told ok there never = absurd (once_or_play words f file script a asked)
  comes_no_script (program.played f s bytes n said a l r is e t) file script all shown nb asked told ok there never =
      absurd (never said (subst (λ bs. IsScript bs said) (read_is holds s script bytes shown (same_play words f file s script a asked).1 there r) is))
  comes_no_script (program.refused command bytes why a r first e t) file script all shown nb asked told ok there never = absurd (not_refused holds words command (Play file script) bytes all nb why a asked told r ok first)
  comes_no_script (program.usage a e t) file script all shown nb asked told ok there never = absurd (none_asked words (Play file script) a asked)
  comes_no_script (program.unread command a f e t) file script all shown nb asked told ok there never = inr e
  comes_no_script (program.no_script f s bytes n line a l r stops e t) file script all shown nb asked told ok there never = inl e

-- ---- what was written tells of the status

-- a command that was carried out comes to 0, or a write failed, or memory was wanting
done_to : {nb : List Cell} {stays : Script} {label last : List ℕ} {status : ℕ} {before now : Option (List ℕ)} {unwritten : Type 0} {count count_after : ℕ}
    → IsDone nb stays label last status before now unwritten count count_after → (status ≡ 0) ⊎ ((status ≡ 4) × unwritten) ⊎ (status ≡ 5)
done_to (done.whole e took steps) = inl e
done_to (done.cut e why cut) = inr (inl (e, why))
done_to (done.prefix e prefix) = inr (inr e)

-- what it comes to then
pub carried_comes : {holds : List ℕ → Option (Option (List ℕ))} {words : List (List ℕ)} {status : ℕ} {before now : Option (List ℕ)} {unwritten : Type 0} {count count_after : ℕ}
    → (unread : Type 0) → Carried holds words status before now unwritten count count_after
    → (text : List ℕ) × Comes holds unread words 0 text × ((status ≡ 0) ⊎ ((status ≡ 4) × unwritten) ⊎ (status ≡ 5))
carried_comes unread (done.opened file nb asked loaded is) = (once_text nb, program.opened file nb asked loaded refl refl, done_to is)
carried_comes unread (done.played file script nb asked loaded p) =
    (script_text nb usual_budget p.said, program.played file script p.bytes nb p.said asked loaded p.read p.is refl refl, done_to p.done)

module _ (holds : List ℕ → Option (Option (List ℕ))) (unread unwritten : Type 0) (words : List (List ℕ)) (status : ℕ) (before now : Option (List ℕ)) (count count_after : ℕ) where
  abbrev Runs : Type 0
  Runs = RunsTo holds unread unwritten words status before now count count_after

  -- the status is one that the run comes to, or a write failed, or memory was wanting
  come_to : (P : ℕ → Type 0) → ((come : ℕ) (text : List ℕ) → Comes holds unread words come text → P come) → Runs → P status ⊎ ((status ≡ 4) × unwritten) ⊎ (status ≡ 5)
  come_to P each (output.carried c) =
      let comes = carried_comes unread c in
      ⊎_elim (λ e. inl (subst P (sym e) (each 0 comes.0 comes.1))) (λ fault. inr fault) comes.2
  come_to P each (output.stopped come text other comes (output.whole e took) still) = inl (subst P (sym e) (each come text comes))
  come_to P each (output.stopped come text other comes (output.cut e why part) still) = inr (inl (e, why))
  come_to P each (output.stopped come text other comes (output.wanting e none) still) = inr (inr e)
  come_to P each (output.wanting e none still) = inr (inr e)

  -- one of two statuses, or a fault
  come_to_one : (a : ℕ) → ((come : ℕ) (text : List ℕ) → Comes holds unread words come text → (come ≡ a) ⊎ (come ≡ 3)) → Runs → (status ≡ a) ⊎ (status ≡ 3) ⊎ (status ≡ 4) ⊎ (status ≡ 5)
  come_to_one a each w =
      ⊎_elim (λ one. ⊎_elim (λ is. inl is) (λ read. inr (inl read)) one) (λ fault. ⊎_elim (λ write. inr (inr (inl write.0))) (λ memory. inr (inr (inr memory))) fault)
      (come_to (λ come. (come ≡ a) ⊎ (come ≡ 3)) each w)

  runs_range : Runs → status ≤ 6
  runs_range w =
      ⊎_elim (λ is. is) (λ fault. ⊎_elim (λ write. let four = write.0 in omega (arith, four)) (λ memory. omega (arith, memory)) fault)
      (come_to (λ come. come ≤ 6) (λ come text comes. (comes_range holds unread words come text comes).0) w)

  -- a read fault has its cause, and so has a write fault
  runs_read : Runs → status ≡ 3 → unread
  runs_read w h =
      ⊎_elim (λ cause. cause h) (λ fault. ⊎_elim (λ write. let four = write.0 in absurd (omega (arith, four, h))) (λ memory. absurd (omega (arith, memory, h))) fault)
      (come_to (λ come. come ≡ 3 → unread) (comes_read holds unread words) w)

  runs_write : Runs → status ≡ 4 → unwritten
  runs_write w h =
      ⊎_elim (λ other. absurd (other h)) (λ fault. ⊎_elim (λ write. write.1) (λ memory. absurd (omega (arith, memory, h))) fault)
      (come_to (λ come. come ≡ 4 → ⊥) (λ come text comes. (comes_range holds unread words come text comes).1) w)

  runs_usage : Runs → command_of words ≡ None → (status ≡ 2) ⊎ (status ≡ 4) ⊎ (status ≡ 5)
  runs_usage w h =
      ⊎_elim (λ is. inl is) (λ fault. ⊎_elim (λ write. inr (inl write.0)) (λ memory. inr (inr memory)) fault)
      (come_to (λ come. come ≡ 2) (λ come text comes. comes_usage holds unread words come text comes h) w)

  runs_accepted : Runs → (nb : List Cell) (stays : Script) → Works holds words nb stays → (status ≡ 0) ⊎ (status ≡ 3) ⊎ (status ≡ 4) ⊎ (status ≡ 5)
  runs_accepted w nb stays can = come_to_one 0 (λ come text comes. comes_works holds unread words come text comes nb stays can) w

  runs_refused : Runs → (asked : Command) (all : List ℕ) → command_of words ≡ Some asked → holds (notebook_of asked) ≡ Some (Some all) → IsRefused (read_of all) → (status ≡ 1) ⊎ (status ≡ 3) ⊎ (status ≡ 4) ⊎ (status ≡ 5)
  runs_refused w command all asked told never = come_to_one 1 (λ come text comes. comes_refused holds unread words come text comes command all asked told never) w

  runs_no_script : Runs → (file script all shown : List ℕ) (nb : List Cell) → command_of words ≡ Some (Play file script) → holds file ≡ Some (Some all) → IsAccepted (read_of all) nb → holds script ≡ Some (Some shown) → IsNoScript (read_of shown) → (status ≡ 6) ⊎ (status ≡ 3) ⊎ (status ≡ 4) ⊎ (status ≡ 5)
  runs_no_script w file script all shown nb asked told ok there never =
      come_to_one 6 (λ come text comes. comes_no_script holds unread words come text comes file script all shown nb asked told ok there never) w

  -- where no fault came, a command that can be carried out is, or memory is wanting
  runs_complete : Runs → (nb : List Cell) (stays : Script) → Works holds words nb stays → (unread → ⊥) → (unwritten → ⊥) → (status ≡ 0) ⊎ (status ≡ 5)
  runs_complete w nb stays can read write =
      ⊎_elim (λ done. inl done) (λ fault. ⊎_elim (λ three. absurd (read (runs_read w three))) (λ other. ⊎_elim (λ four. absurd (write (runs_write w four))) (λ memory. inr memory) other) fault)
      (runs_accepted w nb stays can)

  -- ---- what was counted, and where the text ends

  -- the command that works is one of the words
  asked_for : (nb : List Cell) (stays : Script) → Works holds words nb stays → (asked : Command) × (command_of words ≡ Some asked)
  asked_for nb stays (works.once file all asked told ok sent) = (Once file, asked)
  asked_for nb stays (works.play file script all text asked told ok shown is) = (Play file script, asked)

  done_steps : (asked : Command) (nb : List Cell) (stays : Script) → IsDoneFor holds words status before now unwritten count count_after asked nb stays → status ≡ 0 → count_after ≡ count + script_work nb usual_budget stays
  done_steps asked nb stays (done.whole e took steps) zero = steps
  done_steps asked nb stays (done.cut e why cut) zero = absurd (omega (arith, e, zero))
  done_steps asked nb stays (done.prefix e prefix) zero = absurd (omega (arith, e, zero))

  done_cut : (asked : Command) (nb : List Cell) (stays : Script) → IsDoneFor holds words status before now unwritten count count_after asked nb stays → status ≡ 4
      → IsCutOff (label_of asked) (last_of asked) (script_parts nb usual_budget stays) before now count count_after
  done_cut asked nb stays (done.whole e took steps) four = absurd (omega (arith, e, four))
  done_cut asked nb stays (done.cut e why cut) four = cut
  done_cut asked nb stays (done.prefix e prefix) four = absurd (omega (arith, e, four))

  done_prefix : (asked : Command) (nb : List Cell) (stays : Script) → IsDoneFor holds words status before now unwritten count count_after asked nb stays → status ≡ 5
      → WrotePrefix (label_of asked) (script_parts nb usual_budget stays) before now count count_after
  done_prefix asked nb stays (done.whole e took steps) five = absurd (omega (arith, e, five))
  done_prefix asked nb stays (done.cut e why cut) five = absurd (omega (arith, e, five))
  done_prefix asked nb stays (done.prefix e prefix) five = prefix

  -- where nothing was written and nothing counted, that is a prefix
  none_prefix : (asked : Command) (nb : List Cell) (stays : Script) → Took before now [] → count_after ≡ count → WrotePrefix (label_of asked) (script_parts nb usual_budget stays) before now count count_after
  none_prefix asked nb stays none still =
      record { written = []; rest = script_parts nb usual_budget stays; are = refl; least = omega (arith, still); most = omega (arith, still); took = none }

  runs_steps : Runs → status ≡ 0 → (nb : List Cell) (stays : Script) → Works holds words nb stays → count_after ≡ count + script_work nb usual_budget stays
  runs_steps (output.carried c) zero nb stays can =
      let asked = asked_for nb stays can in
      done_steps asked.0 nb stays (carried_done holds words status before now unwritten count count_after c asked.0 nb stays asked.1 can) zero
  runs_steps (output.stopped come text other comes (output.whole e took) still) zero nb stays can = absurd (other (sym e ∙ zero))
  runs_steps (output.stopped come text other comes (output.cut e why part) still) zero nb stays can = absurd (omega (arith, e, zero))
  runs_steps (output.stopped come text other comes (output.wanting e none) still) zero nb stays can = absurd (omega (arith, e, zero))
  runs_steps (output.wanting e none still) zero nb stays can = absurd (omega (arith, e, zero))

  runs_cut : Runs → status ≡ 4 → (asked : Command) (nb : List Cell) (stays : Script) → command_of words ≡ Some asked → Works holds words nb stays → (unread → ⊥)
      → IsCutOff (label_of asked) (last_of asked) (script_parts nb usual_budget stays) before now count count_after
  runs_cut (output.carried c) four asked nb stays h can read =
      done_cut asked nb stays (carried_done holds words status before now unwritten count count_after c asked nb stays h can) four
  runs_cut (output.stopped come text other comes ended still) four asked nb stays h can read =
      absurd (⊎_elim other (λ three. read (comes_read holds unread words come text comes three)) (comes_works holds unread words come text comes nb stays can))
  runs_cut (output.wanting e none still) four asked nb stays h can read = absurd (omega (arith, e, four))

  runs_prefix : Runs → status ≡ 5 → (asked : Command) (nb : List Cell) (stays : Script) → command_of words ≡ Some asked → Works holds words nb stays
      → WrotePrefix (label_of asked) (script_parts nb usual_budget stays) before now count count_after
  runs_prefix (output.carried c) five asked nb stays h can =
      done_prefix asked nb stays (carried_done holds words status before now unwritten count count_after c asked nb stays h can) five
  runs_prefix (output.stopped come text other comes (output.whole e took) still) five asked nb stays h can =
      absurd (⊎_elim other (λ three. omega (arith, e, five, three)) (comes_works holds unread words come text comes nb stays can))
  runs_prefix (output.stopped come text other comes (output.cut e why part) still) five asked nb stays h can = absurd (omega (arith, e, five))
  runs_prefix (output.stopped come text other comes (output.wanting e none) still) five asked nb stays h can = none_prefix asked nb stays none still
  runs_prefix (output.wanting e none still) five asked nb stays h can = none_prefix asked nb stays none still

  -- where a test isn't passed, no step was counted
  runs_unrun : Runs → (status ≡ 1) ⊎ (status ≡ 2) ⊎ (status ≡ 3) ⊎ (status ≡ 6) → count_after ≡ count
  runs_unrun (output.carried c) one =
      let comes = (carried_comes unread c).2 in
      absurd (⊎_elim (λ e. grind (arith, e, one)) (λ fault. ⊎_elim (λ write. let four = write.0 in grind (arith, four, one)) (λ memory. grind (arith, memory, one)) fault) comes)
  runs_unrun (output.stopped come text other comes ended still) one = still
  runs_unrun (output.wanting e none still) one = still

  pub runs_show : Runs → Shows holds unread unwritten words status before now count count_after
  runs_show w = record {
    range = runs_range w;
    read = runs_read w;
    write = runs_write w;
    usage = runs_usage w;
    accepted = runs_accepted w;
    complete = runs_complete w;
    steps = runs_steps w;
    cut = runs_cut w;
    prefix = runs_prefix w;
    refused = runs_refused w;
    no_script = runs_no_script w;
    unrun = runs_unrun w;
  }
