-- Services, step by step, and what their status tells.
use Rattle.std.proofs.Common.{◌≡◌, refl, sym, ap, subst, inl, inr, ◌⊎◌, ⊎_elim, ◌∙◌, ℕ, ◌+◌, ◌-◌, ◌^◌, ◌<◌, ◌≤◌, min, zero, suc, codes, cond, nat_lt, true, false, Bool, List, [], ◌∷◌, ◌++◌, map, arith}
use Rattle.std.specs.Prelude.{All, Option, Some, None, IfSome, sum_by}
use Rattle.std.proofs.lemmas.Bool.{lt-ltb, ltb-true}
use Rattle.std.proofs.lemmas.List.Elements.{All-cons, All-head, All-nil, All-tail, All-weaker}
use Rattle.std.proofs.lemmas.List.Sums.{sum_by-cons}
use Rattle.link_io.specs.Outside.{Took}
use Rattle.link_io.specs.Porches.{Gives, Seen, Stays, Stock, TakesBack}
use Rattle.command_meaning.specs.Services.{Service}
use Rattle.program_meaning.specs.Program.{AreRead, FailsFirst, IsAccepted, IsLoaded, IsRefused, Refusal, read_of}
use Rattle.py_tree.specs.Trees.{Cell}
use Rattle.ws_server.specs.Shares.{AreReported, AreShares, Gone}
use Rattle.ws_server.specs.Visitors.{Alone}
use Rattle.ws_server.specs.declared.report.Report.{Report}
use Rattle.nbserve.proofs.OneRefusal.{none_refused, one_notebook}
use Rattle.nbserve.proofs.Output.{loaded_is, read_is}
use Rattle.nbserve.specs.CommandFault.{IsUnloaded, status_of, stop_line}
use Rattle.nbserve.specs.Output as ended
use Rattle.nbserve.specs.Output.{Ended}
use Rattle.nbserve.specs.Refusal.{refusal_of}
use Rattle.nbserve.specs.Service as serves
use Rattle.nbserve.specs.Service.{IsNewDoor, IsServed, Misses, ServesTo, report_line, report_status}
use Rattle.nbserve.specs.declared.command_fault.CommandFault.{CommandFault}
use Rattle.nbserve.specs.declared.command_fault.CommandFault.TheVariants as stop

-- ---- doors that failed

not_positive : (n : ℕ) → (0 < n → ⊥) → n ≡ 0
not_positive zero never = refl
not_positive (suc n) never = absurd (never (omega arith))

-- where no door has failed, none was counted
none_counted : (alone : Alone) (quota : ℕ) (gone : List Gone) → AreShares alone quota gone
    → All (λ (d : Seen). d.faults ≡ 0) (map (λ (g : Gone). g.after) gone)
    → sum_by (λ (r : Report). r.doors) (map (λ (g : Gone). g.report) gone) ≡ 0
none_counted alone quota [] shares sound = refl
none_counted alone quota (g ∷ gone) shares sound =
    let sound_first = All-head (λ (d : Seen). d.faults ≡ 0) g.after (map (λ (h : Gone). h.after) gone) sound in
    let sound_rest = All-tail (λ (d : Seen). d.faults ≡ 0) g.after (map (λ (h : Gone). h.after) gone) sound in
    let first : g.report.doors ≡ 0 = not_positive g.report.doors
    (λ p. let rose : min (g.before.faults + g.report.doors) (2 ^ 64 - 1) ≤ g.after.faults = shares.0.doors in omega (arith, rose, sound_first, p)) in
    let rest = none_counted alone quota gone shares.1 sound_rest in
    sum_by-cons (λ (r : Report). r.doors) g.report (map (λ (h : Gone). h.report) gone) ∙ omega (arith, first, rest)

-- and where none was counted, none has failed that was new
none_failed : (alone : Alone) (quota : ℕ) (gone : List Gone) → AreShares alone quota gone
    → sum_by (λ (r : Report). r.doors) (map (λ (g : Gone). g.report) gone) ≡ 0
    → All (λ (d : Seen). d.faults ≡ 0) (map (λ (g : Gone). g.before) gone)
    → All (λ (d : Seen). d.faults ≡ 0) (map (λ (g : Gone). g.after) gone)
none_failed alone quota [] shares none new = All-nil (λ (d : Seen). d.faults ≡ 0)
none_failed alone quota (g ∷ gone) shares none new =
    let sum = sum_by-cons (λ (r : Report). r.doors) g.report (map (λ (h : Gone). h.report) gone) in
    let first = All-head (λ (d : Seen). d.faults ≡ 0) g.before (map (λ (h : Gone). h.before) gone) new in
    let others = All-tail (λ (d : Seen). d.faults ≡ 0) g.before (map (λ (h : Gone). h.before) gone) new in
    All-cons (λ (d : Seen). d.faults ≡ 0) g.after (map (λ (h : Gone). h.after) gone) (shares.0.sound (omega (arith, sum, none)) ∙ first)
    (none_failed alone quota gone shares.1 (omega (arith, sum, none)) others)

still_sound : (alone : Alone) (quota : ℕ) (before after : List Seen) (r : Report) → AreReported alone quota before after r → r.doors ≡ 0
    → All (λ (d : Seen). d.faults ≡ 0) before → All (λ (d : Seen). d.faults ≡ 0) after
still_sound alone quota before after r (inl served) none new =
    subst (All (λ (d : Seen). d.faults ≡ 0)) served.after_are
    (none_failed alone quota served.gone served.shares (sym served.sum.doors ∙ none) (subst (All (λ (d : Seen). d.faults ≡ 0)) (sym served.before_are) new))
still_sound alone quota before after r (inr left) none new = subst (All (λ (d : Seen). d.faults ≡ 0)) (sym left.0) new

no_faults : (alone : Alone) (quota : ℕ) (before after : List Seen) (r : Report) → AreReported alone quota before after r
    → All (λ (d : Seen). d.faults ≡ 0) after → r.doors ≡ 0
no_faults alone quota before after r (inl served) sound =
    served.sum.doors ∙ none_counted alone quota served.gone served.shares (subst (All (λ (d : Seen). d.faults ≡ 0)) (sym served.after_are) sound)
no_faults alone quota before after r (inr left) sound = left.1.doors

-- a fault that is counted is one of the porch
pub counted_failed : (nb : List Cell) (service : Service) (before now : Option Stock) (failed : Type 0) (r : Report) → IsServed nb service before now failed r
    → report_status r ≡ 7 → failed
counted_failed nb service before now failed r s seven =
    s.fault (λ sound. let none = no_faults _ service.visitors s.doors s.returned r s.report sound in
    let done : report_status r ≡ 0 = ap (λ n. cond (nat_lt 0 n) 7 0) none in omega (arith, done, seven))

-- ---- the doors of a porch

-- they were the first, and are the returned ones
pub stock_after : (before between now : Option Stock) (port : ℕ) (doors returned : List Seen) → Gives before between port doors → TakesBack between now returned
    → IfSome before (λ b. (rest : List Seen) × (b.ahead ≡ doors ++ rest) × (now ≡ Some (record { ahead = rest; returned = returned; port = Some port })))
stock_after None between now port doors returned gives takes = tt
stock_after (Some b) between now port doors returned gives takes = (gives.0, gives.1, subst (λ o. TakesBack o now returned) gives.2 takes)

-- ---- why a notebook isn't served

pub missed : (holds : List ℕ → Option (Option (List ℕ))) (unread : Type 0) (file : List ℕ) (why : CommandFault) → IsUnloaded holds unread file why
    → (why ≡ stop.Memory) ⊎ Misses holds unread file (status_of why) (stop_line why)
missed holds unread file stop.Usage is = absurd is
missed holds unread file stop.Unread is = inr (serves.unread is refl refl)
missed holds unread file (stop.Refused why) is = inr (serves.refused is.0 (refusal_of why) is.1 is.2 refl refl)
missed holds unread file (stop.NoScript line) is = absurd is
missed holds unread file stop.Memory is = inl refl

pub stopped_serves : (holds : List ℕ → Option (Option (List ℕ))) (unread failed unwritten : Type 0) (service : Service) (why : CommandFault) (result : ℕ) (before now : Option (List ℕ)) (stock stock_now : Option Stock)
    → IsUnloaded holds unread service.file why → Ended (status_of why) (stop_line why) result before now unwritten
    → (why ≡ stop.Memory → (result ≡ 5) × Took before now []) → stock_now ≡ stock → Stays stock stock_now
    → ServesTo holds unread failed unwritten service result before now stock stock_now
stopped_serves holds unread failed unwritten service why result before now stock stock_now is ends wanting same stays =
    ⊎_elim (λ memory. let none = wanting memory in serves.wanting none.0 none.1 stays)
    (λ misses. serves.missed (status_of why) (stop_line why) misses ends same) (missed holds unread service.file why is)

pub stays_same : (stock : Option Stock) → Stays stock stock
stays_same None = tt
stays_same (Some s) = refl

-- ---- what a status tells

written_at : {come status : ℕ} {text : List ℕ} {before now : Option (List ℕ)} {unwritten : Type 0} → Ended come text status before now unwritten
    → status ≡ 7 → (come ≡ 7) × Took before now text
written_at (ended.whole is took) seven = (sym is ∙ seven, took)
written_at (ended.cut is why less) seven = absurd (omega (arith, is, seven))
written_at (ended.wanting is none) seven = absurd (omega (arith, is, seven))

ended_whole : {come status : ℕ} {text : List ℕ} {before now : Option (List ℕ)} {unwritten : Type 0} → Ended come text status before now unwritten
    → status ≡ 0 → (come ≡ 0) × Took before now text
ended_whole (ended.whole is took) done = (sym is ∙ done, took)
ended_whole (ended.cut is why less) done = absurd (omega (arith, is, done))
ended_whole (ended.wanting is none) done = absurd (omega (arith, is, done))

-- what is written at another status than 1 and 3 ends at none of these
pub asked_for_doors : {X : Type 0} {come status : ℕ} {text : List ℕ} {before now : Option (List ℕ)} {unwritten : Type 0} → Ended come text status before now unwritten
    → (come ≡ 0) ⊎ (come ≡ 7) → (status ≡ 1) ⊎ (status ≡ 3) → X
asked_for_doors (ended.whole is took) (inl done) (inl one) = absurd (omega (arith, is, done, one))
asked_for_doors (ended.whole is took) (inl done) (inr three) = absurd (omega (arith, is, done, three))
asked_for_doors (ended.whole is took) (inr seven) (inl one) = absurd (omega (arith, is, seven, one))
asked_for_doors (ended.whole is took) (inr seven) (inr three) = absurd (omega (arith, is, seven, three))
asked_for_doors (ended.cut is why less) come (inl one) = absurd (omega (arith, is, one))
asked_for_doors (ended.cut is why less) come (inr three) = absurd (omega (arith, is, three))
asked_for_doors (ended.wanting is none) come (inl one) = absurd (omega (arith, is, one))
asked_for_doors (ended.wanting is none) come (inr three) = absurd (omega (arith, is, three))

pub report_statuses : (r : Report) → (report_status r ≡ 0) ⊎ (report_status r ≡ 7)
report_statuses r = helper (nat_lt 0 r.doors) where
  helper : (b : Bool) → (◌≡◌ {A = ℕ} (cond b 7 0) 0) ⊎ (◌≡◌ {A = ℕ} (cond b 7 0) 7)
  helper true = inr refl
  helper false = inl refl

no_door_counted : (r : Report) → report_status r ≡ 0 → r.doors ≡ 0
no_door_counted r done = not_positive r.doors (λ p. let seven : report_status r ≡ 7 = ap (λ b. cond b 7 0) (lt-ltb 0 r.doors p) in omega (arith, done, seven))

door_counted : (r : Report) → report_status r ≡ 7 → 0 < r.doors
door_counted r seven = helper (nat_lt 0 r.doors) refl seven where
  helper : (b : Bool) → nat_lt 0 r.doors ≡ b → ◌≡◌ {A = ℕ} (cond b 7 0) 7 → 0 < r.doors
  helper true is e = ltb-true 0 r.doors is
  helper false is e = absurd (omega (arith, e))

module _ (holds : List ℕ → Option (Option (List ℕ))) (unread failed unwritten : Type 0) (service : Service) (status : ℕ) (before now : Option (List ℕ)) (stock stock_now : Option Stock) where
  abbrev Serves : Type 0
  Serves = ServesTo holds unread failed unwritten service status before now stock stock_now

  -- a status is one of these, each with its cause
  pub data Cause : Type 0 where
    done : status ≡ 0 → (nb : List Cell) → IsLoaded holds service.file nb → Cause
    refused : status ≡ 1 → (bytes : List ℕ) → (why : Refusal) → AreRead holds service.file bytes → FailsFirst bytes why → Cause
    missing : status ≡ 3 → unread → Cause
    cut : status ≡ 4 → unwritten → Cause
    wanting : status ≡ 5 → Cause
    door : status ≡ 7 → failed → (nb : List Cell) → IsLoaded holds service.file nb → Cause

  ending : {come : ℕ} {text : List ℕ} → (status ≡ come → Cause) → Ended come text status before now unwritten → Cause
  ending whole (ended.whole is took) = whole is
  ending whole (ended.cut is why less) = cut is why
  ending whole (ended.wanting is none) = wanting is

  pub cause_of : Serves → Cause
  cause_of (serves.served nb r loaded is ends) = ending
      (λ same. ⊎_elim (λ none. done (same ∙ none) nb loaded)
      (λ seven. door (same ∙ seven) (counted_failed nb service stock stock_now failed r is seven) nb loaded) (report_statuses r)) ends
  cause_of (serves.no_doors nb loaded why stays ends) = ending (λ seven. door seven why nb loaded) ends
  cause_of (serves.missed come text (serves.refused bytes why read fails one t) ends same) = ending (λ is. refused (is ∙ one) bytes why read fails) ends
  cause_of (serves.missed come text (serves.unread why three t) ends same) = ending (λ is. missing (is ∙ three) why) ends
  cause_of (serves.wanting five none stays) = wanting five

  pub cause_range : Cause → status ≤ 7
  cause_range (done is nb loaded) = omega (arith, is)
  cause_range (refused is bytes why read fails) = omega (arith, is)
  cause_range (missing is why) = omega (arith, is)
  cause_range (cut is why) = omega (arith, is)
  cause_range (wanting is) = omega (arith, is)
  cause_range (door is why nb loaded) = omega (arith, is)

  pub cause_read : Cause → status ≡ 3 → unread
  cause_read (done is nb loaded) three = absurd (omega (arith, is, three))
  cause_read (refused is bytes why read fails) three = absurd (omega (arith, is, three))
  cause_read (missing is why) three = why
  cause_read (cut is why) three = absurd (omega (arith, is, three))
  cause_read (wanting is) three = absurd (omega (arith, is, three))
  cause_read (door is why nb loaded) three = absurd (omega (arith, is, three))

  pub cause_write : Cause → status ≡ 4 → unwritten
  cause_write (done is nb loaded) four = absurd (omega (arith, is, four))
  cause_write (refused is bytes why read fails) four = absurd (omega (arith, is, four))
  cause_write (missing is why) four = absurd (omega (arith, is, four))
  cause_write (cut is why) four = why
  cause_write (wanting is) four = absurd (omega (arith, is, four))
  cause_write (door is why nb loaded) four = absurd (omega (arith, is, four))

  pub cause_door : Cause → status ≡ 7 → failed
  cause_door (done is nb loaded) seven = absurd (omega (arith, is, seven))
  cause_door (refused is bytes why read fails) seven = absurd (omega (arith, is, seven))
  cause_door (missing is why) seven = absurd (omega (arith, is, seven))
  cause_door (cut is why) seven = absurd (omega (arith, is, seven))
  cause_door (wanting is) seven = absurd (omega (arith, is, seven))
  cause_door (door is why nb loaded) seven = why

  module _ (all : List ℕ) (told : holds service.file ≡ Some (Some all)) where
    pub cause_refused : IsRefused (read_of all) → Cause → (status ≡ 1) ⊎ (status ≡ 3) ⊎ (status ≡ 4) ⊎ (status ≡ 5)
    cause_refused never (done is nb loaded) = absurd (never nb (loaded_is holds service.file service.file all nb refl told loaded))
    cause_refused never (refused is bytes why read fails) = inl is
    cause_refused never (missing is why) = inr (inl is)
    cause_refused never (cut is why) = inr (inr (inl is))
    cause_refused never (wanting is) = inr (inr (inr is))
    cause_refused never (door is why nb loaded) = absurd (never nb (loaded_is holds service.file service.file all nb refl told loaded))

    module _ (nb : List Cell) (accepted : IsAccepted (read_of all) nb) where
      pub cause_accepted : Cause → (status ≡ 0) ⊎ (status ≡ 3) ⊎ (status ≡ 4) ⊎ (status ≡ 5) ⊎ (status ≡ 7)
      cause_accepted (done is other loaded) = inl is
      cause_accepted (refused is bytes why read fails) =
          absurd (none_refused bytes nb why (subst (λ bs. IsAccepted bs nb) (sym (read_is holds service.file service.file bytes all refl told read)) accepted) fails)
      cause_accepted (missing is why) = inr (inl is)
      cause_accepted (cut is why) = inr (inr (inl is))
      cause_accepted (wanting is) = inr (inr (inr (inl is)))
      cause_accepted (door is why other loaded) = inr (inr (inr (inr is)))

      same_served : (other : List Cell) (r : Report) → IsLoaded holds service.file other → IsServed other service stock stock_now failed r
          → IsServed nb service stock stock_now failed r
      same_served other r loaded is =
          let same = one_notebook (read_of all) other nb (loaded_is holds service.file service.file all other refl told loaded).form accepted.form in
          subst (λ cells. IsServed cells service stock stock_now failed r) same is

      all_sound : (r : Report) → (is : IsServed nb service stock stock_now failed r) → r.doors ≡ 0 → All (λ (d : Seen). d.faults ≡ 0) is.returned
      all_sound r is none = still_sound _ service.visitors is.doors is.returned r is.report none
          (All-weaker IsNewDoor (λ (d : Seen). d.faults ≡ 0) (λ d new. new.0) is.doors is.unused)

      pub serves_report : Serves → status ≡ 0
          → (r : Report) × (is : IsServed nb service stock stock_now failed r) × All (λ (d : Seen). d.faults ≡ 0) is.returned × (r.doors ≡ 0) × Took before now (report_line r)
      serves_report (serves.served other r loaded is ends) at_end =
          let whole = ended_whole ends at_end in
          let none = no_door_counted r whole.0 in
          let served = same_served other r loaded is in
          (r, served, all_sound r served none, none, whole.1)
      serves_report (serves.no_doors other loaded why stays ends) at_end = let whole = ended_whole ends at_end in absurd (omega (arith, whole.0))
      serves_report (serves.missed come text (serves.refused bytes why read fails one t) ends same) at_end =
          let whole = ended_whole ends at_end in absurd (omega (arith, one, whole.0))
      serves_report (serves.missed come text (serves.unread why three t) ends same) at_end =
          let whole = ended_whole ends at_end in absurd (omega (arith, three, whole.0))
      serves_report (serves.wanting five none stays) at_end = absurd (omega (arith, five, at_end))

      pub serves_fault : Serves → status ≡ 7 → ((r : Report) × IsServed nb service stock stock_now failed r × (0 < r.doors) × Took before now (report_line r))
          ⊎ (Stays stock stock_now × Took before now (codes "door fault\n"))
      serves_fault (serves.served other r loaded is ends) seven =
          let whole = written_at ends seven in inl (r, same_served other r loaded is, door_counted r whole.0, whole.1)
      serves_fault (serves.no_doors other loaded why stays ends) seven = inr (stays, (written_at ends seven).1)
      serves_fault (serves.missed come text (serves.refused bytes why read fails one t) ends same) seven =
          let whole = written_at ends seven in absurd (omega (arith, one, whole.0))
      serves_fault (serves.missed come text (serves.unread why three t) ends same) seven =
          let whole = written_at ends seven in absurd (omega (arith, three, whole.0))
      serves_fault (serves.wanting five none stays) seven = absurd (omega (arith, five, seven))
