-- Doors that are moved into workers and back, and the sum of the workers' reports.
use Rattle.std.proofs.Common.{◌≡◌, ◌∙◌, refl, sym, ap, subst, ℕ, ◌+◌, ◌*◌, ◌<◌, ◌≤◌, List, [], ◌∷◌, ◌++◌, append_assoc, append-nil, get_or, length, length-append, map, suc, take, arith}
use Rattle.std.proofs.Math.Seq.{get_or-append_seam}
use Rattle.std.proofs.lemmas.List.{length-map, map-append}
use Rattle.std.proofs.lemmas.List.Sums.{sum_by-append, sum_by-cons}
use Rattle.std.specs.Prelude.{All, sum_by}
use Rattle.link_io.specs.Porches.{Seen}
use Rattle.ws_server.specs.Reports.{IsBoth, IsBounded, IsNew, IsSum, IsWithin}
use Rattle.ws_server.specs.Shares.{AreServed, AreShares, Gone, IsShare}
use Rattle.ws_server.specs.Visitors.{Alone}
use Rattle.ws_server.specs.declared.report.Report.{Report}
use Rattle.ws_server.specs.declared.worker.Worker.{Worker}

-- ---- doors into workers

pub moved_more : {D : Type 0} (ws : List (Worker D)) (w : Worker D) (rest all olds : List D) → all ≡ w.door ∷ rest
    → map (λ (w : Worker D). w.door) ws ++ all ≡ olds → map (λ (w : Worker D). w.door) (ws ++ w ∷ []) ++ rest ≡ olds
moved_more {D = D} ws w rest all olds is so_far =
    ap (λ ds. ds ++ rest) (map-append (λ (w : Worker D). w.door) ws (w ∷ [])) ∙ append_assoc (map (λ (w : Worker D). w.door) ws) (w.door ∷ []) rest
    ∙ ap (λ ds. map (λ (w : Worker D). w.door) ws ++ ds) (sym is) ∙ so_far

-- an element of a list of which all are so
pub all_at : {D : Type 0} (P : D → Type 0) (front : List D) (x : D) (rest all olds : List D) → all ≡ x ∷ rest → front ++ all ≡ olds → All P olds → P x
all_at P front x rest all olds is whole every =
    let here : front ++ x ∷ rest ≡ olds = ap (λ ds. front ++ ds) (sym is) ∙ whole in
    let long : length (front ++ x ∷ rest) ≡ length front + length (x ∷ rest) = length-append front (x ∷ rest) in
    let one : length (x ∷ rest) ≡ length rest + 1 = omega arith in
    subst P (get_or-append_seam front x rest x) (subst (λ ds. All P ds) (sym here) every (length front) x (omega arith))

-- ---- shares of workers

abbrev pub Pend : {D : Type 0} → Alone → ℕ → (D → Seen) → List Seen → List (Worker D) → Type 0
Pend alone quota Q [] [] = Unit {0}
Pend alone quota Q [] (w ∷ ws) = ⊥
Pend alone quota Q (b ∷ bs) [] = ⊥
Pend alone quota Q (b ∷ bs) (w ∷ ws) = IsShare alone quota b (Q w.door) w.report × IsBounded w.report × Pend alone quota Q bs ws

pub pend_of : {D : Type 0} (alone : Alone) (quota : ℕ) (Q : D → Seen) (ws vs : List (Worker D)) → length vs ≡ length ws
    → ((i : ℕ) (d : Worker D) → i < length ws → IsShare alone quota (Q (get_or ws i d).door) (Q (get_or vs i d).door) (get_or vs i d).report × IsBounded (get_or vs i d).report)
    → Pend alone quota Q (map (λ (w : Worker D). Q w.door) ws) vs
pend_of alone quota Q [] [] same each = tt
pend_of alone quota Q [] (v ∷ vs) same each = absurd (omega (arith, same))
pend_of alone quota Q (w ∷ ws) [] same each = absurd (omega (arith, same))
pend_of alone quota Q (w ∷ ws) (v ∷ vs) same each =
    let first = each 0 w (omega arith) in
    (first.0, first.1, pend_of alone quota Q ws vs (omega (arith, same)) (λ i d lt. each (suc i) d (omega (arith, lt))))

-- some workers are done, and others are left
pub record IsGoing {D : Type 0} (alone : Alone) (quota : ℕ) (Q : D → Seen) (olds doors : List D) (rest : List (Worker D)) (r : Report) : Type 0 where
  pub gone : List Gone
  pub left : List Seen
  pub shares : AreShares alone quota gone
  pub pend : Pend alone quota Q left rest
  pub before_are : map (λ (g : Gone). g.before) gone ++ left ≡ map Q olds
  pub after_are : map (λ (g : Gone). g.after) gone ≡ map Q doors
  pub sum : IsSum (map (λ (g : Gone). g.report) gone) r
  pub within : IsWithin (length gone) r

shares_more : (alone : Alone) (quota : ℕ) (gs : List Gone) (g : Gone) → AreShares alone quota gs → IsShare alone quota g.before g.after g.report → AreShares alone quota (gs ++ g ∷ [])
shares_more alone quota [] g all s = (s, tt)
shares_more alone quota (f ∷ gs) g all s = (all.0, shares_more alone quota gs g all.1 s)

sum_more : (rs : List Report) (r s t : Report) → IsSum rs r → IsBoth r s t → IsSum (rs ++ s ∷ []) t
sum_more rs r s t sum both =
    let more : (f : Report → ℕ) → sum_by f (rs ++ s ∷ []) ≡ sum_by f rs + f s =
    λ f. sum_by-append f rs (s ∷ []) ∙ ap (λ n. sum_by f rs + n) (let e = sum_by-cons f s [] in omega arith) in
    record {
      visitors = let a = sum.visitors in let b = both.visitors in let l = more (λ (s : Report). s.visitors) in omega arith;
      closed = let a = sum.closed in let b = both.closed in let l = more (λ (s : Report). s.closed) in omega arith;
      links = let a = sum.links in let b = both.links in let l = more (λ (s : Report). s.links) in omega arith;
      many = let a = sum.many in let b = both.many in let l = more (λ (s : Report). s.many) in omega arith;
      memory = let a = sum.memory in let b = both.memory in let l = more (λ (s : Report). s.memory) in omega arith;
      doors = let a = sum.doors in let b = both.doors in let l = more (λ (s : Report). s.doors) in omega arith;
    }

within_more : (k : ℕ) (r s t : Report) → IsWithin k r → IsBounded s → IsBoth r s t → IsWithin (k + 1) t
within_more k r s t w b o =
    let step : (k + 1) * 4294967296 ≡ k * 4294967296 + 4294967296 = omega arith in
    record {
      visitors = let x = w.visitors in let y = b.visitors in let z = o.visitors in omega arith;
      closed = let x = w.closed in let y = b.closed in let z = o.closed in omega arith;
      links = let x = w.links in let y = b.links in let z = o.links in omega arith;
      many = let x = w.many in let y = b.many in let z = o.many in omega arith;
      memory = let x = w.memory in let y = b.memory in let z = o.memory in omega arith;
      doors = let x = w.doors in let y = b.doors in let z = o.doors in omega arith;
    }

pub record Next {D : Type 0} (alone : Alone) (quota : ℕ) (Q : D → Seen) (left : List Seen) (w : Worker D) (rest : List (Worker D)) : Type 0 where
  pub before : Seen
  pub others : List Seen
  pub are : left ≡ before ∷ others
  pub share : IsShare alone quota before (Q w.door) w.report
  pub bounded : IsBounded w.report
  pub pend : Pend alone quota Q others rest

next_here : {D : Type 0} (alone : Alone) (quota : ℕ) (Q : D → Seen) (left : List Seen) (w : Worker D) (rest : List (Worker D))
    → Pend alone quota Q left (w ∷ rest) → Next alone quota Q left w rest
next_here alone quota Q [] w rest p = absurd p
next_here alone quota Q (b ∷ bs) w rest p = record { before = b; others = bs; are = refl; share = p.0; bounded = p.1; pend = p.2 }

pub next_of : {D : Type 0} (alone : Alone) (quota : ℕ) (Q : D → Seen) (left : List Seen) (w : Worker D) (rest all : List (Worker D))
    → all ≡ w ∷ rest → Pend alone quota Q left all → Next alone quota Q left w rest
next_of alone quota Q left w rest all is p = next_here alone quota Q left w rest (subst (λ ws. Pend alone quota Q left ws) is p)

pub going_more : {D : Type 0} {alone : Alone} {quota : ℕ} {Q : D → Seen} {olds doors : List D} {all : List (Worker D)} {r : Report}
    → (w : Worker D) (rest : List (Worker D)) (after : List D) (t : Report) → IsGoing alone quota Q olds doors all r → all ≡ w ∷ rest → after ≡ doors ++ w.door ∷ []
    → IsBoth r w.report t → IsGoing alone quota Q olds after rest t
going_more {D = D} {alone = alone} {quota = quota} {Q = Q} {olds = olds} {doors = doors} {all = all} {r = r} w rest after t go is put both =
    let n = next_of alone quota Q go.left w rest all is go.pend in
    let g : Gone = record { before = n.before; after = Q w.door; report = w.report } in
    let long : length (go.gone ++ g ∷ []) ≡ length go.gone + 1 = length-append go.gone (g ∷ []) in
    record {
      gone = go.gone ++ g ∷ [];
      left = n.others;
      shares = shares_more alone quota go.gone g go.shares n.share;
      pend = n.pend;
      before_are = ap (λ bs. bs ++ n.others) (map-append (λ (g : Gone). g.before) go.gone (g ∷ [])) ∙ append_assoc (map (λ (g : Gone). g.before) go.gone) (n.before ∷ []) n.others
          ∙ ap (λ bs. map (λ (g : Gone). g.before) go.gone ++ bs) (sym n.are) ∙ go.before_are;
      after_are = map-append (λ (g : Gone). g.after) go.gone (g ∷ []) ∙ ap (λ bs. bs ++ Q w.door ∷ []) go.after_are
          ∙ sym (ap (map Q) put ∙ map-append Q doors (w.door ∷ []));
      sum = subst (λ rs. IsSum rs t) (sym (map-append (λ (g : Gone). g.report) go.gone (g ∷ []))) (sum_more (map (λ (g : Gone). g.report) go.gone) r w.report t go.sum both);
      within = subst (λ k. IsWithin k t) (sym long) (within_more (length go.gone) r w.report t go.within n.bounded both);
    }

none_left : {D : Type 0} (alone : Alone) (quota : ℕ) (Q : D → Seen) (left : List Seen) → Pend alone quota Q left [] → left ≡ []
none_left alone quota Q [] p = refl
none_left alone quota Q (b ∷ bs) p = absurd p

-- all are done
pub going_done : {D : Type 0} {alone : Alone} {quota : ℕ} {Q : D → Seen} {olds doors : List D} {all : List (Worker D)} {r : Report}
    → IsGoing alone quota Q olds doors all r → all ≡ [] → AreServed alone quota (map Q olds) (map Q doors) r
going_done {alone = alone} {quota = quota} {Q = Q} go is =
    let none : go.left ≡ [] = none_left alone quota Q go.left (subst (λ ws. Pend alone quota Q go.left ws) is go.pend) in
    record {
      gone = go.gone;
      shares = go.shares;
      before_are = sym (append-nil (map (λ (g : Gone). g.before) go.gone)) ∙ ap (λ bs. map (λ (g : Gone). g.before) go.gone ++ bs) (sym none) ∙ go.before_are;
      after_are = go.after_are;
      sum = go.sum;
    }

within_up : (k n : ℕ) (r : Report) → k ≤ n → IsWithin k r → IsWithin n r
within_up k n r up w =
    let step : k * 4294967296 ≤ n * 4294967296 = omega (arith, up) in
    record {
      visitors = let x = w.visitors in omega arith;
      closed = let x = w.closed in omega arith;
      links = let x = w.links in omega arith;
      many = let x = w.many in omega arith;
      memory = let x = w.memory in omega arith;
      doors = let x = w.doors in omega arith;
    }

pub going_within : {D : Type 0} {alone : Alone} {quota : ℕ} {Q : D → Seen} {olds doors : List D} {all : List (Worker D)} {r : Report}
    → (n : ℕ) → IsGoing alone quota Q olds doors all r → length doors ≤ n → IsWithin n r
going_within {Q = Q} {doors = doors} {r = r} n go few =
    let same : length (map (λ (g : Gone). g.after) go.gone) ≡ length (map Q doors) = ap (λ qs. length qs) go.after_are in
    let a : length (map (λ (g : Gone). g.after) go.gone) ≡ length go.gone = length-map go.gone (λ (g : Gone). g.after) in
    let b : length (map Q doors) ≡ length doors = length-map doors Q in
    within_up (length go.gone) n r (omega (arith, same, a, b, few)) go.within

map_door : {D : Type 0} (Q : D → Seen) (ws : List (Worker D)) → map (λ (w : Worker D). Q w.door) ws ≡ map Q (map (λ (w : Worker D). w.door) ws)
map_door Q [] = refl
map_door Q (w ∷ ws) = ap (λ qs. Q w.door ∷ qs) (map_door Q ws)

-- none is done yet
pub going_none : {D : Type 0} (alone : Alone) (quota : ℕ) (Q : D → Seen) (olds : List D) (ws vs : List (Worker D)) (r : Report)
    → map (λ (w : Worker D). w.door) ws ≡ olds → Pend alone quota Q (map (λ (w : Worker D). Q w.door) ws) vs → IsNew r → IsGoing alone quota Q olds [] vs r
going_none alone quota Q olds ws vs r are pend new = record {
  gone = [];
  left = map (λ w. Q w.door) ws;
  shares = tt;
  pend = pend;
  before_are = map_door Q ws ∙ ap (map Q) are;
  after_are = refl;
  sum = record { visitors = new.visitors; closed = new.closed; links = new.links; many = new.many; memory = new.memory; doors = new.doors };
  within = record {
    visitors = let x = new.visitors in omega arith;
    closed = let x = new.closed in omega arith;
    links = let x = new.links in omega arith;
    many = let x = new.many in omega arith;
    memory = let x = new.memory in omega arith;
    doors = let x = new.doors in omega arith;
  };
}

pub empty_of : {X : Type 0} (xs : List X) → length xs ≡ 0 → xs ≡ []
empty_of [] h = refl
empty_of (x ∷ xs) h = absurd (omega (arith, h))

pub take_own : {X : Type 0} (vs ys : List X) → take (length vs) (vs ++ ys) ≡ vs
take_own [] ys = refl
take_own (v ∷ vs) ys = ap (λ l. v ∷ l) (take_own vs ys)
