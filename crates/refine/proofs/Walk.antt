-- The wake walk and the ending of waits on cells are those of the state.
use mathlib.Core.Path.{◌≡◌, refl, ap, sym, ◌∙◌}
use mathlib.Core.Bool.{true, false, cond}
use mathlib.Core.List.{List, [], ◌∷◌, ◌++◌, append_assoc, append-nil}
use mathlib.Core.Option.{Option, none, some}
use mathlib.Core.Logic.{⊎_elim}
use Prim.Native.Nat.{ℕ, zero, suc, ◌+◌, ◌*◌, ◌≤◌, ◌<◌}
use native.Mathlib.Omega.{arith}
use lib.ListN.{length, get_or, length-append}
use lib.Dec.{ltb}
use borrow.Author.Tests.{lt-ltb}
use Rattle.model.specs.Basics.{overwrite}
use Rattle.model.specs.Calls.{end_each}
use Rattle.model.specs.Layout.{encode}
use Rattle.model.specs.Sizes.{wait_places, wake_length}
use Rattle.model.specs.Steps.{records}
use Rattle.model.specs.Waits.{Wait, free, waiting, State, with_objects, with_waits, Grant, attempt, acquire_each}
use Rattle.model.specs.Waits.{served_answer, dequeue, oldest, concerned_by, Report, Woken, none_woken, and_then, serve}
use Rattle.model.specs.Waits.{try_to_serve, walk_queue, wake_by_walk}
use Rattle.model.proofs.Waking.{visit}
use Rattle.model.proofs.Logic.{by_bool, by_option, differ}
use Rattle.model.proofs.Rules.{due}
use Rattle.model.proofs.Reports.{records_length}
use Rattle.model.proofs.Valid.{Valid, valid_dequeue, valid_take}
use Rattle.model.proofs.Cells.{at_in, overwrite_more, Holds, holds}
use Rattle.cells.specs.Walk.{Walked, walked, report, Concern, settle, visit_cells, walk_cells, wake_cells, due_at, end_cells}
use Rattle.cells.specs.Waits.{ticket_at, names_at, lowest, next_wait, put_record}
use Rattle.refine.proofs.Attempt.{try_at_lem}
use Rattle.refine.proofs.Waits.{ticket_at_lem, names_at_lem, clear_wait_lem, tells_due, Found, lowest_is, next_is}

-- the wake list with these reports in its front
abbrev pub filled : List Report → List ℕ → List ℕ
filled rs wake = overwrite (records rs) wake

records_more : (rs : List Report) (r : Report) → records (rs ++ (r ∷ [])) ≡ records rs ++ (r.ticket ∷ r.answer ∷ r.index ∷ [])
unfolding records
records_more [] r = refl
records_more (x ∷ rs) r = ap (λ (l : List ℕ). x.ticket ∷ x.answer ∷ x.index ∷ l) (records_more rs r)

pub put_record_lem : (rs : List Report) (r : Report) (wake : List ℕ)
    → put_record (filled rs wake) (length rs) r.ticket r.answer r.index ≡ filled (rs ++ (r ∷ [])) wake
unfolding put_record
put_record_lem rs r wake =
    let n : 3 * length rs ≡ length (records rs) = sym (records_length rs) in
    let e1 : length (records rs) + 1 ≡ suc (length (records rs)) = omega arith in
    let e2 : length (records rs) + 2 ≡ suc (suc (length (records rs))) = omega arith in
    rw (n, e1, e2, records_more rs r) (overwrite_more (records rs) wake (r.ticket ∷ r.answer ∷ r.index ∷ []))

-- a walk that has written the reports rs and stands at s; what it leaves, by what waking leaves
abbrev pub standing : List Report → List ℕ → State → Walked
standing rs wake s = walked (length rs) (encode s) (filled rs wake)

abbrev pub leaving : List Report → List ℕ → Woken → Walked
leaving rs wake v = standing (rs ++ v.reports) wake v.state

leaving_none : (rs : List Report) (wake : List ℕ) (s : State) → standing rs wake s ≡ leaving rs wake (none_woken s)
leaving_none rs wake s = rw (append-nil rs)

leaving_more : (rs : List Report) (r : Report) (wake : List ℕ) (v : Woken) → leaving (rs ++ (r ∷ [])) wake v ≡ leaving rs wake (record { reports = r ∷ v.reports; state = v.state })
leaving_more rs r wake v = rw (append_assoc rs (r ∷ []) v.reports)

-- one wait leaves and is reported
report_is : (s s' : State) (p : ℕ) (w : Wait) (answer index : ℕ) → Valid s → Valid s' → s'.waits ≡ s.waits → p < wait_places → get_or s.waits p free ≡ waiting w
    → (rs : List Report) (wake : List ℕ) → 3 * (length rs + 1) ≤ length wake
    → report p answer index (encode s') (standing rs wake s) ≡ standing (rs ++ (record { ticket = w.ticket; answer = answer; index = index } ∷ [])) wake (with_waits s' (dequeue w.ticket s.waits))
unfolding report
report_is s s' p w answer index g g' q l e rs wake b =
    let r : Report = record { ticket = w.ticket; answer = answer; index = index } in
    let n : length (rs ++ (r ∷ [])) ≡ length rs + 1 = length-append rs (r ∷ []) in
    let e' : get_or s'.waits p free ≡ waiting w = rw q e in
    rw (ticket_at_lem s p w (holds s p w g l e), put_record_lem rs r wake, clear_wait_lem s' p w (holds s' p w g' l e') g'.distinct, q, n)

-- a visit
module _ (C : Concern) (changed : List ℕ) (tells : (s : State) (p : ℕ) (w : Wait) → Valid s → Holds s p w → C (encode s) p ≡ concerned_by changed w) where
  visits : Wait → State → Option Grant
  visits w s = cond (concerned_by changed w) (attempt s.objects w) none

  visit_none : (s : State) (p : ℕ) (w : Wait) → Valid s → p < wait_places → get_or s.waits p free ≡ waiting w → (rs : List Report) (wake : List ℕ) → visits w s ≡ none
      → (visit_cells C p (standing rs wake s) ≡ standing rs wake s) × (visit changed w s ≡ none_woken s)
  unfolding visit_cells settle visits try_to_serve
  visit_none s p w g l e rs wake n = by_bool (concerned_by changed w)
      (λ y. let a : attempt s.objects w ≡ none = rw y at n in (rw (tells s p w g (holds s p w g l e), y, try_at_lem s p w g l e, a), rw (y, a)))
      (λ f. (rw (tells s p w g (holds s p w g l e), f), rw f))

  visit_some : (s : State) (p : ℕ) (w : Wait) (t : Grant) → Valid s → p < wait_places → get_or s.waits p free ≡ waiting w → (rs : List Report) (wake : List ℕ)
      → 3 * (length rs + 1) ≤ length wake → visits w s ≡ some t
      → (visit_cells C p (standing rs wake s) ≡ leaving rs wake (serve w t s)) × (visit changed w s ≡ serve w t s)
  unfolding visit_cells settle visits try_to_serve serve
  visit_some s p w t g l e rs wake b n = by_bool (concerned_by changed w)
      (λ y. let a : attempt s.objects w ≡ some t = rw y at n in
      let s' : State = with_objects s (acquire_each w.owner s.objects t.handles) in
      let g' : Valid s' = valid_take s w t g (g.waits w (at_in s.waits p w e)) a in
      (rw (tells s p w g (holds s p w g l e), y, try_at_lem s p w g l e, a) (report_is s s' p w (served_answer s.objects t) t.index g g' refl l e rs wake b), rw (y, a)))
      (λ f. differ (let q : none ≡ some t = rw f at n in cc))

  visit_valid : (s : State) (p : ℕ) (w : Wait) (t : Grant) → Valid s → get_or s.waits p free ≡ waiting w → visits w s ≡ some t → Valid (serve w t s).state
  unfolding visits serve
  visit_valid s p w t g e n = by_bool (concerned_by changed w)
      (λ y. valid_dequeue (with_objects s (acquire_each w.owner s.objects t.handles)) w.ticket (valid_take s w t g (g.waits w (at_in s.waits p w e)) (rw y at n)))
      (λ f. differ (let q : none ≡ some t = rw f at n in cc))

  abbrev WalkIs : ℕ → Type 0
  WalkIs n = (last : ℕ) (s : State) → Valid s → (rs : List Report) (wake : List ℕ) → 3 * (length rs + n) ≤ length wake
      → walk_cells n C last (standing rs wake s) ≡ leaving rs wake (walk_queue n changed last s)

  served_on : (n : ℕ) → WalkIs n → (s : State) (w : Wait) (t : Grant) → Valid (serve w t s).state → (rs : List Report) (wake : List ℕ) → 3 * (length rs + suc n) ≤ length wake
      → walk_cells n C w.ticket (leaving rs wake (serve w t s)) ≡ leaving rs wake (and_then (serve w t s) (λ s'. walk_queue n changed w.ticket s'))
  unfolding serve
  served_on n ih s w t g rs wake b =
      let r : Report = record { ticket = w.ticket; answer = served_answer s.objects t; index = t.index } in
      let s' : State = with_waits (with_objects s (acquire_each w.owner s.objects t.handles)) (dequeue w.ticket s.waits) in
      let m : length (rs ++ (r ∷ [])) ≡ length rs + 1 = length-append rs (r ∷ []) in
      ih w.ticket s' g (rs ++ (r ∷ [])) wake (omega arith) ∙ leaving_more rs r wake (walk_queue n changed w.ticket s')

  walk_step : (n : ℕ) → WalkIs n → WalkIs (suc n)
  unfolding walk_cells walk_queue
  walk_step n ih last s g rs wake b = ⊎_elim
      (λ (q : (ltb (next_wait (encode s) last) wait_places ≡ false) × (oldest (λ v. ltb last v.ticket) s.waits ≡ none)). let q0 = q.0 in let q1 = q.1 in rw (q0, q1) (leaving_none rs wake s))
      (λ (f : Found s (λ v. ltb last v.ticket) (next_wait (encode s) last)).
      let p : ℕ = next_wait (encode s) last in let w : Wait = f.wait in let k : oldest (λ v. ltb last v.ticket) s.waits ≡ some w = f.picked in
      let y : ltb p wait_places ≡ true = lt-ltb p wait_places f.low in let tk : ticket_at (encode s) p ≡ w.ticket = ticket_at_lem s p w (holds s p w g f.low f.here) in
      by_option (visits w s)
      (λ x. let v = visit_none s p w g f.low f.here rs wake x in let v0 = v.0 in let v1 = v.1 in rw (y, k, tk, v0, v1) (ih w.ticket s g rs wake (omega arith)))
      (λ t x. let v = visit_some s p w t g f.low f.here rs wake (omega arith) x in let v0 = v.0 in let v1 = v.1 in
      rw (y, k, tk, v0, v1) (served_on n ih s w t (visit_valid s p w t g f.here x) rs wake b)))
      (next_is s last g)

  -- THE WALK
  pub walk_is : (n : ℕ) → WalkIs n
  unfolding walk_cells walk_queue
  walk_is zero last s g rs wake b = leaving_none rs wake s
  walk_is (suc n) last s g rs wake b = walk_step n (walk_is n) last s g rs wake b

-- the walk of a call
pub wake_is : (s : State) (h : ℕ) (wake : List ℕ) → Valid s → wake_length ≤ length wake → wake_cells (encode s) h wake ≡ leaving [] wake (wake_by_walk (h ∷ []) s)
unfolding wake_cells records
wake_is s h wake g l = let q = g.slots in rw q (walk_is (λ u p. names_at u h p) (h ∷ []) (λ s p w g st. names_at_lem s p w st g.slots h) wait_places 0 s g [] wake l)

-- ENDING
abbrev EndIs : ℕ → Type 0
EndIs n = (clock time : ℕ) (s : State) → Valid s → (rs : List Report) (wake : List ℕ) → 3 * (length rs + n) ≤ length wake
    → end_cells n clock time (standing rs wake s) ≡ leaving rs wake (end_each n (due clock time) s)

end_step : (n : ℕ) → EndIs n → EndIs (suc n)
unfolding end_cells end_each
end_step n ih clock time s g rs wake b = ⊎_elim
    (λ (q : (ltb (lowest (encode s) (due_at (encode s) clock time)) wait_places ≡ false) × (oldest (due clock time) s.waits ≡ none)). let q0 = q.0 in let q1 = q.1 in rw (q0, q1) (leaving_none rs wake s))
    (λ (f : Found s (due clock time) (lowest (encode s) (due_at (encode s) clock time))).
    let p : ℕ = lowest (encode s) (due_at (encode s) clock time) in let w : Wait = f.wait in let k : oldest (due clock time) s.waits ≡ some w = f.picked in
    let y : ltb p wait_places ≡ true = lt-ltb p wait_places f.low in
    let r : Report = record { ticket = w.ticket; answer = 5; index = 0 } in
    let m : length (rs ++ (r ∷ [])) ≡ length rs + 1 = length-append rs (r ∷ []) in
    let s' : State = with_waits s (dequeue w.ticket s.waits) in
    rw (y, k, report_is s s p w 5 0 g g refl f.low f.here rs wake (omega arith))
    (ih clock time s' (valid_dequeue s w.ticket g) (rs ++ (r ∷ [])) wake (omega arith) ∙ leaving_more rs r wake (end_each n (due clock time) s')))
    (lowest_is s (due clock time) (due_at (encode s) clock time) g (tells_due s g clock time))

pub end_is : (n : ℕ) → EndIs n
unfolding end_cells end_each
end_is zero clock time s g rs wake b = leaving_none rs wake s
end_is (suc n) clock time s g rs wake b = end_step n (end_is n) clock time s g rs wake b
