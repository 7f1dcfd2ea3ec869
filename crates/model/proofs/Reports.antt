-- The reports of a call: waits of the queue, one after another by ticket, each served or ended as its report says; a wait for
-- all takes every object or none; only queuing spends a ticket.
use mathlib.Core.Path.{◌≡◌, refl, ap, sym, ◌∙◌, subst}
use mathlib.Core.Bool.{Bool, true, false}
use mathlib.Core.List.{List, [], ◌∷◌, ◌++◌, append-nil, map}
use mathlib.Core.Option.{none, some}
use mathlib.Core.Logic.{◌⊎◌, inl, inr, ⊎_elim}
use Prim.Native.Nat.{ℕ, zero, suc, ◌*◌, ◌≤◌, ◌<◌}
use native.Mathlib.Omega.{arith}
use lib.ListN.{length}
use lib.Seq.{get_or-set_same}
use lib.Dec.{eqb, ltb}
use borrow.Author.Tests.{ltb-true, ltb-false, eqb-true, eqb-false, not-true}
use Rattle.model.specs.Basics.{any_of, member, has_repeat, All}
use Rattle.model.specs.Objects.{is_event, Object, empty, semaphore, mutex, event, occupied, signaled, acquired}
use Rattle.model.specs.Objects.{cleared}
use Rattle.model.specs.Waits.{all, Wait, WaitPlace, State, with_waits, object_at, put_at, Grant, all_signaled, look}
use Rattle.model.specs.Waits.{attempt, acquire_each, any_abandoned, served_answer, dequeue, oldest, concerned_by}
use Rattle.model.specs.Waits.{Report, serve, try_to_serve, walk_queue, wake_by_walk}
use Rattle.model.specs.Calls.{signal_rule, pulse_event}
use Rattle.model.specs.Calls.{Lent, asks, Operation, create, close, reset_event, read, signal, wait, expire}
use Rattle.model.specs.Calls.{cancel, snapshot, Call, least, refusals, time_up, new_wait, list_too_short, repeats}
use Rattle.model.specs.Calls.{wait_faults, end_each, Change, change, admits}
use Rattle.model.specs.Steps.{Outcome, conditions, first_refusal, records, library_step}
use Rattle.model.specs.Notions.{◌is_in◌, refusal_numbers, Rising, Served, Ended, OneByOne, Took, ServedNumber}
use Rattle.model.specs.Notions.{AllOrNone}
use Rattle.model.proofs.Logic.{by_bool, by_option, clash, differ, or_left, or_right, or_split, eqb_same, passed}
use Rattle.model.proofs.Logic.{fault_free}
use Rattle.model.proofs.Queue.{Oldest, oldest_some, dequeue_in}
use Rattle.model.proofs.Waking.{after, walk_keeps, walk_nothing}
use Rattle.model.proofs.Rules.{Accepted, due, perform_case}
use Rattle.model.proofs.Acquiring.{at_put_other, acquire_at, acquire_each_occupied, attempt_signaled}
use Rattle.model.proofs.History.{end_each_objects}
use Rattle.model.proofs.Frame.{all_map, clears_none, admits_quietly, change_queue}
use Rattle.model.proofs.Answers.{refused_numbered, refused_not, refusal_never}
use Rattle.model.proofs.Valid.{Valid, in_places, still_acquire_each, event_occupied}

-- THE WAKE LIST HAS ROOM: each visit reports one wait at most
pub walk_few : (n : ℕ) (changed : List ℕ) (last : ℕ) (s : State) → length (walk_queue n changed last s).reports ≤ n
unfolding walk_queue try_to_serve serve
walk_few zero changed last s = omega arith
walk_few (suc n) changed last s = by_option (oldest (λ w. ltb last w.ticket) s.waits) (λ e. rw e (omega arith))
    (λ w e. by_bool (concerned_by changed w)
    (λ y. by_option (attempt s.objects w) (λ a. rw (e, y, a) (let ih = walk_few n changed w.ticket s in omega arith))
    (λ t a. rw (e, y, a) (let ih = walk_few n changed w.ticket (after w t s) in omega arith)))
    (λ f. rw (e, f) (let ih = walk_few n changed w.ticket s in omega arith)))

end_each_few : (n : ℕ) (f : Wait → Bool) (s : State) → length (end_each n f s).reports ≤ n
unfolding end_each
end_each_few zero f s = omega arith
end_each_few (suc n) f s = by_option (oldest f s.waits) (λ e. rw e (omega arith))
    (λ w e. rw e (let ih = end_each_few n f (with_waits s (dequeue w.ticket s.waits)) in omega arith))

-- TICKETS RISE
rising_from : (a b : ℕ) (rs : List Report) → a ≤ b → Rising b rs → Rising a rs
rising_from a b [] l r = tt
rising_from a b (x ∷ rs) l r = let h : b < x.ticket = r.0 in (omega arith, r.1)

walk_rises : (n : ℕ) (changed : List ℕ) (last : ℕ) (s : State) → Rising last (walk_queue n changed last s).reports
unfolding walk_queue try_to_serve serve
walk_rises zero changed last s = tt
walk_rises (suc n) changed last s = by_option (oldest (λ w. ltb last w.ticket) s.waits) (λ e. rw e tt)
    (λ w e. let h : last < w.ticket = ltb-true last w.ticket (oldest_some (λ w. ltb last w.ticket) s.waits w e).passes in
    let on : (u : State) → Rising last (walk_queue n changed w.ticket u).reports = λ u. rising_from last w.ticket (walk_queue n changed w.ticket u).reports (omega arith) (walk_rises n changed w.ticket u) in
    by_bool (concerned_by changed w)
    (λ y. by_option (attempt s.objects w) (λ a. rw (e, y, a) (on s)) (λ t a. rw (e, y, a) (h, walk_rises n changed w.ticket (after w t s))))
    (λ f. rw (e, f) (on s)))

-- every wait that passes the test has a ticket above `last`
abbrev Above : ℕ → (Wait → Bool) → List WaitPlace → Type 0
Above last f ws = (w : Wait) → w is_in ws → f w ≡ true → last < w.ticket

end_each_rises : (n : ℕ) (f : Wait → Bool) (last : ℕ) (s : State) → Above last f s.waits → Rising last (end_each n f s).reports
unfolding end_each
end_each_rises zero f last s a = tt
end_each_rises (suc n) f last s a = by_option (oldest f s.waits) (λ e. rw e tt)
    (λ w e. let q : Oldest f s.waits w = oldest_some f s.waits w e in rw e (
      a w q.stands q.passes,
      end_each_rises n f w.ticket (with_waits s (dequeue w.ticket s.waits))
          (λ v m t. let k = dequeue_in w.ticket s.waits v m in let l : w.ticket ≤ v.ticket = q.lowest v k.0 t in let d : v.ticket ≡ w.ticket → ⊥ = k.1 in omega (arith, d)),
    ))

abbrev tickets_of : List Report → List ℕ
tickets_of rs = map (λ r. r.ticket) rs

rising_above : (last : ℕ) (rs : List Report) (t : ℕ) → Rising last rs → member t (tickets_of rs) ≡ true → last < t
unfolding member
rising_above last [] t r m = clash m refl
rising_above last (x ∷ rs) t r m = let h : last < x.ticket = r.0 in by_bool (eqb t x.ticket) (λ y. let e : t ≡ x.ticket = eqb-true t x.ticket y in omega arith)
    (λ n. let l : x.ticket < t = rising_above x.ticket rs t r.1 (rw n at m) in omega arith)

pub rising_once : (last : ℕ) (rs : List Report) → Rising last rs → has_repeat (tickets_of rs) ≡ false
unfolding has_repeat
rising_once last [] r = refl
rising_once last (x ∷ rs) r = by_bool (member x.ticket (tickets_of rs))
    (λ m. absurd (let l : x.ticket < x.ticket = rising_above x.ticket rs x.ticket r.1 m in let z : ⊥ = omega arith in z))
    (λ n. rw n (rising_once x.ticket rs r.1))

-- WAITS OF THE QUEUE BEFORE, AND OF NONE AFTER
abbrev pub Gone : List WaitPlace → ℕ → Type 0
Gone ws t = (v : Wait) → v is_in ws → v.ticket ≡ t → ⊥

abbrev pub Was : List WaitPlace → ℕ → Type 0
Was ws t = (w : Wait) × (w is_in ws) × (w.ticket ≡ t)

-- each reported ticket was in the one queue, and is in the other no more
abbrev pub Left : List WaitPlace → List WaitPlace → List Report → Type 0
Left before end rs = All (λ r. Was before r.ticket × Gone end r.ticket) rs

was_within : (ws vs : List WaitPlace) (end : List WaitPlace) (rs : List Report) → ((w : Wait) → w is_in vs → w is_in ws) → Left vs end rs → Left ws end rs
was_within ws vs end rs within a = all_map _ _ (λ r k. let (w, m, e) = k.0 in ((w, within w m, e), k.1)) rs a

dequeue_within : (t : ℕ) (ws : List WaitPlace) (w : Wait) → w is_in dequeue t ws → w is_in ws
dequeue_within t ws w m = (dequeue_in t ws w m).0

dequeue_gone : (t : ℕ) (ws : List WaitPlace) → Gone (dequeue t ws) t
dequeue_gone t ws v m e = (dequeue_in t ws v m).1 e

walk_gone : (t n : ℕ) (changed : List ℕ) (last : ℕ) (s : State) → Gone s.waits t → Gone (walk_queue n changed last s).state.waits t
walk_gone t n changed last s g = walk_keeps (λ s. Gone s.waits t) (λ s w u m a k v i. k v (dequeue_within w.ticket s.waits v i)) n changed last s g

walk_left : (n : ℕ) (changed : List ℕ) (last : ℕ) (s : State) → Left s.waits (walk_queue n changed last s).state.waits (walk_queue n changed last s).reports
unfolding walk_queue try_to_serve serve
walk_left zero changed last s = tt
walk_left (suc n) changed last s = by_option (oldest (λ w. ltb last w.ticket) s.waits) (λ e. rw e tt)
    (λ w e. let m : w is_in s.waits = (oldest_some (λ w. ltb last w.ticket) s.waits w e).stands in by_bool (concerned_by changed w)
    (λ y. by_option (attempt s.objects w) (λ a. rw (e, y, a) (walk_left n changed w.ticket s))
    (λ t a. let u : State = after w t s in rw (e, y, a) (
      ((w, m, refl), walk_gone w.ticket n changed w.ticket u (dequeue_gone w.ticket s.waits)),
      was_within s.waits u.waits (walk_queue n changed w.ticket u).state.waits (walk_queue n changed w.ticket u).reports (dequeue_within w.ticket s.waits) (walk_left n changed w.ticket u),
    )))
    (λ f. rw (e, f) (walk_left n changed w.ticket s)))

end_each_gone : (t n : ℕ) (f : Wait → Bool) (s : State) → Gone s.waits t → Gone (end_each n f s).state.waits t
unfolding end_each
end_each_gone t zero f s g = g
end_each_gone t (suc n) f s g = by_option (oldest f s.waits) (λ e. rw e g)
    (λ w e. rw e (end_each_gone t n f (with_waits s (dequeue w.ticket s.waits)) (λ v i. g v (dequeue_within w.ticket s.waits v i))))

end_each_left : (n : ℕ) (f : Wait → Bool) (s : State) → Left s.waits (end_each n f s).state.waits (end_each n f s).reports
unfolding end_each
end_each_left zero f s = tt
end_each_left (suc n) f s = by_option (oldest f s.waits) (λ e. rw e tt)
    (λ w e. let u : State = with_waits s (dequeue w.ticket s.waits) in rw e (
      ((w, (oldest_some f s.waits w e).stands, refl), end_each_gone w.ticket n f u (dequeue_gone w.ticket s.waits)),
      was_within s.waits u.waits (end_each n f u).state.waits (end_each n f u).reports (dequeue_within w.ticket s.waits) (end_each_left n f u),
    ))

-- ONE BY ONE
abbrev pub Told : Wait → Report → List Object → List Object → Type 0
Told w r os next = Served w r os next ⊎ Ended w r os next

-- within a larger queue, and by what follows for its waits
pub one_by_one : (P Q : Wait → Report → List Object → List Object → Type 0) (vs ws : List WaitPlace) → ((w : Wait) → w is_in vs → w is_in ws)
    → ((w : Wait) (r : Report) (os next : List Object) → w is_in ws → P w r os next → Q w r os next)
    → (rs : List Report) (os end : List Object) → OneByOne P vs rs os end → OneByOne Q ws rs os end
one_by_one P Q vs ws within f [] os end a = a
one_by_one P Q vs ws within f (r ∷ rs) os end a = let (w, m, e, next, p, q) = a in
    (w, within w m, e, next, f w r os next (within w m) p, one_by_one P Q vs ws within f rs next end q)

walk_told : (n : ℕ) (changed : List ℕ) (last : ℕ) (s : State) → OneByOne Told s.waits (walk_queue n changed last s).reports s.objects (walk_queue n changed last s).state.objects
unfolding walk_queue try_to_serve serve
walk_told zero changed last s = refl
walk_told (suc n) changed last s = by_option (oldest (λ w. ltb last w.ticket) s.waits) (λ e. rw e refl)
    (λ w e. let m : w is_in s.waits = (oldest_some (λ w. ltb last w.ticket) s.waits w e).stands in by_bool (concerned_by changed w)
    (λ y. by_option (attempt s.objects w) (λ a. rw (e, y, a) (walk_told n changed w.ticket s))
    (λ t a. let u : State = after w t s in rw (e, y, a) (
      w,
      m,
      refl,
      u.objects,
      inl (t, a, refl, refl, refl),
      one_by_one Told Told u.waits s.waits (dequeue_within w.ticket s.waits) (λ v r os next i p. p) (walk_queue n changed w.ticket u).reports u.objects (walk_queue n changed w.ticket u).state.objects
          (walk_told n changed w.ticket u),
    )))
    (λ f. rw (e, f) (walk_told n changed w.ticket s)))

end_each_told : (n : ℕ) (f : Wait → Bool) (s : State) → OneByOne Told s.waits (end_each n f s).reports s.objects s.objects
unfolding end_each
end_each_told zero f s = refl
end_each_told (suc n) f s = by_option (oldest f s.waits) (λ e. rw e refl)
    (λ w e. let u : State = with_waits s (dequeue w.ticket s.waits) in rw e (
      w,
      (oldest_some f s.waits w e).stands,
      refl,
      s.objects,
      inr (refl, refl, refl),
      one_by_one Told Told u.waits s.waits (dequeue_within w.ticket s.waits) (λ v r os next i p. p) (end_each n f u).reports s.objects s.objects (end_each_told n f u),
    ))

-- A CALL'S REPORTS, its own and those of its walk
record Reported (ws end : List WaitPlace) (rs : List Report) (os next : List Object) : Type 0 where
  few : length rs ≤ length ws
  rises : Rising 0 rs
  left : Left ws end rs
  told : OneByOne Told ws rs os next

silent : (ws end : List WaitPlace) (os : List Object) → Reported ws end [] os os
silent ws end os = record { few = omega arith; rises = tt; left = tt; told = refl }

pub admits_silent : (w : Wait) (time : ℕ) (s : State) → (admits w time s).reports ≡ []
unfolding admits
admits_silent w time s = by_option (attempt s.objects w) (λ e. rw e (by_bool (time_up w.timeout time) (λ u. rw u) (λ u. rw u))) (λ t e. rw e)

own_reports : (op : Operation) (s : State) → Valid s → Reported s.waits (change op s).state.waits (change op s).reports (change op s).state.objects (change op s).state.objects
unfolding change
own_reports (create k x y) s g = silent _ _ _
own_reports (close h) s g = silent _ _ _
own_reports (reset_event h) s g = silent _ _ _
own_reports (read k h) s g = silent _ _ _
own_reports (signal how h) s g = silent _ _ _
own_reports (wait mode hs o f p a t now) s g = rw (admits_silent (new_wait mode hs o f a t s.next) now s) (silent _ _ _)
own_reports (expire c t) s g = let n : ℕ = length s.waits in rw (end_each_objects n (due c t) s) record {
  few = end_each_few n (due c t) s;
  rises = end_each_rises n (due c t) 0 s (λ w m e. (g.tickets w m).0);
  left = end_each_left n (due c t) s;
  told = end_each_told n (due c t) s;
}
own_reports (cancel t) s g = silent _ _ _
own_reports snapshot s g = silent _ _ _

walk_reports : (changed : List ℕ) (s : State)
    → Reported s.waits (wake_by_walk changed s).state.waits (wake_by_walk changed s).reports s.objects (wake_by_walk changed s).state.objects
walk_reports changed s = let n : ℕ = length s.waits in
    record { few = walk_few n changed 0 s; rises = walk_rises n changed 0 s; left = walk_left n changed 0 s; told = walk_told n changed 0 s }

call_reports : (op : Operation) (s : State) → Valid s → let d = change op s in let v = wake_by_walk d.changed d.state in
    Reported s.waits v.state.waits (d.reports ++ v.reports) d.state.objects v.state.objects
call_reports op s g = let d : Change = change op s in ⊎_elim
    (λ (e : d.changed ≡ []). rw (e, walk_nothing (length d.state.waits) 0 d.state, append-nil d.reports) (own_reports op s g))
    (λ (q : (d.state.waits ≡ s.waits) × (d.reports ≡ [])). let z = q.1 in
    rw z (subst (λ (ws : List WaitPlace). let v = wake_by_walk d.changed d.state in Reported ws v.state.waits v.reports d.state.objects v.state.objects) q.0 (walk_reports d.changed d.state)))
    (change_queue op s)

-- EVERY CALL on states
pub records_length : (rs : List Report) → length (records rs) ≡ 3 * length rs
unfolding records
records_length [] = refl
records_length (r ∷ rs) = let ih = records_length rs in omega arith

-- calls without a wake list report nothing
room : (op : Operation) (s : State) → Valid s → let d = change op s in 3 * length (d.reports ++ (wake_by_walk d.changed d.state).reports) ≤ (least op).0
unfolding least change
room (create k x y) s g = rw (walk_nothing (length s.waits) 0 _) (omega arith)
room (close h) s g = rw (walk_nothing (length s.waits) 0 _) (omega arith)
room (reset_event h) s g = rw (walk_nothing (length s.waits) 0 _) (omega arith)
room (read k h) s g = rw (walk_nothing (length s.waits) 0 _) (omega arith)
room (signal how h) s g = let r = (call_reports (signal how h) s g).few in let q = g.slots in omega arith
room (wait mode hs o f p a t now) s g = let w : Wait = new_wait mode hs o f a t s.next in let d : Change = admits w now s in
    rw (admits_silent w now s, admits_quietly w now s, walk_nothing (length d.state.waits) 0 d.state) (omega arith)
room (expire c t) s g = let r = (call_reports (expire c t) s g).few in let q = g.slots in omega arith
room (cancel t) s g = rw (walk_nothing _ 0 _) (omega arith)
room snapshot s g = rw (walk_nothing (length s.waits) 0 _) (omega arith)

pub step_room : (s : State) (c : Call) → Valid s → length (records (library_step s c).reports) ≤ length c.lent.wake
unfolding library_step records
step_room s c g = perform_case wake_by_walk s c (λ o. length (records o.reports) ≤ length c.lent.wake) (λ n e. omega arith)
    (λ a. let d : Change = change c.operation s in let rs : List Report = d.reports ++ (wake_by_walk d.changed d.state).reports in
    let l : (least c.operation).0 ≤ length c.lent.wake = ltb-false _ _ (or_split _ _ a.0).0 in
    let k : 3 * length rs ≤ (least c.operation).0 = room c.operation s g in let n = records_length rs in omega arith)

-- what holds of the reports of a call that is not refused, and of no reports, holds of every call's
step_reports : (s : State) (c : Call) → Valid s → (P : List WaitPlace → List Report → Type 0) → ((end : List WaitPlace) → P end [])
    → ((end : List WaitPlace) (rs : List Report) (os next : List Object) → Reported s.waits end rs os next → P end rs) → P (library_step s c).held.waits (library_step s c).reports
unfolding library_step
step_reports s c g P silence sound = perform_case wake_by_walk s c (λ o. P o.held.waits o.reports) (λ n e. silence s.waits) (λ a. sound _ _ _ _ (call_reports c.operation s g))

pub step_left : (s : State) (c : Call) → Valid s → Left s.waits (library_step s c).held.waits (library_step s c).reports
step_left s c g = step_reports s c g (λ end rs. Left s.waits end rs) (λ end. tt) (λ end rs os next r. r.left)

pub step_rises : (s : State) (c : Call) → Valid s → Rising 0 (library_step s c).reports
step_rises s c g = step_reports s c g (λ end rs. Rising 0 rs) (λ end. tt) (λ end rs os next r. r.rises)

-- from the change to the clearing, one by one
abbrev pub ByReports : (Wait → Report → List Object → List Object → Type 0) → State → Change → List Report → List Object → Type 0
ByReports P s d rs held = (last : List Object) × OneByOne P s.waits rs d.state.objects last × (held ≡ put_at last d.clears (cleared (object_at last d.clears)))

pub step_told : (s : State) (c : Call) → Valid s → first_refusal (conditions c s) ≡ none
    → ByReports Told s (change c.operation s) (library_step s c).reports (library_step s c).held.objects
unfolding library_step
step_told s c g e = let d : Change = change c.operation s in rw e ((wake_by_walk d.changed d.state).state.objects, (call_reports c.operation s g).told, refl)

-- ALL OR NONE
signaled_there : (o : ℕ) (x : Object) → signaled o x ≡ true → occupied x ≡ true
signaled_there o empty e = clash e refl
signaled_there o (semaphore c m) e = refl
signaled_there o (mutex w c a) e = refl
signaled_there o (event v m) e = refl

at_put_same : (os : List Object) (h : ℕ) (x : Object) → occupied (object_at os h) ≡ true → object_at (put_at os h x) h ≡ x
at_put_same os zero x e = clash e refl
at_put_same os (suc i) x e = get_or-set_same os i x empty (let r : suc i ≤ length os = (in_places os (suc i) e).1 in omega arith)

acquire_each_took : (o : ℕ) (os : List Object) (hs : List ℕ) → has_repeat hs ≡ false → ((h : ℕ) → member h hs ≡ true → occupied (object_at os h) ≡ true) → Took o hs os (acquire_each o os hs)
unfolding acquire_each member has_repeat
acquire_each_took o os [] d there h = refl
acquire_each_took o os (k ∷ ks) d there h =
    let r = or_split (member k ks) (has_repeat ks) d in
    let ih : Took o ks (acquire_at o os k) (acquire_each o (acquire_at o os k) ks) = acquire_each_took o (acquire_at o os k) ks r.1
    (λ j m. acquire_each_occupied o os (k ∷ []) j ∙ there j (or_right (eqb j k) (member j ks) m)) in
    by_bool (eqb h k)
    (λ y. let e : h ≡ k = eqb-true h k y in let n = r.0 in rw (e, eqb_same k) (ih k ∙ rw n (at_put_same os k (acquired o (object_at os k)) (there k (or_left (eqb k k) (member k ks) (eqb_same k))))))
    (λ f. let z : object_at (acquire_at o os k) h ≡ object_at os h = at_put_other os k (acquired o (object_at os k)) h f in rw f (ih h ∙ rw z))

all_grant : (os : List Object) (w : Wait) (g : Grant) → w.mode ≡ all → attempt os w ≡ some g
    → (g ≡ record { handles = w.list; index = 0 }) ⊎ (g ≡ record { handles = w.alert ∷ []; index = length w.list })
unfolding attempt look
all_grant os w g a e = by_bool (all_signaled w.owner os w.list)
    (λ s. inl (let q : some record { handles = w.list; index = 0 } ≡ some g = rw (a, s) at e in let r : record { handles = w.list; index = 0 } ≡ g = cc in sym r))
    (λ n. by_bool (signaled w.owner (object_at os w.alert))
    (λ s. inr (let q : some record { handles = w.alert ∷ []; index = length w.list } ≡ some g = rw (a, n, s) at e in
    let r : record { handles = w.alert ∷ []; index = length w.list } ≡ g = cc in sym r))
    (λ f. differ (let q : none ≡ some g = rw (a, n, f) at e in cc)))

served_number : (os : List Object) (g : Grant) → ServedNumber (served_answer os g)
served_number os g = by_bool (any_abandoned os g.handles) (λ y. rw y (inr refl)) (λ n. rw n (inl refl))

-- a wait for all as it may be queued: something is listed, and nothing twice, the alert counted
module _ (w : Wait) (mode : w.mode ≡ all) (some-listed : eqb (length w.list) 0 ≡ false) (once : has_repeat (w.alert ∷ w.list) ≡ false) where
  listed : length w.list ≡ 0 → ⊥
  listed = eqb-false (length w.list) 0 some-listed

  alert_apart : member w.alert w.list ≡ false
  unfolding has_repeat
  alert_apart = (or_split (member w.alert w.list) (has_repeat w.list) once).0

  list_once : has_repeat w.list ≡ false
  unfolding has_repeat
  list_once = (or_split (member w.alert w.list) (has_repeat w.list) once).1

  alert_once : has_repeat (w.alert ∷ []) ≡ false
  unfolding has_repeat member
  alert_once = refl

  grant_took : (os : List Object) (g : Grant) → attempt os w ≡ some g → has_repeat g.handles ≡ false → Took w.owner g.handles os (acquire_each w.owner os g.handles)
  grant_took os g e d = acquire_each_took w.owner os g.handles d (λ h m. signaled_there w.owner (object_at os h) (attempt_signaled os w g e h m))

  pub served_all : (a i : ℕ) (os next : List Object) (g : Grant) → attempt os w ≡ some g → a ≡ served_answer os g → i ≡ g.index → next ≡ acquire_each w.owner os g.handles
      → AllOrNone w a i os next
  served_all a i os next g e ea ei en = ⊎_elim
      (λ (q : g ≡ record { handles = w.list; index = 0 }). let z : i ≡ 0 = ei ∙ ap (λ (x : Grant). x.index) q in let hs : g.handles ≡ w.list = ap (λ (x : Grant). x.handles) q in record {
        index = λ s. inl z;
        every = λ s y. let t = grant_took os g e (rw hs list_once) in rw (en, hs) (rw hs at t);
        alone = λ s y. absurd (listed (sym y ∙ z));
        nothing = λ n. absurd (n (rw ea (served_number os g)));
      })
      (λ (q : g ≡ record { handles = w.alert ∷ []; index = length w.list }). let z : i ≡ length w.list = ei ∙ ap (λ (x : Grant). x.index) q in
      let hs : g.handles ≡ w.alert ∷ [] = ap (λ (x : Grant). x.handles) q in record {
        index = λ s. inr z;
        every = λ s y. absurd (listed (sym z ∙ y));
        alone = λ s y. ((let t = grant_took os g e (rw hs alert_once) in rw (en, hs) (rw hs at t)), alert_apart);
        nothing = λ n. absurd (n (rw ea (served_number os g)));
      })
      (all_grant os w g mode e)

pub unserved_all : (w : Wait) (a i : ℕ) (os next : List Object) → (ServedNumber a → ⊥) → next ≡ os → AllOrNone w a i os next
unserved_all w a i os next n e = record { index = λ s. absurd (n s); every = λ s. absurd (n s); alone = λ s. absurd (n s); nothing = λ k. e }

-- an answer that is another number than 0 and 4
pub not_served : (a : ℕ) → eqb a 0 ≡ false → eqb a 4 ≡ false → ServedNumber a → ⊥
not_served a z f s = ⊎_elim (λ (e : a ≡ 0). eqb-false a 0 z e) (λ (e : a ≡ 4). eqb-false a 4 f e) s

-- of a queue's waits
queued_all : (s : State) → Valid s → (w : Wait) → w is_in s.waits → (r : Report) (os next : List Object) → Told w r os next → w.mode ≡ all → AllOrNone w r.answer r.index os next
queued_all s g w m r os next (inl (t, e, ea, ei, en)) mode =
    let (t0, (t1, (t2, (t3, (t4, (t5, (t6, (t7, (t8, t9))))))))) = passed _ (g.waits w m) in
    served_all w mode (let q : list_too_short w.mode w.list ≡ false = not-true _ t4 in rw mode at q) (let q : repeats w.mode (w.alert ∷ w.list) ≡ false = not-true _ t8 in rw mode at q) r.answer r.index os next t e ea ei en
queued_all s g w m r os next (inr (ea, ei, en)) mode = unserved_all w r.answer r.index os next (rw ea (not_served 5 refl refl)) en

pub step_all_queued : (s : State) (c : Call) → Valid s → first_refusal (conditions c s) ≡ none
    → ByReports (λ w r os next. w.mode ≡ all → AllOrNone w r.answer r.index os next) s (change c.operation s) (library_step s c).reports (library_step s c).held.objects
step_all_queued s c g e = let (last, told, end) = step_told s c g e in
    (last, one_by_one Told _ s.waits s.waits (λ w m. m) (λ w r os next m p. queued_all s g w m r os next p) (library_step s c).reports (change c.operation s).state.objects last told, end)

-- of a fresh wait
module _ (hs : List ℕ) (o f p a timeout time : ℕ) (l : Lent) (s : State) where
  abbrev fresh : Wait
  fresh = new_wait all hs o f a timeout 0

  abbrev Fresh : Outcome State → Type 0
  Fresh r = AllOrNone fresh r.answer r.first s.objects r.held.objects

  admits_all : any_of (wait_faults all hs o f p a s.objects) ≡ false → let d = admits (new_wait all hs o f a timeout s.next) time s in AllOrNone fresh d.answer d.first s.objects d.state.objects
  unfolding admits attempt
  admits_all ok = let w : Wait = new_wait all hs o f a timeout s.next in by_option (attempt s.objects w)
      (λ e. rw e (by_bool (time_up timeout time) (λ u. rw u (unserved_all fresh 5 0 _ _ (not_served 5 refl refl) refl)) (λ u. rw u (unserved_all fresh 11 0 _ _ (not_served 11 refl refl) refl))))
      (λ g e. rw e (served_all fresh refl (fault_free (wait_faults all hs o f p a s.objects) ok 0) (fault_free (wait_faults all hs o f p a s.objects) ok 7) _ _ _ _ g e refl refl refl))

  pub step_all_now : Fresh (library_step s (asks (wait all hs o f p a timeout time) l))
  unfolding library_step change refusals member
  step_all_now = let c : Call = asks (wait all hs o f p a timeout time) l in perform_case wake_by_walk s c Fresh
      (λ n e. unserved_all fresh n 0 _ _ (let k = refused_numbered c s n e in not_served n (refused_zero n k) (refused_four n k)) refl)
      (λ x. let w : Wait = new_wait all hs o f a timeout s.next in let d : Change = admits w time s in
      rw (admits_quietly w time s, clears_none w time s, walk_nothing (length d.state.waits) 0 d.state) (admits_all x.1.0))
    where
      refused_zero : (n : ℕ) → member n refusal_numbers ≡ true → eqb n 0 ≡ false
      refused_zero n k = refused_not n 0 refl k

      refused_four : (n : ℕ) → member n refusal_numbers ≡ true → eqb n 4 ≡ false
      refused_four n k = refused_not n 4 refl k

-- A PULSE leaves its event unset
cleared_unset : (o : ℕ) (x : Object) → is_event x ≡ true → signaled o (cleared x) ≡ false
cleared_unset o empty e = clash e refl
cleared_unset o (semaphore c m) e = clash e refl
cleared_unset o (mutex w c a) e = clash e refl
cleared_unset o (event v m) e = refl

pulses_event : (x : Object) → Accepted (signal_rule pulse_event x).refusals → (is_event x ≡ true) × (is_event (signal_rule pulse_event x).next ≡ true)
pulses_event empty a = clash refl a.0
pulses_event (semaphore c m) a = clash refl a.0
pulses_event (mutex o c b) a = clash refl a.0
pulses_event (event v m) a = (refl, refl)

pub step_pulse : (s : State) (h : ℕ) (l : Lent) → let r = library_step s (asks (signal pulse_event h) l) in r.answer ≡ 0 → (o : ℕ) → signaled o (object_at r.held.objects h) ≡ false
unfolding library_step change refusals member
step_pulse s h l = let c : Call = asks (signal pulse_event h) l in perform_case wake_by_walk s c (λ r. r.answer ≡ 0 → (o : ℕ) → signaled o (object_at r.held.objects h) ≡ false)
    (λ n e z o. absurd (refusal_never c s n 0 refl e z))
    (λ a z o. let x : Object = object_at s.objects h in let p = pulses_event x a.1 in let d : Change = change (signal pulse_event h) s in
    let put : is_event (object_at d.state.objects h) ≡ true = rw (at_put_same s.objects h (signal_rule pulse_event x).next (event_occupied x p.0)) p.1 in
    let v : State = (wake_by_walk d.changed d.state).state in
    let kept : is_event (object_at v.objects h) ≡ true = walk_keeps (λ u. is_event (object_at u.objects h) ≡ true) (λ u w t m q k. (still_acquire_each w.owner u.objects t.handles h).1 k)
    (length d.state.waits) d.changed 0 d.state put in
    rw (at_put_same v.objects h (cleared (object_at v.objects h)) (event_occupied (object_at v.objects h) kept)) (cleared_unset o (object_at v.objects h) kept))
