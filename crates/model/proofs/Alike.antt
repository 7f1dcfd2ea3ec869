-- No reply tells which places the waits fill: valid states that are the same but for that answer every list of calls alike.
use mathlib.Core.Path.{◌≡◌, refl, ap, sym, ◌∙◌, subst}
use mathlib.Core.Bool.{Bool, true, false, not}
use mathlib.Core.List.{List, [], ◌∷◌, map}
use mathlib.Core.Logic.{inl, inr, ⊎_elim, ◌↔◌}
use Prim.Native.Nat.compare
use Prim.Native.Nat.{ℕ, zero, suc, ◌≤◌, ◌<◌}
use native.Mathlib.Omega.{arith}
use native.Mathlib.Nat.{le_antisymm}
use lib.ListN.{length, get_or}
use lib.Dec.{eqb, ltb, leb}
use borrow.Author.Tests.{eqb-true, eqb-false, lt-leb}
use Rattle.model.specs.Basics.{maybe, member, has_repeat, all_of, All}
use Rattle.model.specs.Waits.{Wait, WaitPlace, free, waiting, State, with_waits, attempt, dequeue, oldest, any_waiting}
use Rattle.model.specs.Waits.{concerned_by, Woken, none_woken, and_then, serve, try_to_serve, walk_queue, wake_by_walk}
use Rattle.model.specs.Snapshot.{snapshot_body, snapshot_text}
use Rattle.model.specs.Calls.{Operation, create, close, reset_event, read, signal, wait, expire, cancel, snapshot}
use Rattle.model.specs.Calls.{Lent, nothing_lent, Call, refusals, time_up, new_wait, all_occupied, waits_full, enqueue, Change, admits, ends, end_each}
use Rattle.model.specs.Calls.{change, WithinWidths}
use Rattle.model.specs.Layout.{table_length, encode, view, distinct_tickets, valid_tables}
use Rattle.model.specs.Steps.{Outcome, unaltered, conditions, first_refusal, completed, library_step, table_step, run}
use Rattle.model.specs.Notions.{◌is_in◌, Quiet}
use Rattle.model.specs.Restore.{reply}
use Rattle.model.specs.Restore.{restore_tables, placed, SameButPlaces}
use Rattle.model.proofs.Logic.{by_bool, by_option, clash, differ, not_true, and_split}
use Rattle.model.proofs.Queue.{dequeue_in, enqueue_in}
use Rattle.model.proofs.Queue.{count, count_length}
use Rattle.model.proofs.Waking.{visit, each, fewer}
use Rattle.model.proofs.Rules.{due}
use Rattle.model.proofs.Valid.{Valid, waiting_none, length_dequeue, length_enqueue, distinct_dequeue, distinct_enqueue}
use Rattle.model.proofs.Valid.{step_valid, distinct_tickets_lem}
use Rattle.model.proofs.Validity.{test_valid, tables_valid, encoded_valid}
use Rattle.model.proofs.Cells.{view_encode}
use Rattle.model.proofs.Placed.{oldest_same, queue_same, placed_same}
use Rattle.model.proofs.Accepting.{snapshot_accepted, accepted_settled, restore_either}
use Rattle.model.proofs.AcceptanceExamples.{reached, cancelled_late, cancelled_early, second, one_event, example_places}

-- the same waits in as many places, and no ticket twice
record SameQueue (ws vs : List WaitPlace) : Type 0 where
  same : (w : Wait) → (w is_in ws) ↔ (w is_in vs)
  long : length ws ≡ length vs
  left : distinct_tickets ws ≡ true
  right : distinct_tickets vs ≡ true

turned : {ws vs : List WaitPlace} → SameQueue ws vs → SameQueue vs ws
turned q = record { same = λ w. ((q.same w).1, (q.same w).0); long = sym q.long; left = q.right; right = q.left }

oldest_alike : (f : Wait → Bool) (ws vs : List WaitPlace) → SameQueue ws vs → oldest f vs ≡ oldest f ws
oldest_alike f ws vs q = oldest_same f vs ws (distinct_tickets_lem ws q.left) (turned q).same

-- LEAVING
in_dequeue : (t : ℕ) (ws : List WaitPlace) (w : Wait) → w is_in ws → (w.ticket ≡ t → ⊥) → w is_in dequeue t ws
unfolding dequeue
in_dequeue t [] w m n = absurd m
in_dequeue t (free ∷ ws) w m n = in_dequeue t ws w m n
in_dequeue t (waiting v ∷ ws) w m n = by_bool (eqb v.ticket t)
    (λ e. rw e (⊎_elim (λ (p : w ≡ v). absurd (n (ap (λ (x : Wait). x.ticket) p ∙ eqb-true _ _ e))) (λ k. in_dequeue t ws w k n) m))
    (λ f. rw f (⊎_elim (λ (p : w ≡ v). inl p) (λ k. inr (in_dequeue t ws w k n)) m))

dequeue_within : (t : ℕ) (ws vs : List WaitPlace) → SameQueue ws vs → (w : Wait) → w is_in dequeue t ws → w is_in dequeue t vs
dequeue_within t ws vs q w m = let r = dequeue_in t ws w m in in_dequeue t vs w ((q.same w).0 r.0) r.1

dequeue_same : (t : ℕ) (ws vs : List WaitPlace) → SameQueue ws vs → SameQueue (dequeue t ws) (dequeue t vs)
dequeue_same t ws vs q = record {
  same = λ w. (dequeue_within t ws vs q w, dequeue_within t vs ws (turned q) w);
  long = length_dequeue t ws ∙ q.long ∙ sym (length_dequeue t vs);
  left = distinct_dequeue t ws q.left;
  right = distinct_dequeue t vs q.right;
}

-- THE NUMBER OF WAITS, and so whether there is a free place
count_within : (ws vs : List WaitPlace) → distinct_tickets ws ≡ true → ((w : Wait) → w is_in ws → w is_in vs) → count each ws ≤ count each vs
unfolding count distinct_tickets
count_within [] vs d h = omega arith
count_within (free ∷ ws) vs d h = count_within ws vs d h
count_within (waiting u ∷ ws) vs d h = let r = and_split (not (any_waiting (λ x. eqb x.ticket u.ticket) ws)) (distinct_tickets ws) d in
    let ih : count each ws ≤ count each (dequeue u.ticket vs) = count_within ws (dequeue u.ticket vs) r.1 (λ w m. in_dequeue u.ticket vs w (h w (inr m))
    (eqb-false w.ticket u.ticket (waiting_none (λ x. eqb x.ticket u.ticket) ws (not_true _ r.0) w m))) in
    let less : count each (dequeue u.ticket vs) < count each vs = fewer each u vs (h u (inl refl)) refl in omega arith

count_same : (ws vs : List WaitPlace) → SameQueue ws vs → count each vs ≡ count each ws
count_same ws vs q = le_antisymm (count_within vs ws q.right (λ w. (q.same w).1)) (count_within ws vs q.left (λ w. (q.same w).0))

full_counted : (ws : List WaitPlace) → waits_full ws ≡ leb (length ws) (count each ws)
unfolding waits_full count
full_counted [] = refl
full_counted (free ∷ ws) = let l = count_length each ws in sym (lt-leb (suc (length ws)) (count each ws) (omega arith))
full_counted (waiting w ∷ ws) = rw compare.suc-suc (full_counted ws)

full_same : (ws vs : List WaitPlace) → SameQueue ws vs → waits_full vs ≡ waits_full ws
full_same ws vs q = let l = q.long in rw (full_counted vs, count_same ws vs q, ← l) (sym (full_counted ws))

-- QUEUING
in_enqueue : (w : Wait) (ws : List WaitPlace) (v : Wait) → v is_in ws → v is_in enqueue w ws
unfolding enqueue
in_enqueue w [] v m = m
in_enqueue w (free ∷ ws) v m = inr m
in_enqueue w (waiting u ∷ ws) v m = ⊎_elim (λ (p : v ≡ u). inl p) (λ k. inr (in_enqueue w ws v k)) m

enqueued : (w : Wait) (ws : List WaitPlace) → waits_full ws ≡ false → w is_in enqueue w ws
unfolding enqueue waits_full
enqueued w [] e = clash refl e
enqueued w (free ∷ ws) e = inl refl
enqueued w (waiting u ∷ ws) e = inr (enqueued w ws e)

enqueue_full : (w : Wait) (ws : List WaitPlace) → waits_full ws ≡ true → enqueue w ws ≡ ws
unfolding enqueue waits_full
enqueue_full w [] e = refl
enqueue_full w (free ∷ ws) e = clash e refl
enqueue_full w (waiting u ∷ ws) e = ap (λ (vs : List WaitPlace). waiting u ∷ vs) (enqueue_full w ws e)

enqueue_within : (w : Wait) (ws vs : List WaitPlace) → SameQueue ws vs → (v : Wait) → v is_in enqueue w ws → v is_in enqueue w vs
enqueue_within w ws vs q v m = by_bool (waits_full ws)
    (λ t. in_enqueue w vs v ((q.same v).0 (subst (λ (us : List WaitPlace). v is_in us) (enqueue_full w ws t) m)))
    (λ f. ⊎_elim (λ (p : v ≡ w). rw p (enqueued w vs (full_same ws vs q ∙ f))) (λ k. in_enqueue w vs v ((q.same v).0 k)) (enqueue_in w ws v m))

enqueue_same : (w : Wait) (ws vs : List WaitPlace) → SameQueue ws vs → ((v : Wait) → v is_in ws → v.ticket ≡ w.ticket → ⊥) → SameQueue (enqueue w ws) (enqueue w vs)
enqueue_same w ws vs q h = record {
  same = λ v. (enqueue_within w ws vs q v, enqueue_within w vs ws (turned q) v);
  long = length_enqueue w ws ∙ q.long ∙ sym (length_enqueue w vs);
  left = distinct_enqueue w ws h q.left;
  right = distinct_enqueue w vs (λ v m. h v ((q.same v).1 m)) q.right;
}

-- WAKING AND ENDING: the same but for the places of the waits that stay
abbrev woken_with : Woken → List WaitPlace → Woken
woken_with v us = record { reports = v.reports; state = with_waits v.state us }

record AlikeWoken (x y : Woken) : Type 0 where
  waits : List WaitPlace
  is : y ≡ woken_with x waits
  queue : SameQueue x.state.waits waits

abbrev Respects : (State → Woken) → Type 0
Respects f = (s : State) (vs : List WaitPlace) → SameQueue s.waits vs → AlikeWoken (f s) (f (with_waits s vs))

none_alike : Respects none_woken
none_alike s vs q = record { waits = vs; is = refl; queue = q }

and_then_alike : (x y : Woken) (f : State → Woken) → AlikeWoken x y → Respects f → AlikeWoken (and_then x f) (and_then y f)
and_then_alike x y f r k = let e = r.is in let n = k x.state r.waits r.queue in let i = n.is in
    record { waits = n.waits; is = rw (e, i); queue = n.queue }

-- one turn of the walk or of the ending: the oldest wait that passes the test, then what follows it
turn_alike : (f : Wait → Bool) (x y : Wait → State → Woken) → ((w : Wait) → Respects (x w)) → ((w : Wait) → Respects (y w))
    → Respects (λ s. maybe (oldest f s.waits) (none_woken s) (λ w. and_then (x w s) (y w)))
turn_alike f x y kx ky s vs q = rw (oldest_alike f s.waits vs q) (by_option (oldest f s.waits) (λ e. rw e (none_alike s vs q))
    (λ w e. rw e (and_then_alike (x w s) (x w (with_waits s vs)) (y w) (kx w s vs q) (ky w))))

visit_alike : (cs : List ℕ) (w : Wait) → Respects (visit cs w)
unfolding try_to_serve serve
visit_alike cs w s vs q = by_bool (concerned_by cs w)
    (λ y. by_option (attempt s.objects w) (λ a. rw (y, a) (none_alike s vs q))
    (λ g a. rw (y, a) (record { waits = dequeue w.ticket vs; is = refl; queue = dequeue_same w.ticket s.waits vs q })))
    (λ n. rw n (none_alike s vs q))

walk_alike : (n : ℕ) (cs : List ℕ) (last : ℕ) → Respects (walk_queue n cs last)
unfolding walk_queue
walk_alike zero cs last = none_alike
walk_alike (suc n) cs last = turn_alike (λ w. ltb last w.ticket) (visit cs) (λ w. walk_queue n cs w.ticket) (visit_alike cs) (λ w. walk_alike n cs w.ticket)

wake_alike : (cs : List ℕ) → Respects (wake_by_walk cs)
wake_alike cs s vs q = let l = q.long in rw (← l) (walk_alike (length s.waits) cs 0 s vs q)

ends_alike : (w : Wait) → Respects (ends w)
ends_alike w s vs q = record { waits = dequeue w.ticket vs; is = refl; queue = dequeue_same w.ticket s.waits vs q }

end_each_alike : (n : ℕ) (f : Wait → Bool) → Respects (end_each n f)
unfolding end_each
end_each_alike zero f = none_alike
end_each_alike (suc n) f = turn_alike f ends (λ w. end_each n f) ends_alike (λ w. end_each_alike n f)

-- THE SNAPSHOT, byte by byte
snapshot_same : (s : State) (vs : List WaitPlace) → SameQueue s.waits vs → snapshot_text (with_waits s vs) ≡ snapshot_text s
unfolding snapshot_text snapshot_body
snapshot_same s vs q = let l = q.long in rw (← l, queue_same (length s.waits) 0 vs s.waits (distinct_tickets_lem s.waits q.left) (turned q).same)

-- REFUSALS AND CHANGE
refusals_same : (op : Operation) (s : State) (vs : List WaitPlace) → SameQueue s.waits vs → refusals op (with_waits s vs) ≡ refusals op s
unfolding refusals
refusals_same (create k x y) s vs q = refl
refusals_same (close h) s vs q = rw (oldest_alike (concerned_by (h ∷ [])) s.waits vs q)
refusals_same (reset_event h) s vs q = refl
refusals_same (read k h) s vs q = refl
refusals_same (signal how h) s vs q = refl
refusals_same (wait mode hs o f p a timeout time) s vs q = rw (full_same s.waits vs q)
refusals_same (expire clock time) s vs q = refl
refusals_same (cancel ticket) s vs q = rw (oldest_alike (λ w. eqb w.ticket ticket) s.waits vs q)
refusals_same snapshot s vs q = refl

abbrev change_with : Change → List WaitPlace → Change
change_with d us = record {
  answer = d.answer;
  first = d.first;
  second = d.second;
  reports = d.reports;
  text = d.text;
  state = with_waits d.state us;
  changed = d.changed;
  clears = d.clears;
}

record AlikeChange (x y : Change) : Type 0 where
  waits : List WaitPlace
  is : y ≡ change_with x waits
  queue : SameQueue x.state.waits waits

admits_alike : (w : Wait) (time : ℕ) (s : State) (vs : List WaitPlace) → SameQueue s.waits vs → ((v : Wait) → v is_in s.waits → v.ticket ≡ w.ticket → ⊥)
    → AlikeChange (admits w time s) (admits w time (with_waits s vs))
unfolding admits
admits_alike w time s vs q h = by_option (attempt s.objects w)
    (λ e. by_bool (time_up w.timeout time) (λ t. rw (e, t) (record { waits = vs; is = refl; queue = q })) (λ f. rw (e, f) (record { waits = enqueue w vs; is = refl; queue = enqueue_same w s.waits vs q h })))
    (λ g e. rw e (record { waits = vs; is = refl; queue = q }))

fresh : (s : State) → Valid s → (v : Wait) → v is_in s.waits → v.ticket ≡ s.next → ⊥
fresh s g v m e = let l : v.ticket < s.next = (g.tickets v m).1 in omega arith

expire_alike : (clock time : ℕ) (s : State) (vs : List WaitPlace) → SameQueue s.waits vs → AlikeChange (change (expire clock time) s) (change (expire clock time) (with_waits s vs))
unfolding change
expire_alike clock time s vs q = let l = q.long in let r = end_each_alike (length s.waits) (due clock time) s vs q in let e = r.is in
    rw (← l) (record { waits = r.waits; is = rw e; queue = r.queue })

change_alike : (op : Operation) (s : State) (vs : List WaitPlace) → Valid s → SameQueue s.waits vs → AlikeChange (change op s) (change op (with_waits s vs))
unfolding change
change_alike (create k x y) s vs g q = record { waits = vs; is = refl; queue = q }
change_alike (close h) s vs g q = record { waits = vs; is = refl; queue = q }
change_alike (reset_event h) s vs g q = record { waits = vs; is = refl; queue = q }
change_alike (read k h) s vs g q = record { waits = vs; is = refl; queue = q }
change_alike (signal how h) s vs g q = record { waits = vs; is = refl; queue = q }
change_alike (wait mode hs o f p a timeout time) s vs g q = admits_alike (new_wait mode hs o f a timeout s.next) time s vs q (fresh s g)
change_alike (expire clock time) s vs g q = expire_alike clock time s vs q
change_alike (cancel ticket) s vs g q = record { waits = dequeue ticket vs; is = refl; queue = dequeue_same ticket s.waits vs q }
change_alike snapshot s vs g q = rw (snapshot_same s vs q) (record { waits = vs; is = refl; queue = q })

-- THE OUTCOME: the same reply, and what is held differs in its waits' places alone
abbrev AlikeOutcome : Outcome State → Outcome State → Type 0
AlikeOutcome x y = (reply x ≡ reply y) × SameButPlaces x.held y.held

completed_alike : (l : Lent) (d : Change) (us : List WaitPlace) → SameQueue d.state.waits us → AlikeOutcome (completed wake_by_walk l d) (completed wake_by_walk l (change_with d us))
completed_alike l d us q = let r = wake_alike d.changed d.state us q in let e = r.is in
    rw e (refl, record { objects = refl; next = refl; waits = r.queue.same })

moved_alike : (s : State) (vs : List WaitPlace) (c : Call) → Valid s → SameQueue s.waits vs → AlikeOutcome (library_step s c) (library_step (with_waits s vs) c)
unfolding library_step
moved_alike s vs c g q = let d = change_alike c.operation s vs g q in let e = d.is in
    rw (refusals_same c.operation s vs q) (by_option (first_refusal (conditions c s))
    (λ y. rw (y, e) (completed_alike c.lent (change c.operation s) d.waits d.queue))
    (λ n y. rw y (refl, record { objects = refl; next = refl; waits = q.same })))

-- TWO STATES that are the same but for places: the second is the first with the second's waits
queue_of : (a b : State) → Valid a → Valid b → SameButPlaces a b → SameQueue a.waits b.waits
queue_of a b g h s = record { same = s.waits; long = g.slots ∙ sym h.slots; left = g.distinct; right = h.distinct }

form_of : (a b : State) → SameButPlaces a b → with_waits a b.waits ≡ b
form_of a b s = let o = s.objects in let n = s.next in rw (o, n)

step_alike : (a b : State) (c : Call) → Valid a → Valid b → SameButPlaces a b → AlikeOutcome (library_step a c) (library_step b c)
step_alike a b c g h s = subst (λ (x : State). AlikeOutcome (library_step a c) (library_step x c)) (form_of a b s) (moved_alike a b.waits c g (queue_of a b g h s))

-- ON TABLES: one call
pub tables_alike : (t u : List ℕ) → valid_tables t ≡ true → valid_tables u ≡ true → SameButPlaces (view t) (view u) → (c : Call) → WithinWidths c
    → (reply (table_step t c) ≡ reply (table_step u c)) × (valid_tables (table_step t c).held ≡ true) × (valid_tables (table_step u c).held ≡ true)
    × SameButPlaces (view (table_step t c).held) (view (table_step u c).held)
unfolding table_step
tables_alike t u vt vu s c fit = let g = (tables_valid t vt).1 in let h = (tables_valid u vu).1 in let r = step_alike (view t) (view u) c g h s in
    let x : Valid (library_step (view t) c).held = step_valid (view t) c fit g in let y : Valid (library_step (view u) c).held = step_valid (view u) c fit h in
    rw (vt, vu, view_encode (library_step (view t) c).held x, view_encode (library_step (view u) c).held y)
    (r.0, encoded_valid _ x, encoded_valid _ y, r.1)

-- every list of calls
pub tables_run_alike : (t u : List ℕ) → valid_tables t ≡ true → valid_tables u ≡ true → SameButPlaces (view t) (view u) → (cs : List Call) → All WithinWidths cs
    → map reply (run table_step t cs) ≡ map reply (run table_step u cs)
unfolding run
tables_run_alike t u vt vu s [] fit = refl
tables_run_alike t u vt vu s (c ∷ cs) fit = let r = tables_alike t u vt vu s c fit.0 in let e = r.0 in
    rw e (ap (λ (os : List (Outcome (Unit {0}))). reply (table_step u c) ∷ os)
    (tables_run_alike (table_step t c).held (table_step u c).held r.1 r.2 r.3 cs fit.1))

-- the tables that are restored from a snapshot
restored_tables : (s : State) → Valid s → Quiet s → (u : List ℕ) → length u ≡ table_length → restore_tables u (snapshot_text s) ≡ unaltered 0 nothing_lent (encode (placed s))
restored_tables s g k u l = (restore_either u (snapshot_text s)).0 l ∙ rw (snapshot_accepted s g k)

pub tables_restored : (t : List ℕ) → valid_tables t ≡ true → Quiet (view t) → (u : List ℕ) → length u ≡ table_length → (cs : List Call) → All WithinWidths cs
    → let r = restore_tables u (snapshot_text (view t)) in (r.answer ≡ 0) × (map reply (run table_step r.held cs) ≡ map reply (run table_step t cs))
tables_restored t v k u l cs fit = let g : Valid (view t) = (tables_valid t v).1 in let p : State = placed (view t) in
    let h : Valid p = (accepted_settled (snapshot_text (view t)) p (snapshot_accepted (view t) g k)).valid in
    let same : SameButPlaces (view t) (view (encode p)) = rw (view_encode p h) (placed_same (view t) g) in
    rw (restored_tables (view t) g k u l) (refl, sym (tables_run_alike t (encode p) v (encoded_valid p h) same cs fit))

-- two histories reach such tables
abbrev Apart : State → State → Type 0
Apart a b = (valid_tables (encode a) ≡ true) × (valid_tables (encode b) ≡ true) × SameButPlaces (view (encode a)) (view (encode b)) × (encode a ≡ encode b → ⊥)

encoded_apart : (a b : State) → Valid a → Valid b → SameButPlaces a b → (a ≡ b → ⊥) → Apart a b
encoded_apart a b g h s n = let i = view_encode a g in let j = view_encode b h in (encoded_valid a g, encoded_valid b h, rw (i, j) s, λ e. n (sym i ∙ ap view e ∙ j))

pub tables_reached : Apart (reached cancelled_late) (reached cancelled_early)
unfolding all_of oldest distinct_tickets has_repeat member all_occupied
tables_reached = let (late, early) = example_places in rw (late, early) (encoded_apart (one_event free second) (one_event second free) (test_valid _ refl) (test_valid _ refl)
    (record { objects = refl; next = refl; waits = λ w. (λ m. m, λ m. m) })
    (λ e. differ (let z : free ≡ second = ap (λ (s : State). get_or s.waits 0 free) e in cc)))
