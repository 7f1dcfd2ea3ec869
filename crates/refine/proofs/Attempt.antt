-- An attempt on cells is an attempt on the state.
use mathlib.Core.Path.{◌≡◌, refl, ap}
use mathlib.Core.Bool.{Bool, true, false, cond, or-false}
use mathlib.Core.List.{◌∷◌}
use mathlib.Core.Option.{Option, none, some}
use Prim.Native.Nat.{ℕ, ◌+◌, ◌<◌}
use native.Mathlib.Omega.{arith}
use native.Mathlib.Nat.{zero-add}
use lib.ListN.{length, get_or}
use lib.Dec.{eqb, ltb}
use borrow.Author.Tests.{ltb-true, not-true}
use Rattle.model.specs.Basics.{maybe, member, has_repeat}
use Rattle.model.specs.Calls.{repeats}
use Rattle.model.specs.Layout.{mode_cell, encode}
use Rattle.model.specs.Sizes.{object_places, wait_places}
use Rattle.model.specs.Objects.{abandoned, signaled}
use Rattle.model.specs.Notions.{◌is_in◌}
use Rattle.model.specs.Waits.{Mode, any, all, Wait, free, waiting, State, with_objects, object_at, Grant, lowest_signaled, all_signaled, look, attempt, acquire_each, any_abandoned}
use Rattle.model.proofs.Logic.{by_bool, ◌implies◌, or_split, passed}
use Rattle.model.proofs.Acquiring.{all_signaled_lem}
use Rattle.model.proofs.Valid.{Valid}
use Rattle.model.proofs.Cells.{at_in, holds}
use Rattle.cells.specs.Fold.{search_from}
use Rattle.cells.specs.Attempt.{signaled_at, look_any, look_all, Tried, missed, took, take_one, by_alert, try_any, try_all, try_list, try_at}
use Rattle.refine.proofs.Fold.{all_signaled_is, First, search_is, grant, search_look}
use Rattle.refine.proofs.Objects.{acquirable, signaled_acquirable, signaled_at_lem, abandoned_at_lem, acquire_at_lem, acquire_list, abandoned_list}
use Rattle.refine.proofs.Waits.{mode_at_lem, owner_at_lem, alert_at_lem, list_of_lem}

-- what an attempt leaves, by what it takes
abbrev pub granted : State → Wait → Grant → Tried
granted s w t = took (any_abandoned s.objects t.handles) t.index (encode (with_objects s (acquire_each w.owner s.objects t.handles)))

module _ (s : State) (full : length s.objects ≡ object_places) (w : Wait) where
  one_is : (h i : ℕ) → signaled w.owner (object_at s.objects h) ≡ true → take_one (encode s) w.owner h i ≡ granted s w (grant h i)
  unfolding take_one acquire_each any_abandoned
  one_is h i e = rw (abandoned_at_lem s full h, acquire_at_lem s full w.owner h (signaled_acquirable w.owner (object_at s.objects h) e), or-false (abandoned (object_at s.objects h)))

  alert_is : by_alert (encode s) w.owner w.alert (length w.list) ≡ cond (signaled w.owner (object_at s.objects w.alert)) (granted s w (grant w.alert (length w.list))) (missed (encode s))
  unfolding by_alert
  alert_is = rw (signaled_at_lem s full w.owner w.alert) (by_bool (signaled w.owner (object_at s.objects w.alert)) (λ t. rw t (one_is w.alert (length w.list) t)) (λ f. rw f))

  -- what the alert is worth after a failed look
  abbrev after_look : Option Grant → Tried
  after_look r = maybe (maybe r (cond (signaled w.owner (object_at s.objects w.alert)) (some (grant w.alert (length w.list))) none) (λ g. some g)) (missed (encode s)) (granted s w)

  missed_look : (r : Option Grant) → r ≡ none → by_alert (encode s) w.owner w.alert (length w.list) ≡ after_look r
  missed_look r e = rw (e, alert_is) (by_bool (signaled w.owner (object_at s.objects w.alert)) (λ t. rw t) (λ f. rw f))

  any_is : try_any (encode s) w.owner w.alert w.list ≡ after_look (look any w.owner s.objects w.list)
  unfolding try_any look_any look
  any_is =
      let f : ℕ → Bool = λ j. signaled w.owner (object_at s.objects (get_or w.list j 0)) in
      let e : (λ i. signaled_at (encode s) w.owner (get_or w.list i 0)) ≡ f = λ j i. signaled_at_lem s full w.owner (get_or w.list i 0) j in
      let i : ℕ = search_from f 0 (length w.list) in
      let r : First f 0 (length w.list) i = search_is f 0 (length w.list) in
      let l : lowest_signaled w.owner s.objects 0 w.list ≡ cond (ltb i (0 + length w.list)) (some (grant (get_or w.list i 0) i)) none
      = search_look w.owner s.objects w.list 0 (λ j. get_or w.list j 0) (λ k. ap (λ (j : ℕ). get_or w.list j 0) (zero-add k)) in
      rw (e, l, zero-add (length w.list)) (by_bool (ltb i (length w.list))
      (λ t. rw t (one_is (get_or w.list i 0) i (r.found (let b : i < length w.list = ltb-true _ _ t in omega arith))))
      (λ n. rw n (missed_look none refl)))

  all_is : has_repeat w.list ≡ false → try_all (encode s) w.owner w.alert w.list ≡ after_look (look all w.owner s.objects w.list)
  unfolding try_all look_all look
  all_is d = rw (all_signaled_is w.owner s.objects w.list (λ i. signaled_at (encode s) w.owner (get_or w.list i 0)) (λ k. signaled_at_lem s full w.owner (get_or w.list k 0)))
      (by_bool (all_signaled w.owner s.objects w.list)
      (λ t. let safe : (h : ℕ) → member h w.list implies acquirable (object_at s.objects h) = λ h m. signaled_acquirable w.owner (object_at s.objects h) (all_signaled_lem w.owner s.objects w.list t h m) in
      rw (t, acquire_list s w.owner w.list s.objects full d safe, abandoned_list s w.owner w.list s.objects full d safe))
      (λ f. rw f (missed_look none refl)))

  mode_case : (m : Mode) → repeats m (w.alert ∷ w.list) ≡ false
      → cond (eqb (mode_cell m) 0) (try_any (encode s) w.owner w.alert w.list) (try_all (encode s) w.owner w.alert w.list) ≡ after_look (look m w.owner s.objects w.list)
  unfolding has_repeat
  mode_case any e = any_is
  mode_case all e = all_is (or_split (member w.alert w.list) (has_repeat w.list) e).1

  pub try_list_lem : repeats w.mode (w.alert ∷ w.list) ≡ false
      → try_list (encode s) (mode_cell w.mode) w.owner w.alert w.list ≡ maybe (attempt s.objects w) (missed (encode s)) (granted s w)
  unfolding try_list attempt
  try_list_lem d = mode_case w.mode d

-- a queued wait has no handle twice, where it must not
pub once : (s : State) (w : Wait) → Valid s → w is_in s.waits → repeats w.mode (w.alert ∷ w.list) ≡ false
once s w g m = let (t0, (t1, (t2, (t3, (t4, (t5, (t6, (t7, (t8, t9))))))))) = passed _ (g.waits w m) in not-true _ t8

-- the attempt of a queued wait
pub try_at_lem : (s : State) (p : ℕ) (w : Wait) → Valid s → p < wait_places → get_or s.waits p free ≡ waiting w → try_at (encode s) p ≡ maybe (attempt s.objects w) (missed (encode s)) (granted s w)
unfolding try_at
try_at_lem s p w g l e = let st = holds s p w g l e in
    rw (mode_at_lem s p w st, owner_at_lem s p w st, alert_at_lem s p w st, list_of_lem s p w st g.slots) (try_list_lem s g.places w (once s w g (at_in s.waits p w e)))
