-- Laws of the readings: what a `?` hands on, and what has been read and stored so far.
use Rattle.std.proofs.Math.Seq.{take-append_seam}
use Rattle.std.proofs.Common.{◌≡◌, ℕ, suc, ◌+◌, ◌≤◌, ◌<◌, Bool, true, false, ◌&&◌, ltb, List, [], ◌∷◌, ◌++◌, length, take, refl, sym, ap, ◌∙◌, arith, Ok, Err, subst, length-append, length-take-le}
use Rattle.std.proofs.lemmas.List.{map-append}
use Rattle.std.specs.Prelude.{Result, MatchResult, IfOk, ⊤}
use Rattle.std.specs.Result.{IsErr, IsErrAnd}
use Rattle.std.specs.Int.{from_bool}
use Rattle.model.specs.Basics.{bit}
use Rattle.model.specs.Objects.{Object}
use Rattle.model.specs.Waits.{any, all, Wait}
use Rattle.model.specs.Layout.{mode_cell}
use Rattle.model.specs.Snapshot.{ascii}
use Rattle.model.specs.Reading.{good, bad, times, word_line, read_object, read_wait}
use Rattle.model.specs.RestoreTests.{rising, handles, tickets}
use Rattle.model.proofs.Logic.{by_bool}
use Rattle.cells.specs.Objects.{store}
use Rattle.cells.specs.Calls.{put_header, put_list}
use Rattle.refine.proofs.Objects.{fields_of}
use Rattle.kinds.specs.Values.{cells_of}
use Rattle.kinds.specs.declared.object.Object.{Object as Cells}
use Rattle.lines.specs.Outcome.{either_of}
use Rattle.lines.proofs.Laws.{either_word, Begun, none_read, next_bad, next_read, all_read}
use Rattle.tables.specs.declared.Header.{Header}
use Rattle.reader.specs.Storing.{stored, queued_from}
use Rattle.reader.specs.Values.{mode_words, mode_of, clock_words, object_from, IsObject, wait_from, ObjectsStored, WaitsStored}

-- what a `?` hands on of an error
pub on_err : {V E : Type 0} (P : V → Type 0) (Q : E → Type 0) {e : E} (r : Result V E) → IsErr r × IsErrAnd r (λ x. x ≡ e) → Q e → MatchResult r P Q
on_err P Q (Ok x) h q = absurd h.1
on_err P Q (Err d) h q = subst Q (sym h.1) q

-- and where a fact is told of a value besides
pub on_err_and : {V E : Type 0} (P P' : V → Type 0) (Q : E → Type 0) {e : E} (r : Result V E) → IsErr r × IsErrAnd r (λ x. x ≡ e) → Q e → MatchResult r P Q × IfOk r P'
on_err_and P P' Q r h q = (on_err P Q r h q, on_err P' (λ _. ⊤) r h tt)

-- A WAIT'S TWO WORDS, as cells
pub mode_read : (b : Bool) {m : ℕ} (t : List ℕ) {rest : List ℕ} → m ≡ from_bool b → either_of (ascii "mode=any\n") (ascii "mode=all\n") t ≡ good (bit b) rest → word_line mode_words t ≡ good (mode_of m) rest
mode_read true t e h = rw e (either_word "mode=any\n" "mode=all\n" any all t true h)
mode_read false t e h = rw e (either_word "mode=any\n" "mode=all\n" any all t false h)

pub clock_read : (b : Bool) {m : ℕ} (t : List ℕ) {rest : List ℕ} → m ≡ from_bool b → either_of (ascii "clock=mono\n") (ascii "clock=real\n") t ≡ good (bit b) rest → word_line clock_words t ≡ good m rest
clock_read true t e h = rw e (either_word "clock=mono\n" "clock=real\n" 0 1 t true h)
clock_read false t e h = rw e (either_word "clock=mono\n" "clock=real\n" 0 1 t false h)

pub mode_is : (b : Bool) {m : ℕ} → m ≡ from_bool b → mode_cell (mode_of m) ≡ m
mode_is true e = rw e
mode_is false e = rw e

pub taken : (n : ℕ) (x r : List ℕ) → n ≡ length x → take n (x ++ r) ≡ x
taken n x r e = rw e (take-append_seam x r)

-- OBJECTS, STORED AS THEY ARE READ
stored_then : (t : List ℕ) (os : List (ℕ × Object)) (x : ℕ × Object) → stored t (os ++ (x ∷ [])) ≡ store (stored t os) x.0 (fields_of x.1)
unfolding stored
stored_then t [] x = refl
stored_then t (y ∷ os) x = stored_then (store t y.0 (fields_of y.1)) os x

-- numbers that rise as they are read: the last of them, and one more
unfoldable pub last_of : ℕ → List ℕ → ℕ
last_of low [] = low
last_of low (n ∷ ns) = last_of n ns

last_then : (low : ℕ) (ns : List ℕ) (n : ℕ) → last_of low (ns ++ (n ∷ [])) ≡ n
unfolding last_of
last_then low [] n = refl
last_then low (m ∷ ns) n = last_then m ns n

rising_then : (low : ℕ) (ns : List ℕ) (n : ℕ) → rising low (ns ++ (n ∷ [])) ≡ (rising low ns && ltb (last_of low ns) n)
unfolding rising last_of
rising_then low [] n = by_bool (ltb low n) (λ t. rw t) (λ f. rw f)
rising_then low (m ∷ ns) n = by_bool (ltb low m) (λ t. rw t (rising_then m ns n)) (λ f. rw f)

pub record Rises (ns : List ℕ) (in_order : Bool) (last : ℕ) : Type 0 where
  pub order : in_order ≡ rising 0 ns
  pub end : last ≡ last_of 0 ns

none_rise : Rises [] true 0
unfolding rising last_of
none_rise = record { order = refl; end = refl }

next_rises : (ns : List ℕ) (o : Bool) (last n : ℕ) → Rises ns o last → Rises (ns ++ (n ∷ [])) (o && ltb last n) n
next_rises ns o last n r = record { order = rw (r.order, r.end) (sym (rising_then 0 ns n)); end = sym (last_then 0 ns n) }

pub record Storing (n : ℕ) (text t₀ t : List ℕ) (i : ℕ) (rest : List ℕ) (in_order : Bool) (last : ℕ) : Type 0 where
  pub objects : List (ℕ × Object)
  pub begun : Begun read_object n text objects i rest
  pub kept : t ≡ stored t₀ objects
  pub rises : Rises (handles objects) in_order last

pub none_stored : (n : ℕ) (text t : List ℕ) → Storing n text t t 0 text true 0
unfolding stored
none_stored n text t = record { objects = []; begun = none_read read_object n text; kept = refl; rises = none_rise }

module _ (n : ℕ) (text t₀ t : List ℕ) (i : ℕ) (rest : List ℕ) (o : Bool) (last : ℕ) (s : Storing n text t₀ t i rest o last) where
  pub object_bad : (from : List ℕ) → i < n → read_object rest ≡ bad from → times n read_object text ≡ bad from
  object_bad from l h = next_bad read_object n text s.objects i rest s.begun from l h

  pub object_stored : (h : ℕ) (x : Cells) (rest' t' : List ℕ) → i < n → read_object rest ≡ good (h, object_from x) rest' → IsObject x → t' ≡ store t h (cells_of x) → Storing n text t₀ t' (i + 1) rest' (o && ltb last h) h
  object_stored h x rest' t' l r c e = record {
    objects = s.objects ++ ((h, object_from x) ∷ []);
    begun = next_read read_object n text s.objects i rest s.begun (h, object_from x) rest' l r;
    kept = e ∙ rw (← c, s.kept) (sym (stored_then t₀ s.objects (h, object_from x)));
    rises = rw (map-append (λ y. y.0) s.objects ((h, object_from x) ∷ [])) (next_rises (handles s.objects) o last h s.rises);
  }

  pub objects_stored : n ≤ i → ObjectsStored (times n read_object text) t₀ t rest o
  objects_stored l = record { objects = s.objects; reads = all_read read_object n text s.objects i rest s.begun l; kept = s.kept; order = s.rises.order }

-- WAITS, QUEUED AS THEY ARE READ
abbrev pub queued_at : List ℕ → ℕ → Wait → List ℕ
queued_at t p w = put_list (put_header t p w.ticket (mode_cell w.mode) w.owner w.clock w.timeout (length w.list) w.alert) p w.list

queued_then : (t : List ℕ) (p : ℕ) (ws : List Wait) (w : Wait) → queued_from t p (ws ++ (w ∷ [])) ≡ queued_at (queued_from t p ws) (p + length ws) w
unfolding queued_from
queued_then t p [] w = let z : p + 0 ≡ p = omega arith in rw z
queued_then t p (v ∷ ws) w = let z : p + suc (length ws) ≡ suc p + length ws = omega arith in rw z (queued_then (queued_at t p v) (suc p) ws w)

pub record Queueing (n : ℕ) (text t₀ t : List ℕ) (p : ℕ) (rest : List ℕ) (in_order : Bool) (last : ℕ) : Type 0 where
  pub waits : List Wait
  pub begun : Begun read_wait n text waits p rest
  pub kept : t ≡ queued_from t₀ 0 waits
  pub rises : Rises (tickets waits) in_order last
  pub place : p ≡ length waits

pub none_queued : (n : ℕ) (text t : List ℕ) → Queueing n text t t 0 text true 0
unfolding queued_from
none_queued n text t = record { waits = []; begun = none_read read_wait n text; kept = refl; rises = none_rise; place = refl }

module _ (n : ℕ) (text t₀ t : List ℕ) (p : ℕ) (rest : List ℕ) (o : Bool) (last : ℕ) (q : Queueing n text t₀ t p rest o last) where
  pub wait_bad : (from : List ℕ) → p < n → read_wait rest ≡ bad from → times n read_wait text ≡ bad from
  wait_bad from l h = next_bad read_wait n text q.waits p rest q.begun from l h

  pub wait_queued : (x : Header) (list rest' t₁ t₂ : List ℕ) → p < n → read_wait rest ≡ good (wait_from x list) rest' → mode_cell (mode_of x.terms.mode) ≡ x.terms.mode → x.listed ≤ length list
      → t₁ ≡ put_header t p x.ticket x.terms.mode x.terms.owner x.terms.clock x.terms.timeout x.listed x.terms.alert → t₂ ≡ put_list t₁ p (take x.listed list) → Queueing n text t₀ t₂ (p + 1) rest' (o && ltb last x.ticket) x.ticket
  wait_queued x list rest' t₁ t₂ l r m k a b = let w : Wait = wait_from x list in let at : 0 + length q.waits ≡ p = (let i = q.place in omega arith) in
      let long : x.listed ≡ length (take x.listed list) = sym (length-take-le x.listed list k) in
      let here : t₂ ≡ queued_at t p w = b ∙ ap (λ (u : List ℕ). put_list u p (take x.listed list)) (a ∙ rw (m, ← long)) in record {
        waits = q.waits ++ (w ∷ []);
        begun = next_read read_wait n text q.waits p rest q.begun w rest' l r;
        kept = here ∙ rw q.kept (sym (queued_then t₀ 0 q.waits w ∙ rw at));
        rises = rw (map-append (λ (v : Wait). v.ticket) q.waits (w ∷ [])) (next_rises (tickets q.waits) o last x.ticket q.rises);
        place = (let i = q.place in let j = length-append q.waits (w ∷ []) in omega arith);
      }

  pub waits_queued : n ≤ p → WaitsStored (times n read_wait text) t₀ t rest o
  waits_queued l = record { waits = q.waits; reads = all_read read_wait n text q.waits p rest q.begun l; kept = q.kept; order = q.rises.order }
