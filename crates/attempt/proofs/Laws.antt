-- What the definitions of an attempt come to on each way through the code.
use Prim.Native.Nat.{ℕ, ◌+◌, ◌-◌, ◌<◌, ◌≤◌}
use mathlib.Core.Path.{◌≡◌, refl, sym, ◌∙◌}
use mathlib.Core.Bool.{Bool, true, false, not, ◌||◌, ◌&&◌}
use mathlib.Core.List.{List}
use native.Mathlib.Omega.{arith}
use lib.ListN.{length, get_or}
use lib.Dec.{eqb, ltb}
use native.Mathlib.Nat.{le_refl}
use borrow.Author.Tests.{lt-ltb, le-ltb, eq-eqb, ne_eqb, ltb-true}
use Rattle.model.proofs.Logic.{by_bool, clash, not_true, not_false}
use Rattle.refine.proofs.Fold.{all_at_lem}
use Rattle.cells.specs.Fold.{all_below, search_from}
use Rattle.cells.specs.Objects.{Fields, named, store, signaled_fields, acquired_fields, abandoned_fields}
use Rattle.cells.specs.Attempt.{signaled_at, acquire_at, abandoned_at, look_any, look_all, acquire_first, abandoned_first, Tried, missed, took, take_one, take_all, by_alert, try_any, try_all, try_list}
use Rattle.cells.proofs.Fold.{fold_none, fold_more, search_found, search_on, search_end}

-- one object
module _ (t : List ℕ) (h : ℕ) (x : Fields) (o : x ≡ named t h) where
  pub signaled_is : (asking : ℕ) → signaled_fields asking x ≡ signaled_at t asking h
  unfolding signaled_at
  signaled_is asking = rw o

  pub acquire_is : (asking : ℕ) (y : Fields) {u : List ℕ} → y ≡ acquired_fields asking x → u ≡ store t h y → u ≡ acquire_at t asking h
  unfolding acquire_at
  acquire_is asking y e q = q ∙ rw (e, o)

  pub abandoned_is : {dead : Bool} → dead ≡ abandoned_fields x → dead ≡ abandoned_at t h
  unfolding abandoned_at
  abandoned_is e = e ∙ rw o

-- a list
abbrev pub SignaledIn : List ℕ → ℕ → List ℕ → ℕ → Bool
SignaledIn t asking list i = signaled_at t asking (get_or list i 0)

module _ (t : List ℕ) (asking : ℕ) (list : List ℕ) where
  -- the loop's state: the rest of the look decides
  pub any_start : look_any t asking list ≡ search_from (SignaledIn t asking list) 0 (length list - 0)
  unfolding look_any
  any_start = let z : length list - 0 ≡ length list = omega arith in rw z

  pub any_found : (i : ℕ) {b : Bool} → i < length list → b ≡ SignaledIn t asking list i → b ≡ true → look_any t asking list ≡ search_from (SignaledIn t asking list) i (length list - i) → i ≡ look_any t asking list
  any_found i l e y q = sym (q ∙ search_found (SignaledIn t asking list) i (length list) l (sym e ∙ y))

  pub any_on : (i : ℕ) {b : Bool} → i < length list → b ≡ SignaledIn t asking list i → b ≡ false → look_any t asking list ≡ search_from (SignaledIn t asking list) i (length list - i)
      → look_any t asking list ≡ search_from (SignaledIn t asking list) (i + 1) (length list - (i + 1))
  any_on i l e n q = q ∙ search_on (SignaledIn t asking list) i (length list) l (sym e ∙ n)

  pub any_end : (i : ℕ) → length list ≤ i → look_any t asking list ≡ search_from (SignaledIn t asking list) i (length list - i) → i ≡ look_any t asking list
  any_end i l q = sym (q ∙ search_end (SignaledIn t asking list) i (length list) l)

  pub all_start : all_below (SignaledIn t asking list) 0 ≡ true
  all_start = sym (fold_none (λ (b : Bool) i. b && SignaledIn t asking list i) true)

  pub all_stop : (i : ℕ) {b : Bool} → i < length list → b ≡ SignaledIn t asking list i → not b ≡ true → false ≡ look_all t asking list
  unfolding look_all
  all_stop i {b} l e y = by_bool (all_below (SignaledIn t asking list) (length list)) (λ z. clash (all_at_lem (SignaledIn t asking list) (length list) z i l) (sym e ∙ not_true b y)) (λ n. sym n)

  pub all_on : (i : ℕ) {b : Bool} → b ≡ SignaledIn t asking list i → not b ≡ false → all_below (SignaledIn t asking list) i ≡ true → all_below (SignaledIn t asking list) (i + 1) ≡ true
  all_on i {b} e n q = sym (fold_more (λ (b : Bool) i. b && SignaledIn t asking list i) true i) ∙ rw (q, sym e, not_false b n)

  pub all_end : (i : ℕ) → i ≡ length list → all_below (SignaledIn t asking list) i ≡ true → true ≡ look_all t asking list
  unfolding look_all
  all_end i e q = sym (rw e at q)

  -- acquiring one more
  pub acquired_start : t ≡ acquire_first t asking list 0
  unfolding acquire_first
  acquired_start = fold_none (λ (u : List ℕ) i. acquire_at u asking (get_or list i 0)) t

  pub acquired_more : (i : ℕ) {u v : List ℕ} → u ≡ acquire_first t asking list i → v ≡ acquire_at u asking (get_or list i 0) → v ≡ acquire_first t asking list (i + 1)
  unfolding acquire_first
  acquired_more i e q = q ∙ rw e (fold_more (λ (u : List ℕ) i. acquire_at u asking (get_or list i 0)) t i)

  pub abandoned_start : false ≡ abandoned_first t asking list 0
  unfolding abandoned_first
  abandoned_start = fold_none (λ (b : Bool) i. b || abandoned_at (acquire_first t asking list i) (get_or list i 0)) false

  pub abandoned_more : (i : ℕ) {u : List ℕ} {dead here : Bool} → u ≡ acquire_first t asking list i → dead ≡ abandoned_first t asking list i → here ≡ abandoned_at u (get_or list i 0) → (dead || here) ≡ abandoned_first t asking list (i + 1)
  unfolding abandoned_first
  abandoned_more i e d h = rw (d, h, e) (fold_more (λ (b : Bool) i. b || abandoned_at (acquire_first t asking list i) (get_or list i 0)) false i)

-- attempts
module _ (t : List ℕ) (asking : ℕ) where
  pub taken : (h i : ℕ) {dead : Bool} {u : List ℕ} → u ≡ acquire_at t asking h → dead ≡ abandoned_at t h → took dead i u ≡ take_one t asking h i
  unfolding take_one
  taken h i q d = rw (d, q)

  pub taken_all : (list : List ℕ) {dead : Bool} {u : List ℕ} → u ≡ acquire_first t asking list (length list) → dead ≡ abandoned_first t asking list (length list) → took dead 0 u ≡ take_all t asking list
  taken_all list q d = rw (d, q)

  pub alert_took : (alert n : ℕ) {b : Bool} {x : Tried} → b ≡ signaled_at t asking alert → b ≡ true → x ≡ take_one t asking alert n → x ≡ by_alert t asking alert n
  unfolding by_alert
  alert_took alert n e y q = q ∙ rw (sym e, y)

  pub alert_missed : (alert n : ℕ) {b : Bool} → b ≡ signaled_at t asking alert → b ≡ false → missed t ≡ by_alert t asking alert n
  unfolding by_alert
  alert_missed alert n e y = rw (sym e, y)

  module _ (alert : ℕ) (list : List ℕ) where
    pub any_took : {i : ℕ} → i ≡ look_any t asking list → i < length list → take_one t asking (get_or list i 0) i ≡ try_any t asking alert list
    unfolding try_any
    any_took {i} e l = rw (sym e, lt-ltb i (length list) l)

    pub any_left : {i : ℕ} → i ≡ look_any t asking list → length list ≤ i → by_alert t asking alert (length list) ≡ try_any t asking alert list
    unfolding try_any
    any_left {i} e l = rw (sym e, le-ltb i (length list) l)

    pub all_took : {b : Bool} → b ≡ look_all t asking list → b ≡ true → take_all t asking list ≡ try_all t asking alert list
    unfolding try_all
    all_took e y = rw (sym e, y)

    pub all_left : {b : Bool} → b ≡ look_all t asking list → b ≡ false → by_alert t asking alert (length list) ≡ try_all t asking alert list
    unfolding try_all
    all_left e y = rw (sym e, y)

    pub list_any : {mode : ℕ} → mode ≡ 0 → try_any t asking alert list ≡ try_list t mode asking alert list
    unfolding try_list
    list_any {mode} e = rw (eq-eqb mode 0 e)

    pub list_all : {mode : ℕ} → (mode ≡ 0 → ⊥) → try_all t asking alert list ≡ try_list t mode asking alert list
    unfolding try_list
    list_all {mode} n = rw (ne_eqb mode 0 n)

-- an attempt that fails alters nothing
pub alert_same : (t : List ℕ) (asking alert n : ℕ) → (by_alert t asking alert n).served ≡ false → (by_alert t asking alert n).tables ≡ t
unfolding by_alert take_one
alert_same t asking alert n e = by_bool (signaled_at t asking alert) (λ y. clash refl (let q : true ≡ false = rw y at e in q)) (λ m. rw m)

pub any_same : (t : List ℕ) (asking alert : ℕ) (list : List ℕ) → (try_any t asking alert list).served ≡ false → (try_any t asking alert list).tables ≡ t
unfolding try_any take_one
any_same t asking alert list e = by_bool (ltb (look_any t asking list) (length list)) (λ y. clash refl (let q : true ≡ false = rw y at e in q))
    (λ n. rw n (alert_same t asking alert (length list) (let q : (by_alert t asking alert (length list)).served ≡ false = rw n at e in q)))

all_same_tables : (t : List ℕ) (asking alert : ℕ) (list : List ℕ) → (try_all t asking alert list).served ≡ false → (try_all t asking alert list).tables ≡ t
unfolding try_all
all_same_tables t asking alert list e = by_bool (look_all t asking list) (λ y. clash refl (let q : true ≡ false = rw y at e in q))
    (λ n. rw n (alert_same t asking alert (length list) (let q : (by_alert t asking alert (length list)).served ≡ false = rw n at e in q)))

pub missed_same : (t : List ℕ) (mode asking alert : ℕ) (list : List ℕ) → (try_list t mode asking alert list).served ≡ false → (try_list t mode asking alert list).tables ≡ t
unfolding try_list
missed_same t mode asking alert list e = by_bool (eqb mode 0)
    (λ y. rw y (any_same t asking alert list (let q : (try_any t asking alert list).served ≡ false = rw y at e in q)))
    (λ n. rw n (all_same_tables t asking alert list (let q : (try_all t asking alert list).served ≡ false = rw n at e in q)))

-- an index is at most the list's length
lt_le : {a b : ℕ} → a < b → a ≤ b
lt_le l = omega arith

alert_index : (t : List ℕ) (asking alert n : ℕ) → (by_alert t asking alert n).index ≤ n
unfolding by_alert take_one
alert_index t asking alert n = by_bool (signaled_at t asking alert) (λ y. rw y (le_refl n)) (λ m. rw m (omega arith))

any_index : (t : List ℕ) (asking alert : ℕ) (list : List ℕ) → (try_any t asking alert list).index ≤ length list
unfolding try_any take_one
any_index t asking alert list = by_bool (ltb (look_any t asking list) (length list)) (λ y. rw y (lt_le (ltb-true (look_any t asking list) (length list) y))) (λ n. rw n (alert_index t asking alert (length list)))

all_index : (t : List ℕ) (asking alert : ℕ) (list : List ℕ) → (try_all t asking alert list).index ≤ length list
unfolding try_all
all_index t asking alert list = by_bool (look_all t asking list) (λ y. rw y (omega arith)) (λ n. rw n (alert_index t asking alert (length list)))

pub index_le : (t : List ℕ) (mode asking alert : ℕ) (list : List ℕ) → (try_list t mode asking alert list).index ≤ length list
unfolding try_list
index_le t mode asking alert list = by_bool (eqb mode 0) (λ y. rw y (any_index t asking alert list)) (λ n. rw n (all_index t asking alert list))
