-- One attempt over a list of handles, the same for a fresh wait and for a queued one.
use Rattle.std.specs.Prelude.{ℕ, List, Bool, true, false, ◌&&◌, ◌||◌, cond, length, get_or, eqb, ltb}
use Rattle.model.specs.Sizes.{wait_places}
use Rattle.cells.specs.Fold.{fold_below, all_below, some_below, search_from}
use Rattle.cells.specs.Objects.{named, store, signaled_fields, acquired_fields, abandoned_fields}
use Rattle.cells.specs.Waits.{mode_at, owner_at, alert_at, list_of, queued_at}

unfoldable pub signaled_at : List ℕ → ℕ → ℕ → Bool
signaled_at t asking h = signaled_fields asking (named t h)

unfoldable pub acquire_at : List ℕ → ℕ → ℕ → List ℕ
acquire_at t asking h = store t h (acquired_fields asking (named t h))

unfoldable pub abandoned_at : List ℕ → ℕ → Bool
abandoned_at t h = abandoned_fields (named t h)

-- the lowest signaled index of a list, its length where there is none; whether all are signaled
unfoldable pub look_any : List ℕ → ℕ → List ℕ → ℕ
look_any t asking list = search_from (λ i. signaled_at t asking (get_or list i 0)) 0 (length list)

unfoldable pub look_all : List ℕ → ℕ → List ℕ → Bool
look_all t asking list = all_below (λ i. signaled_at t asking (get_or list i 0)) (length list)

-- the first n objects of a list acquired in order, and whether one of them had been abandoned
unfoldable pub acquire_first : List ℕ → ℕ → List ℕ → ℕ → List ℕ
acquire_first t asking list n = fold_below (λ u i. acquire_at u asking (get_or list i 0)) t n

unfoldable pub abandoned_first : List ℕ → ℕ → List ℕ → ℕ → Bool
abandoned_first t asking list n = fold_below (λ b i. b || abandoned_at (acquire_first t asking list i) (get_or list i 0)) false n

-- what an attempt leaves
pub record Tried : Type 0 where
  pub served : Bool
  pub answer : ℕ
  pub index : ℕ
  pub tables : List ℕ

abbrev pub missed : List ℕ → Tried
missed t = record { served = false; answer = 0; index = 0; tables = t }

-- answer 4 where something acquired had been abandoned
abbrev pub took : Bool → ℕ → List ℕ → Tried
took dead i t = record { served = true; answer = cond dead 4 0; index = i; tables = t }

unfoldable pub take_one : List ℕ → ℕ → ℕ → ℕ → Tried
take_one t asking h i = took (abandoned_at t h) i (acquire_at t asking h)

-- every object of the list
abbrev pub take_all : List ℕ → ℕ → List ℕ → Tried
take_all t asking list = took (abandoned_first t asking list (length list)) 0 (acquire_first t asking list (length list))

-- the alert, tried after a list of n handles
unfoldable pub by_alert : List ℕ → ℕ → ℕ → ℕ → Tried
by_alert t asking alert n = cond (signaled_at t asking alert) (take_one t asking alert n) (missed t)

unfoldable pub try_any : List ℕ → ℕ → ℕ → List ℕ → Tried
try_any t asking alert list = let i = look_any t asking list in
    cond (ltb i (length list)) (take_one t asking (get_or list i 0) i) (by_alert t asking alert (length list))

unfoldable pub try_all : List ℕ → ℕ → ℕ → List ℕ → Tried
try_all t asking alert list = cond (look_all t asking list) (take_all t asking list) (by_alert t asking alert (length list))

-- mode 0 is any
unfoldable pub try_list : List ℕ → ℕ → ℕ → ℕ → List ℕ → Tried
try_list t mode asking alert list = cond (eqb mode 0) (try_any t asking alert list) (try_all t asking alert list)

-- the wait at place p: the attempt of one for any, its alert after its list, all that its list names
abbrev pub any_at : List ℕ → ℕ → Tried
any_at t p = try_any t (owner_at t p) (alert_at t p) (list_of t p)

abbrev pub alert_of : List ℕ → ℕ → Tried
alert_of t p = by_alert t (owner_at t p) (alert_at t p) (length (list_of t p))

abbrev pub all_at : List ℕ → ℕ → Tried
all_at t p = take_all t (owner_at t p) (list_of t p)

-- its attempt
unfoldable pub try_at : List ℕ → ℕ → Tried
try_at t p = try_list t (mode_at t p) (owner_at t p) (alert_at t p) (list_of t p)

-- COULD BE SERVED, nothing taken: by the list, or by the alert after it; some queued wait could
unfoldable pub list_serves : List ℕ → ℕ → ℕ → List ℕ → Bool
list_serves t mode asking list = cond (eqb mode 0) (ltb (look_any t asking list) (length list)) (look_all t asking list)

unfoldable pub servable_at : List ℕ → ℕ → Bool
servable_at t p = list_serves t (mode_at t p) (owner_at t p) (list_of t p) || signaled_at t (owner_at t p) (alert_at t p)

unfoldable pub ready_at : List ℕ → ℕ → Bool
ready_at t p = queued_at t p && servable_at t p

abbrev pub some_servable : List ℕ → Bool
some_servable t = some_below (ready_at t) wait_places
