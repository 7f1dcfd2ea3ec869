-- The object places as cells, and the rules of one object on its four numbers.
use Rattle.std.specs.Prelude.{ℕ, ◌+◌, ◌-◌, ◌*◌, List, Bool, false, ◌&&◌, ◌||◌, cond, set, eqb, ltb, leb}
use Rattle.model.specs.Sizes.{object_places, mutex_ceiling}
use Rattle.model.specs.Layout.{object_size, in_object}

-- an object's cells (docs/LAYOUT.md): its kind, its count, its owner, its attribute
pub record Fields : Type 0 where
  pub kind : ℕ
  pub count : ℕ
  pub owner : ℕ
  pub attribute : ℕ

abbrev pub fields : ℕ → ℕ → ℕ → ℕ → Fields
fields kind count owner attribute = record { kind = kind; count = count; owner = owner; attribute = attribute }

abbrev pub no_fields : Fields
no_fields = fields 0 0 0 0

-- the first cell of object place p
abbrev pub object_cell : ℕ → ℕ
object_cell p = 1 + object_size * p

unfoldable pub fields_at : List ℕ → ℕ → Fields
fields_at t p = fields (in_object t p 0) (in_object t p 1) (in_object t p 2) (in_object t p 3)

unfoldable pub put_fields : List ℕ → ℕ → Fields → List ℕ
put_fields t p x = set (set (set (set t (object_cell p) x.kind) (object_cell p + 1) x.count) (object_cell p + 2) x.owner) (object_cell p + 3) x.attribute

abbrev pub is_handle : ℕ → Bool
is_handle h = ltb 0 h && leb h object_places

-- by handle; a number that is no handle names nothing, and nothing is stored there
unfoldable pub named : List ℕ → ℕ → Fields
named t h = cond (eqb h 0) no_fields (cond (ltb object_places h) no_fields (fields_at t (h - 1)))

unfoldable pub store : List ℕ → ℕ → Fields → List ℕ
store t h x = cond (eqb h 0) t (cond (ltb object_places h) t (put_fields t (h - 1) x))

-- SIGNALED, and ACQUIRING: the next state, and whether it had been abandoned
unfoldable pub signaled_fields : ℕ → Fields → Bool
signaled_fields asking x = cond (eqb x.kind 1) (ltb 0 x.count)
    (cond (eqb x.kind 2) ((eqb x.owner 0 || eqb x.owner asking) && ltb x.count mutex_ceiling)
    (cond (eqb x.kind 3) (ltb 0 x.count) false))

unfoldable pub acquired_fields : ℕ → Fields → Fields
acquired_fields asking x = cond (eqb x.kind 1) (fields 1 (x.count - 1) x.owner x.attribute)
    (cond (eqb x.kind 2) (cond (ltb x.count mutex_ceiling) (fields 2 (x.count + 1) asking 0) x)
    (cond (eqb x.kind 3) (cond (eqb x.attribute 0) (fields 3 0 x.owner 0) x) x))

unfoldable pub abandoned_fields : Fields → Bool
abandoned_fields x = eqb x.kind 2 && ltb 0 x.attribute

-- THE CHANGES of one object: the answer, and the next state, which is the object as it was where the answer is not 0
pub record Changed : Type 0 where
  pub answer : ℕ
  pub next : Fields

abbrev pub changed : ℕ → Fields → Changed
changed a x = record { answer = a; next = x }

unfoldable pub post_fields : ℕ → Fields → Changed
post_fields add x = cond (eqb x.kind 1) (cond (ltb x.attribute (x.count + add)) (changed 3 x) (changed 0 (fields 1 (x.count + add) x.owner x.attribute))) (changed 1 x)

-- unlock and kill ask first whether `asking` holds the mutex
abbrev pub if_held : ℕ → Fields → Fields → Changed
if_held asking x next = cond (eqb x.kind 2) (cond (eqb asking 0) (changed 1 x) (cond (eqb x.owner asking) (changed 0 next) (changed 2 x))) (changed 1 x)

unfoldable pub unlock_fields : ℕ → Fields → Changed
unlock_fields asking x = if_held asking x (fields 2 (x.count - 1) (cond (eqb x.count 1) 0 x.owner) x.attribute)

unfoldable pub kill_fields : ℕ → Fields → Changed
kill_fields asking x = if_held asking x (fields 2 0 0 1)

-- an event is set (1) or cleared (0)
unfoldable pub switch_fields : ℕ → Fields → Changed
switch_fields to x = cond (eqb x.kind 3) (changed 0 (fields 3 to x.owner x.attribute)) (changed 1 x)
