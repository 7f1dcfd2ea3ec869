-- The sum of a snapshot's bytes: at most 122 for each, so that its line has seven digits at most.
use mathlib.Core.Path.{◌≡◌}
use mathlib.Core.List.{List, [], ◌∷◌, ◌++◌}
use Prim.Native.Nat.{ℕ, zero, suc, ◌+◌, ◌*◌, ◌/◌, ◌%◌, ◌≤◌}
use Prim.Native.String.{String}
use native.Mathlib.Omega.{arith}
use lib.ListN.{length, length-append}
use lib.Dec.{T, ltb, leb, lit≤}
use Rattle.model.specs.Basics.{bit, joined}
use Rattle.model.specs.Snapshot.{ascii, digits_up_to, line, object_text, objects_text, mode_text, clock_text, wait_text, snapshot_body, byte_sum}
use Rattle.model.specs.Objects.{Object, empty, semaphore, mutex, event}
use Rattle.model.specs.Waits.{Mode, any, all, Wait, State}
use Rattle.model.proofs.Logic.{by_bool}

pub record Light (x : List ℕ) : Type 0 where
  pub light : byte_sum x ≤ 122 * length x

pub sum_append : (x y : List ℕ) → byte_sum (x ++ y) ≡ byte_sum x + byte_sum y
unfolding byte_sum
sum_append [] y = omega arith
sum_append (b ∷ x) y = let h = sum_append x y in omega arith

then_light : {x y : List ℕ} → Light x → Light y → Light (x ++ y)
then_light {x} {y} p q = let a = sum_append x y in let l = length-append x y in let u = p.light in let v = q.light in record { light = omega arith }

digit_light : (n : ℕ) → Light ((48 + n % 10) ∷ [])
unfolding byte_sum
digit_light n = record { light = omega arith }

nil_light : Light []
unfolding byte_sum
nil_light = record { light = lit≤ tt }

digits_light : (k n : ℕ) → Light (digits_up_to k n)
unfolding digits_up_to
digits_light zero n = digit_light n
digits_light (suc k) n = by_bool (ltb n 10) (λ t. rw t (digit_light n)) (λ f. rw f (then_light (digits_light k (n / 10)) (digit_light n)))

words_light : (key : String) → T (leb (byte_sum (ascii key)) (122 * length (ascii key))) → Light (ascii key)
words_light key t = record { light = lit≤ t }

line_light : (key : String) (n : ℕ) → T (leb (byte_sum (ascii key)) (122 * length (ascii key))) → Light (line key n)
unfolding line byte_sum
line_light key n h = then_light (words_light key h) (then_light (digits_light 19 n) (record { light = lit≤ tt }))

object_light : (h : ℕ) (x : Object) → Light (object_text h x)
unfolding object_text byte_sum
object_light h empty = nil_light
object_light h (semaphore c m) = then_light (line_light "handle=" h tt) (then_light (words_light "kind=sem\n" tt) (then_light (line_light "count=" c tt) (line_light "max=" m tt)))
object_light h (mutex o c a) = then_light (line_light "handle=" h tt) (then_light (words_light "kind=mutex\n" tt) (then_light (line_light "owner=" o tt) (then_light (line_light "count=" c tt) (line_light "abandoned=" (bit a) tt))))
object_light h (event s m) = then_light (line_light "handle=" h tt) (then_light (words_light "kind=event\n" tt) (then_light (line_light "signaled=" (bit s) tt) (line_light "manual=" (bit m) tt)))

objects_light : (h : ℕ) (xs : List Object) → Light (objects_text h xs)
unfolding objects_text
objects_light h [] = nil_light
objects_light h (x ∷ xs) = then_light (object_light h x) (objects_light (suc h) xs)

mode_light : (m : Mode) → Light (mode_text m)
unfolding byte_sum
mode_light any = record { light = lit≤ tt }
mode_light all = record { light = lit≤ tt }

clock_light : (c : ℕ) → Light (clock_text c)
unfolding byte_sum
clock_light zero = record { light = lit≤ tt }
clock_light (suc c) = record { light = lit≤ tt }

each_light : {A : Type 0} (f : A → List ℕ) → ((a : A) → Light (f a)) → (l : List A) → Light (joined f l)
unfolding joined
each_light f h [] = nil_light
each_light f h (a ∷ l) = then_light (h a) (each_light f h l)

wait_light : (w : Wait) → Light (wait_text w)
unfolding wait_text byte_sum
wait_light w = then_light (line_light "wait=" w.ticket tt) (then_light (mode_light w.mode) (then_light (line_light "owner=" w.owner tt)
    (then_light (clock_light w.clock) (then_light (line_light "timeout=" w.timeout tt) (then_light (line_light "alert=" w.alert tt)
    (then_light (line_light "n=" (length w.list) tt) (each_light (line "obj=") (λ h. line_light "obj=" h tt) w.list)))))))

pub body_light : (s : State) → Light (snapshot_body s)
unfolding snapshot_body byte_sum
body_light s = then_light (line_light "next=" s.next tt) (then_light (line_light "objects=" _ tt) (then_light (objects_light 1 s.objects)
    (then_light (line_light "waits=" _ tt) (each_light wait_text wait_light _))))
