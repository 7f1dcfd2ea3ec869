-- What a reading leaves of a text, or the text from a line that is not as due, is no longer than the text.
use Rattle.std.proofs.Common.{ℕ, zero, suc, ◌≤◌, List, [], ◌∷◌, length, le_refl, arith}
use Prim.Native.String.{String}
use Rattle.model.specs.Calls.{Kind, a_semaphore, a_mutex, an_event}
use Rattle.model.specs.Snapshot.{ascii, line}
use Rattle.model.specs.Reading.{Reader, ◌>>=◌, give, times, after, number_line, word_line, flag_line, read_values, read_object, read_wait, read_snapshot}
use Rattle.model.proofs.Logic.{by_option}
use Rattle.model.proofs.ReadExactly.{by_reading}
use Rattle.lines.specs.Outcome.{number_of}
use Rattle.lines.proofs.Shrinking.{Shrinks, after_shorter, number_of_shrinks}

module _ {A B : Type 0} (m : Reader A) (f : A → Reader B) where
  bind_shrinks : Shrinks m → ((a : A) → Shrinks (f a)) → Shrinks (m >>= f)
  unfolding ◌>>=◌
  bind_shrinks h k t = let s = h t in by_reading (m t) (λ from e. rw e (rw e at s))
      (λ a rest e. rw e (let r = k a rest in let q : length rest ≤ length t = rw e at s in omega arith))

give_shrinks : {A : Type 0} (a : A) → Shrinks (give a)
unfolding give
give_shrinks a t = le_refl (length t)

pub number_shrinks : (key : String) (low high : ℕ) → Shrinks (number_line key low high)
unfolding number_line number_of line
number_shrinks key low high = number_of_shrinks (ascii key) low high

word_shrinks : {A : Type 0} (ws : List (String × A)) → Shrinks (word_line ws)
unfolding word_line
word_shrinks [] t = le_refl (length t)
word_shrinks (w ∷ ws) t = by_option (after (ascii w.0) t) (λ o. rw o (word_shrinks ws t)) (λ rest o. rw o (after_shorter (ascii w.0) t rest o))

pub times_shrinks : {A : Type 0} (n : ℕ) (m : Reader A) → Shrinks m → Shrinks (times n m)
unfolding times
times_shrinks zero m h = give_shrinks []
times_shrinks (suc n) m h = bind_shrinks m _ h (λ a. bind_shrinks (times n m) _ (times_shrinks n m h) (λ l. give_shrinks (a ∷ l)))

flag_shrinks : (key : String) → Shrinks (flag_line key)
flag_shrinks key = bind_shrinks (number_line key 0 1) _ (number_shrinks key 0 1) (λ n. give_shrinks _)

values_shrink : (k : Kind) → Shrinks (read_values k)
unfolding read_values
values_shrink a_semaphore = bind_shrinks _ _ (number_shrinks "count=" _ _) (λ c. bind_shrinks _ _ (number_shrinks "max=" _ _) (λ m. give_shrinks _))
values_shrink a_mutex = bind_shrinks _ _ (number_shrinks "owner=" _ _) (λ o. bind_shrinks _ _ (number_shrinks "count=" _ _) (λ c. bind_shrinks _ _ (flag_shrinks "abandoned=") (λ a. give_shrinks _)))
values_shrink an_event = bind_shrinks _ _ (flag_shrinks "signaled=") (λ s. bind_shrinks _ _ (flag_shrinks "manual=") (λ m. give_shrinks _))

pub object_shrinks : Shrinks read_object
unfolding read_object
object_shrinks = bind_shrinks _ _ (number_shrinks "handle=" _ _) (λ h. bind_shrinks _ _ (word_shrinks _) (λ k. bind_shrinks _ _ (values_shrink k) (λ x. give_shrinks _)))

pub wait_shrinks : Shrinks read_wait
unfolding read_wait
wait_shrinks = bind_shrinks _ _ (number_shrinks "wait=" _ _) (λ t. bind_shrinks _ _ (word_shrinks _) (λ m. bind_shrinks _ _ (number_shrinks "owner=" _ _) (λ o. bind_shrinks _ _ (word_shrinks _) (λ c.
    bind_shrinks _ _ (number_shrinks "timeout=" _ _) (λ e. bind_shrinks _ _ (number_shrinks "alert=" _ _) (λ a. bind_shrinks _ _ (number_shrinks "n=" _ _) (λ n.
    bind_shrinks _ _ (times_shrinks n _ (number_shrinks "obj=" _ _)) (λ l. give_shrinks _))))))))

pub snapshot_shrinks : Shrinks read_snapshot
unfolding read_snapshot
snapshot_shrinks = bind_shrinks _ _ (number_shrinks "next=" _ _) (λ t. bind_shrinks _ _ (number_shrinks "objects=" _ _) (λ k. bind_shrinks _ _ (times_shrinks k _ object_shrinks) (λ os.
    bind_shrinks _ _ (number_shrinks "waits=" _ _) (λ m. bind_shrinks _ _ (times_shrinks m _ wait_shrinks) (λ ws. bind_shrinks _ _ (number_shrinks "sum=" _ _) (λ u. give_shrinks _))))))
