-- What was read is what the writer writes of it: ReadLines and ReadBack the other way round, for any text.
use mathlib.Core.Path.{◌≡◌, refl, ap, sym, ◌∙◌, subst}
use mathlib.Core.Bool.{true, not, ◌&&◌}
use mathlib.Core.List.{List, [], ◌∷◌, ◌++◌, append_assoc}
use mathlib.Core.Option.{Option, none, some}
use mathlib.Core.Logic.{◌↔◌}
use Prim.Native.Nat.{ℕ, zero, suc, ◌≤◌}
use Prim.Native.String.{String}
use native.Mathlib.Omega.{arith}
use lib.ListN.{length, drop}
use lib.Dec.{eqb, leb}
use borrow.Author.Tests.{leb-true, eqb-true}
use Rattle.model.specs.Sizes.{object_places, wait_places, max_listed, never}
use Rattle.model.specs.Basics.{maybe, bit, joined, All}
use Rattle.model.specs.Objects.{Object, empty, semaphore, mutex, event, occupied}
use Rattle.model.specs.Calls.{Kind, a_semaphore, a_mutex, an_event}
use Rattle.model.specs.Snapshot.{ascii, line, object_text, mode_text, clock_text, wait_text}
use Rattle.model.proofs.Logic.{by_bool, by_option, differ, and_split}
use Rattle.model.specs.Reading.{Read, good, bad, Reader, ◌>>=◌, give, times, after, leading, number_line, word_line, flag_line, read_values, read_object, read_wait, Lines, read_snapshot}
use Rattle.model.proofs.ReadLines.{reads_number}
use Rattle.model.specs.RestoreTests.{entry_text, body_text}

-- THE FORM: a value that was read has the property, and its text is what was taken off
pub record Exact {A : Type 0} (m : Reader A) (text : A → List ℕ) (P : A → Type 0) : Type 0 where
  pub exact : (t : List ℕ) (a : A) (rest : List ℕ) → m t ≡ good a rest → (t ≡ text a ++ rest) × P a

pub by_reading {ℓ} : {A : Type 0} {P : Type ℓ} (r : Read A) → ((from : List ℕ) → r ≡ bad from → P) → ((a : A) (rest : List ℕ) → r ≡ good a rest → P) → P
by_reading (bad from) b g = b from refl
by_reading (good a rest) b g = g a rest refl

pub split : {A B : Type 0} (m : Reader A) (f : A → Reader B) (t : List ℕ) (b : B) (rest : List ℕ) → (m >>= f) t ≡ good b rest
    → (a : A) × (mid : List ℕ) × (m t ≡ good a mid) × (f a mid ≡ good b rest)
unfolding ◌>>=◌
split m f t b rest e = by_reading (m t) (λ from o. differ (let z : bad from ≡ good b rest = rw o at e in cc)) (λ a mid o. (a, mid, o, rw o at e))

given : {A : Type 0} (a b : A) (t rest : List ℕ) → give a t ≡ good b rest → (a ≡ b) × (t ≡ rest)
unfolding give
given a b t rest e = (cc, cc)

chain : {t mid : List ℕ} (x y rest : List ℕ) → t ≡ x ++ mid → mid ≡ y ++ rest → t ≡ (x ++ y) ++ rest
chain x y rest p q = p ∙ (ap (λ (l : List ℕ). x ++ l) q ∙ sym (append_assoc x y rest))

-- LINES
after_exact : (x t rest : List ℕ) → after x t ≡ some rest → t ≡ x ++ rest
unfolding after
after_exact [] t rest e = cc
after_exact (b ∷ x) [] rest e = differ (cc)
after_exact (b ∷ x) (c ∷ t) rest e = by_bool (eqb b c)
    (λ y. rw (eqb-true b c y) (ap (λ (l : List ℕ). c ∷ l) (after_exact x t rest (rw y at e))))
    (λ f. let z : ◌≡◌ {A = Option (List ℕ)} none (some rest) = rw f at e in differ (cc))

pub number_exact : (key : String) (low high : ℕ) → Exact (number_line key low high) (line key) (λ n. (low ≤ n) × (n ≤ high))
unfolding number_line
number_exact key low high = record {
  exact = λ t a rest e. let n = leading 0 (drop (length (ascii key)) t) in by_bool (leb low n && leb n high)
      (λ y. let e' : maybe (after (line key n) t) (bad t) (λ rest. good n rest) ≡ good a rest = rw y at e in by_option (after (line key n) t)
      (λ o. let z : bad t ≡ good a rest = rw o at e' in differ (cc))
      (λ r o. let z : good n r ≡ good a rest = rw o at e' in let p : n ≡ a = cc in let q : r ≡ rest = cc in let (u, v) = and_split (leb low n) (leb n high) y in (
        subst (λ (a : ℕ). t ≡ line key a ++ rest) p (subst (λ (r : List ℕ). t ≡ line key n ++ r) q (after_exact (line key n) t r o)),
        subst (λ (a : ℕ). (low ≤ a) × (a ≤ high)) p (leb-true low n u, leb-true n high v),
      )))
      (λ f. let z : bad t ≡ good a rest = rw f at e in differ (cc));
}

pub word_exact : {A : Type 0} (text : A → List ℕ) (ws : List (String × A)) → All (λ w. text w.1 ≡ ascii w.0) ws → Exact (word_line ws) text (λ a. Unit {0})
unfolding word_line
word_exact text [] h = record { exact = λ t a rest e. differ (cc) }
word_exact text (w ∷ ws) h = record {
  exact = λ t a rest e. by_option (after (ascii w.0) t)
      (λ o. (word_exact text ws h.1).exact t a rest (rw o at e))
      (λ r o. let z : good w.1 r ≡ good a rest = rw o at e in let p : w.1 ≡ a = cc in let q : r ≡ rest = cc in
      (subst (λ a. t ≡ text a ++ rest) p (subst (λ (r : List ℕ). t ≡ text w.1 ++ r) q (rw h.0 (after_exact (ascii w.0) t r o))), tt));
}

pub times_exact : {A : Type 0} (m : Reader A) (text : A → List ℕ) (P : A → Type 0) → Exact m text P → (n : ℕ) → Exact (times n m) (joined text) (λ l. (length l ≡ n) × All P l)
unfolding times joined
times_exact m text P h zero = record { exact = λ t a rest e. let (p, q) = given [] a t rest e in subst (λ a. (t ≡ joined text a ++ rest) × ((length a ≡ 0) × All P a)) p (q, (refl, tt)) }
times_exact m text P h (suc n) = record {
  exact = λ t l rest e.
      let (a, u, e1, f1) = split m _ t l rest e in let (k, v, e2, f2) = split (times n m) _ u l rest f1 in let (p, q) = given (a ∷ k) l v rest f2 in
      let (x1, y1) = h.exact t a u e1 in let (x2, y2) = (times_exact m text P h n).exact u k v e2 in
      subst (λ l. (t ≡ joined text l ++ rest) × ((length l ≡ suc n) × All P l)) p (chain (text a) (joined text k) rest x1 (x2 ∙ ap (λ (r : List ℕ). joined text k ++ r) q), (ap suc y2.0, (y1, y2.1)));
}

-- one after another: x was taken off before
pub record After {A : Type 0} (x : List ℕ) (m : Reader A) (text : A → List ℕ) (P : A → Type 0) : Type 0 where
  pub after : (t : List ℕ) (a : A) (rest : List ℕ) → m t ≡ good a rest → (x ++ t ≡ text a ++ rest) × P a

pub from_start : {A : Type 0} {m : Reader A} {text : A → List ℕ} {P : A → Type 0} → After [] m text P → Exact m text P
from_start h = record { exact = λ t a rest e. h.after t a rest e }

pub after_then : {A B : Type 0} (x : List ℕ) (m : Reader A) (f : A → Reader B) {tm : A → List ℕ} {P : A → Type 0} {text : B → List ℕ} {Q : B → Type 0}
    → Exact m tm P → ((a : A) → P a → After (x ++ tm a) (f a) text Q) → After x (m >>= f) text Q
after_then x m f {tm} h k = record {
  after = λ t b rest e. let (a, u, e1, f1) = split m f t b rest e in let (p, q) = h.exact t a u e1 in let (r, z) = (k a q).after u b rest f1 in
      (ap (λ (l : List ℕ). x ++ l) p ∙ (sym (append_assoc x (tm a) u) ∙ r), z);
}

pub after_give : {A : Type 0} (x : List ℕ) (a : A) {text : A → List ℕ} {P : A → Type 0} → text a ≡ x → P a → After x (give a) text P
after_give x a {text} {P} w h = record { after = λ t b rest e. let (p, q) = given a b t rest e in subst (λ b. (x ++ t ≡ text b ++ rest) × P b) p (ap (λ (l : List ℕ). l ++ t) (sym w) ∙ ap (λ (r : List ℕ). text a ++ r) q, h) }

as_bit : (n : ℕ) → n ≤ 1 → bit (not (eqb n 0)) ≡ n
as_bit zero h = refl
as_bit (suc zero) h = refl
as_bit (suc (suc n)) h = absurd (let z : ⊥ = omega arith in z)

pub flag_exact : (key : String) → Exact (flag_line key) (λ b. line key (bit b)) (λ b. Unit {0})
flag_exact key = from_start (after_then [] _ _ (number_exact key 0 1) (λ n r. after_give _ _ (rw (as_bit n r.1)) tt))

-- OBJECTS AND WAITS: an object that was read has a handle, and is occupied
pub record Listable (x : ℕ × Object) : Type 0 where
  pub low : 1 ≤ x.0
  pub high : x.0 ≤ object_places
  pub occupied : occupied x.1 ≡ true

kind_text : Kind → List ℕ
kind_text a_semaphore = ascii "kind=sem\n"
kind_text a_mutex = ascii "kind=mutex\n"
kind_text an_event = ascii "kind=event\n"

abbrev values_text : Object → List ℕ
values_text empty = []
values_text (semaphore c m) = line "count=" c ++ line "max=" m
values_text (mutex o c a) = line "owner=" o ++ (line "count=" c ++ line "abandoned=" (bit a))
values_text (event s m) = line "signaled=" (bit s) ++ line "manual=" (bit m)

record OfKind (k : Kind) (x : Object) : Type 0 where
  there : occupied x ≡ true
  text : (h : ℕ) → object_text h x ≡ line "handle=" h ++ (kind_text k ++ values_text x)

values_exact : (k : Kind) → Exact (read_values k) values_text (OfKind k)
unfolding read_values object_text kind_text
values_exact a_semaphore = from_start (after_then [] _ _ (number_exact "count=" 0 _) (λ c p. after_then _ _ _ (number_exact "max=" 0 _) (λ m q. after_give _ _ refl (record { there = refl; text = λ h. refl }))))
values_exact a_mutex = from_start (after_then [] _ _ (number_exact "owner=" 0 _) (λ o p. after_then _ _ _ (number_exact "count=" 0 _) (λ c q. after_then _ _ _ (flag_exact "abandoned=")
    (λ a r. after_give _ _ (simp append_assoc) (record { there = refl; text = λ h. refl })))))
values_exact an_event = from_start (after_then [] _ _ (flag_exact "signaled=") (λ c p. after_then _ _ _ (flag_exact "manual=") (λ m q. after_give _ _ refl (record { there = refl; text = λ h. refl }))))

pub object_exact : Exact read_object entry_text Listable
unfolding read_object kind_text
object_exact = from_start (after_then [] _ _ (number_exact "handle=" 1 _) (λ h r. after_then _ _ _ (word_exact kind_text _ (refl, (refl, (refl, tt)))) (λ k u. after_then _ _ _ (values_exact k)
    (λ x o. after_give _ _ (o.text h ∙ simp append_assoc) (record { low = r.0; high = r.1; occupied = o.there })))))

pub wait_exact : Exact read_wait wait_text (λ w. (1 ≤ w.ticket) × (length w.list ≤ max_listed))
unfolding read_wait wait_text
wait_exact = from_start (after_then [] _ _ (number_exact "wait=" 1 _) (λ t p. after_then _ _ _ (word_exact mode_text _ (refl, (refl, tt))) (λ m _. after_then _ _ _ (number_exact "owner=" 0 _) (λ o _.
    after_then _ _ _ (word_exact clock_text _ (refl, (refl, tt))) (λ c _. after_then _ _ _ (number_exact "timeout=" 0 _) (λ e _. after_then _ _ _ (number_exact "alert=" 0 _) (λ a _.
    after_then _ _ _ (number_exact "n=" 0 _) (λ n b. after_then _ _ _ (times_exact _ (line "obj=") _ (number_exact "obj=" 1 _) n) (λ l k. after_give _ _ (rw k.0 (simp append_assoc)) (p.0, rw k.0 b.1))))))))))

-- THE WHOLE
pub record Sensible (l : Lines) : Type 0 where
  pub entries : All Listable l.objects
  pub waits : All (λ w. (1 ≤ w.ticket) × (length w.list ≤ max_listed)) l.waits
  pub few : length l.waits ≤ wait_places

pub snapshot_exact : Exact read_snapshot (λ l. body_text l ++ line "sum=" l.sum) Sensible
unfolding read_snapshot
snapshot_exact = from_start (after_then [] _ _ (number_exact "next=" 1 _) (λ t _. after_then _ _ _ (number_exact "objects=" 0 _) (λ k _. after_then _ _ _ (times_exact _ entry_text Listable object_exact k) (λ os p.
    after_then _ _ _ (number_exact "waits=" 0 _) (λ m r. after_then _ _ _ (times_exact _ wait_text _ wait_exact m) (λ ws q. after_then _ _ _ (number_exact "sum=" 0 _) (λ u _.
    after_give _ _ (rw (p.0, q.0) (simp append_assoc)) (record { entries = p.1; waits = q.1; few = rw q.0 r.1 }))))))))

-- A LINE, EXACTLY: read as n if it is the writer's line of n and n is in the range; else bad where it begins.
pub line_good : (key : String) (low high : ℕ) → high ≤ never → (t : List ℕ) (n : ℕ) (rest : List ℕ) → (number_line key low high t ≡ good n rest) ↔ ((t ≡ line key n ++ rest) × (low ≤ n) × (n ≤ high))
line_good key low high b t n rest = (
  λ e. let (p, q) = (number_exact key low high).exact t n rest e in (p, q.0, q.1),
  λ (p, l, h). rw p ((reads_number key n l h b).reads rest),
)

bad_here : (key : String) (low high : ℕ) (t from : List ℕ) → number_line key low high t ≡ bad from → from ≡ t
unfolding number_line
bad_here key low high t from e = let n = leading 0 (drop (length (ascii key)) t) in by_bool (leb low n && leb n high)
    (λ y. let e' : maybe (after (line key n) t) (bad t) (λ rest. good n rest) ≡ bad from = rw y at e in by_option (after (line key n) t)
    (λ o. let z : bad t ≡ bad from = rw o at e' in cc) (λ r o. let z : good n r ≡ bad from = rw o at e' in differ (cc)))
    (λ f. let z : bad t ≡ bad from = rw f at e in cc)

pub line_bad : (key : String) (low high : ℕ) → high ≤ never → (t from : List ℕ) → number_line key low high t ≡ bad from → (from ≡ t) × ((n : ℕ) (rest : List ℕ) → low ≤ n → n ≤ high → t ≡ line key n ++ rest → ⊥)
line_bad key low high b t from e = (
  bad_here key low high t from e,
  λ n rest l h p. let g : number_line key low high t ≡ good n rest = (line_good key low high b t n rest).1 (p, l, h) in let z : ◌≡◌ {A = ℕ} 0 1 = cc in let w : ⊥ = omega arith in w,
)

-- THE OFFSET: what is left where reading stopped is an end of the text
pub record Within {A : Type 0} (m : Reader A) : Type 0 where
  pub within : (t from : List ℕ) → m t ≡ bad from → (x : List ℕ) × (t ≡ x ++ from)

within_then : {A B : Type 0} (m : Reader A) (f : A → Reader B) {tm : A → List ℕ} {P : A → Type 0} → Exact m tm P → Within m → ((a : A) → Within (f a)) → Within (m >>= f)
unfolding ◌>>=◌
within_then m f {tm} h w k = record {
  within = λ t from e. by_reading (m t)
      (λ u o. let z : bad u ≡ bad from = rw o at e in let p : u ≡ from = cc in let (x, q) = w.within t u o in (x, q ∙ ap (λ (r : List ℕ). x ++ r) p))
      (λ a u o. let z : f a u ≡ bad from = rw o at e in let (x, q) = (k a).within u from z in (tm a ++ x, (h.exact t a u o).0 ∙ (ap (λ (r : List ℕ). tm a ++ r) q ∙ sym (append_assoc (tm a) x from))));
}

within_give : {A : Type 0} (a : A) → Within (give a)
unfolding give
within_give a = record { within = λ t from e. differ (cc) }

within_number : (key : String) (low high : ℕ) → Within (number_line key low high)
within_number key low high = record { within = λ t from e. ([], sym (bad_here key low high t from e)) }

within_word : {A : Type 0} (ws : List (String × A)) → Within (word_line ws)
unfolding word_line
within_word [] = record { within = λ t from e. ([], cc) }
within_word (w ∷ ws) = record { within = λ t from e. by_option (after (ascii w.0) t) (λ o. (within_word ws).within t from (rw o at e)) (λ r o. let z : good w.1 r ≡ bad from = rw o at e in differ (cc)) }

within_times : {A : Type 0} (m : Reader A) {text : A → List ℕ} {P : A → Type 0} → Exact m text P → Within m → (n : ℕ) → Within (times n m)
unfolding times
within_times m h w zero = within_give []
within_times m {text} {P} h w (suc n) = within_then m _ h w (λ a. within_then (times n m) _ (times_exact m text P h n) (within_times m h w n) (λ l. within_give (a ∷ l)))

within_flag : (key : String) → Within (flag_line key)
within_flag key = within_then _ _ (number_exact key 0 1) (within_number key 0 1) (λ n. within_give _)

within_values : (k : Kind) → Within (read_values k)
unfolding read_values
within_values a_semaphore = within_then _ _ (number_exact "count=" 0 _) (within_number _ _ _) (λ c. within_then _ _ (number_exact "max=" 0 _) (within_number _ _ _) (λ m. within_give _))
within_values a_mutex = within_then _ _ (number_exact "owner=" 0 _) (within_number _ _ _) (λ c. within_then _ _ (number_exact "count=" 0 _) (within_number _ _ _) (λ m. within_then _ _ (flag_exact "abandoned=") (within_flag _) (λ a. within_give _)))
within_values an_event = within_then _ _ (flag_exact "signaled=") (within_flag _) (λ c. within_then _ _ (flag_exact "manual=") (within_flag _) (λ m. within_give _))

within_object : Within read_object
unfolding read_object kind_text
within_object = within_then _ _ (number_exact "handle=" 1 _) (within_number _ _ _) (λ h. within_then _ _ (word_exact kind_text _ (refl, (refl, (refl, tt)))) (within_word _) (λ k. within_then _ _ (values_exact k) (within_values k) (λ x. within_give _)))

within_wait : Within read_wait
unfolding read_wait
within_wait = within_then _ _ (number_exact "wait=" 1 _) (within_number _ _ _) (λ t. within_then _ _ (word_exact mode_text _ (refl, (refl, tt))) (within_word _) (λ m. within_then _ _ (number_exact "owner=" 0 _) (within_number _ _ _) (λ o.
    within_then _ _ (word_exact clock_text _ (refl, (refl, tt))) (within_word _) (λ c. within_then _ _ (number_exact "timeout=" 0 _) (within_number _ _ _) (λ e. within_then _ _ (number_exact "alert=" 0 _) (within_number _ _ _) (λ a.
    within_then _ _ (number_exact "n=" 0 _) (within_number _ _ _) (λ n. within_then _ _ (times_exact _ (line "obj=") _ (number_exact "obj=" 1 _) n) (within_times _ (number_exact "obj=" 1 _) (within_number _ _ _) n) (λ l. within_give _))))))))

pub within_snapshot : Within read_snapshot
unfolding read_snapshot
within_snapshot = within_then _ _ (number_exact "next=" 1 _) (within_number _ _ _) (λ t. within_then _ _ (number_exact "objects=" 0 _) (within_number _ _ _) (λ k. within_then _ _ (times_exact _ entry_text Listable object_exact k) (within_times _ object_exact within_object k) (λ os.
    within_then _ _ (number_exact "waits=" 0 _) (within_number _ _ _) (λ m. within_then _ _ (times_exact _ wait_text _ wait_exact m) (within_times _ wait_exact within_wait m) (λ ws. within_then _ _ (number_exact "sum=" 0 _) (within_number _ _ _) (λ u. within_give _))))))
