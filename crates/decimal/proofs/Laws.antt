-- One text after another; how many digits a number has, and that the kit writes them.
use Prim.Native.Nat.{ℕ, zero, suc, ◌+◌, ◌*◌, ◌/◌, ◌%◌, ◌^◌, ◌≤◌, ◌<◌}
use mathlib.Core.Path.{◌≡◌, refl, sym, ap, ◌∙◌}
use mathlib.Core.List.{List, [], ◌∷◌, ◌++◌, append_assoc}
use native.Mathlib.Omega.{arith}
use native.Mathlib.Nat.{add-zero, pow-suc}
use native.Mathlib.Numerals.{add-one}
use lib.ListN.{length, get_or, set, take, drop, length-append}
use lib.Seq.{sets, sets-eq, length-sets, length-take-le, take-suc, take_all}
use Rattle.model.specs.Snapshot.{digits_up_to}
use Rattle.model.proofs.Digits.{digits_one, digits_more}
use Rattle.decimal.specs.declared.Writer.{Writer}
use Rattle.decimal.specs.Text.{Room, Wrote}
use Rattle.decimal.specs.Writing.{HasRoom, Appended}
use lib.Seq.{take-append_seam}
use Rattle.std.specs.Fmt.{decimal}
use Rattle.std.proofs.lemmas.Fmt.{decimal_by_steps}
use Rattle.std.proofs.lemmas.List.{take-append-drop}

sets_then : (buf x y : List ℕ) (at : ℕ) → sets (sets buf at x) (at + length x) y ≡ sets buf at (x ++ y)
sets_then buf [] y at = rw (add-zero at)
sets_then buf (b ∷ x) y at = let e : at + suc (length x) ≡ suc at + length x = omega arith in rw e (sets_then (set buf at b) x y (suc at))

-- one text after another
module _ (buf : List ℕ) (at : ℕ) (x y : List ℕ) {r : ℕ} {next : List ℕ} (w : Wrote buf at x r next) where
  pub then_room : Room buf at (x ++ y) → Room next r y
  then_room h = let e = length-append x y in let l : length next ≡ length buf = ap length w.0 ∙ length-sets buf at x in let p : r ≡ at + length x = w.1 in omega arith

  pub then_wrote : {last : ℕ} {end : List ℕ} → Wrote next r y last end → Wrote buf at (x ++ y) last end
  then_wrote v = (v.0 ∙ rw (w.0, w.1) (sets_then buf x y at), v.1 ∙ (let e = length-append x y in let p : r ≡ at + length x = w.1 in omega arith))

pub appended_none : (w : Writer) → Appended w w []
appended_none w = record { same = refl; wrote = (refl, sym (add-zero w.at)) }

module _ {w v u : Writer} (x y : List ℕ) (a : Appended w v x) where
  pub appended_then : Appended v u y → Appended w u (x ++ y)
  appended_then b = record {
    same = b.same ∙ a.same;
    wrote = then_wrote w.buf.now w.at x y a.wrote b.wrote;
  }

-- WHAT IS LEFT TO WRITE of a whole text: there is room for it, and with it the whole is written
pub record Due (w₀ : Writer) (whole : List ℕ) (w : Writer) (left : List ℕ) : Type 0 where
  pub room : HasRoom w left
  pub done : {end : Writer} → Appended w end left → Appended w₀ end whole

pub due_all : {w : Writer} {whole : List ℕ} → HasRoom w whole → Due w whole w whole
due_all h = record { room = h; done = λ a. a }

module _ {w₀ : Writer} {whole : List ℕ} {w : Writer} (x y : List ℕ) (d : Due w₀ whole w (x ++ y)) where
  pub due_first : HasRoom w x
  due_first = let e = length-append x y in let h = d.room.fits in record { fits = omega arith }

  pub due_then : {v : Writer} → Appended w v x → Due w₀ whole v y
  due_then {v} a = record {
    room = record { fits = then_room w.buf.now w.at x y a.wrote d.room.fits };
    done = λ b. d.done (appended_then x y a b);
  }

-- one more byte of a text
pub wrote_more : (buf text : List ℕ) (at i : ℕ) {now : List ℕ} → i < length text → now ≡ sets buf at (take i text) → set now (at + i) (get_or text i 0) ≡ sets buf at (take (i + 1) text)
wrote_more buf text at i {now} l e = let X : List ℕ = take i text in let b : ℕ = get_or text i 0 in let k : length X ≡ i = length-take-le i text (omega arith) in
    rw (add-one, take-suc text i 0 l, e) (ap (λ (j : ℕ). set (sets buf at X) (at + j) b) (sym k) ∙ sets_then buf X (b ∷ []) at)

pub wrote_all : (buf text : List ℕ) (at i : ℕ) {now : List ℕ} → i ≡ length text → now ≡ sets buf at (take i text) → Wrote buf at text (at + i) now
wrote_all buf text at i z e = (e ∙ ap (λ (x : List ℕ). sets buf at x) (take_all i text (omega arith)), ap (λ (j : ℕ). at + j) z)

-- COUNTING: one digit, or one more than the tenth has
pub count_one : (n : ℕ) → n < 10 → length (digits_up_to 19 n) ≡ 1
count_one n h = ap length (digits_one n h)

-- twenty digits are enough
below : (n : ℕ) → n < 2 ^ 64 → n < 10 ^ 20
below n h = let a : 2 ^ 64 ≡ 18446744073709551616 = refl in let b : 10 ^ 20 ≡ 100000000000000000000 = refl in omega arith

pub count_more : (n : ℕ) → 10 ≤ n → n < 2 ^ 64 → length (digits_up_to 19 n) ≡ suc (length (digits_up_to 19 (n / 10)))
count_more n l h = let e = length-append (digits_up_to 19 (n / 10)) ((48 + n % 10) ∷ []) in ap length (digits_more n l (below n h)) ∙ omega arith

pow_some : (k : ℕ) → 1 ≤ 10 ^ k
pow_some zero = omega arith
pow_some (suc k) = let p : 10 ^ suc k ≡ 10 ^ k * 10 = pow-suc 10 k in let h = pow_some k in omega arith

-- one digit more than the power of ten that a number reaches
pub count_is : (k n : ℕ) → 10 ^ k ≤ n → n < 10 * 10 ^ k → n < 2 ^ 64 → length (digits_up_to 19 n) ≡ k + 1
count_is zero n l h w = count_one n (let e : 10 ^ 0 ≡ 1 = refl in omega arith)
count_is (suc k) n l h w = let p : 10 ^ suc k ≡ 10 ^ k * 10 = pow-suc 10 k in let s = pow_some k in
    count_more n (omega arith) w ∙ (let e = count_is k (n / 10) (omega arith) (omega arith) (omega arith) in omega arith)

-- WRITING: the kit's digits are the meaning's
pub decimal_is : (n : ℕ) → n < 2 ^ 64 → decimal n ≡ digits_up_to 19 n
decimal_is n h = decimal_by_steps (λ m ds. m < 2 ^ 64 → ds ≡ digits_up_to 19 m) (λ m l w. sym (digits_one m l))
    (λ m ds l e w. sym (digits_more m l (below m w) ∙ ap (λ (x : List ℕ). x ++ ((48 + m % 10) ∷ [])) (sym (e (omega arith))))) n h h

-- a text written so that it ends behind its room, the other bytes as they were
pub written_there : (buf end x : List ℕ) (at r : ℕ) → Room buf at x → r + length x ≡ at + length x → drop r end ≡ x ++ drop (at + length x) buf → take r end ≡ take r buf → end ≡ sets buf at x
written_there buf end x at r room e d t = let p : r ≡ at = omega arith in
    sym (take-append-drop r end) ∙ rw (t, d, p) (sym (sets-eq x buf at room ∙ append_assoc (take at buf) x (drop (at + length x) buf)))

-- what was written at the front of a buffer is its front
module _ (buf x : List ℕ) (r : ℕ) (end : List ℕ) (room : Room buf 0 x) (w : Wrote buf 0 x r end) where
  pub front_is : take r end ≡ x
  front_is = let p : r ≡ length x = (let q : r ≡ 0 + length x = w.1 in omega arith) in rw (p, w.0, sets-eq x buf 0 room) (take-append_seam x (drop (0 + length x) buf))

  pub front_room : r ≤ length end
  front_room = let p : r ≡ 0 + length x = w.1 in let q : length end ≡ length buf = ap length w.0 ∙ length-sets buf 0 x in omega arith

-- of a writer that began there
module _ {w v : Writer} {x : List ℕ} (front : w.at ≡ 0) (room : HasRoom w x) (a : Appended w v x) where
  fits : Room w.buf.now 0 x
  fits = let f = room.fits in omega arith

  wrote : Wrote w.buf.now 0 x v.at v.buf.now
  wrote = (a.wrote.0 ∙ rw front, a.wrote.1 ∙ rw front)

  pub written_front : take v.at v.buf.now ≡ x
  written_front = front_is w.buf.now x v.at v.buf.now fits wrote

  pub written_within : v.at ≤ length v.buf.now
  written_within = front_room w.buf.now x v.at v.buf.now fits wrote
