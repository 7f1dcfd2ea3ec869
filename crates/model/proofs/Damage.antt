-- A snapshot that was cut off, or in which one byte was changed, is no snapshot.
use mathlib.Core.Path.{◌≡◌, ap, sym, ◌∙◌}
use mathlib.Core.List.{List, [], ◌∷◌, ◌++◌, append_assoc}
use Prim.Native.Nat.{ℕ, zero, suc, ◌+◌, ◌-◌, ◌/◌, ◌%◌, ◌≤◌, ◌<◌}
use native.Mathlib.Omega.{arith}
use lib.ListN.{length, get_or, set, take, drop, length-append, length-drop, take-append-drop, get_or-append}
use lib.Seq.{get_or-append-add, get_or-set_same, get_or-set_other, take-append_seam, drop-append_seam, take-set-le, take-set-lt, drop-set-lt, take_at, drop_at}
use lib.Dec.{eqb, ltb, lit<}
use borrow.Author.Tests.{eqb-true, eqb-false, ltb-true, ltb-false}
use Rattle.model.specs.Sizes.{word32}
use Rattle.model.specs.Basics.{All}
use Rattle.model.specs.Waits.{State}
use Rattle.model.specs.Snapshot.{digits_up_to, line, snapshot_body, byte_sum, snapshot_text}
use Rattle.model.specs.Reading.{good, number32_line, read_snapshot}
use Rattle.model.specs.Restore.{accepted, restored}
use Rattle.model.proofs.Logic.{by_bool}
use Rattle.model.proofs.Valid.{Valid}
use Rattle.model.proofs.SnapshotSum.{body_light}
use Rattle.model.proofs.SnapshotLength.{snapshot_longest}
use Rattle.model.proofs.ReadBack.{lines_of, reads_32, reads_snapshot, snapshot_read}
use Rattle.model.proofs.Accepting.{accepted_is}

-- CUT OFF: a front that is itself a snapshot leaves nothing behind it
pub cut_refused : (s : State) → Valid s → (n : ℕ) → n < length (snapshot_text s) → (r : State) → restored (take n (snapshot_text s)) ≡ accepted r → ⊥
cut_refused s g n h r e = let a = accepted_is _ r e in let rest = drop n (snapshot_text s) in
    let w : snapshot_text r ++ rest ≡ snapshot_text s = rw a.writes (take-append-drop n (snapshot_text s)) in
    let z : good (lines_of r) rest ≡ good (lines_of s) [] = sym ((reads_snapshot r a.valid).reads rest) ∙ (ap read_snapshot w ∙ snapshot_read s g) in
    let d : rest ≡ [] = cc in let l = ap length d in let m = length-drop n (snapshot_text s) in omega arith

-- THE LAST LINE, of the sum n: 's', 'u', and then only bytes below 's'
abbrev sum_line : ℕ → List ℕ
sum_line n = line "sum=" n

abbrev Low : List ℕ → Type 0
Low z = All (λ b. b < 115) z

digits_low : (f n : ℕ) (z : List ℕ) → Low z → Low (digits_up_to f n ++ z)
unfolding digits_up_to
digits_low zero n z l = (omega arith, l)
digits_low (suc f) n z l = by_bool (ltb n 10) (λ t. rw t (omega arith, l))
    (λ t. rw (t, append_assoc (digits_up_to f (n / 10)) ((48 + n % 10) ∷ []) z) (digits_low f (n / 10) _ (omega arith, l)))

low_at : (z : List ℕ) (k : ℕ) → Low z → get_or z k 0 < 115
low_at [] k l = omega arith
low_at (b ∷ z) zero l = l.0
low_at (b ∷ z) (suc k) l = low_at z k l.1

then_low : (n k : ℕ) → get_or (sum_line n) (suc (suc k)) 0 < 115
unfolding line
then_low n k = low_at (drop 2 (sum_line n)) k (lit< tt, (lit< tt, digits_low 19 n (10 ∷ []) (lit< tt, tt)))

not_first : (n k : ℕ) → get_or (sum_line n) (suc k) 0 ≡ 115 → ⊥
unfolding line
not_first n zero e = omega arith
not_first n (suc k) e = let l = then_low n k in omega arith

-- of two texts that are the same but at i, neither has its last line further on
no_further : (x y : List ℕ) (n m i : ℕ) → ((k : ℕ) → (k ≡ i → ⊥) → get_or (x ++ sum_line n) k 0 ≡ get_or (y ++ sum_line m) k 0) → length y ≤ length x
unfolding line
no_further x y n m i same =
    let meet : (j k : ℕ) → length x + j ≡ length y + k → (length y + k ≡ i → ⊥) → get_or (sum_line n) j 0 ≡ get_or (sum_line m) k 0
    = λ j k w o. sym (get_or-append-add x (sum_line n) j 0) ∙ (rw w (same _ o) ∙ get_or-append-add y (sum_line m) k 0) in
    by_bool (ltb (length x) (length y)) (λ t. let l = ltb-true (length x) (length y) t in let d = length y - suc (length x) in
    by_bool (eqb (length y + 1) i)
    (λ t. let a = eqb-true (length y + 1) i t in absurd (not_first n d (meet (suc d) 0 (omega arith) (λ b. omega arith))))
    (λ f. let z : get_or (sum_line n) (suc (suc d)) 0 ≡ 117 = meet (suc (suc d)) 1 (omega arith) (eqb-false _ _ f) in let l = then_low n d in omega arith))
    (λ f. ltb-false (length x) (length y) f)

-- THE SUM is below 2^32, so its line tells it whole; and it changes with a byte
small : (s : State) → Valid s → byte_sum (snapshot_body s) < word32
unfolding snapshot_text
small s g = let a = snapshot_longest s g in let b = (body_light s).light in let c = length-append (snapshot_body s) (sum_line (byte_sum (snapshot_body s) % word32)) in omega arith

same_sum : (n m : ℕ) → n < word32 → m < word32 → sum_line (n % word32) ≡ sum_line (m % word32) → n ≡ m
same_sum n m h k e =
    let p : n % word32 ≡ n = omega arith in let q : m % word32 ≡ m = omega arith in let w : sum_line n ≡ sum_line m = rw (p, q) at e in
    let z : good n [] ≡ good m [] = sym ((reads_32 "sum=" n h).reads []) ∙ (ap (λ (l : List ℕ). number32_line "sum=" (l ++ [])) w ∙ (reads_32 "sum=" m k).reads []) in cc

sum_set : (x : List ℕ) (i b : ℕ) → i < length x → byte_sum (set x i b) + get_or x i 0 ≡ byte_sum x + b
unfolding byte_sum
sum_set [] i b h = absurd (let z : ⊥ = omega arith in z)
sum_set (c ∷ x) zero b h = omega arith
sum_set (c ∷ x) (suc i) b h = let z = sum_set x i b (omega arith) in omega arith

-- ONE BYTE: if a snapshot with i set to b is a snapshot, then b stood there
byte_same : (s r : State) → Valid s → Valid r → (i b : ℕ) → i < length (snapshot_text s) → snapshot_text r ≡ set (snapshot_text s) i b → get_or (snapshot_text s) i 0 ≡ b
unfolding snapshot_text
byte_same s r g k i b h e = let x = snapshot_body s in let y = snapshot_body r in let t = snapshot_text s in
    let u = sum_line (byte_sum x % word32) in let v = sum_line (byte_sum y % word32) in
    let same : (k : ℕ) → (k ≡ i → ⊥) → get_or (y ++ v) k 0 ≡ get_or (x ++ u) k 0 = λ k o. rw e (get_or-set_other t i k b 0 o) in
    let p = no_further y x _ _ i same in let q = no_further x y _ _ i (λ k o. sym (same k o)) in
    let l : length y ≡ length x = omega arith in
    let f : y ≡ take (length x) (set t i b) = sym (take_at y v (length x) l) ∙ ap (take (length x)) e in
    by_bool (ltb i (length x))
    (λ o. let j = ltb-true i (length x) o in
    let w : y ≡ set x i b = f ∙ (take-set-lt (length x) t i b j ∙ ap (λ (z : List ℕ). set z i b) (take-append_seam x u)) in
    let z : v ≡ u = sym (drop_at y v (length x) l) ∙ (ap (drop (length x)) e ∙ (drop-set-lt (length x) t i b j ∙ drop-append_seam x u)) in
    let a : byte_sum (set x i b) ≡ byte_sum x = ap byte_sum (sym w) ∙ same_sum _ _ (small r k) (small s g) z in let c = sum_set x i b j in
    get_or-append x u 0 i j ∙ omega arith)
    (λ o. let w : y ≡ x = f ∙ (take-set-le (length x) t i b (ltb-false i (length x) o) ∙ take-append_seam x u) in
    let z : y ++ v ≡ t = rw w in ap (λ (z : List ℕ). get_or z i 0) (sym z ∙ e) ∙ get_or-set_same t i b 0 h)

pub changed_refused : (s : State) → Valid s → (i b : ℕ) → i < length (snapshot_text s) → (get_or (snapshot_text s) i 0 ≡ b → ⊥)
    → (r : State) → restored (set (snapshot_text s) i b) ≡ accepted r → ⊥
changed_refused s g i b h n r e = let a = accepted_is _ r e in n (byte_same s r g a.valid i b h a.writes)
