-- What the reading of a line leaves of a text, or the text from a line that is not as due, is no longer than the text.
use Rattle.std.proofs.Common.{◌≡◌, ℕ, ◌≤◌, ◌&&◌, eqb, leb, List, [], ◌∷◌, ◌++◌, length, drop, le_refl, arith}
use mathlib.Core.Option.{none, some}
use Rattle.model.specs.Reading.{Read, good, bad, Reader, after, leading}
use Rattle.model.proofs.Digits.{digits}
use Rattle.model.proofs.Logic.{by_bool, by_option, differ}
use Rattle.lines.specs.Outcome.{either_of, number_of}

abbrev pub left : {A : Type 0} → Read A → List ℕ
left (good a rest) = rest
left (bad from) = from

abbrev pub Shrinks : {A : Type 0} → Reader A → Type 0
Shrinks m = (t : List ℕ) → length (left (m t)) ≤ length t

pub after_shorter : (x t rest : List ℕ) → after x t ≡ some rest → length rest ≤ length t
unfolding after
after_shorter [] t rest e = let z : t ≡ rest = cc in rw z (le_refl (length rest))
after_shorter (b ∷ x) [] rest e = differ cc
after_shorter (b ∷ x) (c ∷ t) rest e = by_bool (eqb b c)
    (λ s. let h = after_shorter x t rest (rw s at e) in omega arith) (λ n. let z : none ≡ some rest = rw n at e in differ cc)

-- a number's line, and one of two, whatever bytes are asked for
pub number_of_shrinks : (key : List ℕ) (low high : ℕ) → Shrinks (number_of key low high)
unfolding number_of
number_of_shrinks key low high t = let n = leading 0 (drop (length key) t) in by_bool (leb low n && leb n high)
    (λ y. rw y (by_option (after (key ++ (digits n ++ (10 ∷ []))) t) (λ o. rw o (le_refl (length t))) (λ rest o. rw o (after_shorter (key ++ (digits n ++ (10 ∷ []))) t rest o))))
    (λ f. rw f (le_refl (length t)))

pub either_of_shrinks : (first second : List ℕ) → Shrinks (either_of first second)
unfolding either_of
either_of_shrinks first second t = by_option (after first t)
    (λ n. rw n (by_option (after second t) (λ m. rw m (le_refl (length t))) (λ rest e. rw e (after_shorter second t rest e))))
    (λ rest e. rw e (after_shorter first t rest e))
