-- What is told of a reading, and what is stored of it.
use Rattle.std.specs.Prelude.{◌≡◌, Bool, cond, List, [], ◌∷◌, ℕ, ◌≤◌, length, take, set, eqb, Result, IfOk, MatchResult}
use Prim.Native.String.{String}
use Rattle.model.specs.Sizes.{max_listed}
use Rattle.model.specs.Objects.{Object}
use Rattle.model.specs.Waits.{Mode, any, all, Wait}
use Rattle.model.specs.Calls.{Kind, a_semaphore, a_mutex, an_event}
use Rattle.model.specs.Layout.{object_of, mode_cell}
use Rattle.model.specs.Reading.{Read, good, bad, Reader, ◌>>=◌, word_line, read_values, Lines, read_snapshot}
use Rattle.model.specs.RestoreTests.{rising, handles, tickets, in_order}
use Rattle.refine.proofs.Objects.{fields_of}
use Rattle.kinds.specs.Values.{cells_of}
use Rattle.kinds.specs.declared.object.Object.{Object as Cells}
use Rattle.lines.specs.Outcome.{Stops, Told}
use Rattle.lines.specs.declared.NotDue.{NotDue}
use Rattle.reader.specs.Storing.{stored, queued_from}
use Rattle.tables.specs.declared.Header.{Header}

abbrev pub kind_words : List (String × Kind)
kind_words = ("kind=sem\n", a_semaphore) ∷ ("kind=mutex\n", a_mutex) ∷ ("kind=event\n", an_event) ∷ []

abbrev pub mode_words : List (String × Mode)
mode_words = ("mode=any\n", any) ∷ ("mode=all\n", all) ∷ []

abbrev pub clock_words : List (String × ℕ)
clock_words = ("clock=mono\n", 0) ∷ ("clock=real\n", 1) ∷ []

-- a kind, and its values
abbrev pub read_kinded : Reader Object
read_kinded = word_line kind_words >>= read_values

-- the object that these cells show, and that they are its cells
abbrev pub object_from : Cells → Object
object_from x = object_of x.kind x.count x.owner x.attribute

abbrev pub IsObject : Cells → Type 0
IsObject x = fields_of (object_from x) ≡ cells_of x

abbrev pub mode_of : ℕ → Mode
mode_of n = cond (eqb n 0) any all

abbrev pub wait_from : Header → List ℕ → Wait
wait_from x list = record { ticket = x.ticket; mode = mode_of x.terms.mode; owner = x.terms.owner; clock = x.terms.clock; timeout = x.terms.timeout; alert = x.terms.alert; list = take x.listed list }

-- THE CONTRACTS of what is read by value: what is told of the reading, and of what it gives
abbrev pub ObjectTold : Read Object → List ℕ → Result Cells NotDue → Type 0
ObjectTold read rest r = Told object_from read rest r × IfOk r IsObject

abbrev pub EntryTold : Read (ℕ × Object) → List ℕ → Result (ℕ × Cells) NotDue → Type 0
EntryTold read rest r = Told (λ x. (x.0, object_from x.1)) read rest r × IfOk r (λ x. IsObject x.1)

abbrev pub WaitTold : Read Wait → List ℕ → List ℕ → Result Header NotDue → Type 0
WaitTold read list rest r = Told (λ x. wait_from x list) read rest r × IfOk r (λ x. (mode_cell (mode_of x.terms.mode) ≡ x.terms.mode) × (x.listed ≤ max_listed))

-- and of what is stored as it is read: the objects, or the waits, that were read are those in the tables
pub record ObjectsStored (read : Read (List (ℕ × Object))) (t end rest : List ℕ) (in_order : Bool) : Type 0 where
  pub objects : List (ℕ × Object)
  pub reads : read ≡ good objects rest
  pub kept : end ≡ stored t objects
  pub order : in_order ≡ rising 0 (handles objects)

abbrev pub ObjectsTold : Read (List (ℕ × Object)) → List ℕ → List ℕ → List ℕ → Result Bool NotDue → Type 0
ObjectsTold read t end rest r = MatchResult r (λ o. ObjectsStored read t end rest o) (λ e. Stops read rest e)

pub record WaitsStored (read : Read (List Wait)) (t end rest : List ℕ) (in_order : Bool) : Type 0 where
  pub waits : List Wait
  pub reads : read ≡ good waits rest
  pub kept : end ≡ queued_from t 0 waits
  pub order : in_order ≡ rising 0 (tickets waits)

abbrev pub WaitsTold : Read (List Wait) → List ℕ → List ℕ → List ℕ → Result Bool NotDue → Type 0
WaitsTold read t end rest r = MatchResult r (λ o. WaitsStored read t end rest o) (λ e. Stops read rest e)

-- all of the text: in order or not, or a line that is not as due
pub record AllStored (text t end : List ℕ) (fine : Bool) : Type 0 where
  pub lines : Lines
  pub rest : List ℕ
  pub reads : read_snapshot text ≡ good lines rest
  pub kept : end ≡ queued_from (stored (set t 0 lines.next) lines.objects) 0 lines.waits
  pub order : fine ≡ in_order lines rest

pub record Stopped (text from : List ℕ) : Type 0 where
  pub reads : read_snapshot text ≡ bad from
  pub within : length from ≤ length text

abbrev pub ReadAll : List ℕ → List ℕ → List ℕ → Result Bool NotDue → Type 0
ReadAll text t end r = MatchResult r (λ fine. AllStored text t end fine) (λ e. Stopped text e.from.now)
