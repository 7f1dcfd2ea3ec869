-- A call's outcome, by the library and by the reference (01: the fresh reckoning); making; histories.
use Rattle.std.specs.Prelude.{◌||◌, cond, List, [], ◌∷◌, ◌++◌, ℕ, length, eqb, ltb}
use Rattle.std.proofs.Math.Option.{Option, none, some}
use Rattle.model.specs.Basics.{maybe, overwrite, number, done, corrupt, list_short}
use Rattle.model.specs.Objects.{cleared}
use Rattle.model.specs.Waits.{State, initial, object_at, put_object, Report, Woken, wake_by_walk, wake_by_search}
use Rattle.model.specs.Calls.{Operation, Lent, lend, nothing_lent, Call, least, Refusal, refusal}
use Rattle.model.specs.Calls.{refusals, Change, change}
use Rattle.model.specs.Layout.{table_length, encode, view, valid_tables}

-- "the answer and all numbers with it; the reports (ticket, answer, index) in order ..; every cell of lists and buffers
-- lent for writing; every value that the reckoning holds, place by place". What is held is a state, or a list of cells.
pub record Outcome (Held : Type 0) : Type 0 where
  pub answer : ℕ
  pub first : ℕ
  pub second : ℕ
  pub reports : List Report
  pub lent : Lent
  pub held : Held

-- "Refused ..: that answer, nothing altered"; "Numbers besides the answer are 0 where no rule gives them."
abbrev pub unaltered : {Held : Type 0} → ℕ → Lent → Held → Outcome Held
unaltered n l h = record { answer = n; first = 0; second = 0; reports = []; lent = l; held = h }

-- "Order: 9" (`table_step`) ", 12, 1, then 2, 3, 7, 10"
abbrev pub conditions_on : Operation → Lent → State → List Refusal
conditions_on op l s = let n = least op in
    refusal list_short (ltb (length l.wake) n.0 || ltb (length l.buffer) n.1) ∷ refusals op s

abbrev pub conditions : Call → State → List Refusal
conditions c s = conditions_on c.operation c.lent s

unfoldable pub first_refusal : List Refusal → Option ℕ
first_refusal [] = none
first_refusal (r ∷ rs) = let later = first_refusal rs in cond r.holds (some r.number) later

-- "It receives one record a woken wait (ticket, answer, index) from its front; the rest is unaltered."
unfoldable pub records : List Report → List ℕ
records [] = []
records (r ∷ rs) = r.ticket ∷ r.answer ∷ r.index ∷ records rs

-- "A pulse then clears its event."
abbrev pub completed : (List ℕ → State → Woken) → Lent → Change → Outcome State
completed wake_up l d = let v = wake_up d.changed d.state in let rs = d.reports ++ v.reports in record {
  answer = d.answer;
  first = d.first;
  second = d.second;
  reports = rs;
  lent = lend (overwrite (records rs) l.wake) (overwrite d.text l.buffer);
  held = put_object v.state d.clears (cleared (object_at v.state.objects d.clears));
}

abbrev pub perform_on : (List ℕ → State → Woken) → State → Operation → Lent → Outcome State
perform_on wake_up s op l =
    maybe (first_refusal (conditions_on op l s)) (completed wake_up l (change op s)) (λ n. unaltered n l s)

abbrev pub perform : (List ℕ → State → Woken) → State → Call → Outcome State
perform wake_up s c = perform_on wake_up s c.operation c.lent

-- THE LIBRARY on states, and THE REFERENCE
unfoldable pub library_step : State → Call → Outcome State
library_step s c = perform wake_by_walk s c

unfoldable pub reference_step : State → Call → Outcome State
reference_step s c = perform wake_by_search s c

-- AN OUTCOME ON TABLES: what is held, as cells; read back, "the tables being read by their layout in docs/"
abbrev pub holding : {Held Kept : Type 0} → (Held → Kept) → Outcome Held → Outcome Kept
holding f o = record {
  answer = o.answer;
  first = o.first;
  second = o.second;
  reports = o.reports;
  lent = o.lent;
  held = f o.held;
}

abbrev pub on_tables : Outcome State → Outcome (List ℕ)
on_tables o = holding encode o

abbrev pub as_read : Outcome (List ℕ) → Outcome State
as_read o = holding view o

-- THE LIBRARY ON TABLES. "9 damaged tables: nothing altered", first in the order
unfoldable pub table_step : List ℕ → Call → Outcome (List ℕ)
table_step t c = cond (valid_tables t) (on_tables (library_step (view t) c)) (unaltered (number corrupt) c.lent t)

-- WHAT A HOST SEES of it, fixed by every public contract: the answer, two numbers and the number of records; every cell
-- of what was lent, and of the tables.
pub record Seen : Type 0 where
  pub numbers : List ℕ
  pub lent : Lent
  pub tables : List ℕ

abbrev pub sees : List ℕ → Lent → List ℕ → Seen
sees numbers lent tables = record { numbers = numbers; lent = lent; tables = tables }

abbrev pub seen : Outcome (List ℕ) → Seen
seen o = sees (o.answer ∷ o.first ∷ o.second ∷ length o.reports ∷ []) o.lent o.held

-- "The caller is handed the filled front of its own wake list, empty after a refusal": answer, first number and number
-- of records; the front; the tables.
pub record Handed : Type 0 where
  pub numbers : List ℕ
  pub front : List ℕ
  pub tables : List ℕ

abbrev pub hands : List ℕ → List ℕ → List ℕ → Handed
hands numbers front tables = record { numbers = numbers; front = front; tables = tables }

abbrev pub handed : Outcome (List ℕ) → Handed
handed o = hands (o.answer ∷ o.first ∷ length o.reports ∷ []) (records o.reports) o.held

-- HISTORIES. "a list of calls, each on the tables as the one before left them"
unfoldable pub run : {Held Step : Type 0} → (Held → Step → Outcome Held) → Held → List Step → List (Outcome Held)
run step h [] = []
run step h (c ∷ cs) = let o = step h c in o ∷ run step o.held cs

-- MAKING. "Making needs only the lengths; else 9." "Newly made tables are empty, next ticket 1."
unfoldable pub make_tables : List ℕ → Outcome (List ℕ)
make_tables t = cond (eqb (length t) table_length) (unaltered (number done) nothing_lent (encode initial))
    (unaltered (number corrupt) nothing_lent t)
