-- What an export comes to: which call was made on what C's variable leads to, and what C learns of its answer.
use Rattle.std.specs.Prelude.{◌≡◌, ◌<◌, ◌/◌, ◌%◌, ◌⊎◌, ⊤, ℕ, Bool, true, false, List, Option, Some, None, Result, Ok, Err}
use Rattle.std.specs.Str.{IsUtf8}
use Rattle.brc_words.specs.declared.kind.Kind.{Kind}
use Rattle.brc_words.specs.declared.kind.Kind.TheVariants as kinds
use Rattle.brc_client.specs.Numbers.{status_number}
use Rattle.brc_client.specs.Clients.{ClientSeen}
use Rattle.brc_client.specs.declared.data.Datum.{Datum}
use Rattle.brc_client.specs.declared.data.Datum.TheVariants as datums
use Rattle.brc_client.specs.declared.status.Status.{Status}
use Rattle.brc_client.specs.declared.status.Status.TheVariants as statuses
use Rattle.brc_client.specs.declared.thread.Stage.{Stage}
use Rattle.brc_client.specs.declared.thread.Stage.TheVariants as stages
use Rattle.brc_client.specs.Ends.{client_of}
use Rattle.brc_c.specs.declared.held.Held.{Held}

-- ---- what C learns

module _ {T : Type 0} where
  -- an answer by its number: 0, or that of the status
  abbrev pub code_of : Result T Status → ℕ
  code_of (Ok value) = 0
  code_of (Err status) = status_number status

  -- what an answer gives is written, as a number; a refusal writes nothing
  abbrev pub Writes : {U : Type 0} → (T → U) → U → U → Result T Status → Type 0
  Writes as_number old new (Ok value) = new ≡ as_number value
  Writes as_number old new (Err status) = new ≡ old

  abbrev pub itself : T → T
  itself value = value

  -- nothing is written, whatever the answer
  abbrev pub WritesNothing : Result T Status → Type 0
  WritesNothing answer = ⊤

abbrev pub truth_number : Bool → ℕ
truth_number true = 1
truth_number false = 0

-- what came out, or 0: no reference has the number 0
abbrev pub old_number : Option ℕ → ℕ
old_number (Some number) = number
old_number None = 0

abbrev pub kind_number : Kind → ℕ
kind_number kinds.Int = 1
kind_number kinds.Text = 2
kind_number kinds.List = 3
kind_number kinds.Dict = 4
kind_number kinds.Mailbox = 5
kind_number kinds.Nothing = 6
kind_number kinds.False = 7
kind_number kinds.True = 8

-- ---- which call was made

-- An export made the call on what its variable leads to, and handed on the answer: by its number, and by what it wrote.
module _ {S T : Type 0} where
  pub record Carries (call : S → S → Result T Status → Type 0) (old new : S) (code : ℕ)
      (writes : Result T Status → Type 0) : Type 0 where
    pub answer : Result T Status
    pub made : call old new answer
    pub told : code ≡ code_of answer
    pub written : writes answer

-- The call was made on the thread's client. Or the thread has left: it is as it was, and this is so.
pub data OnClient (call : ClientSeen → ClientSeen → Type 0) (left : Type 0) (old new : Stage) : Type 0 where
  IsMade : (was is : ClientSeen) → old ≡ stages.Works was → new ≡ stages.Works is → call was is
      → OnClient call left old new
  HasLeft : client_of old ≡ None → new ≡ old → left → OnClient call left old new

-- the call was made on the thread's client, and this is its answer; or the thread has left, and the answer is Gone
module _ {T : Type 0} where
  abbrev pub ByClient : (ClientSeen → ClientSeen → Result T Status → Type 0) → Stage → Stage → Result T Status → Type 0
  ByClient call old new answer = OnClient (λ was is. call was is answer) (answer ≡ Err statuses.Gone) old new

  -- the same of a call that reads these bytes as a text first: if they are none, nothing is done
  abbrev pub OrNotText : List ℕ → (ClientSeen → ClientSeen → Result T Status → Type 0) → ClientSeen → ClientSeen
      → Result T Status → Type 0
  OrNotText bytes call old new answer =
      call old new answer ⊎ ((answer ≡ Err statuses.NotText) × (IsUtf8 bytes → ⊥) × (new ≡ old))

-- What a value holds that C hands over in two words: its bits; and above its label what they are.
abbrev pub holds_in : ℕ → ℕ
holds_in noted = noted / 4294967296

abbrev pub label_in : ℕ → ℕ
label_in noted = noted % 4294967296

-- the datum that it is: a scalar by 0 and 1, the number of a reference by 2
pub data HandsDatum (bits noted : ℕ) (datum : Datum) : Type 0 where
  IsScalar : holds_in noted < 2 → datum ≡ datums.Scalar (record { label = label_in noted; bits = bits })
      → HandsDatum bits noted datum
  IsReference : holds_in noted ≡ 2 → datum ≡ datums.Object bits (record { label = label_in noted; bits = 0 })
      → HandsDatum bits noted datum

-- a call on the datum that C hands over; if it holds anything else, nothing is done
module _ {T : Type 0} where
  abbrev pub OrNotValue : ℕ → ℕ → (Datum → ClientSeen → ClientSeen → Result T Status → Type 0) → ClientSeen → ClientSeen
      → Result T Status → Type 0
  OrNotValue bits noted call old new answer =
      ((datum : Datum) × HandsDatum bits noted datum × call datum old new answer)
      ⊎ ((answer ≡ Err statuses.NotValue) × (2 < holds_in noted) × (new ≡ old))

-- An export on a thread's client: it made this call, returned its answer's number, and wrote what it gave.
module _ {T : Type 0} where
  abbrev pub CarriesOut : (ClientSeen → ClientSeen → Result T Status → Type 0) → Held → Held → ℕ
      → (Result T Status → Type 0) → Type 0
  CarriesOut call old new code writes = Carries (ByClient call) old.thread new.thread code writes

-- a call that is never refused
abbrev pub Always : (ClientSeen → ClientSeen → Type 0) → ClientSeen → ClientSeen → Result (Unit {0}) Status → Type 0
Always call old new (Ok done) = call old new
Always call old new (Err status) = ⊥
