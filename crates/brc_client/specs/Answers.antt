-- The clauses of each call by numbers as one fact, of the client before it and behind it and of its answer. Who makes
-- such a call for somebody else, as an export for C does, cites it.
use Rattle.std.specs.Prelude.{◌≡◌, ◌≢◌, ◌<◌, ◌≤◌, ◌-◌, ◌⊎◌, ℕ, Bool, [], Option, Some, Result, Err, IfOk, IfErr, OnOk}
use Rattle.std.specs.Prelude.{OnErr, IfSome, IsTrue, IsFalse}
use Rattle.std.specs.declared.alloc.Global.{Global}
use Rattle.brc_words.specs.declared.fault.Fault.{Fault}
use Rattle.brc_words.specs.declared.fault.Fault.TheVariants as faults
use Rattle.brc_words.specs.declared.key.Key.{Key}
use Rattle.brc_count.specs.declared.handed.HandedBack.{HandedBack}
use Rattle.brc_count.specs.Frames.{FrameSeen, HandleSeen, KeepsHandles, Turns, word_asked}
use Rattle.brc_count.specs.biased.Bounded.{IsBounded}
use Rattle.brc_count.specs.Locking.{cell_in}
use Rattle.brc_count.specs.Polling.{Polled}
use Rattle.brc_things.specs.Makers.{truth_cell}
use Rattle.brc_things.specs.Dict_Calls.{DictPair}
use Rattle.brc_handles.specs.Handles.{filled, IsBare}
use Rattle.brc_client.specs.declared.status.Status.{Status}
use Rattle.brc_client.specs.Clients.{ClientSeen, Names, NamesNone, KeepsNumbers, KeepsNames, SpendsName, SpendsEach}
use Rattle.brc_client.specs.Calls.{OfNamed, ByHeap, RefusedOf, Adds, WithKey, Retained, Releases, PutsIn, PutsNot}
use Rattle.brc_client.specs.Calls.{Looks, IsOne}
use Rattle.brc_client.specs.Equal.{LooksAtTwo, ComparesCells}

-- ---- a call that gives a number

-- what the heap's call made has a number; or the call was refused
pub record Makes (call : FrameSeen Global → FrameSeen Global → Result HandleSeen Fault → Type 0) (old new : ClientSeen)
    (answer : Result ℕ Status) : Type 0 where
  pub made : IfOk answer (Adds (call old.frame) old new)
  pub refused : IfErr answer (ByHeap (λ fault. call old.frame new.frame (Err fault)))
  pub names : IfOk answer (Names new)
  pub keeps : KeepsNames old new
  pub unchanged : OnErr answer (KeepsNumbers old new)

-- what the heap's call on the object of a number gave has a number; or the call was refused
pub record Gives (call : FrameSeen Global → FrameSeen Global → ℕ → Result HandleSeen Fault → Type 0) (number : ℕ)
    (old new : ClientSeen) (answer : Result ℕ Status) : Type 0 where
  pub gave : IfOk answer (λ more. OfNamed old number
      (λ object. Adds (λ frame. call old.frame frame object.place) old new more))
  pub refused : IfErr answer (RefusedOf (λ k fault. call old.frame new.frame k (Err fault)) old new number)
  pub names : IfOk answer (Names new)
  pub keeps : KeepsNames old new
  pub unchanged : OnErr answer (KeepsNumbers old new)

-- one reference more to the object
abbrev pub RetainsOne : FrameSeen Global → FrameSeen Global → ℕ → Result HandleSeen Fault → Type 0
RetainsOne old new k result = Retained old k new result

-- the pair at the index of the dictionary of a number: a copy of its key, and a number for its value
pub record GivesPair (dict index : ℕ) (old new : ClientSeen) (answer : Result (Key Global × ℕ) Status) : Type 0 where
  pub gave : IfOk answer (λ pair. OfNamed old dict (λ object. Adds
      (λ frame given. WithKey pair.0 (DictPair old.frame frame object.place index) given) old new pair.1))
  pub refused : IfErr answer
      (RefusedOf (λ k fault. DictPair old.frame new.frame k index (Err fault)) old new dict)
  pub names : IfOk answer (λ pair. Names new pair.1)
  pub keeps : KeepsNames old new
  pub unchanged : OnErr answer (KeepsNumbers old new)

-- ---- a call that spends a number

-- The reference of the number went, by few events, and it names nothing; or it named none, and nothing was done.
pub record LetsGo (number : ℕ) (old new : ClientSeen) (answer : Result (Unit {0}) Status) : Type 0 where
  pub released : OnOk answer (Releases old new number)
  pub spent : OnOk answer (SpendsName old new number)
  pub bounded : IsBounded old.frame.seat.log new.frame.seat.log
  pub refused : IfErr answer (NamesNone old number)
  pub unchanged : OnErr answer (new ≡ old)

-- The value's reference went into the object of a number by the heap's call, and the value's number names nothing. What
-- came out for it has a number. Or the call was refused.
pub record Takes (call : FrameSeen Global → FrameSeen Global → ℕ → HandleSeen
    → Result (Option HandleSeen) (HandedBack HandleSeen) → Type 0) (container value : ℕ) (old new : ClientSeen)
    (answer : Result (Option ℕ) Status) : Type 0 where
  pub took : IfOk answer (PutsIn (call old.frame new.frame) old new container value)
  pub refused : IfErr answer (PutsNot (call old.frame new.frame) old new container value)
  pub spent : OnOk answer (SpendsName old new value)
  pub came : IfOk answer (λ came. IfSome came (Names new))
  pub unchanged : OnErr answer (KeepsNumbers old new)

-- No reference is left, and no number names anything. None of them is given for its place again: it was vacated.
pub record LetsAllGo (old new : ClientSeen) : Type 0 where
  pub none : IsBare new.handles
  pub nameless : (n : ℕ) → Names new n → ⊥
  pub spent : SpendsEach old.handles old.numbers new.numbers
  pub heap : new.frame.heap ≡ old.frame.heap

-- ---- a look

-- what the heap's call found at the object of the number; or why it was refused
module _ {T : Type 0} where
  pub record FindsOut (call : FrameSeen Global → FrameSeen Global → ℕ → Result T Fault → Type 0) (number : ℕ)
      (old new : ClientSeen) (answer : Result T Status) : Type 0 where
    pub looked : Looks (call old.frame new.frame) old new number answer
    pub keeps : KeepsNumbers old new

-- whether the object of the number is True or False; or it is neither
pub record FindsTruth (number : ℕ) (old new : ClientSeen) (answer : Result Bool Status) : Type 0 where
  pub truth : IfOk answer (λ is_true. OfNamed old number
      (λ object. cell_in old.frame object.place ≡ Some (truth_cell is_true)))
  pub refused : IfErr answer (RefusedOf (λ k fault. (fault ≡ faults.WrongKind) × (cell_in old.frame k ≢ Some 1)
      × (cell_in old.frame k ≢ Some 2)) old new number)
  pub same : new ≡ old

-- the number of the object's cell, which no other live object has
pub record FindsIdentity (number : ℕ) (old new : ClientSeen) (answer : Result ℕ Status) : Type 0 where
  pub identity : IfOk answer (λ identity. OfNamed old number (λ object. cell_in old.frame object.place ≡ Some identity))
  pub refused : IfErr answer (NamesNone old number)
  pub same : new ≡ old

-- whether two numbers name references to one object
pub record FindsSame (one other : ℕ) (old new : ClientSeen) (answer : Result Bool Status) : Type 0 where
  pub same_object : IfOk answer (λ is_same. OfNamed old one (λ first. OfNamed old other (λ second.
      (IsTrue is_same → IsOne old first second) × (IsFalse is_same → IsOne old first second → ⊥))))
  pub refused : IfErr answer (λ status. NamesNone old one status ⊎ (Names old one × NamesNone old other status))
  pub same : new ≡ old

-- whether the texts of two numbers have the same bytes
pub record FindsEqual (one other : ℕ) (old new : ClientSeen) (answer : Result Bool Status) : Type 0 where
  pub compared : LooksAtTwo (ComparesCells old.frame new.frame) old new one other answer
  pub keeps : KeepsNumbers old new

-- how many references there are
pub record CountsReferences (old new : ClientSeen) (answer : ℕ) : Type 0 where
  pub count : answer ≡ filled old.handles
  pub same : new ≡ old

-- ---- between two calls

-- what others asked for was dealt with
pub record Polls (old new : ClientSeen) (told : ℕ) : Type 0 where
  pub handles : KeepsHandles old.frame new.frame
  pub polled : Polled old.frame new.frame told
  pub quiet : told ≡ 0 → new.frame.works ≡ old.frame.works
  pub keeps : KeepsNumbers old new

-- dead objects were taken apart, with so many turns left
pub record TakesApart (turns : ℕ) (old new : ClientSeen) (spare : ℕ) : Type 0 where
  pub handles : KeepsHandles old.frame new.frame
  pub few : spare ≤ turns
  pub turned : Turns old.frame (turns - spare) new.frame
  pub done : 0 < spare → new.frame.works ≡ []
  pub keeps : KeepsNumbers old new

-- claims begin with the cells beside this one
pub record BeginsClaims (cell : ℕ) (beside : Bool) (old new : ClientSeen) : Type 0 where
  pub from : new.frame.from ≡ word_asked old.frame.heap.cells cell
  pub near : new.frame.near ≡ beside
  pub keeps : KeepsNumbers old new
