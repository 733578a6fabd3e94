-- What a call on the object that a register refers to comes to by the plain meaning, and what the frame and the
-- registers mean after the heap's own call.
use Rattle.std.specs.Prelude.{◌≡◌, ℕ, List, Option, Some, None, Result, Ok, Err, MatchResult, MatchOption, false}
use Rattle.brc_words.specs.declared.fault.Fault.{Fault}
use Rattle.brc_words.specs.declared.kind.Kind.{Kind}
use Rattle.brc_words.specs.declared.kind.Kind.TheVariants as kinds
use Rattle.brc_count.specs.declared.handed.HandedBack.{HandedBack}
use Rattle.brc_count.specs.Frames.{FrameSeen, HandleSeen}
use Rattle.brc_meaning.specs.declared.reference.Reference.{Reference}
use Rattle.brc_meaning.specs.declared.object.Object.{Object}
use Rattle.brc_meaning.specs.declared.object.Object.TheVariants as objects
use Rattle.brc_meaning.specs.declared.state.State.{State}
use Rattle.brc_meaning.specs.States.{held, meant, calling}
use Rattle.law_isolation.specs.Means.{Means, MeansBesides}
use Rattle.law_isolation.specs.Goes.{is_want}

module _ {A : Type 0} where
  -- the state, with these objects
  abbrev pub with_objects : List (Object A) → State A → State A
  with_objects made s = record s { objects = made }

  -- the kind as a block has it
  abbrev pub kind_meant : Object A → Kind
  kind_meant (objects.Int number) = kinds.Int
  kind_meant (objects.Text bytes) = kinds.Text
  kind_meant (objects.List entries) = kinds.List
  kind_meant (objects.Dict pairs) = kinds.Dict
  kind_meant (objects.Mailbox entries) = kinds.Mailbox

  -- ---- by the plain meaning

  -- the register refers to what the call comes to this on
  pub record ComesAsMeant (call : Object A → Result (Option Reference × Object A) Fault) (container : ℕ) (s : State A)
      (outcome : Result (Option Reference × List (Object A)) Fault) : Type 0 where
    pub reference : Reference
    pub refers : held container s.registers ≡ Ok reference
    pub comes : calling call reference s.objects ≡ outcome

  -- the register refers to an object of which this is so
  pub record Finds (container : ℕ) (s : State A) (P : Object A → Type 0) : Type 0 where
    pub reference : Reference
    pub refers : held container s.registers ≡ Ok reference
    pub object : Object A
    pub stands : meant reference s.objects ≡ Some object
    pub is : P object

  -- ---- and by the heap's call

  module _ (call : Object A → Result (Option Reference × Object A) Fault) (container base : ℕ) (new : FrameSeen A)
      (registers : List (Option HandleSeen)) (s : State A) where
    -- the call has no answer for a register
    pub record GivesNone : Type 0 where
      pub made : List (Object A)
      pub comes : ComesAsMeant call container s (Ok (None, made))
      pub means : Means base new registers (with_objects made s)

    -- the handle has what the call answers
    pub record GivesOne (given : HandleSeen) : Type 0 where
      pub reference : Reference
      pub made : List (Object A)
      pub comes : ComesAsMeant call container s (Ok (Some reference, made))
      pub means : MeansBesides base new registers (with_objects made s) given reference

    -- a call that answers a handle; a refusal, other than for want, is the plain one, and changes nothing
    abbrev pub HandsMeant : Result HandleSeen Fault → Type 0
    HandsMeant result = MatchResult result GivesOne
        (λ fault. is_want fault ≡ false → ComesAsMeant call container s (Err fault) × Means base new registers s)

    -- why a value wasn't taken, which its handle has still
    abbrev pub HandedMeant : {V : Type 0} → HandleSeen → Reference → HandedBack V → Type 0
    HandedMeant value reference handed =
        is_want handed.fault ≡ false → ComesAsMeant call container s (Err handed.fault)
        × MeansBesides base new registers s
        value reference

    -- a call that takes a value in
    abbrev pub TakesMeant : {V : Type 0} → HandleSeen → Reference → Result (Unit {0}) (HandedBack V) → Type 0
    TakesMeant value reference result = MatchResult result (λ _. GivesNone) (HandedMeant value reference)

    -- a call that takes one in and answers a handle
    abbrev pub SwapsMeant : {V : Type 0} → HandleSeen → Reference → Result HandleSeen (HandedBack V) → Type 0
    SwapsMeant value reference result = MatchResult result GivesOne (HandedMeant value reference)

    -- a call that takes one in, and answers a handle where another was there
    abbrev pub PutsMeant : {V : Type 0} → HandleSeen → Reference → Result (Option HandleSeen) (HandedBack V) → Type 0
    PutsMeant value reference result =
        MatchResult result (λ answer. MatchOption answer GivesNone GivesOne) (HandedMeant value reference)
