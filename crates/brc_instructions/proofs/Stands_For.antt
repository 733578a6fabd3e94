-- The instruction that a call on a container stands for leads where the call on plain objects does.
use Rattle.std.proofs.Common.{◌≡◌, ℕ, List, Option, Result, Err, refl, sym, subst}
use Rattle.brc_words.specs.declared.fault.Fault.{Fault}
use Rattle.brc_count.specs.declared.handed.HandedBack.{HandedBack}
use Rattle.brc_count.specs.Frames.{FrameSeen, HandleSeen}
use Rattle.brc_meaning.specs.declared.reference.Reference.{Reference}
use Rattle.brc_meaning.specs.declared.state.State.{State}
use Rattle.brc_meaning.specs.Outcomes.{◌>>=◌}
use Rattle.brc_meaning.specs.States.{held, called}
use Rattle.brc_meaning.specs.Steps.{after}
use Rattle.brc_instructions.specs.declared.taking_out.TakingOut.{TakingOut}
use Rattle.brc_instructions.specs.declared.taking_out.TakingOut.TheVariants as givings
use Rattle.brc_instructions.specs.declared.putting_in.Putting.{Putting}
use Rattle.brc_instructions.specs.declared.putting_in.Putting.TheVariants as takings
use Rattle.law_isolation.specs.Means.{Means}
use Rattle.law_isolation.specs.Calls.{ComesAsMeant, HandsMeant}
use Rattle.law_isolation.specs.Asked.{PutsAsked}
use Rattle.brc_instructions.specs.Calls.{given_by, gives, taken_by, takes}
use Rattle.brc_instructions.proofs.Follows_Of.{Left, called_refused}

module _ {A : Type 0} where
  pub after_gives : (giving : TakingOut A) (to container : ℕ) (s : State A)
      → after (gives giving to container) s ≡ called (given_by giving) container to s
  after_gives givings.Pop to container s = refl
  after_gives (givings.Get index) to container s = refl
  after_gives givings.Receive to container s = refl
  after_gives (givings.Find key) to container s = refl
  after_gives (givings.Delete key) to container s = refl

  pub after_takes : (taking : Putting A) (container value : ℕ) (s : State A)
      → after (takes taking container value) s
      ≡ (held value s.registers >>= λ reference. called (taken_by taking reference) container value s)
  after_takes takings.Push container value s = refl
  after_takes (takings.Set index) container value s = refl
  after_takes takings.Send container value s = refl
  after_takes (takings.Put key) container value s = refl

  -- the container was asked, and refused
  pub gives_refused : (giving : TakingOut A) (to container base : ℕ) (frame : FrameSeen A)
      (registers : List (Option HandleSeen)) (s : State A) (fault : Fault)
      → ComesAsMeant (given_by giving) container s (Err fault) × Means base frame registers s
      → Left base frame registers s (after (gives giving to container) s) fault
  gives_refused giving to container base frame registers s fault refused =
      subst (λ meant. Left base frame registers s meant fault) (sym (after_gives giving to container s))
      (called_refused (given_by giving) container to base frame registers s fault refused)

  -- what is meant by one way of giving is meant by the same
  pub asked_as : {giving way : TakingOut A} (r base : ℕ) (frame : FrameSeen A) (registers : List (Option HandleSeen))
      (s : State A) (result : Result HandleSeen Fault) → giving ≡ way
      → HandsMeant (given_by way) r base frame registers s result
      → HandsMeant (given_by giving) r base frame registers s result
  asked_as r base frame registers s result is =
      subst (λ way. HandsMeant (given_by way) r base frame registers s result) (sym is)

  -- and so of one way of taking
  pub put_as : {V : Type 0} {taking way : Putting A} (r base : ℕ) (frame : FrameSeen A)
      (registers : List (Option HandleSeen)) (s : State A) (value : HandleSeen) (reference : Reference)
      (result : Result (Option HandleSeen) (HandedBack V)) → taking ≡ way
      → PutsAsked (taken_by way reference) r base frame registers s value reference result
      → PutsAsked (taken_by taking reference) r base frame registers s value reference result
  put_as r base frame registers s value reference result is =
      subst (λ way. PutsAsked (taken_by way reference) r base frame registers s value reference result) (sym is)
