-- From a call on the object of a register to the instruction that makes it.
use Rattle.std.proofs.Common.{◌≡◌, ◌≢◌, ◌∙◌, ℕ, ◌<◌, false, List, [], ◌∷◌, zero, suc, length, get_or, set, Option, Some}
use Rattle.std.proofs.Common.{None, Result, Ok, Err, MatchResult, MatchOption, refl, sym, ap, subst}
use Rattle.std.proofs.lemmas.List.{get_or-set_other, set-get_or}
use Rattle.brc_words.specs.declared.fault.Fault.{Fault}
use Rattle.brc_words.specs.declared.fault.Fault.TheVariants as faults
use Rattle.brc_plain.specs.Outcomes.{or_fault}
use Rattle.brc_count.specs.declared.handed.HandedBack.{HandedBack}
use Rattle.brc_count.specs.Frames.{FrameSeen, HandleSeen}
use Rattle.brc_meaning.specs.declared.reference.Reference.{Reference}
use Rattle.brc_meaning.specs.declared.object.Object.{Object}
use Rattle.brc_meaning.specs.declared.state.State.{State}
use Rattle.brc_meaning.specs.Outcomes.{◌>>=◌}
use Rattle.brc_meaning.specs.States.{held, holding, calling, called, with_register}
use Rattle.law_isolation.specs.Means.{Means, MeansBesides}
use Rattle.law_isolation.specs.Goes.{is_want, LedAsMeant}
use Rattle.law_isolation.specs.Calls.{with_objects, ComesAsMeant, GivesNone, GivesOne, HandedMeant, HandsMeant}
use Rattle.law_isolation.specs.Calls.{TakesMeant}
use Rattle.law_isolation.specs.Calls.{SwapsMeant, PutsMeant}
use Rattle.law_isolation.specs.Asked.{asking, AsksNone, AsksOne, HandsBack, TakesAsked, SwapsAsked, PutsAsked}

module _ {X Y Z E : Type 0} where
  bind_twice : (r : Result X E) (f : X → Result Y E) (g : Y → Result Z E) → (r >>= λ x. f x >>= g) ≡ (r >>= f >>= g)
  bind_twice (Ok x) f g = refl
  bind_twice (Err e) f g = refl

module _ {A : Type 0} where
  -- ---- what a call comes to, as the register is asked

  pub asks : {call : Object A → Result (Option Reference × Object A) Fault} {container : ℕ} {s : State A}
      {outcome : Result (Option Reference × List (Object A)) Fault} → ComesAsMeant call container s outcome
      → asking call container s ≡ outcome
  asks {call = call} {s = s} comes =
      ap (λ (r : Result Reference Fault). r >>= λ reference. calling call reference s.objects) comes.refers
      ∙ comes.comes

  module _ (call : Object A → Result (Option Reference × Object A) Fault) (container base : ℕ) (new : FrameSeen A)
      (registers : List (Option HandleSeen)) (s : State A) where
    none_asked : GivesNone call container base new registers s → AsksNone call container base new registers s
    none_asked gives = record { made = gives.made; comes = asks gives.comes; means = gives.means }

    one_asked : (given : HandleSeen) → GivesOne call container base new registers s given
        → AsksOne call container base new registers s given
    one_asked given gives = record {
      reference = gives.reference;
      made = gives.made;
      comes = asks gives.comes;
      means = gives.means;
    }

    back_asked : {V : Type 0} (value : HandleSeen) (reference : Reference) (handed : HandedBack V)
        → HandedMeant call container base new registers s value reference handed
        → HandsBack call container base new registers s value reference handed
    back_asked value reference handed meant own = (asks (meant own).0, (meant own).1)

    pub takes_asked : {V : Type 0} (value : HandleSeen) (reference : Reference)
        (result : Result (Unit {0}) (HandedBack V))
        → TakesMeant call container base new registers s value reference result
        → TakesAsked call container base new registers s value reference result
    takes_asked value reference (Ok done) gives = none_asked gives
    takes_asked value reference (Err handed) meant = back_asked value reference handed meant

    pub swaps_asked : {V : Type 0} (value : HandleSeen) (reference : Reference)
        (result : Result HandleSeen (HandedBack V))
        → SwapsMeant call container base new registers s value reference result
        → SwapsAsked call container base new registers s value reference result
    swaps_asked value reference (Ok given) gives = one_asked given gives
    swaps_asked value reference (Err handed) meant = back_asked value reference handed meant

    pub puts_asked : {V : Type 0} (value : HandleSeen) (reference : Reference)
        (result : Result (Option HandleSeen) (HandedBack V))
        → PutsMeant call container base new registers s value reference result
        → PutsAsked call container base new registers s value reference result
    puts_asked value reference (Ok None) gives = none_asked gives
    puts_asked value reference (Ok (Some given)) gives = one_asked given gives
    puts_asked value reference (Err handed) meant = back_asked value reference handed meant

  -- a refusal of an empty register
  pub asks_nothing : (call : Object A → Result (Option Reference × Object A) Fault) (container : ℕ) (s : State A)
      → get_or s.registers container None ≡ None → asking call container s ≡ Err faults.NoSuchPlace
  asks_nothing call container s none =
      ap (λ (r : Option Reference). or_fault faults.NoSuchPlace r >>= λ reference. calling call reference
      s.objects) none

  -- ---- the instruction, with the answer in a register

  -- what is left of a call: the answer in a register, and the objects
  abbrev pub answered : ℕ → State A → Option Reference × List (Object A) → Result (State A) Fault
  answered to s done = Ok (record { registers = holding to done.0 s.registers; objects = done.1; printed = s.printed })

  pub called_asks : (call : Object A → Result (Option Reference × Object A) Fault) (container to : ℕ) (s : State A)
      → called call container to s ≡ (asking call container s >>= answered to s)
  called_asks call container to s =
      bind_twice (held container s.registers) (λ reference. calling call reference s.objects) (answered to s)

  pub called_of : (call : Object A → Result (Option Reference × Object A) Fault) (container to : ℕ) (s : State A)
      (outcome : Result (Option Reference × List (Object A)) Fault) → asking call container s ≡ outcome
      → called call container to s ≡ (outcome >>= answered to s)
  called_of call container to s outcome is =
      called_asks call container to s
      ∙ ap (λ (r : Result (Option Reference × List (Object A)) Fault). r >>= answered to s) is

  -- ---- a value out of its register

  -- the state without what the register had
  abbrev pub emptied : ℕ → State A → State A
  emptied register s = with_register register None s

  -- another register has what it had
  pub asks_emptied : (call : Object A → Result (Option Reference × Object A) Fault) (container value : ℕ) (s : State A)
      → container ≢ value
      → asking call container (emptied value s) ≡ asking call container s
  asks_emptied call container value s apart =
      ap (λ (r : Option Reference). or_fault faults.NoSuchPlace r >>= λ reference. calling call reference s.objects)
      (get_or-set_other s.registers value container None None apart)

-- one after the other into one place
pub set_twice : {X : Type 0} (xs : List X) (i : ℕ) (a b : X) → set (set xs i a) i b ≡ set xs i b
set_twice [] i a b = refl
set_twice (x ∷ xs) zero a b = refl
set_twice (x ∷ xs) (suc i) a b = ap (λ (ys : List _). x ∷ ys) (set_twice xs i a b)

module _ {A : Type 0} where
  -- what comes back into its register is as it was
  pub put_back : (register : ℕ) (reference : Reference) (s : State A)
      → get_or s.registers register None ≡ Some reference
      → with_register register (Some reference) (emptied register s) ≡ s
  put_back register reference s had =
      ap (λ (registers : List (Option Reference)). record s { registers = registers })
      (set_twice s.registers register None (Some reference)
      ∙ ap (λ (r : Option Reference). set s.registers register r) (sym had)
      ∙ set-get_or s.registers register None)
