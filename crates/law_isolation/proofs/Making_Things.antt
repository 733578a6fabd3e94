-- What a frame and its registers mean once a handle has a new object, or an integer.
use Rattle.std.proofs.Common.{◌≡◌, ℕ, Bool, true, false, if◌then◌else◌, List, [], length, Option, Some, None, ℤ, refl}
use Rattle.std.proofs.Common.{sym, subst}
use Rattle.std.proofs.lemmas.List.Elements.{All-nil}
use Rattle.brc_count.specs.law.declared.rule.contents.Contents.TheVariants as contents
use Rattle.brc_count.specs.Frames.{FrameSeen, HandleSeen}
use Rattle.brc_count.specs.Making.{Made}
use Rattle.brc_things.specs.Makers.{Answered, small_cell}
use Rattle.brc_meaning.specs.declared.reference.Reference.TheVariants as references
use Rattle.brc_meaning.specs.declared.object.Object.{Object}
use Rattle.brc_meaning.specs.declared.object.Object.TheVariants as objects
use Rattle.brc_meaning.specs.declared.state.State.{State}
use Rattle.brc_meaning.specs.Objects.{is_small}
use Rattle.brc_meaning.specs.States.{with_register, with_object, with_integer}
use Rattle.brc_count.specs.law.living.Living.{OwnLog}
use Rattle.law_isolation.specs.Means.{Means, MeansBesides}
use Rattle.law_isolation.specs.Integers.{with_made, integer_reference, integer_made}
use Rattle.law_isolation.proofs.Retaining.{small_is, small_none, means_small}
use Rattle.law_isolation.proofs.Making_Objects.{means_made}

module _ {A : Type 0} (base : ℕ) (old new : FrameSeen A) (registers : List (Option HandleSeen)) (s : State A)
    (given : HandleSeen)
    (means : Means base old registers s) (same : new.heap ≡ old.heap) (own : OwnLog new.heap.cells new.seat.log) where
  -- ---- objects that refer to nothing

  pub means_text : (bytes : List ℕ) → Made old new (contents.Text bytes) given
      → MeansBesides base new registers (with_made (objects.Text bytes) s) given (references.Object (length s.objects))
  means_text bytes made = means_made base old new registers s (objects.Text bytes) given tt means same made own

  pub means_list : Made old new (contents.«List» []) given
      → MeansBesides base new registers (with_made (objects.List []) s) given (references.Object (length s.objects))
  means_list made = means_made base old new registers s (objects.List []) given (All-nil (λ reference. ⊥)) means
      same made own

  pub means_dict : Made old new (contents.Dict []) given
      → MeansBesides base new registers (with_made (objects.Dict []) s) given (references.Object (length s.objects))
  means_dict made = means_made base old new registers s (objects.Dict []) given (All-nil (λ pair. ⊥)) means
      same made own

  pub means_mailbox : Made old new (contents.Mailbox []) given
      → MeansBesides base new registers (with_made (objects.Mailbox []) s) given (references.Object (length s.objects))
  means_mailbox made = means_made base old new registers s (objects.Mailbox []) given (All-nil (λ reference. ⊥)) means
      same made own

  -- ---- integers

  abbrev IntegerMeans : ℤ → Bool → Type 0
  IntegerMeans number small = MeansBesides base new registers
      (if small then s else with_made (objects.Int number) s) given
      (if small then references.Small number else references.Object (length s.objects))

  pub means_integer : (number : ℤ) → Answered old new (small_cell number) (contents.Int number) given
      → MeansBesides base new registers (integer_made number s) given (integer_reference number s)
  means_integer number answered = by (small_cell number) refl answered
    where
      by : (o : Option ℕ) → small_cell number ≡ o → Answered old new o (contents.Int number) given
          → IntegerMeans number (is_small number)
      by (Some c) is gives = subst (IntegerMeans number) (sym (small_is number c is).1)
          (means_small base old new registers s number c given means is same gives)
      by None is made = subst (IntegerMeans number) (sym (small_none number is))
          (means_made base old new registers s (objects.Int number) given tt means same made own)

module _ {A : Type 0} where
  -- a register that holds what refers to a new object, or to an integer
  pub object_held : (object : Object A) (to : ℕ) (s : State A)
      → with_register to (Some (references.Object (length s.objects))) (with_made object s) ≡ with_object object to s
  object_held object to s = refl

  pub integer_held : (number : ℤ) (to : ℕ) (s : State A) → with_register to (Some (integer_reference number s))
      (integer_made number s) ≡ with_integer number to s
  integer_held number to s = by (is_small number)
    where
      by : (small : Bool)
          → with_register to (Some (if small then references.Small number else references.Object (length s.objects)))
          (if small then s else with_made (objects.Int number) s)
          ≡ (if small then with_register to (Some (references.Small number)) s else with_object
          (objects.Int number) to s)
      by true = refl
      by false = refl
