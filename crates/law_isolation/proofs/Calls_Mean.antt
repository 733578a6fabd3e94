-- What each call of the heap on the object of a register makes of what the frame and the registers mean: what the plain
-- call does. `OwnLog` of the log after the call is what the next poll tells.
use Rattle.std.proofs.Common.{◌≡◌, ◌≢◌, refl, sym, subst, ℕ, ℤ, true, false, List, Option, Some, None, Result, Ok, Err}
use Rattle.std.proofs.Common.{IfOk, IfErr}
use Rattle.std.specs.Prelude.{MatchResult}
use Rattle.brc_words.specs.declared.fault.Fault.{Fault}
use Rattle.brc_words.specs.declared.fault.Fault.TheVariants as faults
use Rattle.brc_words.specs.declared.entry.Entry.{Entry}
use Rattle.brc_words.specs.Notes.{bare}
use Rattle.brc_words.specs.declared.key.Key.{Key}
use Rattle.brc_words.specs.declared.kind.Kind.{Kind}
use Rattle.brc_words.specs.declared.kind.Kind.TheVariants as kinds
use Rattle.brc_count.specs.declared.handed.HandedBack.{HandedBack}
use Rattle.brc_count.specs.Frames.{FrameSeen, HandleSeen}
use Rattle.brc_handles.specs.Handles.{slot, IsApart}
use Rattle.brc_things.specs.Called.{Late}
use Rattle.brc_things.specs.Looking.{LenOf, IntOf, BytesOf, KindOf}
use Rattle.brc_things.specs.List_Calls.{ListPush, ListPop, ListGet, ListSet, MailboxSend, MailboxReceive}
use Rattle.brc_things.specs.Dict_Calls.{DictPut, DictFind, DictDel}
use Rattle.brc_meaning.specs.declared.reference.Reference.{Reference}
use Rattle.brc_meaning.specs.declared.call.Call.TheVariants as calls
use Rattle.brc_meaning.specs.declared.call.KeyedCall.TheVariants as keyed
use Rattle.brc_meaning.specs.declared.object.Object.TheVariants as objects
use Rattle.brc_meaning.specs.declared.state.State.{State}
use Rattle.brc_meaning.specs.Objects.{object_call, keyed_call, entries_in, number_in}
use Rattle.brc_count.specs.law.living.Living.{OwnLog}
use Rattle.brc_things.specs.Changing.{PlainCall, RefusedPlainly}
use Rattle.brc_things.specs.Plain_Lists.{plain_push, plain_pop, plain_get, plain_set, plain_send, plain_receive}
use Rattle.brc_things.specs.Plain_Dicts.{plain_put, plain_find, plain_del}
use Rattle.brc_things.specs.Putting.{RefusedPair}
use Rattle.brc_things.proofs.Waited.{waits_frame}
use Rattle.brc_meaning.proofs.WholeCalls.{object_kept, keyed_kept}
use Rattle.law_isolation.specs.Means.{cell_meant, entry_meant, IsMeant, Means, MeansBesides}
use Rattle.law_isolation.specs.Goes.{is_want}
use Rattle.law_isolation.specs.Calls.{kind_meant, Finds, GivesOne, HandsMeant, TakesMeant, SwapsMeant, PutsMeant}
use Rattle.law_isolation.proofs.Matching.{push_matches, pop_matches, get_matches, set_matches, send_matches}
use Rattle.law_isolation.proofs.Matching.{maybe_cell, receive_matches, put_matches, find_matches, delete_matches}
use Rattle.law_isolation.proofs.Showing.{has_kept}
use Rattle.law_isolation.proofs.Joining.{handed_back, put_in, swapped_in, puts_means, swaps_means, takes_means}
use Rattle.law_isolation.proofs.Joining.{shares_means}
use Rattle.law_isolation.proofs.Reading.{kind_read, len_read, int_read, text_read}

module _ {A : Type 0} (old new : FrameSeen A) (k : ℕ) (call : PlainCall (Option Entry)) where
  plainly_paired : (fault : Fault) → fault ≢ faults.Busy → is_want fault ≡ false → RefusedPair old new k call fault
      → RefusedPlainly old new k call fault
  plainly_paired faults.Busy busy want why = absurd (busy refl)
  plainly_paired faults.OutOfMemory busy want why = absurd (let bad : true ≡ false = want in cc)
  plainly_paired fault busy want why = why

module _ {A : Type 0} (base : ℕ) (old new : FrameSeen A) (registers : List (Option HandleSeen)) (s : State A)
    (own : OwnLog new.heap.cells new.seat.log)
    (container : ℕ) (h : HandleSeen) (in_register : slot registers container ≡ Some h) where
  -- ---- a value goes in

  module _ (value : HandleSeen) (reference : Reference) (means : MeansBesides base old registers s value reference)
      (apart : IsApart value registers) where
    pub push_means : (result : Result (Unit {0}) (HandedBack HandleSeen))
        → Late old h.place (λ mid. ListPush mid new h.place value.place result)
        → IfErr result (λ handed. handed.fault ≢ faults.Busy)
        → TakesMeant (object_call (calls.Push reference)) container base new registers s value reference result
    push_means result late busy =
        puts_means base old new registers s own container h in_register (object_call (calls.Push reference))
        (λ number. refl) value reference means apart
        (λ part here object each. object_kept (IsMeant part) (calls.Push reference) object here each)
        (λ c. plain_push (bare c)) (push_matches means.cells reference) result late busy

    pub send_means : (result : Result (Unit {0}) (HandedBack HandleSeen))
        → Late old h.place (λ mid. MailboxSend mid new h.place value.place result)
        → IfErr result (λ handed. handed.fault ≢ faults.Busy)
        → TakesMeant (object_call (calls.Send reference)) container base new registers s value reference result
    send_means result late busy =
        puts_means base old new registers s own container h in_register (object_call (calls.Send reference))
        (λ number. refl) value reference means apart
        (λ part here object each. object_kept (IsMeant part) (calls.Send reference) object here each)
        (λ c. plain_send (bare c)) (send_matches means.cells reference) result late busy

    pub set_means : (index : ℕ) (result : Result HandleSeen (HandedBack HandleSeen))
        → Late old h.place (λ mid. ListSet mid new h.place index value.place result)
        → IfOk result (λ given. given ≡ value)
        → IfErr result (λ handed. handed.fault ≢ faults.Busy)
        → SwapsMeant (object_call (calls.Set index reference)) container base new registers s value reference result
    set_means index result late same busy =
        swaps_means base old new registers s own container h in_register (object_call (calls.Set index reference))
        (λ number. refl) value reference means apart
        (λ part here object each. object_kept (IsMeant part) (calls.Set index reference) object here each)
        (λ c. plain_set index (bare c)) (set_matches means.cells index reference) result late same busy

    pub put_means : (V : Type 0) (key : Key A) (result : Result (Option HandleSeen) (HandedBack V))
        → Late old h.place (λ mid. DictPut mid new h.place key value result)
        → IfErr result (λ handed. handed.fault ≢ faults.Busy)
        → PutsMeant (keyed_call key (keyed.Put reference)) container base new registers s value reference result
    put_means V key (Ok None) late busy =
        put_in base old new registers s own container h in_register (keyed_call key (keyed.Put reference))
        (λ number. refl) value reference means apart
        (λ part here object each. keyed_kept (IsMeant part) key (keyed.Put reference) object here each)
        (λ c. plain_put key (bare c)) maybe_cell None refl (put_matches means.cells key reference) late.0 late.1 late.2.did
    put_means V key (Ok (Some given)) late busy =
        subst (GivesOne (keyed_call key (keyed.Put reference)) container base new registers s) (sym late.2.did.0)
        (swapped_in base old new registers s own container h in_register (keyed_call key (keyed.Put reference))
        (λ number. refl) value reference means apart
        (λ part here object each. keyed_kept (IsMeant part) key (keyed.Put reference) object here each)
        (λ c. plain_put key (bare c)) maybe_cell Some (λ entry. refl) (put_matches means.cells key reference) late.0 late.1 late.2.did.1)
    put_means V key (Err handed) late busy =
        handed_back base old new registers s own container h in_register (keyed_call key (keyed.Put reference))
        (λ number. refl) value reference means apart
        (λ part here object each. keyed_kept (IsMeant part) key (keyed.Put reference) object here each)
        (plain_put key (entry_meant means.cells reference)) maybe_cell (put_matches means.cells key reference) late.0 late.1
        late.2.frame handed
        (λ want. plainly_paired late.0 new h.place (plain_put key (entry_meant means.cells reference))
        handed.fault busy want
        (late.2.refused (cell_meant means.cells reference)
        (has_kept old late.0 means.cells means.part value.place reference ((waits_frame late.1).places value.place)
        means.has).cell))

  -- ---- a reference comes out

  module _ (means : Means base old registers s) where
    pub pop_means : (result : Result HandleSeen Fault)
        → Late old h.place (λ mid. ListPop mid new h.place result)
        → IfErr result (λ fault. fault ≢ faults.Busy)
        → HandsMeant (object_call calls.Pop) container base new registers s result
    pop_means result late busy =
        takes_means base old new registers s own container h in_register (object_call calls.Pop) (λ number. refl) means
        (λ part object each. object_kept (IsMeant part) calls.Pop object tt each)
        plain_pop (pop_matches means.cells) result late busy

    pub get_means : (index : ℕ) (result : Result HandleSeen Fault)
        → Late old h.place (λ mid. ListGet mid new h.place index result)
        → IfErr result (λ fault. fault ≢ faults.Busy)
        → HandsMeant (object_call (calls.Get index)) container base new registers s result
    get_means index result late busy =
        shares_means base old new registers s own container h in_register (object_call (calls.Get index))
        (λ number. refl) means
        (λ part object each. object_kept (IsMeant part) (calls.Get index) object tt each)
        (plain_get index) (get_matches means.cells index) result late busy

    pub receive_means : (result : Result HandleSeen Fault)
        → Late old h.place (λ mid. MailboxReceive mid new h.place result)
        → IfErr result (λ fault. fault ≢ faults.Busy)
        → HandsMeant (object_call calls.Receive) container base new registers s result
    receive_means result late busy =
        takes_means base old new registers s own container h in_register (object_call calls.Receive)
        (λ number. refl) means
        (λ part object each. object_kept (IsMeant part) calls.Receive object tt each)
        plain_receive (receive_matches means.cells) result late busy

    pub find_means : (key : Key A) (result : Result HandleSeen Fault)
        → Late old h.place (λ mid. DictFind mid new h.place key result)
        → IfErr result (λ fault. fault ≢ faults.Busy)
        → HandsMeant (keyed_call key keyed.Find) container base new registers s result
    find_means key result late busy =
        shares_means base old new registers s own container h in_register (keyed_call key keyed.Find)
        (λ number. refl) means
        (λ part object each. keyed_kept (IsMeant part) key keyed.Find object tt each)
        (plain_find key) (find_matches means.cells key) result late busy

    pub delete_means : (key : Key A) (result : Result HandleSeen Fault)
        → Late old h.place (λ mid. DictDel mid new h.place key result)
        → IfErr result (λ fault. fault ≢ faults.Busy)
        → HandsMeant (keyed_call key keyed.Delete) container base new registers s result
    delete_means key result late busy =
        takes_means base old new registers s own container h in_register (keyed_call key keyed.Delete)
        (λ number. refl) means
        (λ part object each. keyed_kept (IsMeant part) key keyed.Delete object tt each)
        (plain_del key) (delete_matches means.cells key) result late busy

    -- ---- looks

    pub kind_means : (kind : Kind) → Late old h.place (λ mid. KindOf mid new h.place (Ok kind))
        → Means base new registers s × Finds container s (λ object. kind_meant object ≡ kind)
    kind_means kind late = kind_read base old new registers s own container h in_register means kind late

    pub len_means : (result : Result ℕ Fault) → Late old h.place (λ mid. LenOf mid new h.place result)
        → IfErr result (λ fault. fault ≢ faults.Busy)
        → Means base new registers s × Finds container s (λ object. entries_in object ≡ result)
    len_means result late busy = len_read base old new registers s own container h in_register means result late busy

    pub int_means : (result : Result ℤ Fault) → Late old h.place (λ mid. IntOf mid new h.place result)
        → IfErr result (λ fault. fault ≢ faults.Busy)
        → Means base new registers s × Finds container s (λ object. number_in object ≡ result)
    int_means result late busy = int_read base old new registers s own container h in_register means result late busy

    -- a refusal for want of memory says that there is a text all the same
    pub text_means : (result : Result (List ℕ) Fault) → Late old h.place (λ mid. BytesOf mid new h.place result)
        → IfErr result (λ fault. fault ≢ faults.Busy)
        → Means base new registers s × Finds container s (λ object. MatchResult result
        (λ text. object ≡ objects.Text text)
        (λ fault. fault ≢ faults.OutOfMemory → (fault ≡ faults.WrongKind) × (kind_meant object ≢ kinds.Text)))
    text_means result late busy = text_read base old new registers s own container h in_register means result late busy
