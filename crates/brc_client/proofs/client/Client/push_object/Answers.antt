use Rattle.std.proofs.Common.{refl, sym, ap, ◌∙◌, ◌≡◌, ◌≢◌, Some, List, Option, slice_set}
use Rattle.brc_count.specs.Frames.{HandleSeen}
use Rattle.brc_handles.specs.Handles.{slot}
use Rattle.brc_things.specs.declared.value.Value.TheVariants as values
use Rattle.brc_client.specs.Numbers.{place_in}
use Rattle.brc_client.specs.Clients.{ClientSeen}
use Rattle.brc_client.specs.Valued.{SpendsPlace}
use Rattle.brc_client.proofs.Placed.{slot_else}
use Rattle.brc_client.proofs.Named.{names_this}
use Rattle.brc_client.proofs.Putting.{one_number, back_home}
use Rattle.brc_client.proofs.Beside.{goes_out, out_gone, home_again}
use Rattle.brc_client.proofs.Born_Lists.{object_pushed}
use Rattle.brc_client.proofs.client.Client.push_object.Goals as goal

pub invariant_of-self : goal.invariant_of-self
invariant_of-self c =
    let client = rw c.in-Some-none.is at c.self.invariant in
    let has = goes_out _ c.self.inside.handles c.take.new.self c.in-Some-none.none c.in-Some.given (place_in c.args.number)
    client (sym c.in-Some.ensures.taken) c.take.ensures.set c.in-Some.ensures.comes in
    let loses = rw c.frame.ensures.frame at c.in-Ok.ensures.loses in
    rw c.in-Some-none.is (out_gone _ _ c.take.new.self c.in-Some-none.none c.in-Some.given has loses c.in-Ok.ensures.unlocked)

pub invariant_of-self-in-Err-Object : goal.invariant_of-self-in-Err-Object
invariant_of-self-in-Err-Object c =
    let client = rw c.in-Some-none.is at c.self.invariant in
    let has = goes_out _ c.self.inside.handles c.take.new.self c.in-Some-none.none c.in-Some.given (place_in c.args.number)
    client (sym c.in-Some.ensures.taken) c.take.ensures.set c.in-Some.ensures.comes in
    let keeps = rw c.frame.ensures.frame at c.in-Err-Object.ensures.keeps in
    let was = c.in-Err-Object.ensures.back in
    let is = c.in-Err-Object.field-0-is in
    let back : c.in-Err-Object.back ≡ c.in-Some.given = cc in
    rw c.in-Some-none.is (back_home _ _ c.take.new.self c.lay.new.handles c.in-Some-none.none c.in-Some-none.none
    c.in-Some.given c.in-Err-Object.back has back refl keeps c.in-Err-Object.ensures.unlocked c.lay.ensures.set
    c.lay.ensures.comes)

pub returns-in-Ok-clause-pushed : goal.returns-in-Ok-clause-pushed
returns-in-Ok-clause-pushed c =
    let apart : place_in c.args.list ≢ place_in c.args.number = λ same. c.requires.other
    (sym (one_number c.args.self.now c.args.list c.args.number (place_in c.args.list) (place_in c.args.number) refl refl same
    c.requires.list c.requires.named)) in
    let there = c.in-Some-at.ensures
    ∙ ap (λ (l : List (Option HandleSeen)). slot l (place_in c.args.list)) c.take.ensures.set
    ∙ slot_else c.self.inside.handles (place_in c.args.number) (place_in c.args.list) _ apart
    ∙ ap (λ (s : ClientSeen). slot s.handles (place_in c.args.list)) c.self.view_is in
    let here = c.in-Some.ensures.taken ∙ ap (λ (s : ClientSeen). slot s.handles (place_in c.args.number)) c.self.view_is in
    let kept = ap (λ (s : ClientSeen). s.none) (sym c.self.view_is) ∙ c.in-Some-none.is in
    let frame = c.frame.ensures.frame ∙ ap (λ (s : ClientSeen). s.frame) c.self.view_is in
    let numbers = ap (λ (s : ClientSeen). s.numbers) c.self.view_is in
    let handles = ap (λ (s : ClientSeen). s.handles) c.self.view_is in
    let spends : SpendsPlace c.self.inside.numbers c.spend.new.self (place_in c.args.number)
    = record { uses = c.spend.ensures.uses; stamp = c.spend.ensures.stamp; of = c.spend.ensures.of } in
    object_pushed c.args.self.now _ c.args.list c.args.number c.in-Some-at.object.now c.in-Some.given c.in-Some-none.none
    c.args.note c.requires.list c.requires.named c.requires.other there here c.requires.none kept
    (ap (λ (s : ClientSeen). s.none) c.self.view_is) (rw handles at c.take.ensures.set)
    (rw numbers at spends)
    (rw frame at c.in-Ok.ensures.put)

pub returns-in-Err-Object-clause-refused : goal.returns-in-Err-Object-clause-refused
returns-in-Err-Object-clause-refused c =
    let apart : place_in c.args.list ≢ place_in c.args.number = λ same. c.requires.other
    (sym (one_number c.args.self.now c.args.list c.args.number (place_in c.args.list) (place_in c.args.number) refl refl same
    c.requires.list c.requires.named)) in
    let there = c.in-Some-at.ensures
    ∙ ap (λ (l : List (Option HandleSeen)). slot l (place_in c.args.list)) c.take.ensures.set
    ∙ slot_else c.self.inside.handles (place_in c.args.number) (place_in c.args.list) _ apart
    ∙ ap (λ (s : ClientSeen). slot s.handles (place_in c.args.list)) c.self.view_is in
    let here = c.in-Some.ensures.taken ∙ ap (λ (s : ClientSeen). slot s.handles (place_in c.args.number)) c.self.view_is in
    let kept = ap (λ (s : ClientSeen). s.none) (sym c.self.view_is) ∙ c.in-Some-none.is in
    let frame = c.frame.ensures.frame ∙ ap (λ (s : ClientSeen). s.frame) c.self.view_is in
    let was = c.in-Err-Object.ensures.back in
    let is = c.in-Err-Object.field-0-is in
    let back : c.in-Err-Object.back ≡ c.in-Some.given = cc in
    let home = c.self.invariant.lies (place_in c.args.number) c.in-Some.given (sym c.in-Some.ensures.taken) in
    record {
      object = c.in-Some-at.object.now;
      names_object = names_this c.args.self.now c.args.list (place_in c.args.list) c.in-Some-at.object.now refl
          c.requires.list there;
      none = c.in-Some-none.none;
      kept = kept;
      value = values.Object c.in-Some.given c.args.note;
      stands = (
        c.in-Some.given,
        names_this c.args.self.now c.args.number (place_in c.args.number) c.in-Some.given refl c.requires.named here,
        c.requires.other,
        refl,
      );
      handed = c.in-Err-Object.field-0;
      told = refl;
      did = (refl, rw frame at c.in-Err-Object.ensures.put);
      same_handles = rw back at c.lay.ensures.set ∙ ap (λ (l : List (Option HandleSeen)).
          slice_set l c.in-Some.given.place (Some c.in-Some.given)) c.take.ensures.set
          ∙ home_again c.self.inside.handles (place_in c.args.number) c.in-Some.given (sym c.in-Some.ensures.taken) home
          ∙ ap (λ (s : ClientSeen). s.handles) c.self.view_is;
      same_numbers = ap (λ (s : ClientSeen). s.numbers) c.self.view_is;
      same_none = ap (λ (s : ClientSeen). s.none) c.self.view_is;
    }
