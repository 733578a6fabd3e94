-- What the frame owns after a call that may have given it one handle more, which is in no place of the many.
use Rattle.std.proofs.Common.{◌≡◌, List, [], ◌∷◌, ◌++◌, Option, Some, None, Result, Ok, Err, IfOk, arith, ℕ, length, ◌∙◌}
use Rattle.std.proofs.Common.{sym, subst, inl, inr}
use Rattle.std.specs.Prelude.{OnErr, MatchOption}
use Rattle.std.specs.Option.{IfSome}
use Rattle.brc_words.specs.declared.fault.Fault.{Fault}
use Rattle.brc_count.specs.Frames.{FrameSeen, HandleSeen, IsUnlocked, Owns}
use Rattle.brc_count.specs.Owned.{Gains, Keeps}
use Rattle.brc_handles.specs.Handles.{slot, OwnsEach, ComesIn, ComesOut, Swapped}
use Rattle.brc_handles.specs.Standing.{Stands, Besides, KeepsStanding}
use Rattle.brc_handles.proofs.Places.{counted_less, each_at, each_less, each_swapped}

-- what is so of each that is there stays so as another thing
pub each : {P Q : HandleSeen → Type 0} → ((h : HandleSeen) → P h → Q h) → (found : Option HandleSeen) → IfSome found P
    → IfSome found Q
each step None all = tt
each step (Some h) all = step h all

module _ {A : Type 0} where
  pub gains_besides : {others : ℕ} {old new : FrameSeen A} {handles : List (Option HandleSeen)} {given : HandleSeen}
      → Stands others old handles → Gains old new given → IsUnlocked new → Besides others new handles given
  gains_besides {others = others} {old = old} {new = new} {handles = handles} stands gains unlocked = record {
    holds = record {
      owned = λ k. each gains.owns (slot handles k) (stands.holds.owned k);
      count = omega (arith, gains.len, stands.holds.count);
    };
    owned = gains.owned;
    apart = λ k. each gains.apart (slot handles k) (stands.holds.owned k);
    unlocked = unlocked;
  }

  -- it owns still what it owned
  pub owns_after : (old new : FrameSeen A) (h : HandleSeen) (result : Result HandleSeen Fault)
      → IfOk result (Gains old new) → OnErr result (Keeps old new) → Owns old h → Owns new h
  owns_after old new h (Ok given) gains keeps owns = gains.owns h owns
  owns_after old new h (Err fault) gains keeps owns = keeps.owns h owns

  -- each place has what it had, or what the frame was given
  pub given_each : (old new : FrameSeen A) (before after : List (Option HandleSeen)) (given : HandleSeen)
      → Gains old new given → OwnsEach old before → ComesIn before after given → OwnsEach new after
  given_each old new before after given gains owned comes k = elim (comes.places k) [
    | inl is ↦ subst (λ (o : Option HandleSeen). IfSome o (Owns new)) (sym is)
        (each gains.owns (slot before k) (owned k))
    | inr is ↦ subst (λ (o : Option HandleSeen). IfSome o (Owns new)) (sym is) gains.owned
  ]

  -- as many others stand beside the handles, of which one was given
  pub given_stands : (others : ℕ) (old new : FrameSeen A) (before after : List (Option HandleSeen)) (given : HandleSeen)
      → Gains old new given → IsUnlocked new → ComesIn before after given → Stands others old before
      → Stands others new after
  given_stands others old new before after given gains unlocked comes stands = record {
    holds = record {
      owned = given_each old new before after given gains stands.holds.owned comes;
      count = omega (arith, gains.len, comes.count, stands.holds.count);
    };
    unlocked = unlocked;
  }

  -- from one call to the next
  pub stands_on : (old mid new : FrameSeen A) (before between after : List (Option HandleSeen))
      → KeepsStanding old mid before between → KeepsStanding mid new between after
      → KeepsStanding old new before after
  stands_on old mid new before between after first second = record {
    each = second.each;
    count = omega (arith, first.count, second.count);
    heap = second.heap ∙ first.heap;
    unlocked = second.unlocked;
    owns = λ h owns apart. second.owns h (first.owns h owns apart) (first.apart h owns apart);
    apart = λ h owns apart. second.apart h (first.owns h owns apart) (first.apart h owns apart);
  }

  -- as many others stand beside the handles as before
  pub still_stands : (others : ℕ) (old new : FrameSeen A) (before after : List (Option HandleSeen))
      → KeepsStanding old new before after → Stands others old before → Stands others new after
  still_stands others old new before after keeps stands = record {
    holds = record { owned = keeps.each; count = omega (arith, keeps.count, stands.holds.count) };
    unlocked = keeps.unlocked;
  }

  -- and one that is loose is loose still
  pub still_besides : (others : ℕ) (old new : FrameSeen A) (before after : List (Option HandleSeen)) (loose : HandleSeen)
      → KeepsStanding old new before after → Besides others old before loose → Besides others new after loose
  still_besides others old new before after loose keeps besides = record {
    holds = record { owned = keeps.each; count = omega (arith, keeps.count, besides.holds.count) };
    owned = keeps.owns loose besides.owned besides.apart;
    apart = keeps.apart loose besides.owned besides.apart;
    unlocked = keeps.unlocked;
  }

  -- the last place went, and what was in it is loose
  pub popped_stands : (others : ℕ) (frame : FrameSeen A) (old new : List (Option HandleSeen))
      (popped : Option (Option HandleSeen)) → IfSome popped (λ last. old ≡ new ++ last ∷ [])
      → IfSome popped (λ last. IfSome last (ComesOut old new (length new))) → Stands others frame old
      → IfSome popped (λ last. MatchOption last (Stands others frame new) (Besides others frame new))
  popped_stands others frame old new None is comes stands = tt
  popped_stands others frame old new (Some None) is comes stands = record {
    holds = record {
      owned = each_less (Owns frame) old new None is stands.holds.owned;
      count = omega (arith, counted_less old new None is, stands.holds.count);
    };
    unlocked = stands.unlocked;
  }
  popped_stands others frame old new (Some (Some h)) is comes stands = record {
    holds = record {
      owned = each_less (Owns frame) old new (Some h) is stands.holds.owned;
      count = omega (arith, comes.count, stands.holds.count);
    };
    owned = each_at (Owns frame) old (length new) h comes.was stands.holds.owned;
    apart = comes.apart;
    unlocked = stands.unlocked;
  }

  -- two places have what the other had
  pub swapped_stands : (others : ℕ) (frame : FrameSeen A) (old new : List (Option HandleSeen)) (i j : ℕ)
      → Swapped old new i j → Stands others frame old → Stands others frame new
  swapped_stands others frame old new i j swapped stands = record {
    holds = record {
      owned = each_swapped (Owns frame) old new i j swapped stands.holds.owned;
      count = omega (arith, swapped.count, stands.holds.count);
    };
    unlocked = stands.unlocked;
  }
