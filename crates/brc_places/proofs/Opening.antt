-- A place that was opened for a result: it is filled, or closed again.
use Rattle.std.proofs.Common.{◌≡◌, ℕ, ◌+◌, List, [], ◌∷◌, ◌++◌, Option, Some, None, length, slice_set}
use Rattle.std.proofs.Common.{refl, ap, sym, ◌∙◌, subst}
use Rattle.std.specs.Prelude.{MatchOption}
use Rattle.std.specs.Option.{IfSome}
use Rattle.std.proofs.lemmas.List.{append_cancel_right}
use Rattle.std.proofs.Math.Seq.{get_or-append_seam}
use Rattle.brc_count.specs.Frames.{FrameSeen, HandleSeen, IsUnlocked}
use Rattle.brc_count.specs.Owned.{Keeps, Loses}
use Rattle.brc_handles.specs.Handles.{slot, filled, OwnsEach}
use Rattle.brc_handles.specs.Standing.{KeepsStanding}
use Rattle.brc_places.specs.declared.placing.To.{To}
use Rattle.brc_places.specs.declared.placing.To.TheVariants as tos
use Rattle.brc_places.specs.Placing.{Opened, Placed, TakenOff}

-- ---- places alone

fill_last : (hs : List (Option HandleSeen)) (x y : Option HandleSeen)
    → slice_set (hs ++ x ∷ []) (length hs) y ≡ hs ++ y ∷ []
fill_last [] x y = refl
fill_last (h ∷ hs) x y = ap (λ (l : List (Option HandleSeen)). h ∷ l) (fill_last hs x y)

-- what is in a place of other places with another number
slot_of : (hs gs : List (Option HandleSeen)) (i k : ℕ) → hs ≡ gs → i ≡ k → slot hs i ≡ slot gs k
slot_of hs gs i k same at = ap (λ (l : List (Option HandleSeen)). slot l i) same ∙ ap (slot gs) at

-- and what is there once one is filled
set_of : (hs gs : List (Option HandleSeen)) (i k : ℕ) (x : Option HandleSeen) → hs ≡ gs → i ≡ k
    → slice_set hs i x ≡ slice_set gs k x
set_of hs gs i k x same at =
    ap (λ (l : List (Option HandleSeen)). slice_set l i x) same ∙ ap (λ (n : ℕ). slice_set gs n x) at

-- a place that was closed leaves what was there before it was opened
pub as_before : (to : To) (before mid after : List (Option HandleSeen)) (index : ℕ) → Opened to before mid index
    → TakenOff to mid after → after ≡ before
as_before tos.Last before mid after index opened closed =
    append_cancel_right after before (None ∷ []) (sym closed ∙ opened.at.0)
as_before (tos.Place i) before mid after index opened closed = closed ∙ opened.at.0

-- what is so of each that is there stays so as another thing
each : {P Q : HandleSeen → Type 0} → ((h : HandleSeen) → P h → Q h) → (found : Option HandleSeen) → IfSome found P
    → IfSome found Q
each step None all = tt
each step (Some h) all = step h all

-- ---- beside the frame

module _ {A : Type 0} where
  -- what was given is where it was to go
  pub filled_so : (to : To) (old new : FrameSeen A) (before mid after : List (Option HandleSeen)) (index : ℕ)
      (given : HandleSeen) → Opened to before mid index → after ≡ slice_set mid index (Some given)
      → MatchOption (slot mid index) (new ≡ old) (Loses old new) → Placed to old new before after given
  filled_so tos.Last old new before mid after index given opened set gone = (
    set ∙ set_of mid (before ++ None ∷ []) index (length before) (Some given) opened.at.0 opened.at.1
        ∙ fill_last before None (Some given),
    subst (λ (o : Option HandleSeen). MatchOption o (new ≡ old) (Loses old new))
        (slot_of mid (before ++ None ∷ []) index (length before) opened.at.0 opened.at.1
        ∙ get_or-append_seam before None [] None) gone,
  )
  filled_so (tos.Place i) old new before mid after index given opened set gone = (
    set ∙ set_of mid before index i (Some given) opened.at.0 opened.at.1,
    subst (λ (o : Option HandleSeen). MatchOption o (new ≡ old) (Loses old new))
        (slot_of mid before index i opened.at.0 opened.at.1) gone,
  )

  -- a call that was refused leaves what stood
  pub kept_stands : (old new : FrameSeen A) (before after : List (Option HandleSeen)) → OwnsEach old before
      → Keeps old new → IsUnlocked new → after ≡ before → KeepsStanding old new before after
  kept_stands old new before after owned keeps unlocked same =
      subst (λ (l : List (Option HandleSeen)). KeepsStanding old new before l) (sym same) (record {
        each = λ k. each keeps.owns (slot before k) (owned k);
        count = ap (λ (n : ℕ). n + filled before) keeps.len;
        heap = keeps.heap;
        unlocked = unlocked;
        owns = λ h owns apart. keeps.owns h owns;
        apart = λ h owns apart. apart;
      })
