-- What a step of a release leaves as it was.
use Rattle.std.proofs.Common.{◌≡◌, ℕ, ◌==◌, length, arith, inl, inr, if◌then◌else◌, Bool, true, false, List, [], ◌∷◌}
use Rattle.std.proofs.Common.{Option, Some, None, IfSome, refl, sym, ◌∙◌, ap}
use Rattle.std.proofs.lemmas.Bool.{eq-eqb, cases_eq, cases_lt}
use Rattle.std.proofs.lemmas.List.{length-set, get_or-set_same, get_or_past}
use Rattle.brc_table.specs.block.declared.payload.Payload.{Payload}
use Rattle.brc_table.specs.law.declared.world.event.Dropped.{Dropped}
use Rattle.brc_table.specs.law.declared.world.event.Dropped.TheVariants as drops
use Rattle.brc_table.specs.law.world.Lists.{names, front_of, place_at, vacated}
use Rattle.brc_table.specs.law.world.Steps.{frame_without}
use Rattle.brc_table.proofs.law.world.Framing.{place_at-vacated_else}
use Rattle.brc_table.specs.law.known.Items.{Part}
use Rattle.brc_table.specs.law.known.Taken.{Blocks, listed_at, cut, cut_by}
use Rattle.brc_table.specs.law.declared.rule.told.LogItem.{LogItem}
use Rattle.brc_table.specs.law.rule.Seen.{part_seen, taken_seen}
use Rattle.brc_table.specs.Knowing.{known_seen, Knows, KeepsNotes}
use Rattle.brc_biased.specs.Standing.{FillsNoPlace}

some_none : {X : Type 0} {x : X} → Some x ≡ None → ⊥
some_none is = cc

-- a cell that isn't listed once a block has lost an entry wasn't before
unlisted_cut : (d : ℕ) (blocks : Blocks) (c : ℕ) → listed_at (cut d blocks) c ≡ None → listed_at blocks c ≡ None
unlisted_cut d [] c is = refl
unlisted_cut d (b ∷ blocks) c is = by_test (b.0 == c) (unlisted_cut d blocks c) is
  where
    by_test : (t : Bool) → (listed_at (cut d blocks) c ≡ None → listed_at blocks c ≡ None)
        → (if t then Some (if b.0 == d then front_of b.1 else b.1) else listed_at (cut d blocks) c) ≡ None
        → (if t then Some b.1 else listed_at blocks c) ≡ None
    by_test true below is = absurd (some_none is)
    by_test false below is = below is

unlisted_before : (o : Option Dropped) (blocks : Blocks) (c : ℕ) → listed_at (cut_by o blocks) c ≡ None
    → listed_at blocks c ≡ None
unlisted_before None blocks c is = is
unlisted_before (Some (drops.Frame k)) blocks c is = is
unlisted_before (Some (drops.Work d)) blocks c is = unlisted_cut d blocks c is

-- a block that is answered after a reference went was none of those that the thread had before
pub fresh_before : {A : Type 0} (o : Option Dropped) (n : ℕ) (before log : List LogItem) (c : ℕ)
    (block : Option (ℕ × Payload A))
    → taken_seen n log ≡ cut_by o (taken_seen n before) → IfSome block (λ there. listed_at (taken_seen n log) c ≡ None)
    → IfSome block (λ there. listed_at (taken_seen n before) c ≡ None)
fresh_before o n before log c None blocks fresh = tt
fresh_before o n before log c (Some there) blocks fresh = unlisted_before o (taken_seen n before) c
    (ap (λ b. listed_at b c) (sym blocks) ∙ fresh)

vacated_here : (frame : List (Option ℕ)) (k : ℕ) → place_at (vacated frame k) k ≡ None
vacated_here frame k = elim (cases_lt k (length frame)) [
  | inl inside ↦ get_or-set_same frame k None None inside
  | inr past ↦ get_or_past (vacated frame k) k None (omega (arith, past, length-set frame k None))
]

-- a place that has a cell once a reference went had it before
place_before : (drop : Dropped) (frame : List (Option ℕ)) (k c : ℕ) → place_at (frame_without (Some drop) frame) k
    ≡ Some c → place_at frame k ≡ Some c
place_before (drops.Work d) frame k c there = there
place_before (drops.Frame j) frame k c there = elim (cases_eq k j) [
  | inl same ↦ absurd (some_none (sym there ∙ ap (place_at (vacated frame j)) same ∙ vacated_here frame j))
  | inr other ↦ sym (place_at-vacated_else frame j k other) ∙ there
]

module _ {n : ℕ} {before log : List LogItem} where
  -- after a step by which a reference goes
  pub drop_keeps : (drop : Dropped) → (part_seen n log).frame ≡ frame_without (Some drop) (part_seen n before).frame
      → KeepsNotes n before log → FillsNoPlace n before log
  drop_keeps drop gone keeps = record {
    places = λ k c there. place_before drop (part_seen n before).frame k c
        (ap (λ frame. place_at frame k) (sym gone) ∙ there);
    risen = λ k c there seen. keeps.risen (drops.Frame k) c seen ∙ ap (names c) there ∙ eq-eqb c c refl;
  }

  -- after a look, and after an exchange that was lost
  pub look_keeps : Knows n log (known_seen n before) → KeepsNotes n before log → FillsNoPlace n before log
  look_keeps knows keeps = record {
    places = λ k c there. ap (λ (p : Part). place_at p.frame k) (sym knows.part) ∙ there;
    risen = λ k c there seen. keeps.risen (drops.Frame k) c seen ∙ ap (names c) there ∙ eq-eqb c c refl;
  }

  pub keeps_on : {later : List LogItem} → FillsNoPlace n before log → FillsNoPlace n log later
      → FillsNoPlace n before later
  keeps_on first second = record {
    places = λ k c there. first.places k c (second.places k c there);
    risen = λ k c there seen. second.risen k c there (first.risen k c (second.places k c there) seen);
  }
