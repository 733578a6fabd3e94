-- Who was found as an owner is registered, then and ever after.
use Rattle.std.proofs.Common.{◌≡◌, ℕ, ◌<◌, ◌≤◌, ◌==◌, ◌&&◌, nat_lt, true, List, length, sym, ◌∙◌, ap, inl, inr, arith}
use Rattle.std.proofs.lemmas.Bool.{or_cases, eqb-true, lt-ltb, true≢false}
use Rattle.std.specs.Cmp.Derive.{both_true}
use Rattle.brc_words.specs.declared.limits.TheConstants.{MOST_THREADS}
use Rattle.brc_words.specs.declared.owner.Owner as owner
use Rattle.brc_words.specs.declared.owner.Owner.TheVariants as owners
use Rattle.brc_words.specs.Owners.{word_of}
use Rattle.law.specs.known.Start.{start_of}
use Rattle.law.specs.world.Heap.{Heap, cell_at, is_registered, AreOptions}
use Rattle.law.specs.world.Steps.{target_at}
use Rattle.law.specs.world.Runs.{IsReached}
use Rattle.law.specs.known.Items.{Item, Word, Of, Owner, ItemRun, AreItems, world_of_items, own, WordShows}
use Rattle.law.specs.known.Owners_Seen.{is_owner_word, has_seen_owner}
use Rattle.law.proofs.world.Reached.{reached_sound}
use Rattle.law.proofs.lasting.Ranges_Law.{same_rows, registered_stays, reached_owners}
use Rattle.law.proofs.known.Free_Law.{shown_below}
use Rattle.law.proofs.known.Items_Tells.{Follows, tells}

-- an owner word that is a thread's says that this thread owns the cell
pub thread_spelled : (o : owner.Owner) (q : ℕ) → q ≡ word_of o → 0 < q → q ≤ MOST_THREADS → o ≡ owners.Thread q
thread_spelled owners.Nobody q is low few = absurd (omega (arith, is, low))
thread_spelled (owners.Thread s) q is low few = ap owners.Thread (sym is)
thread_spelled (owners.Claimed s) q is low few = absurd (omega (arith, is, few))
thread_spelled owners.Free q is low few = absurd (omega (arith, is, few))

-- a word of a cell in which nobody lives may have it too: it was registered
found_registered : (h : Heap) (word : Word) (number q : ℕ) → IsReached h → WordShows h word number
    → (is_owner_word word && (number == q)) ≡ true → 0 < q → is_registered h q ≡ true
found_registered h (Of Owner c) number q reached shows found low =
    both_true (lt-ltb 0 q low) (lt-ltb q (length h.rows)
    (omega (
      arith,
      eqb-true number q found,
      shown_below (length h.rows) (cell_at h c).owner number
          (omega (arith, (reached_sound h reached).shaped.root)) (reached_owners h reached c) shows,
    )))
found_registered h _ number q reached shows found low = absurd (true≢false (sym found))

AreRegistered : Heap → List Item → Type 0
AreRegistered h log = (q : ℕ) → has_seen_owner log q ≡ true → 0 < q → q ≤ MOST_THREADS → is_registered h q ≡ true

owners_follow : (t cells : ℕ) → Follows t cells AreRegistered
unfolding AreRegistered
owners_follow t cells = record {
  starts = λ h reached size last q seen low few. absurd (true≢false (sym seen));
  again = λ h number entries reached size vacated q seen low few. absurd (true≢false (sym seen));
  others = λ h e log reached ok others before q seen low few. registered_stays h e q (before q seen low few);
  owns = λ h s number entries log reached size fit may told found before q seen low few.
      ap (λ n. nat_lt 0 q && nat_lt q n) (same_rows h t s (target_at h t s)) ∙ before q seen low few;
  gathers = λ h u log before. before;
  saw = λ h word number log reached shows before q seen low few. elim
      (or_cases (is_owner_word word && (number == q)) (has_seen_owner log q) seen) [
        | inl now ↦ found_registered h word number q reached shows now low
        | inr since ↦ before q since low few
      ];
  lost = λ h word number log reached shows before q seen low few. elim
      (or_cases (is_owner_word word && (number == q)) (has_seen_owner log q) seen) [
        | inl now ↦ found_registered h word number q reached shows now low
        | inr since ↦ before q since low few
      ];
}

-- who was found as an owner by a registered thread is registered
pub owners_are_registered : (cells limit : ℕ) (items : ItemRun) (t q : ℕ) → AreOptions cells limit
    → AreItems (start_of cells limit) items
    → is_registered (world_of_items (start_of cells limit) items) t ≡ true → has_seen_owner (own t items) q ≡ true
    → 0 < q → q ≤ MOST_THREADS
    → is_registered (world_of_items (start_of cells limit) items) q ≡ true
unfolding AreRegistered
owners_are_registered cells limit items t q options are there seen low few = tells t cells AreRegistered
    (owners_follow t cells) limit items options are there q seen low few
