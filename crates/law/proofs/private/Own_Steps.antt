-- The thread's own step keeps its private cells apart, where none joins.
use Rattle.std.proofs.Common.{◌≡◌, ℕ, ◌<◌, Bool, true, false, if◌then◌else◌, List, [], length, slice_get, Some, None}
use Rattle.std.proofs.Common.{refl, sym, ◌∙◌, ap, subst, inl, inr, arith}
use Rattle.std.proofs.lemmas.Bool.{cases_eq, cases_Bool, and_parts, true≢false}
use Rattle.brc_words.specs.declared.owner.Owner.TheVariants as owners
use Rattle.brc_words.specs.declared.state.State.TheVariants as states
use Rattle.law.specs.world.Holding.{lives}
use Rattle.law.specs.declared.world.cell.Cell.{Cell}
use Rattle.law.specs.declared.world.event.Change.{Change}
use Rattle.law.specs.declared.world.event.Step.{Step}
use Rattle.law.specs.declared.world.event.Step.TheVariants.{Claim, InitLocal, InitShared, Birth, LocalUp, LocalDown}
use Rattle.law.specs.declared.world.event.Step.TheVariants.{Free, Untie, MergeZero, SharedUp, SharedDown, Ask, LastDown}
use Rattle.law.specs.declared.world.event.Step.TheVariants.{MergeAdd, Lock, Unlock, Offer}
use Rattle.law.specs.declared.world.row.Hand.TheVariants as hands
use Rattle.law.specs.declared.world.row.Phase.TheVariants as phases
use Rattle.law.specs.declared.world.row.Row.{Row}
use Rattle.law.specs.world.Lists.{bit_of, is_marked}
use Rattle.law.specs.world.Heap.{Heap, cell_at, entries_at, row_at, frame_at, frame_at, popped_at, worklist_at, no_row}
use Rattle.law.specs.world.Heap.{no_cell, is_immortal}
use Rattle.law.specs.world.Steps.{target_at, target_ok, thread_may, locked_at, is_active, is_default, cell_after}
use Rattle.law.specs.world.Steps.{row_after, popped_after, worklist_after, born_cell, gone, stepped, is_shut}
use Rattle.law.specs.world.Sound.{IsSound}
use Rattle.law.proofs.world.Naming.{free_hand, free_owner}
use Rattle.law.proofs.world.Asking.{May, may_parts, OnCell, on_cell}
use Rattle.law.proofs.world.Changes.{read_here, read_there}
use Rattle.law.proofs.lasting.Lasting.{not_bearing}
use Rattle.law.specs.private.Private.{Isolated, OwnCell, is_shared, is_plain, private_by}
use Rattle.law.proofs.private.Going_On.{same_set}
use Rattle.law.proofs.private.In_Frames.{frames_kept}
use Rattle.law.proofs.private.In_Queues.{queues_kept}
use Rattle.law.proofs.private.In_Entries.{unlock_kept}
use Rattle.law.proofs.private.In_Hands.{never_others, late}
use Rattle.law.proofs.private.Brought.{hand_brings, popped_keeps, entries_fewer}

either_cell : (t : ℕ) (b : Bool) (x y : Cell) → OwnCell t x → OwnCell t y → OwnCell t (if b then x else y)
either_cell t true x y one other = one
either_cell t false x y one other = other

-- steps after which their cell isn't private
abbrev pub ends_private : Step → Bool
ends_private (Free d) = true
ends_private (Offer d) = true
ends_private _ = false

-- nothing is private
pub none_private : (h : Heap) (t : ℕ) (set : ℕ → Bool) → ((c : ℕ) → set c ≡ false) → Isolated h t set
none_private h t set none = record {
  mortal = λ c is. absurd (true≢false (sym is ∙ none c));
  cells = λ c is. absurd (true≢false (sym is ∙ none c));
  frames = λ u k c is. absurd (true≢false (sym is ∙ none c));
  hands = λ u c p is. absurd (true≢false (sym is ∙ none c));
  popped = λ u c is. absurd (true≢false (sym is ∙ none c));
  queues = λ u c is. absurd (true≢false (sym is ∙ none c));
  worklists = λ u c is. absurd (true≢false (sym is ∙ none c));
  entries = λ d i c is. absurd (true≢false (sym is ∙ none c));
}

module _ (h : Heap) (t : ℕ) (mine : ℕ → Bool) (sound : IsSound h) (apart : Isolated h t mine)
    (active : is_active (row_at h t).stage ≡ true) where
  -- what an own step leaves of a private cell that it means
  own_cell : (s : Step) (d : ℕ) → thread_may h t s ≡ true → target_at h t s ≡ Some d → ends_private s ≡ false
      → mine d ≡ true → OwnCell t (cell_after t s d (cell_at h d))
  own_cell (Claim e) d may named keeps is =
      let same : e ≡ d = cc in
      let free : (cell_at h e).owner ≡ owners.Free =
      free_owner _ (and_parts _ _ (on_cell h t (Claim e) e (may_parts h t (Claim e) may).on_target).fits).1 in
      absurd (true≢false (sym (apart.cells e (ap mine same ∙ is)).live ∙ ap lives free))
  own_cell (InitLocal e) d may named keeps is =
      absurd (not_bearing h t d e phases.Claimed sound (inl refl) (may_parts h t (InitLocal e) may).hand (cc)
      (apart.cells d is).live)
  own_cell (InitShared e) d may named keeps is =
      absurd (not_bearing h t d e phases.Counted sound (inr (inl refl)) (may_parts h t (InitShared e) may).hand (cc)
      (apart.cells d is).live)
  own_cell (Birth e kind k) d may named keeps is =
      absurd (not_bearing h t d e phases.Ready sound (inr (inr refl)) (may_parts h t (Birth e kind k) may).hand (cc)
      (apart.cells d is).live)
  own_cell (LocalUp source k) d may named keeps is = let was = apart.cells d is in either_cell t (is_immortal d)
      (cell_at h d) _ was (record { live = was.live; bearer = was.bearer; unasked = was.unasked })
  own_cell (LocalDown drop) d may named keeps is = let was = apart.cells d is in either_cell t (is_immortal d)
      (cell_at h d) _ was (record { live = was.live; bearer = was.bearer; unasked = was.unasked })
  own_cell (Free e) d may named keeps is = absurd (true≢false keeps)
  own_cell (Offer e) d may named keeps is = absurd (true≢false keeps)
  own_cell (Untie e) d may named keeps is = let was = apart.cells d is in
      record { live = refl; bearer = was.bearer; unasked = was.unasked }
  own_cell (MergeZero e) d may named keeps is = let was = apart.cells d is in
      record { live = was.live; bearer = was.bearer; unasked = refl }
  own_cell (MergeAdd e) d may named keeps is = let was = apart.cells d is in
      record { live = was.live; bearer = was.bearer; unasked = refl }
  own_cell (Ask drop) d may named keeps is = elim (cases_Bool (is_default (cell_at h d).state)) [
    | inl default ↦
        let parts : May h t (Ask drop) = may_parts h t (Ask drop) may in
        let at_cell : OnCell h t (Ask drop) d = on_cell h t (Ask drop) d
        (subst (λ o. target_ok h t (row_at h t) (Ask drop) o ≡ true) named parts.on_target) in
        absurd (never_others h t mine sound apart d is active (free_hand _ parts.hand) default at_cell.fits)
    | inr other ↦ subst (λ b. OwnCell t (if b then record (cell_at h d) { state = states.Queued } else cell_at h d))
        (sym other) (apart.cells d is)
  ]
  own_cell (SharedUp source k) d may named keeps is = let was = apart.cells d is in
      record { live = was.live; bearer = was.bearer; unasked = was.unasked }
  own_cell (SharedDown drop) d may named keeps is = let was = apart.cells d is in
      record { live = was.live; bearer = was.bearer; unasked = was.unasked }
  own_cell (LastDown last) d may named keeps is = let was = apart.cells d is in
      record { live = was.live; bearer = was.bearer; unasked = was.unasked }
  own_cell (Lock k) d may named keeps is = let was = apart.cells d is in
      record { live = was.live; bearer = was.bearer; unasked = was.unasked }
  own_cell (Unlock change) d may named keeps is = let was = apart.cells d is in
      record { live = was.live; bearer = was.bearer; unasked = was.unasked }
  own_cell s d may named keeps is = apart.cells d is

  -- a step after which no more cells are private
  pub own_shrunk : (s : Step) (d : ℕ) (now : ℕ → Bool) → thread_may h t s ≡ true → target_at h t s ≡ Some d
      → ((c : ℕ) → now c ≡ true → mine c ≡ true) → (now d ≡ true → ends_private s ≡ false)
      → ((e i c : ℕ) → now c ≡ true → slice_get (entries_at (stepped h t s d) e) i ≡ Some c → now e ≡ true)
      → Isolated (stepped h t s d) t now
  own_shrunk s d now may named less kept entries =
      let parts : May h t s = may_parts h t s may in
      let at_cell : OnCell h t s d =
      on_cell h t s d (subst (λ o. target_ok h t (row_at h t) s o ≡ true) named parts.on_target) in
      let row : Row = row_after s d (cell_at h d) (is_shut h d) (row_at h t) in
      record {
        mortal = λ c is. apart.mortal c (less c is);
        cells = λ c is. elim (cases_eq c d) [
          | inl same ↦ ap_cell c d s now is same at_cell.inside (own_cell s d may named (kept (ap now (sym same) ∙ is))
              (less d (ap now (sym same) ∙ is)))
          | inr off ↦ subst (OwnCell t) (sym (read_there h.cells d c _ no_cell off)) (apart.cells c (less c is))
        ];
        frames = λ v k c is at. frames_kept h t t mine s d sound apart may named v k c (less c is) at;
        hands = λ v c p is busy. elim (cases_eq v t) [
          | inr off ↦ apart.hands v c p (less c is)
              (ap (λ (r : Row). r.hand) (sym (read_there h.rows t v row no_row off)) ∙ busy)
          | inl same ↦
              let here : row.hand ≡ hands.Busy p c = ap (λ (r : Row). r.hand)
              (sym (read_here h.rows t row no_row parts.inside)) ∙ ap (λ i. (row_at (stepped h t s d) i).hand)
              (sym same) ∙ busy in
              elim (hand_brings s d (cell_at h d) (is_shut h d) (row_at h t).hand p c here) [
                | inl was ↦ (same, (apart.hands t c p (less c is) was).1)
                | inr meant ↦ elim (late h t mine s d sound apart active may named (ap mine meant ∙ less c is) p c
                    (is_shut h d) here) [
                      | inl was ↦ (same, (apart.hands t c p (less c is) was).1)
                      | inr new ↦ (same, new.1)
                    ]
              ]
        ];
        popped = λ v c is. elim (cases_eq v t) [
          | inr off ↦ ap (λ (ws : List ℕ). bit_of ws c) (read_there h.popped t v _ [] off)
              ∙ apart.popped v c (less c is)
          | inl same ↦ ap (λ i. bit_of (popped_at (stepped h t s d) i) c) same
              ∙ ap (λ (ws : List ℕ). bit_of ws c) (read_here h.popped t (popped_after s (popped_at h t)) []
              (omega (arith, sound.shaped.popped, parts.inside)))
              ∙ popped_keeps h t s c parts (apart.popped t c (less c is))
        ];
        queues = λ v c is. queues_kept h t t mine s d sound apart may named v c (less c is);
        worklists = λ v c is marked. elim (cases_eq v t) [
          | inr off ↦ apart.worklists v c (less c is)
              (ap (λ (ws : List Bool). is_marked ws c)
              (sym (read_there h.worklists t v (worklist_after s d (cell_at h d) (worklist_at h t)) [] off)) ∙ marked)
          | inl same ↦ same
        ];
        entries = entries;
      }
    where
      ap_cell : (c d : ℕ) (s : Step) (now : ℕ → Bool) → now c ≡ true → c ≡ d → d < length h.cells
          → OwnCell t (cell_after t s d (cell_at h d)) → OwnCell t (cell_at (stepped h t s d) c)
      ap_cell c d s now is same inside own = subst (λ i. OwnCell t (cell_at (stepped h t s d) i)) (sym same)
          (subst (OwnCell t) (sym (read_here h.cells d (cell_after t s d (cell_at h d)) no_cell inside)) own)

  -- an unlock by the thread, whatever it shares
  pub own_unlock : (change : Change) (d : ℕ) → thread_may h t (Unlock change) ≡ true
      → target_at h t (Unlock change) ≡ Some d
      → Isolated (stepped h t (Unlock change) d) t (private_by (frame_at h t) (locked_at h t) (Unlock change) mine)
  own_unlock change d may named =
      own_shrunk (Unlock change) d (private_by (frame_at h t) (locked_at h t) (Unlock change) mine) may named
      (λ c is. less (is_shared mine (frame_at h t) (locked_at h t) change) (mine c) is) (λ is. refl)
      (unlock_kept h t mine change d sound apart may named)
    where
      less : (b m : Bool) → (if b then false else m) ≡ true → m ≡ true
      less true m is = absurd (true≢false (sym is))
      less false m is = is

  -- an object that the thread hands over: where it was private nothing is private any more
  pub own_offer : (e d : ℕ) → thread_may h t (Offer e) ≡ true → target_at h t (Offer e) ≡ Some d
      → Isolated (stepped h t (Offer e) d) t (private_by (frame_at h t) (locked_at h t) (Offer e) mine)
  own_offer e d may named = elim (cases_Bool (mine e)) [
    | inl his ↦ none_private (stepped h t (Offer e) d) t (private_by (frame_at h t) (locked_at h t) (Offer e) mine)
        (λ c. ap (λ b. if b then false else mine c) his)
    | inr off ↦
        let same : e ≡ d = cc in
        let less : (c : ℕ) → (if mine e then false else mine c) ≡ mine c =
        λ c. ap (λ b. if b then false else mine c) off in
        own_shrunk (Offer e) d (private_by (frame_at h t) (locked_at h t) (Offer e) mine) may named
        (λ c is. sym (less c) ∙ is)
        (λ is. absurd (true≢false (sym is ∙ less d ∙ ap mine (sym same) ∙ off)))
        (λ f i c is at. less f ∙ apart.entries f i c (sym (less c) ∙ is) (entries_fewer h.entries None None f i c at))
  ]

  no_end : (s : Step) → is_plain s ≡ true → ends_private s ≡ false
  no_end (Free d) plain = absurd (true≢false (sym plain))
  no_end (Offer d) plain = absurd (true≢false (sym plain))
  no_end s plain = refl

  plain_entries : (s : Step) (d e i c : ℕ) → is_plain s ≡ true → slice_get (entries_at (stepped h t s d) e) i ≡ Some c
      → slice_get (entries_at h e) i ≡ Some c
  plain_entries (Unlock change) d e i c plain at = absurd (true≢false (sym plain))
  plain_entries s d e i c plain at = entries_fewer h.entries (born_cell s) (gone s (cell_at h d)) e i c at

  pub own_plain : (s : Step) (d : ℕ) → is_plain s ≡ true → thread_may h t s ≡ true → target_at h t s ≡ Some d
      → Isolated (stepped h t s d) t (private_by (frame_at h t) (locked_at h t) s mine)
  own_plain s d plain may named =
      own_shrunk s d (private_by (frame_at h t) (locked_at h t) s mine) may named
      (λ c is. sym (same_set (frame_at h t) (locked_at h t) s mine c plain) ∙ is) (λ is. no_end s plain)
      (λ e i c is at. same_set (frame_at h t) (locked_at h t) s mine e plain
      ∙ apart.entries e i c (sym (same_set (frame_at h t) (locked_at h t) s mine c plain) ∙ is)
      (plain_entries s d e i c plain at))
