-- A birth makes a cell private, and a free ends it.
use Rattle.std.proofs.Common.{◌≡◌, ◌≢◌, ℕ, ◌<◌, ◌≤◌, ◌==◌, Bool, true, false, if◌then◌else◌, List, [], length, get_or}
use Rattle.std.proofs.Common.{set, slice_get, Option, Some, None, refl, sym, ◌∙◌, ap, subst, inl, inr, ◌⊎◌, arith}
use Rattle.std.proofs.lemmas.List.{set-get_or}
use Rattle.std.proofs.lemmas.Bool.{cases_eq, cases_Bool, and_parts, eqb-true, eq-eqb, true≢false}
use Rattle.brc_words.specs.declared.kind.Kind.{Kind}
use Rattle.brc_words.specs.declared.limits.TheConstants.{FIRST_MORTAL}
use Rattle.brc_words.specs.declared.owner.Owner.TheVariants as owners
use Rattle.law.specs.world.Holding.{lives}
use Rattle.law.specs.declared.world.cell.Cell.{Cell}
use Rattle.law.specs.declared.world.event.Step.{Step}
use Rattle.law.specs.declared.world.event.Step.TheVariants.{Birth, Free}
use Rattle.law.specs.declared.world.row.Hand.TheVariants as hands
use Rattle.law.specs.declared.world.row.Phase.TheVariants as phases
use Rattle.law.specs.declared.world.row.Row.{Row}
use Rattle.law.specs.world.Lists.{one, place_at, bit_of, is_marked}
use Rattle.law.specs.world.Heap.{Heap, cell_at, entries_at, row_at, frame_at, popped_at, worklist_at, queue_at, no_row}
use Rattle.law.specs.world.Heap.{no_cell}
use Rattle.law.specs.world.Steps.{target_at, target_ok, thread_may, locked_at, is_active, is_queued, is_empty}
use Rattle.law.specs.world.Steps.{cell_after, row_after, frame_after, worklist_after, stepped, is_shut}
use Rattle.law.specs.world.Sound.{IsSound, HandFits, grips, offering, Offered}
use Rattle.law.proofs.world.Naming.{busy_hand, no_mark, unnamed, unoffered, Unheld, dead_unheld, Ungripped, sole_grip}
use Rattle.law.proofs.world.Asking.{May, may_parts, on_cell}
use Rattle.law.proofs.world.Changes.{read_here, read_there}
use Rattle.law.proofs.world.Dropping.{held_by_place, held_by_entry}
use Rattle.law.proofs.world.Framing.{found_inside}
use Rattle.law.proofs.lasting.Lasting.{bearing}
use Rattle.law.specs.private.Private.{Isolated, OwnCell, private_by}
use Rattle.law.proofs.private.Brought.{entries_fewer}
use Rattle.law.proofs.private.Own_Steps.{own_shrunk}

now_or : (b m : Bool) → (if b then true else m) ≡ true → (b ≡ true) ⊎ (m ≡ true)
now_or true m is = inl refl
now_or false m is = inr is

still : (b m : Bool) → m ≡ true → (if b then true else m) ≡ true
still true m is = refl
still false m is = is

not_freed : (b m : Bool) → (if b then false else m) ≡ true → (b ≡ false) × (m ≡ true)
not_freed true m is = absurd (true≢false (sym is))
not_freed false m is = (refl, is)

no_entries : (xs : List ℕ) (i c : ℕ) → is_empty xs ≡ true → slice_get xs i ≡ Some c → ⊥
no_entries xs i c none at = omega (arith, found_inside xs i c at, eqb-true (length xs) 0 none)

module _ (h : Heap) (t : ℕ) (mine : ℕ → Bool) (sound : IsSound h) (apart : Isolated h t mine)
    (active : is_active (row_at h t).stage ≡ true) where
  pub own_free : (e d : ℕ) → thread_may h t (Free e) ≡ true → target_at h t (Free e) ≡ Some d
      → Isolated (stepped h t (Free e) d) t (private_by (frame_at h t) (locked_at h t) (Free e) mine)
  own_free e d may named =
      let same : e ≡ d = cc in
      own_shrunk h t mine sound apart active (Free e) d
      (private_by (frame_at h t) (locked_at h t) (Free e) mine) may named
      (λ c is. (not_freed (e == c) (mine c) is).1)
      (λ is. absurd (true≢false (sym (eq-eqb e d same) ∙ (not_freed (e == d) (mine d) is).0)))
      (λ f i c is at.
      let was : slice_get (entries_at h f) i ≡ Some c = entries_fewer h.entries None None f i c at in
      let there : mine f ≡ true = apart.entries f i c (not_freed (e == c) (mine c) is).1 was in
      elim (cases_Bool (e == f)) [
        | inl freed ↦ absurd (no_entries (entries_at h e) i c (and_parts _ _ (may_parts h t (Free e) may).own).1
            (ap (λ j. slice_get (entries_at h j) i) (eqb-true e f freed) ∙ was))
        | inr off ↦ ap (λ b. if b then false else mine f) off ∙ there
      ])

  pub own_birth : (e : ℕ) (kind : Kind) (k d : ℕ) → thread_may h t (Birth e kind k) ≡ true
      → target_at h t (Birth e kind k) ≡ Some d
      → Isolated (stepped h t (Birth e kind k) d) t (private_by (frame_at h t) (locked_at h t) (Birth e kind k) mine)
  own_birth e kind k d may named =
      let s : Step = Birth e kind k in
      let same : e ≡ d = cc in
      let parts : May h t s = may_parts h t s may in
      let inside : d < length h.cells =
      (on_cell h t s d (subst (λ o. target_ok h t (row_at h t) s o ≡ true) named parts.on_target)).inside in
      let busy : (row_at h t).hand ≡ hands.Busy phases.Ready e = busy_hand phases.Ready e _ parts.hand in
      let fits : HandFits h t phases.Ready e = sound.hands t e phases.Ready busy in
      let claimed : (FIRST_MORTAL ≤ e) × ((cell_at h e).owner ≡ owners.Claimed t)
      × (one (grips e (row_at h t).hand) ≡ 1) = bearing phases.Ready (inr (inr refl)) h t e sound busy in
      let none : Unheld h e = dead_unheld h e sound claimed.0 (ap lives claimed.1) in
      let alone : (v : ℕ) → v ≢ t → Ungripped h e v = sole_grip h e t sound claimed.0 (omega (arith, claimed.2)) in
      let unoffered_by : (v : ℕ) → one (offering e (row_at h v).hand) ≡ 0 =
      λ v. unoffered h v e _ sound refl (λ (o : Offered v (cell_at h e)). true≢false (sym (ap lives o.owner)
      ∙ ap lives claimed.1)) in
      let row : Row = row_after s d (cell_at h d) (is_shut h d) (row_at h t) in
      let new : Cell = cell_after t s d (cell_at h d) in
      record {
        mortal = λ c is. elim (now_or (e == c) (mine c) is) [
          | inl born ↦ subst (λ i. FIRST_MORTAL ≤ i) (eqb-true e c born) claimed.0
          | inr was ↦ apart.mortal c was
        ];
        cells = λ c is. elim (cases_eq c d) [
          | inl here ↦ subst (λ i. OwnCell t (cell_at (stepped h t s d) i)) (sym here)
              (subst (OwnCell t) (sym (read_here h.cells d new no_cell inside))
              (record {
                live = refl;
                bearer = refl;
                unasked = ap (λ i. is_queued (cell_at h i).state) (sym same)
                    ∙ ap is_queued fits.fits.2;
              }))
          | inr off ↦ elim (now_or (e == c) (mine c) is) [
            | inl born ↦ absurd (off (sym (eqb-true e c born) ∙ same))
            | inr was ↦ subst (OwnCell t) (sym (read_there h.cells d c new no_cell off)) (apart.cells c was)
          ]
        ];
        frames = λ v j c is at. elim (cases_eq v t) [
          | inl own ↦ own
          | inr off ↦
              let there : place_at (frame_at h v) j ≡ Some c = ap (λ (frame : List (Option ℕ)). place_at frame j)
              (sym (read_there h.frames t v (frame_after s d (cell_at h d) (entries_at h d) (frame_at h t))
              [] off)) ∙ at in
              elim (now_or (e == c) (mine c) is) [
                | inl born ↦ absurd (omega (
                  arith,
                  held_by_place h v j e (there ∙ ap Some (sym (eqb-true e c born))),
                  none.sum,
                ))
                | inr was ↦ apart.frames v j c was there
              ]
        ];
        hands = λ v c p is at. elim (cases_eq v t) [
          | inl own ↦ absurd (let bad : hands.Free ≡ hands.Busy p c = ap (λ (r : Row). r.hand)
              (sym (read_here h.rows t row no_row parts.inside)) ∙ ap (λ i. (row_at (stepped h t s d) i).hand) (sym own)
              ∙ at in cc)
          | inr off ↦
              let there : (row_at h v).hand ≡ hands.Busy p c = ap (λ (r : Row). r.hand)
              (sym (read_there h.rows t v row no_row off)) ∙ at in
              elim (now_or (e == c) (mine c) is) [
                | inl born ↦ absurd (unnamed p e _ (alone v off).hand (none.hands v) (unoffered_by v)
                    (there ∙ ap (hands.Busy p) (sym (eqb-true e c born))))
                | inr was ↦ apart.hands v c p was there
              ]
        ];
        popped = λ v c is. ap (λ (ws : List ℕ). bit_of ws c) (same_list h.popped t v)
            ∙ elim (now_or (e == c) (mine c) is) [
              | inl born ↦ ap (bit_of (popped_at h v)) (sym (eqb-true e c born)) ∙ omega (arith, none.bits v)
              | inr was ↦ apart.popped v c was
            ];
        queues = λ v c is. elim (now_or (e == c) (mine c) is) [
          | inl born ↦ ap (bit_of (queue_at h v)) (sym (eqb-true e c born)) ∙ omega (arith, none.bits v)
          | inr was ↦ apart.queues v c was
        ];
        worklists = λ v c is at. elim (cases_eq v t) [
          | inl own ↦ own
          | inr off ↦
              let there : is_marked (worklist_at h v) c ≡ true = ap (λ (ws : List Bool). is_marked ws c)
              (sym (read_there h.worklists t v (worklist_after s d (cell_at h d) (worklist_at h t)) [] off)) ∙ at in
              elim (now_or (e == c) (mine c) is) [
                | inl born ↦ absurd (no_mark _ (alone v off).mark
                    (ap (is_marked (worklist_at h v)) (eqb-true e c born) ∙ there))
                | inr was ↦ apart.worklists v c was there
              ]
        ];
        entries = λ f i c is at.
            let there : slice_get (entries_at h f) i ≡ Some c = entries_fewer h.entries (Some e) None f i c at in
            elim (now_or (e == c) (mine c) is) [
              | inl born ↦ absurd (omega (
                arith,
                held_by_entry h f i e (there ∙ ap Some (sym (eqb-true e c born))),
                none.sum,
              ))
              | inr was ↦ still (e == f) (mine f) (apart.entries f i c was there)
            ];
      }
    where
      same_list : (lists : List (List ℕ)) (t v : ℕ) → get_or (set lists t (get_or lists t [])) v [] ≡ get_or lists v []
      same_list lists t v = elim (cases_eq v t) [
        | inr off ↦ read_there lists t v (get_or lists t []) [] off
        | inl own ↦ ap (λ (ls : List (List ℕ)). get_or ls v []) (set-get_or lists t [])
      ]
