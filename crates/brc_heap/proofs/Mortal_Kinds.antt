-- An object in a mortal cell is of a mortal kind: it was born so, and nothing changes that.
use Rattle.std.proofs.Common.{◌≡◌, ℕ, ◌≤◌, ◌==◌, ◌&&◌, not, Bool, true, false, if◌then◌else◌, List, [], ◌∷◌, sym, ◌∙◌}
use Rattle.std.proofs.Common.{ap, inl, inr}
use Rattle.std.proofs.lemmas.Bool.{cases_Bool, and_parts, true≢false}
use Rattle.brc_words.specs.declared.limits.TheConstants.{FIRST_MORTAL}
use Rattle.brc_words.specs.Kinds.{is_mortal}
use Rattle.brc_count.specs.law.declared.world.cell.Cell.{Cell}
use Rattle.brc_count.specs.law.declared.world.event.Event.{Event}
use Rattle.brc_count.specs.law.declared.world.event.Step.{Step}
use Rattle.brc_count.specs.law.declared.world.event.Step.TheVariants.{Birth, Free}
use Rattle.brc_count.specs.law.known.Start.{start_of}
use Rattle.brc_count.specs.law.world.Heap.{Heap, cell_at, is_immortal, AreOptions}
use Rattle.brc_count.specs.law.world.Holding.{lives, lives_at, lives_by, lives_since, is_birth}
use Rattle.brc_count.specs.law.world.Runs.{IsRun, world_after}
use Rattle.brc_count.specs.law.world.Steps.{own_ok_at, cell_after}
use Rattle.brc_count.proofs.law.world.Beginning.{free_cell}
use Rattle.brc_count.proofs.law.known.Starting.{run_histories}
use Rattle.brc_count.proofs.law.lasting.Reasons.{event_cell}
use Rattle.brc_count.proofs.law.moves.Moving.{kind_kept}

-- an object is born of a mortal kind
born_mortal : (h : Heap) (t : ℕ) (s : Step) (c : ℕ) (x : Cell) → is_birth s ≡ true → own_ok_at h t s ≡ true
    → is_mortal (cell_after t s c x).kind ≡ true
born_mortal h t (Birth d kind k) c x born own = (and_parts _ _ own).0
born_mortal h t _ c x born own = absurd (true≢false (sym born))

-- what lives and isn't born lived before
lived_back : (s : Step) (c : ℕ) (before : Bool) → is_birth s ≡ false → lives_since s c before ≡ true → before ≡ true
lived_back (Birth d kind k) c before plain is = absurd (true≢false plain)
lived_back (Free d) c before plain is = elim (cases_Bool (d == c)) [
  | inl here ↦ absurd (true≢false (sym is ∙ ap (λ b. if b then false else before) here))
  | inr other ↦ sym (ap (λ b. if b then false else before) other) ∙ is
]
lived_back _ c before plain is = is

module _ (n limit c : ℕ) (options : AreOptions n limit) (mortal : FIRST_MORTAL ≤ c) where
  pub kind_mortal : (run : List Event) → IsRun (start_of n limit) run
      → lives_at (world_after (start_of n limit) run) c ≡ true
      → is_mortal (cell_at (world_after (start_of n limit) run) c).kind ≡ true
  kind_mortal [] is_run live =
      absurd (true≢false (sym (and_parts _ _ live).1 ∙ ap (λ (x : Cell). lives x.owner) (free_cell n c mortal)))
  kind_mortal (e ∷ run) is_run live =
      let h : Heap = world_after (start_of n limit) run in
      let told : lives_since e.step c (lives_by run c) ≡ true =
      sym ((run_histories n limit (e ∷ run) options is_run).lives c) ∙ live in
      elim (event_cell h e c is_run.1) [
        | inl same ↦
            let before : lives_at h c ≡ true =
            sym (ap (λ (x : Cell). not (is_immortal c) && lives x.owner) same) ∙ live in
            ap (λ (x : Cell). is_mortal x.kind) same ∙ kind_mortal run is_run.0 before
        | inr at ↦ elim (cases_Bool (is_birth e.step)) [
          | inl born ↦ ap (λ (x : Cell). is_mortal x.kind) at.1
              ∙ born_mortal h e.thread e.step c (cell_at h c) born at.0.may.own
          | inr plain ↦
              let before : lives_at h c ≡ true =
              (run_histories n limit run options is_run.0).lives c ∙ lived_back e.step c (lives_by run c) plain told in
              ap (λ (x : Cell). is_mortal x.kind) at.1 ∙ ap is_mortal (kind_kept e.thread e.step c (cell_at h c) plain)
              ∙ kind_mortal run is_run.0 before
        ]
      ]
