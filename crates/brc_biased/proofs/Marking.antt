-- A thread's worklist has a mark for each cell; and that of a dead object whose block a release answers is set.
use Rattle.std.proofs.Common.{◌≡◌, ◌≢◌, inl, inr, ℕ, ◌<◌, ◌==◌, Bool, true, false, if◌then◌else◌, List, [], ◌∷◌, length}
use Rattle.std.proofs.Common.{set, Option, Some, None, IfSome, refl, sym, ◌∙◌, ap, subst}
use Rattle.std.proofs.lemmas.Bool.{cases_eq, eq-eqb, ne_eqb}
use Rattle.std.proofs.lemmas.List.{length-set, length-replicate}
use Rattle.brc_table.specs.block.declared.payload.Payload.{Payload}
use Rattle.brc_table.specs.law.declared.world.event.Dropped.{Dropped}
use Rattle.brc_table.specs.law.declared.world.event.Dropped.TheVariants as drops
use Rattle.brc_table.specs.law.declared.world.row.Hand.TheVariants as hands
use Rattle.brc_table.specs.law.world.Lists.{is_marked, front_of}
use Rattle.brc_table.specs.law.world.Steps.{is_free_step, takes_block, worklist_with}
use Rattle.brc_table.proofs.law.world.Changes.{read_here, read_there}
use Rattle.brc_table.specs.law.known.Items.{Item, Stepped, Loaded, Lost, Part, part_of, part_by, part_after, meant}
use Rattle.brc_table.specs.law.known.Items.{cell_told, has_found}
use Rattle.brc_table.specs.law.known.Items.{has_without}
use Rattle.brc_table.specs.law.known.Going_On.{handing, settling, taking}
use Rattle.brc_table.specs.law.declared.rule.told.LogItem.{LogItem}
use Rattle.brc_table.specs.law.rule.Logs.{log_items, entries_in}
use Rattle.brc_table.specs.law.rule.Seen.{part_seen}
use Rattle.brc_table.specs.Knowing.{known_seen, entries_of}
use Rattle.brc_table.specs.Moving.{is_there}
use Rattle.brc_table.specs.Shown.{contents_of}
use Rattle.brc_biased.specs.Standing.{HasDead, entries_left, released}

with_wide : (frees takes : Bool) (c : ℕ) (marks : List Bool) → length (worklist_with frees takes c marks) ≡ length marks
with_wide true takes c marks = length-set marks c false
with_wide false true c marks = length-set marks c true
with_wide false false c marks = refl

after_wide : (n : ℕ) (part : Part) (x : Item) → length (part_after n part x).worklist ≡ length part.worklist
after_wide n part (Stepped s number entries) = by_cell (meant part s)
  where
    by_cell : (m : Option ℕ) → length (part_by n part s number entries m).worklist ≡ length part.worklist
    by_cell None = refl
    by_cell (Some c) = with_wide (is_free_step s) (takes_block s (cell_told s number)) c part.worklist
after_wide n part (Loaded word number) = refl
after_wide n part (Lost word number) = refl

items_wide : (n : ℕ) (items : List Item) → length (part_of n items).worklist ≡ n
items_wide n [] = length-replicate n false
items_wide n (x ∷ items) = after_wide n (part_of n items) x ∙ items_wide n items

pub marks_wide : (n : ℕ) (log : List LogItem) → length (part_seen n log).worklist ≡ n
marks_wide n log = items_wide n (log_items log)

-- the mark of a cell is set, and it has the entries
dead_now : (n : ℕ) (before log : List LogItem) (c : ℕ) (entries : List ℕ) (has : ℕ → List ℕ)
    → (part_seen n log).worklist ≡ set (part_seen n before).worklist c true
    → (part_seen n log).has ≡ (λ d. if d == c then entries else has d) → c < n → HasDead n log c entries
dead_now n before log c entries has marks is low = record {
  marked = ap (λ m. is_marked m c) marks ∙ read_here (part_seen n before).worklist c true false
      (subst (λ m. c < m) (sym (marks_wide n before)) low);
  has = ap (λ (f : ℕ → List ℕ). f c) is ∙ ap (λ (t : Bool). if t then entries else has c) (eq-eqb c c refl);
}

module _ {A : Type 0} (n : ℕ) (before log : List LogItem) (c : ℕ) where
  pub dead_released : (drop : Dropped) (block : Option (ℕ × Payload A))
      → part_seen n log ≡ (released (is_there block) drop c (entries_of block) (known_seen n before)).part
      → c < n → IfSome block (λ there. HasDead n log c (entries_in (contents_of there.1)))
  dead_released drop None known low = tt
  dead_released drop (Some there) known low =
      dead_now n before log c (entries_in (contents_of there.1)) (has_without (Some drop) (part_seen n before).has)
      (ap (λ (p : Part). p.worklist) known) (ap (λ (p : Part). p.has) known) low

  pub dead_settled : (block : Option (ℕ × Payload A))
      → part_seen n log ≡ (settling c (taking (is_there block) c (entries_of block) (known_seen n before))).part
      → c < n → IfSome block (λ there. HasDead n log c (entries_in (contents_of there.1)))
  dead_settled None known low = tt
  dead_settled (Some there) known low =
      dead_now n before log c (entries_in (contents_of there.1)) (part_seen n before).has
      (ap (λ (p : Part). p.worklist) known) (ap (λ (p : Part). p.has) known) low

  pub dead_handed : (block : Option (ℕ × Payload A))
      → part_seen n log ≡ (handing hands.Free (taking (is_there block) c (entries_of block) (known_seen n before))).part
      → c < n → IfSome block (λ there. HasDead n log c (entries_in (contents_of there.1)))
  dead_handed None known low = tt
  dead_handed (Some there) known low =
      dead_now n before log c (entries_in (contents_of there.1)) (part_seen n before).has
      (ap (λ (p : Part). p.worklist) known) (ap (λ (p : Part). p.has) known) low

-- a dead block that the thread had before a release is one still, and is another than the one that the release answers
pub dead_stays : (n : ℕ) (before log : List LogItem) (c : ℕ) (drop : Dropped) (takes : Bool) (entries : List ℕ)
    → part_seen n log ≡ (released takes drop c entries (known_seen n before)).part
    → (q : ℕ) (left : List ℕ) → q ≢ c → HasDead n before q left → HasDead n log q (entries_left drop q left)
dead_stays n before log c drop takes entries known q left other dead = record {
  marked = ap (λ (p : Part). is_marked p.worklist q) known ∙ by_mark takes ∙ dead.marked;
  has = ap (λ (p : Part). p.has q) known ∙ by_take takes ∙ by_drop drop;
}
  where
    by_mark : (b : Bool) → is_marked
        (if b then set (part_seen n before).worklist c true else (part_seen n before).worklist) q ≡ is_marked
        (part_seen n before).worklist q
    by_mark true = read_there (part_seen n before).worklist c q true false other
    by_mark false = refl

    by_take : (b : Bool) → has_found b c entries (has_without (Some drop) (part_seen n before).has) q ≡ has_without
        (Some drop) (part_seen n before).has q
    by_take true = ap (λ (t : Bool). if t then entries else has_without (Some drop) (part_seen n before).has q)
        (ne_eqb q c other)
    by_take false = refl

    by_drop : (d : Dropped) → has_without (Some d) (part_seen n before).has q ≡ entries_left d q left
    by_drop (drops.Frame k) = dead.has
    by_drop (drops.Work d) = elim (cases_eq q d) [
      | inl same ↦ ap (λ (t : Bool). if t then front_of ((part_seen n before).has d) else (part_seen n before).has q)
          (eq-eqb q d same)
          ∙ ap front_of (ap (part_seen n before).has (sym same) ∙ dead.has)
          ∙ sym (ap (λ (t : Bool). if t then front_of left else left) (eq-eqb q d same))
      | inr apart ↦ ap (λ (t : Bool). if t then front_of ((part_seen n before).has d) else (part_seen n before).has q)
          (ne_eqb q d apart)
          ∙ dead.has ∙ sym (ap (λ (t : Bool). if t then front_of left else left) (ne_eqb q d apart))
    ]
