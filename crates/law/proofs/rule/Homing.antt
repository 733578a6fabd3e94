-- What becomes of the blocks at home with a step.
use Rattle.std.proofs.Common.{◌≡◌, ◌≢◌, ℕ, true, false, set, Option, sym, ◌∙◌, subst}
use mathlib.Core.Option.{some}
use Rattle.atomic_table.proofs.Lists.{set_else}
use Rattle.brc_words.specs.declared.owner.Owner.TheVariants as owners
use Rattle.law.specs.world.Lists.{is_marked}
use Rattle.law.specs.world.Heap.{Heap, cell_at, worklist_at}
use Rattle.law.specs.world.Holding.{lives}
use Rattle.law.specs.declared.rule.contents.Contents.{Contents}
use Rattle.law.specs.rule.Logs.{Run, contents_at}
use Rattle.law.specs.rule.Homes.{Homes, LiesThere, HomeShown}

-- the block of the cell stays where it is: nothing becomes free, nothing is born, unlocked or off a worklist
pub record Stays (h new : Heap) (c : ℕ) : Type 0 where
  pub free : (cell_at new c).owner ≡ owners.Free → (cell_at h c).owner ≡ owners.Free
  pub lives : lives (cell_at new c).owner ≡ true → lives (cell_at h c).owner ≡ true
  pub mutex : (cell_at new c).mutex ≡ 0 → (cell_at h c).mutex ≡ 0
  pub marks : ((t : ℕ) → is_marked (worklist_at new t) c ≡ false) → (t : ℕ) → is_marked (worklist_at h t) c ≡ false

pub unchanged : (h : Heap) (c : ℕ) → Stays h h c
unchanged h c = record { free = λ is. is; lives = λ is. is; mutex = λ is. is; marks = λ off. off }

module _ {B : Type 0} (shows : B → ℕ × Contents) where
  same_contents : (homes : Homes B) (c : ℕ) (now before : Contents) → now ≡ before → LiesThere shows homes c before
      → LiesThere shows homes c now
  same_contents homes c now before same lies = subst (LiesThere shows homes c) (sym same) lies

  pub home_stays : (homes : Homes B) (h new : Heap) (run later : Run) (c : ℕ) → Stays h new c
      → contents_at later c ≡ contents_at run c
      → HomeShown shows homes h run c → HomeShown shows homes new later c
  home_stays homes h new run later c stays same shown = record {
    bare = λ free. shown.bare (stays.free free);
    lies = λ live unlocked off. same_contents homes c _ _ same
        (shown.lies (stays.lives live) (stays.mutex unlocked) (stays.marks off));
  }

  -- the slot of another cell is taken or filled
  pub home_else : (homes : Homes B) (h : Heap) (run : Run) (c d : ℕ)
      (home : mathlib.Core.Option.Option (Option B)) → c ≢ d
      → HomeShown shows homes h run c → HomeShown shows (set homes d home) h run c
  home_else homes h run c d home other shown = record {
    bare = λ free. set_else homes d c home other ∙ shown.bare free;
    lies = λ live unlocked off.
        let was : LiesThere shows homes c (contents_at run c) = shown.lies live unlocked off in
        record {
          block = was.block;
          there = set_else homes d c home other ∙ was.there;
          of_cell = was.of_cell;
          holds = was.holds;
        };
  }

  -- the block of a dead or locked object is out: nothing is owed of its slot
  pub home_out : (homes : Homes B) (h : Heap) (run : Run) (c : ℕ) → (cell_at h c).owner ≢ owners.Free
      → (lives (cell_at h c).owner ≡ true → (cell_at h c).mutex ≡ 0 → ((t : ℕ) → is_marked (worklist_at h t) c ≡ false)
      → ⊥) → HomeShown shows homes h run c
  home_out homes h run c used out = record {
    bare = λ free. absurd (used free);
    lies = λ live unlocked off. absurd
        (out live unlocked off);
  }
