-- What a step leaves alone of a thread's frame, and of the last entries of its dead blocks.
use Rattle.std.proofs.Common.{◌≡◌, ◌≢◌, ℕ, Bool, true, false, if◌then◌else◌, List, [], ◌∷◌, get_or, set, Option, Some}
use Rattle.std.proofs.Common.{None, refl, sym, ◌∙◌, ap}
use Rattle.std.proofs.lemmas.Bool.{true≢false}
use Rattle.law.specs.declared.world.event.Change.{Change}
use Rattle.law.specs.declared.world.event.Change.TheVariants as changes
use Rattle.law.specs.declared.world.event.Dropped.{Dropped}
use Rattle.law.specs.declared.world.event.Dropped.TheVariants as dropped
use Rattle.law.specs.declared.world.event.LastDropped.TheVariants as lasts
use Rattle.law.specs.declared.world.event.Step.{Step}
use Rattle.law.specs.declared.world.event.Step.TheVariants.{Birth, LocalUp, LocalDown, SeeZero, Free, MergeZero}
use Rattle.law.specs.declared.world.event.Step.TheVariants.{MergeAdd, SharedUp, SharedDown, Ask, LastDown, Drain, Close}
use Rattle.law.specs.declared.world.event.Step.TheVariants.{Nudge, Wake, Lock, Unlock, Reopen}
use Rattle.law.specs.world.Lists.{place_at, is_marked, last_of, front_of}
use Rattle.law.specs.world.Steps.{needs_no_cell, takes_block, is_default, frame_without, frame_changed}
use Rattle.law.specs.known.Items.{Item, Stepped, Part, part_of, meant, cell_told, state_told, has_without, has_found}
use Rattle.law.specs.known.Risen.{drop_in}
use Rattle.law.specs.known.Going_On.{Known, known_of, knows_after, given_up, place_dropped, place_changed}
use Rattle.law.specs.known.Going_On.{touched_place}
use Rattle.law.proofs.world.Changes.{read_there}
use Rattle.law.proofs.world.Framing.{place_at-filled_else, place_at-vacated_else}
use Rattle.law.proofs.known.Items_Own.{put_else}
use Rattle.law.proofs.known.Going_On_Law.{goes_on}

-- ---- places

-- a place that isn't given up stays
kept_place : (o : Option Dropped) (frame : List (Option ℕ)) (j : ℕ) → place_dropped o ≢ Some j
    → place_at (frame_without o frame) j ≡ place_at frame j
kept_place None frame j other = refl
kept_place (Some (dropped.Frame k)) frame j other = place_at-vacated_else frame k j (λ same. other (ap Some (sym same)))
kept_place (Some (dropped.Work d)) frame j other = refl

changed_place : (change : Change) (entries : List ℕ) (frame : List (Option ℕ)) (j : ℕ) → place_changed change ≢ Some j
    → place_at (frame_changed change entries frame) j ≡ place_at frame j
changed_place changes.Keep entries frame j other = refl
changed_place (changes.Put k) entries frame j other = place_at-vacated_else frame k j
    (λ same. other (ap Some (sym same)))
changed_place (changes.Take i k) entries frame j other = place_at-filled_else frame k (get_or entries i 0) j
    (λ same. other (ap Some (sym same)))
changed_place (changes.Swap i k) entries frame j other = place_at-filled_else frame k (get_or entries i 0) j
    (λ same. other (ap Some (sym same)))

asked_place : (turns : Bool) (drop : Dropped) (frame : List (Option ℕ)) (j : ℕ) → place_dropped (Some drop) ≢ Some j
    → place_at (frame_without (if turns then Some drop else None) frame) j ≡ place_at frame j
asked_place true drop frame j other = kept_place (Some drop) frame j other
asked_place false drop frame j other = refl

-- every place but the one that the step may change has what it had
table_place : (s : Step) (c number : ℕ) (entries : List ℕ) (old : Known) (j : ℕ) → touched_place s ≢ Some j
    → place_at (knows_after s c number entries old).part.frame j ≡ place_at old.part.frame j
table_place (Birth d kind k) c number entries old j other = place_at-filled_else old.part.frame k c j
    (λ same. other (ap Some (sym same)))
table_place (LocalUp source k) c number entries old j other = place_at-filled_else old.part.frame k c j
    (λ same. other (ap Some (sym same)))
table_place (SharedUp source k) c number entries old j other = place_at-filled_else old.part.frame k c j
    (λ same. other (ap Some (sym same)))
table_place (Unlock change) c number entries old j other = changed_place change (old.part.has c) old.part.frame j other
table_place (LocalDown drop) c number entries old j other = kept_place (Some drop) old.part.frame j other
table_place (SharedDown drop) c number entries old j other = kept_place (Some drop) old.part.frame j other
table_place (Ask drop) c number entries old j other = asked_place (is_default (state_told number)) drop
    old.part.frame j other
table_place (LastDown (lasts.Dropped drop)) c number entries old j other = kept_place (Some drop) old.part.frame j other
table_place (LastDown (lasts.Popped d)) c number entries old j other = refl
table_place (LastDown lasts.Hand) c number entries old j other = refl
table_place _ c number entries old j other = refl

pub places_kept : (cells : ℕ) (items : List Item) (s : Step) (c number : ℕ) (entries : List ℕ) (j : ℕ)
    → meant (part_of cells items) s ≡ Some c → touched_place s ≢ Some j
    → place_at (part_of cells (Stepped s number entries ∷ items)).frame j ≡ place_at (part_of cells items).frame j
places_kept cells items s c number entries j named other =
    ap (λ (p : Part). place_at p.frame j) (goes_on cells items s c number entries named).part_is
    ∙ table_place s c number entries (known_of cells items) j other

-- ---- and the last entry of a block that is neither the cell that is meant nor the one that gives up its last

abbrev last_entry : Part → ℕ → Option ℕ
last_entry part q = drop_in part (dropped.Work q)

kept_has : (o : Option Dropped) (has : ℕ → List ℕ) (q : ℕ) → o ≢ Some (dropped.Work q) → has_without o has q ≡ has q
kept_has None has q other = refl
kept_has (Some (dropped.Frame k)) has q other = refl
kept_has (Some (dropped.Work d)) has q other = put_else d q (front_of (has d)) has
    (λ same. other (ap (λ i. Some (dropped.Work i)) (sym same)))

kept_found : (b : Bool) (c q : ℕ) (entries : List ℕ) (has : ℕ → List ℕ) → q ≢ c → has_found b c entries has q ≡ has q
kept_found true c q entries has other = put_else c q entries has other
kept_found false c q entries has other = refl

same_entry : (old new : Part) (q : ℕ) → is_marked new.worklist q ≡ is_marked old.worklist q → new.has q ≡ old.has q
    → last_entry new q ≡ last_entry old q
same_entry old new q marked has = ap (λ b. if b then last_of (new.has q) else None) marked
    ∙ ap (λ (xs : List ℕ). if is_marked old.worklist q then last_of xs else None) has

marked_else : (b : Bool) (worklist : List Bool) (c q : ℕ) → q ≢ c
    → is_marked (if b then set worklist c true else worklist) q ≡ is_marked worklist q
marked_else true worklist c q other = read_there worklist c q true false other
marked_else false worklist c q other = refl

asked_has : (turns : Bool) (drop : Dropped) (has : ℕ → List ℕ) (q : ℕ) → drop ≢ dropped.Work q
    → has_without (if turns then Some drop else None) has q ≡ has q
asked_has true drop has q other = kept_has (Some drop) has q (λ same. other (cc))
asked_has false drop has q other = refl

table_entry : (cells : ℕ) (s : Step) (c number : ℕ) (entries : List ℕ) (old : Known) (q : ℕ) → meant old.part s ≡ Some c
    → q ≢ c → given_up s ≢ Some (dropped.Work q)
    → last_entry (knows_after s c number entries old).part q ≡ last_entry old.part q
table_entry cells (Birth d kind k) c number entries old q named other apart =
    same_entry old.part (knows_after (Birth d kind k) c number entries old).part q refl
    (put_else d q [] old.part.has (λ same. other (let e : d ≡ c = cc in same ∙ e)))
table_entry cells (LocalDown drop) c number entries old q named other apart =
    same_entry old.part (knows_after (LocalDown drop) c number entries old).part q refl
    (kept_has (Some drop) old.part.has q apart)
table_entry cells (SharedDown drop) c number entries old q named other apart =
    same_entry old.part (knows_after (SharedDown drop) c number entries old).part q refl
    (kept_has (Some drop) old.part.has q apart)
table_entry cells (Ask drop) c number entries old q named other apart =
    same_entry old.part (knows_after (Ask drop) c number entries old).part q refl
    (asked_has (is_default (state_told number)) drop old.part.has q (λ same. apart (ap Some same)))
table_entry cells (SeeZero d) c number entries old q named other apart =
    let takes : Bool = takes_block (SeeZero d) (cell_told (SeeZero d) number) in
    same_entry old.part (knows_after (SeeZero d) c number entries old).part q
    (marked_else takes old.part.worklist c q other) (kept_found takes c q entries old.part.has other)
table_entry cells (MergeZero d) c number entries old q named other apart =
    let takes : Bool = takes_block (MergeZero d) (cell_told (MergeZero d) number) in
    same_entry old.part (knows_after (MergeZero d) c number entries old).part q
    (marked_else takes old.part.worklist c q other) (kept_found takes c q entries old.part.has other)
table_entry cells (MergeAdd d) c number entries old q named other apart =
    let takes : Bool = takes_block (MergeAdd d) (cell_told (MergeAdd d) number) in
    same_entry old.part (knows_after (MergeAdd d) c number entries old).part q
    (marked_else takes old.part.worklist c q other) (kept_found takes c q entries old.part.has other)
table_entry cells (LastDown (lasts.Dropped drop)) c number entries old q named other apart =
    let s : Step = LastDown (lasts.Dropped drop) in
    let takes : Bool = takes_block s (cell_told s number) in
    same_entry old.part (knows_after s c number entries old).part q (marked_else takes old.part.worklist c q other)
    (kept_has (Some drop) (has_found takes c entries old.part.has) q apart
    ∙ kept_found takes c q entries old.part.has other)
table_entry cells (LastDown (lasts.Popped d)) c number entries old q named other apart =
    let s : Step = LastDown (lasts.Popped d) in
    let takes : Bool = takes_block s (cell_told s number) in
    same_entry old.part (knows_after s c number entries old).part q (marked_else takes old.part.worklist c q other)
    (kept_found takes c q entries old.part.has other)
table_entry cells (LastDown lasts.Hand) c number entries old q named other apart =
    let s : Step = LastDown lasts.Hand in
    let takes : Bool = takes_block s (cell_told s number) in
    same_entry old.part (knows_after s c number entries old).part q (marked_else takes old.part.worklist c q other)
    (kept_found takes c q entries old.part.has other)
table_entry cells (Free d) c number entries old q named other apart =
    same_entry old.part (knows_after (Free d) c number entries old).part q
    (read_there old.part.worklist c q false false other) refl
table_entry cells (Lock k) c number entries old q named other apart =
    same_entry old.part (knows_after (Lock k) c number entries old).part q refl
    (put_else c q entries old.part.has other)
table_entry cells (Unlock change) c number entries old q named other apart =
    same_entry old.part (knows_after (Unlock change) c number entries old).part q refl
    (put_else c q _ old.part.has other)
table_entry cells _ c number entries old q named other apart = refl

pub entries_kept : (cells : ℕ) (items : List Item) (s : Step) (c number : ℕ) (entries : List ℕ) (q : ℕ)
    → meant (part_of cells items) s ≡ Some c → q ≢ c → given_up s ≢ Some (dropped.Work q)
    → drop_in (part_of cells (Stepped s number entries ∷ items)) (dropped.Work q) ≡ drop_in (part_of cells items)
    (dropped.Work q)
entries_kept cells items s c number entries q named other apart =
    ap (λ p. drop_in p (dropped.Work q)) (goes_on cells items s c number entries named).part_is
    ∙ table_entry cells s c number entries (known_of cells items) q named other apart

-- steps that mean no cell leave all of them
pub apart_kept : (cells : ℕ) (items : List Item) (s : Step) (number : ℕ) (entries : List ℕ) (drop : Dropped)
    → needs_no_cell s ≡ true
    → drop_in (part_of cells (Stepped s number entries ∷ items)) drop ≡ drop_in (part_of cells items) drop
apart_kept cells items (Drain k) number entries drop apart = refl
apart_kept cells items (Close k) number entries drop apart = refl
apart_kept cells items (Nudge u k) number entries drop apart = refl
apart_kept cells items Wake number entries drop apart = refl
apart_kept cells items (Reopen k) number entries drop apart = refl
apart_kept cells items _ number entries drop apart = absurd (true≢false (sym apart))
