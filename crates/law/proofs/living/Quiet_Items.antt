-- What an item by which a thread only lets go leaves as it was.
use Rattle.std.proofs.Common.{◌≡◌, ℕ, ◌==◌, ◌&&◌, Bool, true, false, if◌then◌else◌, List, ◌∷◌, length, Option, Some}
use Rattle.std.proofs.Common.{None, slice_set, refl, sym, ◌∙◌, ap, inl, inr, arith}
use Rattle.std.proofs.lemmas.Bool.{cases_eq, cases_lt, eq-eqb, true≢false}
use Rattle.std.proofs.lemmas.List.{get_or_past, get_or-set_same, length-set}
use Rattle.law.specs.declared.world.cell.Cell.{Cell}
use Rattle.law.specs.declared.world.event.Dropped.{Dropped}
use Rattle.law.specs.declared.world.event.Dropped.TheVariants as dropped
use Rattle.law.specs.declared.world.event.Step.{Step}
use Rattle.law.specs.declared.world.event.Step.TheVariants.{Birth, LocalUp, SharedUp, Free, Lock, Unlock, Offer}
use Rattle.law.specs.world.Lists.{place_at, vacated, is_marked}
use Rattle.law.specs.world.Steps.{gone, frame_without, frame_after, worklist_after, worklist_with, takes_block}
use Rattle.law.specs.world.Steps.{allocs_after, locked_cell}
use Rattle.law.proofs.world.Changes.{read_there}
use Rattle.law.proofs.world.Framing.{place_at-vacated_else}
use Rattle.law.specs.known.Items.{Part, meant, part_by, cell_told}
use Rattle.law.specs.declared.rule.contents.Contents.{Contents}
use Rattle.law.specs.declared.rule.told.Moved.{Moved}
use Rattle.law.specs.declared.rule.told.Moved.TheVariants as moves
use Rattle.law.specs.declared.rule.told.LogItem.{LogItem}
use Rattle.law.specs.declared.rule.told.LogItem.TheVariants.{Stepped, Loaded, Lost}
use Rattle.law.specs.rule.Logs.{entries_found}
use Rattle.law.specs.rule.Seen.{part_seen}
use Rattle.law.specs.payloads.Payloads.{private_seen, last_put, payloads_of, locked_seen}
use Rattle.law.specs.living.Living.{is_dead}
use Rattle.law.specs.living.Quiet.{only_lets_go, puts_nothing, is_quiet, frees, Quietly, NoItem, OneMore}

both : (a b : Bool) → (a && b) ≡ true → (a ≡ true) × (b ≡ true)
both true b is = (refl, is)
both false b is = absurd (true≢false (sym is))

-- ---- places

in_vacated : (frame : List (Option ℕ)) (j k c : ℕ) → place_at (vacated frame j) k ≡ Some c → place_at frame k ≡ Some c
in_vacated frame j k c at = elim (cases_eq k j) [
  | inr other ↦ sym (place_at-vacated_else frame j k other) ∙ at
  | inl same ↦ elim (cases_lt j (length frame)) [
    | inl inside ↦ absurd (let e : None ≡ Some c = sym (get_or-set_same frame j None None inside)
        ∙ ap (place_at (vacated frame j)) (sym same) ∙ at in cc)
    | inr past ↦ absurd (let e : None ≡ Some c =
        sym (get_or_past (vacated frame j) j None (omega (arith, past, length-set frame j None)))
        ∙ ap (place_at (vacated frame j)) (sym same) ∙ at in cc)
  ]
]

in_without : (out : Option Dropped) (frame : List (Option ℕ)) (k c : ℕ) → place_at (frame_without out frame) k ≡ Some c
    → place_at frame k ≡ Some c
in_without None frame k c at = at
in_without (Some (dropped.Frame j)) frame k c at = in_vacated frame j k c at
in_without (Some (dropped.Work d)) frame k c at = at

frame_keeps : (s : Step) (d : ℕ) (x : Cell) (entries : List ℕ) (frame : List (Option ℕ)) (k c : ℕ)
    → only_lets_go s ≡ true → place_at (frame_after s d x entries frame) k ≡ Some c → place_at frame k ≡ Some c
frame_keeps (Birth e kind j) d x entries frame k c quiet at = absurd (true≢false (sym quiet))
frame_keeps (Unlock change) d x entries frame k c quiet at = absurd (true≢false (sym quiet))
frame_keeps (LocalUp source j) d x entries frame k c quiet at = absurd (true≢false (sym quiet))
frame_keeps (SharedUp source j) d x entries frame k c quiet at = absurd (true≢false (sym quiet))
frame_keeps s d x entries frame k c quiet at = in_without (gone s x) frame k c at

part_places : (n : ℕ) (part : Part) (s : Step) (number : ℕ) (entries : List ℕ) (o : Option ℕ) (k c : ℕ)
    → only_lets_go s ≡ true → place_at (part_by n part s number entries o).frame k ≡ Some c
    → place_at part.frame k ≡ Some c
part_places n part s number entries None k c quiet at = at
part_places n part s number entries (Some d) k c quiet at = frame_keeps s d (cell_told s number) (part.has d) part.frame
    k c quiet at

-- a place has what it had, or nothing
pub quiet_places : (n : ℕ) (x : LogItem) (log : List LogItem) (k c : ℕ) → is_quiet x ≡ true
    → place_at (part_seen n (x ∷ log)).frame k ≡ Some c → place_at (part_seen n log).frame k ≡ Some c
quiet_places n (Stepped s number moved) log k c quiet at =
    part_places n (part_seen n log) s number (entries_found moved) (meant (part_seen n log) s) k c
    (both (only_lets_go s) (puts_nothing moved) quiet).0 at
quiet_places n (Loaded word number) log k c quiet at = at
quiet_places n (Lost word number) log k c quiet at = at

-- ---- births

allocs_keep : (s : Step) (m : ℕ) → only_lets_go s ≡ true → allocs_after s m ≡ m
allocs_keep (Birth d kind k) m quiet = absurd (true≢false (sym quiet))
allocs_keep s m quiet = refl

part_allocs : (n : ℕ) (part : Part) (s : Step) (number : ℕ) (entries : List ℕ) (o : Option ℕ) → only_lets_go s ≡ true
    → (part_by n part s number entries o).row.allocs ≡ part.row.allocs
part_allocs n part s number entries None quiet = refl
part_allocs n part s number entries (Some d) quiet = allocs_keep s part.row.allocs quiet

-- nothing is born
pub quiet_allocs : (n : ℕ) (x : LogItem) (log : List LogItem) → is_quiet x ≡ true
    → (part_seen n (x ∷ log)).row.allocs ≡ (part_seen n log).row.allocs
quiet_allocs n (Stepped s number moved) log quiet = part_allocs n (part_seen n log) s number (entries_found moved)
    (meant (part_seen n log) s) (both (only_lets_go s) (puts_nothing moved) quiet).0
quiet_allocs n (Loaded word number) log quiet = refl
quiet_allocs n (Lost word number) log quiet = refl

-- ---- the dead

unmarked : (marks : List Bool) (d : ℕ) (b : Bool) (c : ℕ) → is_marked (slice_set marks d b) c ≡ false
    → ((d == c) ≡ true → b ≡ true) → is_marked marks c ≡ false
unmarked marks d b c off set = elim (cases_eq c d) [
  | inr other ↦ sym (read_there marks d c b false other) ∙ off
  | inl same ↦ elim (cases_lt d (length marks)) [
    | inl inside ↦ absurd (true≢false (sym (set (eq-eqb d c (sym same))) ∙ sym (get_or-set_same marks d b false inside)
        ∙ ap (is_marked (slice_set marks d b)) (sym same) ∙ off))
    | inr past ↦ get_or_past marks c false (omega (arith, past, same))
  ]
]

marks_keep : (takes : Bool) (d : ℕ) (marks : List Bool) (c : ℕ) → is_marked (worklist_with false takes d marks) c
    ≡ false → is_marked marks c ≡ false
marks_keep true d marks c off = unmarked marks d true c off (λ same. refl)
marks_keep false d marks c off = off

work_keeps : (s : Step) (d : ℕ) (x : Cell) (marks : List Bool) (c number : ℕ) (moved : Moved)
    → frees (Stepped s number moved) c ≡ false → ((e : ℕ) → s ≡ Free e → e ≡ d)
    → is_marked (worklist_after s d x marks) c ≡ false → is_marked marks c ≡ false
work_keeps (Free e) d x marks c number moved kept names off =
    unmarked marks d false c off (λ same. absurd (true≢false (sym same ∙ ap (λ i. i == c) (sym (names e refl)) ∙ kept)))
work_keeps s d x marks c number moved kept names off = marks_keep (takes_block s x) d marks c off

part_work : (n : ℕ) (part : Part) (s : Step) (number : ℕ) (moved : Moved) (entries : List ℕ) (o : Option ℕ) (c : ℕ)
    → frees (Stepped s number moved) c ≡ false → ((e : ℕ) → s ≡ Free e → Some e ≡ o)
    → is_marked (part_by n part s number entries o).worklist c ≡ false → is_marked part.worklist c ≡ false
part_work n part s number moved entries None c kept names off = off
part_work n part s number moved entries (Some d) c kept names off =
    work_keeps s d (cell_told s number) part.worklist c number moved kept (λ e is. let there : Some e ≡ Some d =
    names e is in cc) off

-- what isn't dead after an item that doesn't give it back wasn't dead before
pub was_alive : (n : ℕ) (x : LogItem) (log : List LogItem) (c : ℕ) → frees x c ≡ false → is_dead n (x ∷ log) c ≡ false
    → is_dead n log c ≡ false
was_alive n (Stepped s number moved) log c kept off =
    part_work n (part_seen n log) s number moved (entries_found moved) (meant (part_seen n log) s) c kept
    (λ e is. sym (ap (meant (part_seen n log)) is)) off
was_alive n (Loaded word number) log c kept off = off
was_alive n (Lost word number) log c kept off = off

-- ---- payloads

freed : (b m : Bool) (put : Contents) → (if (if b then false else m) then Some put else None)
    ≡ (if b then None else (if m then Some put else None))
freed true m put = refl
freed false m put = refl

set_keeps : (n : ℕ) (log : List LogItem) (s : Step) (number : ℕ) (moved : Moved) (c : ℕ) → only_lets_go s ≡ true
    → private_seen n (Stepped s number moved ∷ log) c
    ≡ (if frees (Stepped s number moved) c then false else private_seen n log c)
set_keeps n log (Birth d kind k) number moved c quiet = absurd (true≢false (sym quiet))
set_keeps n log (Unlock change) number moved c quiet = absurd (true≢false (sym quiet))
set_keeps n log (Offer d) number moved c quiet = absurd (true≢false (sym quiet))
set_keeps n log s number moved c quiet = refl

put_keeps : (n : ℕ) (log : List LogItem) (s : Step) (number : ℕ) (moved : Moved) (c : ℕ) → puts_nothing moved ≡ true
    → last_put (Stepped s number moved ∷ log) c ≡ last_put log c
put_keeps n log s number (moves.Put d contents) c quiet = absurd (true≢false (sym quiet))
put_keeps n log s number (moves.Found d contents) c quiet = refl
put_keeps n log s number moves.Nothing c quiet = refl

-- a payload is as it was, or its cell is given back
pub quiet_payloads : (n : ℕ) (x : LogItem) (log : List LogItem) (c : ℕ) → is_quiet x ≡ true
    → payloads_of n (x ∷ log) c ≡ (if frees x c then None else payloads_of n log c)
quiet_payloads n (Stepped s number moved) log c quiet =
    let is : (only_lets_go s ≡ true) × (puts_nothing moved ≡ true) = both (only_lets_go s) (puts_nothing moved) quiet in
    ap (λ b. if b then Some (last_put (Stepped s number moved ∷ log) c) else None)
    (set_keeps n log s number moved c is.0)
    ∙ ap (λ put. if (if frees (Stepped s number moved) c then false else private_seen n log c) then Some put else None)
    (put_keeps n log s number moved c is.1)
    ∙ freed (frees (Stepped s number moved) c) (private_seen n log c) (last_put log c)
quiet_payloads n (Loaded word number) log c quiet = refl
quiet_payloads n (Lost word number) log c quiet = refl

-- ---- what is locked

-- after a locking of a place's cell that is what is locked
pub lock_names : (n : ℕ) (log : List LogItem) (k number c : ℕ) (moved : Moved)
    → place_at (part_seen n log).frame k ≡ Some c → locked_seen n (Stepped (Lock k) number moved ∷ log) ≡ Some c
lock_names n log k number c moved at =
    ap (λ o. locked_cell (part_by n (part_seen n log) (Lock k) number (entries_found moved) o).frame
    (part_by n (part_seen n log) (Lock k) number (entries_found moved) o).row.locked) at ∙ at

-- ---- lists of such items

-- one list of them after another
pub quietly_joined : (a b c : List LogItem) → Quietly a b → Quietly b c → Quietly a c
quietly_joined a b c first NoItem = first
quietly_joined a b c first (OneMore x log more quiet) = OneMore x log (quietly_joined a b log first more) quiet
