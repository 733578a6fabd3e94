-- The calls on one object, of whatever threads, as one list: its history.
use Rattle.std.specs.Prelude.{◌≡◌, ℕ, ◌==◌, true, if◌then◌else◌, List, [], ◌∷◌, ◌++◌, Option, Some}
use Rattle.brc_count.specs.law.declared.world.event.Change.{Change}
use Rattle.brc_count.specs.law.declared.world.event.Step.{Step}
use Rattle.brc_count.specs.law.declared.world.event.Step.TheVariants.{Birth, Unlock}
use Rattle.brc_count.specs.law.declared.rule.contents.Contents.{Contents}
use Rattle.brc_count.specs.law.declared.rule.told.Moved.TheVariants.{Put}
use Rattle.brc_count.specs.law.declared.rule.told.LogItem.{LogItem}
use Rattle.brc_count.specs.law.declared.rule.told.LogItem.TheVariants.{Stepped}
use Rattle.brc_count.specs.law.rule.Logs.{Run, own_of, opening_contents, keeps}
use Rattle.brc_count.specs.law.rule.Seen.{contents_locked}

-- ---- histories

-- A thread bore an object, and put these contents home; or it made a change to one and unlocked it: its own locking had
-- found the first contents, and it put the second home.
pub data ContainerCall : Type 0 where
  Bears : ℕ → Contents → ContainerCall
  Changes : ℕ → Change → Option Contents → Contents → ContainerCall

-- who called
abbrev pub caller : ContainerCall → ℕ
caller (Bears t put) = t
caller (Changes t change found put) = t

-- what a call put home
abbrev pub put_home : ContainerCall → Contents
put_home (Bears t put) = put
put_home (Changes t change found put) = put

-- what stands in a cell after these calls, newest first: what the last one put home; before the first, what the heap
-- opens with
abbrev pub left_by : ℕ → List ContainerCall → Contents
left_by c [] = opening_contents c
left_by c (call ∷ older) = put_home call

-- The call may come next where these contents stand: a birth always; a change if its locking found just these contents,
-- and one that keeps puts them home again.
abbrev pub MayComeNext : ContainerCall → Contents → Type 0
MayComeNext (Bears t put) before = Unit {0}
MayComeNext (Changes t change found put) before = (found ≡ Some before) × (keeps (Unlock change) ≡ true → put ≡ before)

-- one call after the other, each from what the one before it left
abbrev pub IsSequential : ℕ → List ContainerCall → Type 0
IsSequential c [] = Unit {0}
IsSequential c (call ∷ older) = IsSequential c older × MayComeNext call (left_by c older)

-- ---- the history that a run tells

-- what a step that puts these contents home adds to the calls before it: a birth, or an unlocking
abbrev pub with_step : ℕ → Step → Option Contents → Contents → List ContainerCall → List ContainerCall
with_step t (Birth c kind k) found put older = Bears t put ∷ older
with_step t (Unlock change) found put older = Changes t change found put ∷ older
with_step t s found put older = older

-- the same of any item, on one cell alone
abbrev pub with_call : ℕ → ℕ → LogItem → Option Contents → List ContainerCall → List ContainerCall
with_call c t (Stepped s number (Put d put)) found older = if d == c then with_step t s found put older else older
with_call c t x found older = older

-- The calls on the cell's objects, of all threads, newest first: each stands where it was born or unlocked in the run,
-- with what the thread's own locking had found.
abbrev pub history_of : ℕ → Run → List ContainerCall
history_of c [] = []
history_of c (x ∷ run) = with_call c x.0 x.1 (contents_locked (own_of x.0 run)) (history_of c run)

-- the same of one thread's own steps
abbrev pub own_history : ℕ → ℕ → List LogItem → List ContainerCall
own_history c t [] = []
own_history c t (x ∷ log) = with_call c t x (contents_locked log) (own_history c t log)

-- what one thread called
abbrev pub calls_of : ℕ → List ContainerCall → List ContainerCall
calls_of t [] = []
calls_of t (call ∷ older) = if caller call == t then call ∷ calls_of t older else calls_of t older

-- the second history is the first with more calls after it
abbrev pub Extends : List ContainerCall → List ContainerCall → Type 0
Extends older newer = (more : List ContainerCall) × (newer ≡ more ++ older)
