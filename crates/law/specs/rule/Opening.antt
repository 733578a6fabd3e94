-- What words and slots a table must open with: they show the opening world, with a block for each immortal.
use Rattle.std.specs.Prelude.{◌≡◌, ℕ, ◌<◌, ◌≤◌, true, List, [], map, length, slice_index, Option, None}
use mathlib.Core.Option.{some}
use lib.ListN.{get_elem?}
use Rattle.brc_words.specs.declared.limits.TheConstants.{FIRST_MORTAL}
use Rattle.law.specs.known.Start.{start_of}
use Rattle.law.specs.world.Heap.{}
use Rattle.law.specs.declared.known.word.Word.{Word}
use Rattle.law.specs.known.Items.{IsWord, WordShows}
use Rattle.law.specs.declared.rule.contents.Contents.{Contents}
use Rattle.law.specs.declared.rule.view.View.{View}
use Rattle.law.specs.rule.Layout.{spot, extent}
use Rattle.law.specs.rule.Logs.{opening_contents}
use Rattle.law.specs.rule.Homes.{LiesThere}

-- the root's view as the heap opens
abbrev pub first_view : View
first_view = record { active = true; thread = 0; log = []; gathered = [] }

pub record Opens {B : Type 0} (shows : B → ℕ × Contents) (n limit : ℕ) (words : List ℕ)
    (slots : List (Option B)) : Type 0 where
  pub wide : length words ≡ extent n
  pub deep : length slots ≡ n
  pub each_word : (w : Word) → IsWord n w → WordShows (start_of n limit) w (slice_index words (spot n w))
  pub immortals : (c : ℕ) → c < FIRST_MORTAL → LiesThere shows (map some slots) c (opening_contents c)
  pub mortals : (c : ℕ) → FIRST_MORTAL ≤ c → c < n → get_elem? (map some slots) c ≡ some (some None)
