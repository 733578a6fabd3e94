use Rattle.std.proofs.Common.{◌≡◌, ◌-◌, ℕ, List, ◌++◌, length, refl}
use Rattle.std.proofs.lemmas.Result.{err_from_is_err_and}
use Rattle.law.specs.declared.world.edition.Edition.{Edition}
use Rattle.law.specs.world.Heap.{Heap, entries_at}
use Rattle.law.specs.world.Holding.{live_count}
use Rattle.brc_core.specs.Readings.{ledgers_of}
use Rattle.brc_trace.specs.Worlds.{over, edition_text, world_line, thread_text, entries_text, object_text, ledger_line}
use Rattle.brc_trace.specs.Worlds.{world_text}
use Rattle.brc_text.proofs.PutLaws.{starts, goes_on, fails}
use Rattle.brc_trace.proofs.WorldLaws.{last_puts}
use Rattle.brc_trace.proofs.world_text.write_world.Goals as goal

-- what stands behind each part of the text
abbrev behind_globals : Heap → List ℕ
behind_globals h = over (object_text h) 0 (length h.cells) ++ ledger_line (ledgers_of h) (live_count h)

abbrev behind_threads : Heap → List ℕ
behind_threads h = entries_text 265 (entries_at h 265) ++ behind_globals h

abbrev behind_head : Heap → List ℕ
behind_head h = over (thread_text h) 1 (length h.rows - 1) ++ behind_threads h

abbrev behind_edition : Heap → List ℕ
behind_edition h = world_line (length h.cells) h.limit ++ behind_head h

world_is : (h : Heap) (edition : Edition) → edition ≡ h.edition
    → world_text h ≡ edition_text edition ++ behind_edition h
unfolding world_text
world_is h edition is = rw is refl

pub returns-in_err-put_edition : goal.returns-in_err-put_edition
returns-in_err-put_edition g c =
    let p = err_from_is_err_and c.from_residual.result c.from_residual.ensures.1 in
    let behind = behind_edition c.args.world.now in
    let short = fails (edition_text c.edition.result) behind
    (starts (g.W.Write.contents c.args.writer.now) (world_text c.args.world.now))
    (world_is c.args.world.now c.edition.result c.edition.ensures) c.in_err-put_edition.ensures.2 in
    rw (p.1, p.2) (c.in_err-put_edition.ensures.0, c.in_err-put_edition.ensures.1 ++ behind, short)

pub returns-in_err-put_head : goal.returns-in_err-put_head
returns-in_err-put_head g c =
    let p = err_from_is_err_and c.from_residual-in_err-put_head.result c.from_residual-in_err-put_head.ensures.1 in
    let after_0 = goes_on _ (edition_text c.edition.result) (behind_edition c.args.world.now)
    (starts (g.W.Write.contents c.args.writer.now) (world_text c.args.world.now))
    (world_is c.args.world.now c.edition.result c.edition.ensures) c.in_ok-put_edition.ensures in
    let short = fails (world_line (length c.args.world.now.cells) c.args.world.now.limit) (behind_head c.args.world.now)
    after_0 refl c.in_err-put_head.ensures.2 in
    rw (p.1, p.2) (c.in_err-put_head.ensures.0, c.in_err-put_head.ensures.1 ++ (behind_head c.args.world.now), short)

pub returns-in_err-put_threads : goal.returns-in_err-put_threads
returns-in_err-put_threads g c =
    let p = err_from_is_err_and c.from_residual-in_err-put_threads.result
    c.from_residual-in_err-put_threads.ensures.1 in
    let after_0 = goes_on _ (edition_text c.edition.result) (behind_edition c.args.world.now)
    (starts (g.W.Write.contents c.args.writer.now) (world_text c.args.world.now))
    (world_is c.args.world.now c.edition.result c.edition.ensures) c.in_ok-put_edition.ensures in
    let after_1 = goes_on _ (world_line (length c.args.world.now.cells) c.args.world.now.limit)
    (behind_head c.args.world.now) after_0 refl c.in_ok-put_head.ensures in
    let short = fails (over (thread_text c.args.world.now) 1 (length c.args.world.now.rows - 1))
    (behind_threads c.args.world.now) after_1 refl c.in_err-put_threads.ensures.2 in
    rw (p.1, p.2) (
      c.in_err-put_threads.ensures.0,
      c.in_err-put_threads.ensures.1
          ++ (behind_threads c.args.world.now),
      short,
    )

pub returns-in_err-put_entries : goal.returns-in_err-put_entries
returns-in_err-put_entries g c =
    let p = err_from_is_err_and c.from_residual-in_err-put_entries.result
    c.from_residual-in_err-put_entries.ensures.1 in
    let after_0 = goes_on _ (edition_text c.edition.result) (behind_edition c.args.world.now)
    (starts (g.W.Write.contents c.args.writer.now) (world_text c.args.world.now))
    (world_is c.args.world.now c.edition.result c.edition.ensures) c.in_ok-put_edition.ensures in
    let after_1 = goes_on _ (world_line (length c.args.world.now.cells) c.args.world.now.limit)
    (behind_head c.args.world.now) after_0 refl c.in_ok-put_head.ensures in
    let after_2 = goes_on _ (over (thread_text c.args.world.now) 1 (length c.args.world.now.rows - 1))
    (behind_threads c.args.world.now) after_1 refl c.in_ok-put_threads.ensures in
    let short = fails (entries_text 265 (entries_at c.args.world.now 265)) (behind_globals c.args.world.now) after_2
    refl c.in_err-put_entries.ensures.2 in
    rw (p.1, p.2) (
      c.in_err-put_entries.ensures.0,
      c.in_err-put_entries.ensures.1
          ++ (behind_globals c.args.world.now),
      short,
    )

pub returns-in_err-put_objects : goal.returns-in_err-put_objects
returns-in_err-put_objects g c =
    let p = err_from_is_err_and c.from_residual-in_err-put_objects.result
    c.from_residual-in_err-put_objects.ensures.1 in
    let after_0 = goes_on _ (edition_text c.edition.result) (behind_edition c.args.world.now)
    (starts (g.W.Write.contents c.args.writer.now) (world_text c.args.world.now))
    (world_is c.args.world.now c.edition.result c.edition.ensures) c.in_ok-put_edition.ensures in
    let after_1 = goes_on _ (world_line (length c.args.world.now.cells) c.args.world.now.limit)
    (behind_head c.args.world.now) after_0 refl c.in_ok-put_head.ensures in
    let after_2 = goes_on _ (over (thread_text c.args.world.now) 1 (length c.args.world.now.rows - 1))
    (behind_threads c.args.world.now) after_1 refl c.in_ok-put_threads.ensures in
    let after_3 = goes_on _ (entries_text 265 (entries_at c.args.world.now 265)) (behind_globals c.args.world.now)
    after_2 refl c.in_ok-put_entries.ensures in
    let short = fails (over (object_text c.args.world.now) 0 (length c.args.world.now.cells))
    (ledger_line (ledgers_of c.args.world.now) (live_count c.args.world.now)) after_3 refl
    c.in_err-put_objects.ensures.2 in
    rw (p.1, p.2) (
      c.in_err-put_objects.ensures.0,
      c.in_err-put_objects.ensures.1
          ++ (ledger_line (ledgers_of c.args.world.now) (live_count c.args.world.now)),
      short,
    )

pub returns : goal.returns
returns g c =
    let after_0 = goes_on _ (edition_text c.edition.result) (behind_edition c.args.world.now)
    (starts (g.W.Write.contents c.args.writer.now) (world_text c.args.world.now))
    (world_is c.args.world.now c.edition.result c.edition.ensures) c.in_ok-put_edition.ensures in
    let after_1 = goes_on _ (world_line (length c.args.world.now.cells) c.args.world.now.limit)
    (behind_head c.args.world.now) after_0 refl c.in_ok-put_head.ensures in
    let after_2 = goes_on _ (over (thread_text c.args.world.now) 1 (length c.args.world.now.rows - 1))
    (behind_threads c.args.world.now) after_1 refl c.in_ok-put_threads.ensures in
    let after_3 = goes_on _ (entries_text 265 (entries_at c.args.world.now 265)) (behind_globals c.args.world.now)
    after_2 refl c.in_ok-put_entries.ensures in
    let after_4 = goes_on _ (over (object_text c.args.world.now) 0 (length c.args.world.now.cells))
    (ledger_line (ledgers_of c.args.world.now) (live_count c.args.world.now)) after_3 refl
    c.in_ok-put_objects.ensures in
    last_puts (g.W.Write.contents c.put_ledger.new.writer) c.put_ledger.result
    (ledger_line (ledgers_of c.args.world.now) (live_count c.args.world.now)) after_4 refl c.put_ledger.ensures
