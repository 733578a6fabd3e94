use Rattle.std.proofs.Common.{sym, ◌∙◌, ap}
use Rattle.brc_words.specs.declared.entry.Entry.{Entry}
use Rattle.brc_count.specs.Locking.{contents_found}
use Rattle.brc_lock.proofs.Edited.{put_found, key_put_found, some_same}
use Rattle.brc_lock.proofs.locked.«Locked+H+A+Block+A».unlock_put.Goals as goal

pub end_put-requires-clause-entries : goal.end_put-requires-clause-entries
end_put-requires-clause-entries g c = λ k at.
    put_found c.args.self.block.1 c.payload_mut.result.now c.put_last.new.payload (contents_found c.args.self.frame.now)
    c.args.key c.bare-entry.result k
    c.requires.holds.found c.payload_mut.ensures.value c.requires.fits c.put_last.ensures
    (ap (λ (e : Entry). e.cell) c.bare-entry.ensures ∙ some_same c.cell.result k (sym c.cell.ensures.cell ∙ at))

pub end_put-requires-clause-keys : goal.end_put-requires-clause-keys
end_put-requires-clause-keys g c =
    key_put_found c.args.self.block.1 c.payload_mut.result.now c.put_last.new.payload
    (contents_found c.args.self.frame.now) c.args.key c.bare-entry.result
    c.requires.holds.found c.payload_mut.ensures.value c.requires.fits c.put_last.ensures
