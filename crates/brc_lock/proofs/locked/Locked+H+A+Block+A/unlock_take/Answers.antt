use Rattle.brc_count.specs.Locking.{contents_found}
use Rattle.brc_lock.proofs.Edited.{without_found, key_left_found}
use Rattle.brc_lock.proofs.locked.«Locked+H+A+Block+A».unlock_take.Goals as goal

pub end_take-requires-clause-entries : goal.end_take-requires-clause-entries
end_take-requires-clause-entries g c =
    without_found c.args.self.block.1 c.payload_mut.result.now c.take_at-entry.new.payload
    (contents_found c.args.self.frame.now) c.args.index
    c.requires.holds.found c.payload_mut.ensures.value c.take_at-entry.ensures.left

pub end_take-requires-clause-keys : goal.end_take-requires-clause-keys
end_take-requires-clause-keys g c =
    key_left_found c.args.self.block.1 c.payload_mut.result.now c.take_at-entry.new.payload
    (contents_found c.args.self.frame.now) c.args.index
    c.requires.holds.found c.payload_mut.ensures.value c.take_at-entry.ensures.left
