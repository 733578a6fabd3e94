use Rattle.std.proofs.Common.{rules}
use Rattle.brc_client.specs.Told.{ByCell, ByLook}
use Rattle.brc_client.proofs.told.int_told.Goals as goal

pub returns-then-cell-ge-GLOBALS-clause-told : goal.returns-then-cell-ge-GLOBALS-clause-told
returns-then-cell-ge-GLOBALS-clause-told g c = ByLook c.cell-cell.result (search rules) (search rules) (search rules)

pub returns-clause-told : goal.returns-clause-told
returns-clause-told g c = ByCell c.cell-cell.result (search rules) (search rules) (search rules) (search rules)
