use Rattle.brc_table.proofs.moving.claim_by.Given as goal

abbrev pub ghosts-claim_as : goal.ghosts-claim_as
ghosts-claim_as g a = record { cells = a.table.now.cells; cell = a.cell; place = 0 }
