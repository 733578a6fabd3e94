use Rattle.brc_table.proofs.moving.lock_by.Given as goal

abbrev pub ghosts-lock_as : goal.ghosts-lock_as
ghosts-lock_as g a = record { cells = a.table.now.cells; cell = a.cell; place = a.place }
