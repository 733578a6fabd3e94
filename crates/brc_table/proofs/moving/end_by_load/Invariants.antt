use Rattle.brc_table.proofs.moving.end_by_load.Given as goal

abbrev pub ghosts-load_ends : goal.ghosts-load_ends
ghosts-load_ends g a = record { cells = a.table.now.cells; step = a.step; cell = a.cell }
