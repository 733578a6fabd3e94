use Rattle.brc_table.proofs.moving.end_by_add.Given as goal

abbrev pub ghosts-add_ends : goal.ghosts-add_ends
ghosts-add_ends g a = record { cells = a.table.now.cells; step = a.step; cell = a.cell; more = a.more }
