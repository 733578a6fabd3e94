use Rattle.brc_table.proofs.moving.end_by_or.Given as goal

abbrev pub ghosts-or_ends : goal.ghosts-or_ends
ghosts-or_ends g a = record { cells = a.table.now.cells; step = a.step; cell = a.cell }
