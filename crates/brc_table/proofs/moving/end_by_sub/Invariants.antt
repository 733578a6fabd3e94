use Rattle.brc_table.proofs.moving.end_by_sub.Given as goal

abbrev pub ghosts-sub_ends : goal.ghosts-sub_ends
ghosts-sub_ends g a = record { cells = a.table.now.cells; step = a.step; cell = a.cell }
