use Rattle.brc_model.proofs.exchanges.fits.Goals as goal

pub returns-in-Swap : goal.returns-in-Swap
returns-in-Swap c = rw c.in-Swap.is c.swap_fits.ensures
