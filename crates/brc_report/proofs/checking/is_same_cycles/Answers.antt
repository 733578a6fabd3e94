use Rattle.std.proofs.lemmas.Slice.Eq.{slice_eq-Decides, bytes_eq-Decides}
use Rattle.brc_report.proofs.checking.is_same_cycles.Goals as goal

pub returns : goal.returns
returns g c =
    slice_eq-Decides bytes_eq-Decides c.args.cycles.now c.args.others.now c.eq.result c.eq.ensures
